use Rattle.crq_base.specs.declared.kinds.StepKind.TheVariants.{Pin}
use Rattle.crq_base.specs.Words.{pin_word}
use Rattle.crq_rule.specs.Moves.{wins, quiet}
use Rattle.crq_move.proofs.ending.pin_step.Given as goal

abbrev pub ghosts-exchange_as : goal.ghosts-exchange_as
ghosts-exchange_as a = record { kind = Pin; change = wins (pin_word a._said.now.2) (λ q. q); tells = quiet }
