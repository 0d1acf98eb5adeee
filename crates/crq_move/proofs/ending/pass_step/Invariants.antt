use Rattle.crq_base.specs.declared.kinds.StepKind.TheVariants.{Pass}
use Rattle.crq_base.specs.Words.{current_word}
use Rattle.crq_rule.specs.Moves.{wins, quiet}
use Rattle.crq_move.proofs.ending.pass_step.Given as goal

abbrev pub ghosts-exchange_as : goal.ghosts-exchange_as
ghosts-exchange_as a = record { kind = Pass; change = wins (current_word a._said.now) (λ q. q); tells = quiet }
