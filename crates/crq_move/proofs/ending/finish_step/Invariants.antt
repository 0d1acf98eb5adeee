use Rattle.crq_base.specs.declared.kinds.StepKind.TheVariants.{Finish}
use Rattle.crq_base.specs.Words.{control_word}
use Rattle.crq_rule.specs.Moves.{wins, quiet}
use Rattle.crq_move.proofs.ending.finish_step.Given as goal

abbrev pub ghosts-exchange_as : goal.ghosts-exchange_as
ghosts-exchange_as a = record { kind = Finish; change = wins (control_word a._said.now) (λ q. q); tells = quiet }
