use Rattle.crq_base.specs.declared.kinds.StepKind.TheVariants.{Settle}
use Rattle.crq_base.specs.Words.{current_word}
use Rattle.crq_rule.specs.CurrentKinds.{settles_back}
use Rattle.crq_rule.specs.Moves.{wins, quiet}
use Rattle.crq_current.proofs.steps.settle_step.Given as goal

abbrev pub ghosts-exchange_seated : goal.ghosts-exchange_seated
ghosts-exchange_seated a = record { kind = Settle; change = wins (current_word a._said.now.1) (settles_back a._said.now.0); tells = quiet }
