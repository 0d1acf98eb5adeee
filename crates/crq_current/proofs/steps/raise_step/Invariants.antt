use Rattle.crq_base.specs.declared.kinds.StepKind.TheVariants.{Raise}
use Rattle.crq_base.specs.Words.{current_word}
use Rattle.crq_rule.specs.CurrentKinds.{raises}
use Rattle.crq_rule.specs.Moves.{wins, quiet}
use Rattle.crq_current.proofs.steps.raise_step.Given as goal

abbrev pub ghosts-exchange_as : goal.ghosts-exchange_as
ghosts-exchange_as a = record { kind = Raise; change = wins (current_word a._said.now) raises; tells = quiet }
