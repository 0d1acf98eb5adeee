use Rattle.crq_base.specs.declared.kinds.StepKind.TheVariants.{Enter}
use Rattle.crq_rule.specs.Kinds.{enters}
use Rattle.crq_rule.specs.Moves.{TellsLow}
use Rattle.crq_rows.proofs.steps.enter_step.Given as goal

abbrev pub ghosts-store_as : goal.ghosts-store_as
ghosts-store_as a = record { kind = Enter; change = λ _. enters a._said.now; tells = λ _. TellsLow a._said.now 0 }
