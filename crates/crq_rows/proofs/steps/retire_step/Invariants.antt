use Rattle.crq_base.specs.declared.kinds.StepKind.TheVariants.{Retire}
use Rattle.crq_rule.specs.Kinds.{retires}
use Rattle.crq_rule.specs.Moves.{TellsLow}
use Rattle.crq_rows.proofs.steps.retire_step.Given as goal

abbrev pub ghosts-store_as : goal.ghosts-store_as
ghosts-store_as a = record { kind = Retire; change = λ _. retires; tells = λ _. TellsLow a._said.now 0 }
