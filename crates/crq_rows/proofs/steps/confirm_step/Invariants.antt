use Rattle.crq_base.specs.declared.kinds.StepKind.TheVariants.{Confirm}
use Rattle.crq_rule.specs.Kinds.{confirms}
use Rattle.crq_rule.specs.Moves.{TellsEpoch}
use Rattle.crq_rows.proofs.steps.confirm_step.Given as goal

abbrev pub ghosts-load_as : goal.ghosts-load_as
ghosts-load_as a = record { kind = Confirm; change = confirms; tells = TellsEpoch }
