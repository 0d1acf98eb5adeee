use Rattle.crq_base.specs.declared.kinds.StepKind.TheVariants.{Leave}
use Rattle.crq_rule.specs.Kinds.{leaves}
use Rattle.crq_rule.specs.Moves.{quiet}
use Rattle.crq_rows.proofs.steps.leave_step.Given as goal

abbrev pub ghosts-store_as : goal.ghosts-store_as
ghosts-store_as a = record { kind = Leave; change = λ _. leaves; tells = quiet }
