use Rattle.crq_base.specs.declared.kinds.StepKind.TheVariants.{EpochLoad}
use Rattle.crq_rule.specs.Moves.{BeginsRecovery}
use Rattle.crq_rows.proofs.steps.recovery_step.Given as goal

abbrev pub ghosts-load_turning : goal.ghosts-load_turning
ghosts-load_turning a = record { kind = EpochLoad; turns = BeginsRecovery }
