use Rattle.crq_base.specs.declared.kinds.StepKind.TheVariants.{EpochLoad}
use Rattle.crq_rule.specs.Kinds.{loads_epoch}
use Rattle.crq_rule.specs.Moves.{TellsEpoch}
use Rattle.crq_rows.proofs.steps.epoch_step.Given as goal

abbrev pub ghosts-load_as : goal.ghosts-load_as
ghosts-load_as a = record { kind = EpochLoad; change = loads_epoch; tells = TellsEpoch }
