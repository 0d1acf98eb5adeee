use Rattle.crq_base.specs.declared.kinds.StepKind.TheVariants.{CurrentLoad}
use Rattle.crq_rule.specs.Moves.{FoundForPin}
use Rattle.crq_move.proofs.ending.for_pin_step.Given as goal

abbrev pub ghosts-load_turning : goal.ghosts-load_turning
ghosts-load_turning a = record { kind = CurrentLoad; turns = FoundForPin }
