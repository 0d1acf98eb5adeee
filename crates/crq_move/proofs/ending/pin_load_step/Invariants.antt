use Rattle.crq_base.specs.declared.kinds.StepKind.TheVariants.{PinLoad}
use Rattle.crq_rule.specs.Moves.{FoundPin}
use Rattle.crq_move.proofs.ending.pin_load_step.Given as goal

abbrev pub ghosts-load_turning : goal.ghosts-load_turning
ghosts-load_turning a = record { kind = PinLoad; turns = FoundPin }
