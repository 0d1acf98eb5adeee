use Rattle.crq_base.specs.declared.kinds.StepKind.TheVariants.{ControlLoad}
use Rattle.crq_rule.specs.ListKinds.{loads_control}
use Rattle.crq_rule.specs.Moves.{FoundControl}
use Rattle.crq_list.proofs.steps.control_step.Given as goal

abbrev pub ghosts-load_turning : goal.ghosts-load_turning
ghosts-load_turning a = record { kind = ControlLoad; turns = FoundControl loads_control }
