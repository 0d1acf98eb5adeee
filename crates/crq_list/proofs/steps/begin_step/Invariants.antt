use Rattle.crq_base.specs.declared.kinds.StepKind.TheVariants.{Begin}
use Rattle.crq_rule.specs.ListKinds.{begins}
use Rattle.crq_rule.specs.Moves.{FoundControl}
use Rattle.crq_list.proofs.steps.begin_step.Given as goal

abbrev pub ghosts-load_turning : goal.ghosts-load_turning
ghosts-load_turning a = record { kind = Begin; turns = FoundControl begins }
