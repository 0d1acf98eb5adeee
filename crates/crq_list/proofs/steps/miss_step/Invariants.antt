use Rattle.crq_base.specs.declared.kinds.StepKind.TheVariants.{Miss}
use Rattle.crq_rule.specs.ListKinds.{misses}
use Rattle.crq_rule.specs.Moves.{FoundControl}
use Rattle.crq_list.proofs.steps.miss_step.Given as goal

abbrev pub ghosts-load_turning : goal.ghosts-load_turning
ghosts-load_turning a = record { kind = Miss; turns = FoundControl (misses a._said.now) }
