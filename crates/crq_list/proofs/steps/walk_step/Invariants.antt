use Rattle.crq_base.specs.declared.kinds.StepKind.TheVariants.{Walk}
use Rattle.crq_rule.specs.Moves.{Walked}
use Rattle.crq_list.specs.Spots.{cell, aim_of}
use Rattle.crq_list.proofs.steps.walk_step.Given as goal

abbrev pub ghosts-load_turning : goal.ghosts-load_turning
ghosts-load_turning a = record { kind = Walk; turns = Walked (cell a._said.now.0) (aim_of a._said.now.1) }
