use Rattle.crq_base.specs.declared.kinds.StepKind.TheVariants.{Walk}
use Rattle.crq_rule.specs.Ranks.{at_row}
use Rattle.crq_rule.specs.ListKinds.{no_take}
use Rattle.crq_rule.specs.Moves.{Walked}
use Rattle.crq_move.proofs.steps.row_step.Given as goal

abbrev pub ghosts-load_turning : goal.ghosts-load_turning
ghosts-load_turning a = record { kind = Walk; turns = Walked (at_row a._said.now) no_take }
