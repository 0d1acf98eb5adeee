use Rattle.crq_base.specs.declared.kinds.StepKind.TheVariants.{FreezeNode}
use Rattle.crq_base.specs.Words.{link_word}
use Rattle.crq_rule.specs.MoveKinds.{freezes_row}
use Rattle.crq_rule.specs.Moves.{wins, quiet}
use Rattle.crq_move.proofs.steps.freeze_row_step.Given as goal

abbrev pub ghosts-exchange_as : goal.ghosts-exchange_as
ghosts-exchange_as a = record { kind = FreezeNode; change = wins (link_word a._said.now.1) (freezes_row a._said.now.0 a._said.now.1); tells = quiet }
