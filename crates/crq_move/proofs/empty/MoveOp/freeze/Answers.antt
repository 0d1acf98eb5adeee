use Rattle.std.proofs.Common.{subst}
use Rattle.crq_base.specs.declared.kinds.StepKind.TheVariants.{FreezeNode}
use Rattle.crq_base.specs.Words.{link_word}
use Rattle.crq_rule.specs.Places.{index, link}
use Rattle.crq_rule.specs.MoveKinds.{frozen_link, freezes_row}
use Rattle.crq_move.specs.Steps.{WordLeft}
use Rattle.crq_move.proofs.RowLaws.{may_freeze_row, row_won, row_lost}
use Rattle.crq_move.proofs.empty.MoveOp.freeze.Goals as goal

pub freeze_row_step-requires-clause-may : goal.freeze_row_step-requires-clause-may
freeze_row_step-requires-clause-may c = let o = c.requires.op in may_freeze_row o.0 c.args.table.now o.1 c.args.self.now c.args.pass.now o.2 c.args.head c.args.link c.requires.state

pub returns-then-freeze_row_step : goal.returns-then-freeze_row_step
returns-then-freeze_row_step c n x at = let table = c.args.table.now in let old = c.args.pass.now in let l = c.args.head in let m = c.args.link in let s = c.freeze_row_step in
    let left = subst (WordLeft FreezeNode table old s.new.pass (index table.start.layout (link l.row)) (link_word m) (link_word (frozen_link m)) (freezes_row l.row m) old.debts) c.if-freeze_row_step.true s.ensures in
    row_won n table x c.args.self.now old at l m c.requires.state s.new.pass c.requires.room left

pub returns-else-freeze_row_step : goal.returns-else-freeze_row_step
returns-else-freeze_row_step c n x at = let table = c.args.table.now in let old = c.args.pass.now in let l = c.args.head in let m = c.args.link in let s = c.freeze_row_step in
    let left = subst (WordLeft FreezeNode table old s.new.pass (index table.start.layout (link l.row)) (link_word m) (link_word (frozen_link m)) (freezes_row l.row m) old.debts) c.if-freeze_row_step.false s.ensures in
    row_lost n table x c.args.self.now old at l m c.requires.state s.new.pass c.requires.room left
