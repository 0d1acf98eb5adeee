use Rattle.std.proofs.Common.{cond, subst, None}
use Rattle.crq_base.specs.declared.kinds.StepKind.TheVariants.{Discard}
use Rattle.crq_base.specs.Words.{link_word}
use Rattle.crq_rule.specs.Places.{index, link}
use Rattle.crq_rule.specs.CopyKinds.{dead_link, discards, front_name}
use Rattle.crq_move.specs.Names.{names_lost}
use Rattle.crq_move.specs.Steps.{WordLeft}
use Rattle.crq_move.proofs.RowLaws.{may_discard, discard_won, discard_lost}
use Rattle.crq_move.proofs.empty.MoveOp.discard.Goals as goal

pub discard_step-requires-clause-may : goal.discard_step-requires-clause-may
discard_step-requires-clause-may c = let o = c.requires.op in may_discard o.0 c.args.table.now o.1 c.args.self.now c.args.pass.now o.2 c.requires.of c.args.head c.args.link c.args.event
    c.requires.state c.requires.room c.old_head-at.result c.old_head-at.ensures

pub returns-then-discard_step : goal.returns-then-discard_step
returns-then-discard_step c n x at = let table = c.args.table.now in let old = c.args.pass.now in let l = c.args.head in let m = c.args.link in let e = c.args.event in let q = c.old_head-at.result in
    let s = c.discard_step in let name = front_name q l.row e m in
    let left = subst (λ won. WordLeft Discard table old s.new.pass (index table.start.layout (link l.row)) (link_word m) (link_word (dead_link m)) (discards l.row m name None)
    (cond won (names_lost name old.debts.copy old.debts) old.debts) won) c.if-discard_step.true s.ensures in
    discard_won n table x c.args.self.now old at c.requires.of l m e c.requires.state c.requires.room q c.old_head-at.ensures s.new.pass left

pub returns-else-discard_step : goal.returns-else-discard_step
returns-else-discard_step c n x at = let table = c.args.table.now in let old = c.args.pass.now in let l = c.args.head in let m = c.args.link in let e = c.args.event in let q = c.old_head-at.result in
    let s = c.discard_step in let name = front_name q l.row e m in
    let left = subst (λ won. WordLeft Discard table old s.new.pass (index table.start.layout (link l.row)) (link_word m) (link_word (dead_link m)) (discards l.row m name None)
    (cond won (names_lost name old.debts.copy old.debts) old.debts) won) c.if-discard_step.false s.ensures in
    discard_lost n table x c.args.self.now old at c.requires.of l m e c.requires.state c.requires.room q c.old_head-at.ensures s.new.pass left
