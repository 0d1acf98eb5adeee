use Rattle.std.proofs.Common.{subst}
use Rattle.crq_base.specs.declared.kinds.StepKind.TheVariants.{Pop}
use Rattle.crq_base.specs.Words.{link_word}
use Rattle.crq_rule.specs.Places.{index, head}
use Rattle.crq_rule.specs.ListKinds.{cuts}
use Rattle.crq_move.specs.Steps.{WordLeft}
use Rattle.crq_move.proofs.LeavingLaws.{may_pop, pop_won, pop_lost}
use Rattle.crq_move.proofs.empty.MoveOp.pop.Goals as goal

pub pop_step-requires-clause-may : goal.pop_step-requires-clause-may
pop_step-requires-clause-may c = let o = c.requires.op in may_pop o.0 c.args.table.now o.1 c.args.self.now c.args.pass.now o.2 c.requires.of c.args.head c.args.last c.requires.state c.old_head-at.result c.old_head-at.ensures

pub returns-then-pop_step : goal.returns-then-pop_step
returns-then-pop_step c n x at = let table = c.args.table.now in let old = c.args.pass.now in let l = c.args.head in let last = c.args.last in let q = c.old_head-at.result in let s = c.pop_step in
    let left = subst (WordLeft Pop table old s.new.pass (index table.start.layout (head q)) (link_word l) (link_word (record l { row = last.row })) (cuts l.row) old.debts) c.if-pop_step.true s.ensures in
    pop_won n table x c.args.self.now old at c.requires.of l last c.requires.state q c.old_head-at.ensures s.new.pass c.forget_row.new.debts c.requires.room left c.forget_row.ensures

pub returns-else-pop_step : goal.returns-else-pop_step
returns-else-pop_step c n x at = let table = c.args.table.now in let old = c.args.pass.now in let l = c.args.head in let last = c.args.last in let q = c.old_head-at.result in let s = c.pop_step in
    let left = subst (WordLeft Pop table old s.new.pass (index table.start.layout (head q)) (link_word l) (link_word (record l { row = last.row })) (cuts l.row) old.debts) c.if-pop_step.false s.ensures in
    pop_lost n table x c.args.self.now old at c.requires.of l last c.requires.state q c.old_head-at.ensures s.new.pass c.requires.room left
