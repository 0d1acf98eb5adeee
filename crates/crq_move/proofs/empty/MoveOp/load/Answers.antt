use Rattle.std.proofs.Common.{sym, ◌∙◌, subst}
use Rattle.crq_list.specs.declared.parts.Progress.{Progress}
use Rattle.crq_move.specs.declared.parts.PartEnd.{PartEnd}
use Rattle.crq_move.specs.declared.empty.MoveOp.{MoveOp}
use Rattle.crq_move.specs.Emptying.{EmptyStepped}
use Rattle.crq_move.proofs.LoadLaws.{next_low, load_later, load_over, load_passed, load_first}
use Rattle.crq_move.proofs.NameLaws.{no_name, some_name}
use Rattle.crq_move.proofs.empty.MoveOp.load.Goals as goal

pub head_step-link-requires-clause-head : goal.head_step-link-requires-clause-head
head_step-link-requires-clause-head c = let o = c.requires.op in next_low o.0 c.args.table.now o.1 c.args.self.now c.args.pass.now c.old_head-head.result c.requires.of o.2 c.old_head-head.ensures

pub returns-then-link-self : goal.returns-then-link-self
returns-then-link-self c n x at = let s = c.head_step-link in load_later n c.args.table.now x c.args.self.now c.args.pass.now c.old_head-head.result c.requires.of at c.old_head-head.ensures s.new.pass s.result c.requires.state s.ensures c.if-link-self.true

pub returns-then-is_some : goal.returns-then-is_some
returns-then-is_some c n x at = let s = c.head_step-link in
    let two = some_name c.forget_front.new.debts.second_cut (sym c.is_some.ensures ∙ c.if-is_some.true) in
    load_over n c.args.table.now x c.args.self.now c.args.pass.now c.old_head-head.result c.requires.of at c.old_head-head.ensures s.new.pass c.forget_front.new.debts s.result c.requires.state s.ensures c.if-link-self.false c.forget_front.ensures two.0 two.1

pub returns-then-link-eq0 : goal.returns-then-link-eq0
returns-then-link-eq0 c n x at = let s = c.head_step-link in let op = c.args.self.now in
    let told = load_passed n c.args.table.now x op c.args.pass.now c.old_head-head.result c.requires.of at c.old_head-head.ensures s.new.pass c.forget_front.new.debts s.result c.requires.state s.ensures c.if-link-self.false c.forget_front.ensures c.if-link-eq0.true (no_name c.forget_front.new.debts.second_cut (sym c.is_some.ensures ∙ c.if-is_some.false)) in
    subst (λ (z : MoveOp × Progress PartEnd). EmptyStepped n c.args.table.now x op z.0 c.args.pass.now (record s.new.pass { debts = c.forget_front.new.debts }) z.1) (λ i. (sym c.pass_head.ensures.passed i, sym c.pass_head.ensures.last i)) told

pub returns : goal.returns
returns c n x at = let s = c.head_step-link in
    load_first n c.args.table.now x c.args.self.now c.args.pass.now c.old_head-head.result c.requires.of at c.old_head-head.ensures s.new.pass c.forget_front.new.debts s.result c.requires.state s.ensures c.if-link-self.false c.forget_front.ensures c.if-link-eq0.false (no_name c.forget_front.new.debts.second_cut (sym c.is_some.ensures ∙ c.if-is_some.false))
