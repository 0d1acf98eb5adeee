use Rattle.std.proofs.Common.{sym, subst}
use Rattle.crq_list.specs.declared.parts.Progress.{Progress}
use Rattle.crq_move.specs.declared.parts.PartEnd.{PartEnd}
use Rattle.crq_move.specs.declared.freeze.FreezeOp.{FreezeOp}
use Rattle.crq_move.specs.Freezing.{FreezeStepped}
use Rattle.crq_move.proofs.FreezeLaws.{load_passed, load_later, load_freeze, next_low}
use Rattle.crq_move.proofs.freeze.FreezeOp.load.Goals as goal

pub head_step-link-requires-clause-head : goal.head_step-link-requires-clause-head
head_step-link-requires-clause-head c = let o = c.requires.op in next_low o.0 c.args.table.now o.1 c.args.self.now c.args.pass.now c.args.pass.now c.old_head-head.result c.requires.of o.2 c.old_head-head.ensures

pub returns-in-Mov : goal.returns-in-Mov
returns-in-Mov c n x at = let op = c.args.self.now in let s = c.head_step-link in let told = load_passed n c.args.table.now x op c.args.pass.now s.new.pass c.old_head-head.result c.requires.of at s.result c.requires.state c.old_head-head.ensures s.ensures c.in-Mov.is in
    subst (λ (z : FreezeOp × Progress PartEnd). FreezeStepped n c.args.table.now x op z.0 c.args.pass.now s.new.pass z.1) (λ i. (sym c.pass_head.ensures.passed i, sym c.pass_head.ensures.last i)) told

pub returns-in_default : goal.returns-in_default
returns-in_default c n x at = let s = c.head_step-link in load_freeze n c.args.table.now x c.args.self.now c.args.pass.now s.new.pass c.old_head-head.result c.requires.of at s.result c.requires.state c.old_head-head.ensures s.ensures c.if-link-self.false c.in_default.not-Mov

pub returns-then-link-self : goal.returns-then-link-self
returns-then-link-self c n x at = let s = c.head_step-link in load_later n c.args.table.now x c.args.self.now c.args.pass.now s.new.pass c.old_head-head.result c.requires.of at s.result c.requires.state c.old_head-head.ensures s.ensures c.if-link-self.true
