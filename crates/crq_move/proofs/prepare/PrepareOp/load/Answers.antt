use Rattle.std.proofs.Common.{sym, subst}
use Rattle.crq_list.specs.declared.parts.Progress.{Progress}
use Rattle.crq_move.specs.declared.parts.PartEnd.{PartEnd}
use Rattle.crq_move.specs.declared.prepare.PrepareOp.{PrepareOp}
use Rattle.crq_move.specs.Preparing.{PrepareStepped}
use Rattle.crq_move.proofs.PrepareLaws.{load_passed, load_open, next_low}
use Rattle.crq_move.proofs.prepare.PrepareOp.load.Goals as goal

pub head_step-link-requires-clause-head : goal.head_step-link-requires-clause-head
head_step-link-requires-clause-head c = let o = c.requires.op in next_low o.0 c.args.table.now o.1 c.args.self.now c.args.pass.now c.args.pass.now c.new_head-head.result c.requires.of o.2 c.new_head-head.ensures

pub returns-then-link-self : goal.returns-then-link-self
returns-then-link-self c n x at = let op = c.args.self.now in let s = c.head_step-link in let told = load_passed n c.args.table.now x op c.args.pass.now s.new.pass c.new_head-head.result c.requires.of at s.result c.requires.state c.new_head-head.ensures s.ensures c.if-link-self.true in
    subst (λ (z : PrepareOp × Progress PartEnd). PrepareStepped n c.args.table.now x op z.0 c.args.pass.now s.new.pass z.1) (λ i. (sym c.pass_head.ensures.passed i, sym c.pass_head.ensures.last i)) told

pub returns : goal.returns
returns c n x at = let s = c.head_step-link in load_open n c.args.table.now x c.args.self.now c.args.pass.now s.new.pass c.new_head-head.result c.requires.of at s.result c.requires.state c.new_head-head.ensures s.ensures c.if-link-self.false
