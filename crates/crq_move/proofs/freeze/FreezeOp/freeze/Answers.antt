use Rattle.std.proofs.Common.{sym, subst}
use Rattle.crq_base.specs.declared.kinds.StepKind.TheVariants.{FreezeHead}
use Rattle.crq_rule.specs.MoveKinds.{frozen_link}
use Rattle.crq_list.specs.declared.parts.Progress.{Progress}
use Rattle.crq_move.specs.declared.parts.PartEnd.{PartEnd}
use Rattle.crq_move.specs.declared.freeze.FreezeOp.{FreezeOp}
use Rattle.crq_move.specs.Steps.{HeadLeft}
use Rattle.crq_move.specs.Freezing.{FreezeStepped}
use Rattle.crq_move.proofs.FreezeLaws.{may_freeze, freeze_won, freeze_lost}
use Rattle.crq_move.proofs.freeze.FreezeOp.freeze.Goals as goal

pub freeze_head_step-requires-clause-may : goal.freeze_head_step-requires-clause-may
freeze_head_step-requires-clause-may c = let o = c.requires.op in may_freeze o.0 c.args.table.now o.1 c.args.self.now c.args.pass.now c.args.pass.now c.old_head-head.result c.requires.of o.2 c.args.link c.requires.state c.old_head-head.ensures

pub returns-then-freeze_head_step : goal.returns-then-freeze_head_step
returns-then-freeze_head_step c n x at = let op = c.args.self.now in let s = c.freeze_head_step in
    let left = subst (HeadLeft FreezeHead c.args.table.now c.args.pass.now s.new.pass c.old_head-head.result c.args.link (frozen_link c.args.link)) c.if-freeze_head_step.true s.ensures in
    let told = freeze_won n c.args.table.now x op c.args.pass.now s.new.pass c.old_head-head.result c.requires.of at c.args.link c.requires.state c.old_head-head.ensures left in
    subst (λ (z : FreezeOp × Progress PartEnd). FreezeStepped n c.args.table.now x op z.0 c.args.pass.now s.new.pass z.1) (λ i. (sym c.pass_head.ensures.passed i, sym c.pass_head.ensures.last i)) told

pub returns : goal.returns
returns c n x at = let op = c.args.self.now in let s = c.freeze_head_step in
    let left = subst (HeadLeft FreezeHead c.args.table.now c.args.pass.now s.new.pass c.old_head-head.result c.args.link (frozen_link c.args.link)) c.if-freeze_head_step.false s.ensures in
    freeze_lost n c.args.table.now x op c.args.pass.now s.new.pass c.old_head-head.result c.requires.of at c.args.link c.requires.state c.old_head-head.ensures left
