use Rattle.std.proofs.Common.{◌+◌, ◌^◌, ◌<◌, sym, subst}
use Rattle.crq_base.specs.declared.words.Control.{Control}
use Rattle.crq_base.specs.declared.kinds.StepKind.TheVariants.{Prepare}
use Rattle.crq_rule.specs.MoveKinds.{prepared_link}
use Rattle.crq_list.specs.declared.parts.Progress.{Progress}
use Rattle.crq_move.specs.declared.parts.PartEnd.{PartEnd}
use Rattle.crq_move.specs.declared.prepare.PrepareOp.{PrepareOp}
use Rattle.crq_move.specs.Steps.{HeadLeft}
use Rattle.crq_move.specs.Preparing.{PrepareStepped}
use Rattle.crq_rows.specs.Passes.{caller}
use Rattle.crq_move.proofs.HelperLaws.{help_room}
use Rattle.crq_move.proofs.PrepareLaws.{may_open, open_won, open_lost}
use Rattle.crq_move.proofs.prepare.PrepareOp.open.Goals as goal

pub prepare_step-requires-clause-may : goal.prepare_step-requires-clause-may
prepare_step-requires-clause-may c = let o = c.requires.op in may_open o.0 c.args.table.now o.1 c.args.self.now c.args.pass.now c.args.pass.now c.new_head-head.result c.requires.of o.2 c.args.link c.requires.state c.new_head-head.ensures

pub prepare_step-requires-clause-room : goal.prepare_step-requires-clause-room
prepare_step-requires-clause-room c = let o = c.requires.op in subst (λ (z : Control). z.generation + 1 < 2 ^ 30) (sym o.2.control) (help_room o.1 (caller c.args.table.now c.args.pass.now) c.requires.of.lawful o.2.helper)

pub returns-then-prepare_step : goal.returns-then-prepare_step
returns-then-prepare_step c n x at = let op = c.args.self.now in let s = c.prepare_step in
    let left = subst (HeadLeft Prepare c.args.table.now c.args.pass.now s.new.pass c.new_head-head.result c.args.link (prepared_link op.control)) c.if-prepare_step.true s.ensures in
    let told = open_won n c.args.table.now x op c.args.pass.now s.new.pass c.new_head-head.result c.requires.of at c.args.link c.requires.state c.new_head-head.ensures left in
    subst (λ (z : PrepareOp × Progress PartEnd). PrepareStepped n c.args.table.now x op z.0 c.args.pass.now s.new.pass z.1) (λ i. (sym c.pass_head.ensures.passed i, sym c.pass_head.ensures.last i)) told

pub returns : goal.returns
returns c n x at = let op = c.args.self.now in let s = c.prepare_step in
    let left = subst (HeadLeft Prepare c.args.table.now c.args.pass.now s.new.pass c.new_head-head.result c.args.link (prepared_link op.control)) c.if-prepare_step.false s.ensures in
    open_lost n c.args.table.now x op c.args.pass.now s.new.pass c.new_head-head.result c.requires.of at c.args.link c.requires.state c.new_head-head.ensures left
