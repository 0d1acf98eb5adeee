use Rattle.std.proofs.Common.{sym, subst}
use Rattle.crq_list.specs.declared.seek.SeekState.TheVariants.{Cutting}
use Rattle.crq_list.specs.Cutting.{CutStepped, CutStretch}
use Rattle.crq_list.specs.Stretches.{ends}
use Rattle.crq_list.proofs.SeekSteps.{step_as}
use Rattle.crq_list.proofs.Stretching.{cut_told, cut_stretch}
use Rattle.crq_list.proofs.cut.CutOp.run.Goals as goal

pub returns : goal.returns
returns c n x at = let op = c.args.self.now in let told = cut_stretch n c.args.table.now x op op.state c.run_seek.new.seek c.args.pass.now c.run_seek.new.pass c.run_seek.result c.if-self.false (c.run_seek.ensures n x at.0) in
    subst (CutStretch n c.args.table.now x op (record op { state = c.run_seek.new.seek }) c.args.pass.now c.run_seek.new.pass) (sym c.progress_of-2.ensures) told

pub returns-then-self : goal.returns-then-self
returns-then-self c n x at = ends _ _ _ _ _ (c.step_swept.ensures n x at)

pub returns-in-Cutting : goal.returns-in-Cutting
returns-in-Cutting c n x at = let op = c.args.self.now in let b = c.in-Cutting in let to = c.cut_row-state.result in
    let step = step_as c.args.table.now op.sought c.args.pass.now c.cut_row-state.new.pass op.state (Cutting b.before b.last) to.0 to.1 b.is c.cut_row-state.ensures n x at.0 in
    ends _ _ _ _ _ (subst (CutStepped n c.args.table.now x op (record op { state = to.0 }) c.args.pass.now c.cut_row-state.new.pass) (sym c.progress_of.ensures) (cut_told n c.args.table.now x op op.state to.0 c.args.pass.now c.cut_row-state.new.pass to.1 c.if-self.false step))
