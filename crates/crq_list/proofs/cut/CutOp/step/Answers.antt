use Rattle.std.proofs.Common.{sym, subst}
use Rattle.crq_list.specs.Cutting.{CutStepped}
use Rattle.crq_list.proofs.Stretching.{cut_told}
use Rattle.crq_list.proofs.cut.CutOp.step.Goals as goal

pub returns : goal.returns
returns c n x at = let op = c.args.self.now in let told = cut_told n c.args.table.now x op op.state c.step.new.self c.args.pass.now c.step.new.pass c.step.result c.if-self.false (c.step.ensures n x at.0) in
    subst (CutStepped n c.args.table.now x op (record op { state = c.step.new.self }) c.args.pass.now c.step.new.pass) (sym c.progress_of.ensures) told
