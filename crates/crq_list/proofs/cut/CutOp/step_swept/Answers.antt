use Rattle.std.proofs.Common.{sym, subst}
use Rattle.crq_list.specs.Cutting.{CutStepped, follows}
use Rattle.crq_list.proofs.SweptCuts.{row_on_way, swept_told, swept_ends}
use Rattle.crq_list.proofs.cut.CutOp.step_swept.Goals as goal

pub returns-in-Retiring : goal.returns-in-Retiring
returns-in-Retiring c n x at = let r = c.in-Retiring in
    swept_ends n c.args.table.now x c.args.self.now c.args.pass.now c.step_on_way-walked.new.pass _ c.step_on_way-walked.new.self c.step_on_way-walked.result r.field-0 r.field-1 r.field-2 r.is c.requires.swept at (c.step_on_way-walked.ensures n x at.0)

pub returns : goal.returns
returns c n x at = let op = c.args.self.now in let s = c.step_on_way-walked in let told = swept_told n c.args.table.now x op c.args.pass.now s.new.pass s.new.self s.result c.requires.swept at (s.ensures n x at.0) in
    subst (λ z. CutStepped n c.args.table.now x op (record op { state = s.new.self; swept = z }) c.args.pass.now s.new.pass c.progress_of.result) (sym c.follows-self.ensures)
    (subst (CutStepped n c.args.table.now x op (record op { state = s.new.self; swept = follows op.state s.new.self }) c.args.pass.now s.new.pass) (sym c.progress_of.ensures) told)

pub step_on_way-walked-requires-clause-way : goal.step_on_way-walked-requires-clause-way
step_on_way-walked-requires-clause-way c = let o = c.requires.op in let way = o.2.1 c.requires.swept in row_on_way c.args.self.now.state way.row _ way.at
