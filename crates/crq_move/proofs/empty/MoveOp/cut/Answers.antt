use Rattle.std.proofs.Common.{subst}
use Rattle.crq_list.specs.declared.parts.Progress.TheVariants.{Done}
use Rattle.crq_list.specs.declared.cut.CutEnd.{CutEnd}
use Rattle.crq_list.specs.Cutting.{CutStepped}
use Rattle.crq_move.proofs.LosingLaws.{cutting_now, cut_goes, cut_clean, cut_over}
use Rattle.crq_move.proofs.empty.MoveOp.cut.Goals as goal

pub returns-in-More : goal.returns-in-More
returns-in-More c n x at = let s = c.step in let cut = c.args.cutting in let known = cutting_now n c.args.table.now x c.args.self.now c.args.pass.now at c.requires.room cut c.requires.state in
    let told = subst (CutStepped n c.args.table.now x cut s.new.self c.args.pass.now s.new.pass) c.in-More.is (s.ensures n x known.0) in
    cut_goes n c.args.table.now x c.args.self.now c.args.pass.now at c.requires.room cut c.requires.state s.new.self s.new.pass told

pub returns-in-Done-Clean : goal.returns-in-Done-Clean
returns-in-Done-Clean c n x at = let s = c.step in let cut = c.args.cutting in let known = cutting_now n c.args.table.now x c.args.self.now c.args.pass.now at c.requires.room cut c.requires.state in
    let told = subst (CutStepped n c.args.table.now x cut s.new.self c.args.pass.now s.new.pass) c.in-Done-Clean.is (s.ensures n x known.0) in
    cut_clean n c.args.table.now x c.args.self.now c.args.pass.now at c.requires.room cut c.requires.state s.new.self s.new.pass c.forget_lost.new.debts c.forget_lost.ensures
    (subst (λ (z : CutEnd). CutStepped n c.args.table.now x cut s.new.self c.args.pass.now s.new.pass (Done z)) c.in-Done-Clean.field-0-is told)

pub returns-in-Done-Frozen : goal.returns-in-Done-Frozen
returns-in-Done-Frozen c n x at = let s = c.step in let cut = c.args.cutting in let known = cutting_now n c.args.table.now x c.args.self.now c.args.pass.now at c.requires.room cut c.requires.state in
    let told = subst (CutStepped n c.args.table.now x cut s.new.self c.args.pass.now s.new.pass) c.in-Done-Frozen.is (s.ensures n x known.0) in
    cut_over n c.args.table.now x c.args.self.now c.args.pass.now at c.requires.room cut c.requires.state s.new.self s.new.pass
    (subst (λ (z : CutEnd). CutStepped n c.args.table.now x cut s.new.self c.args.pass.now s.new.pass (Done z)) c.in-Done-Frozen.field-0-is told)
