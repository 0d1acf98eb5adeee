use Rattle.std.proofs.Common.{subst}
use Rattle.crq_move.specs.Finishing.{FinishStepped}
use Rattle.crq_move.proofs.HelpingLaws.{at_finish, finish_goes, finish_over}
use Rattle.crq_move.proofs.help.HelpOp.finish.Goals as goal

pub returns-in-More : goal.returns-in-More
returns-in-More c n x i = let op = c.args.self.now in let e = c.args.finishing in let s = c.step in let known = at_finish n c.args.table.now x op c.args.pass.now s.new.pass c.requires.of i c.requires.room e s.new.self c.requires.part in
    finish_goes n c.args.table.now x op c.args.pass.now s.new.pass c.requires.of i c.requires.room e s.new.self c.requires.part (subst (FinishStepped n c.args.table.now x e s.new.self c.args.pass.now s.new.pass) c.in-More.is (s.ensures n x known.0))

pub returns-in-Done : goal.returns-in-Done
returns-in-Done c n x i = let op = c.args.self.now in let e = c.args.finishing in let s = c.step in let known = at_finish n c.args.table.now x op c.args.pass.now s.new.pass c.requires.of i c.requires.room e s.new.self c.requires.part in
    finish_over n c.args.table.now x op c.args.pass.now s.new.pass c.requires.of i c.requires.room e s.new.self c.requires.part c.in-Done.field-0 (subst (FinishStepped n c.args.table.now x e s.new.self c.args.pass.now s.new.pass) c.in-Done.is (s.ensures n x known.0))
