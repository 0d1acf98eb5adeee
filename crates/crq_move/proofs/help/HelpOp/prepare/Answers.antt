use Rattle.std.proofs.Common.{sym, subst}
use Rattle.crq_list.specs.declared.parts.Progress.TheVariants.{More}
use Rattle.crq_move.specs.declared.freeze.FreezeOp.{FreezeOp}
use Rattle.crq_move.specs.declared.help.HelpPart.TheVariants.{Freeze}
use Rattle.crq_move.specs.Preparing.{PrepareStepped}
use Rattle.crq_move.specs.Helping.{HelpStepped}
use Rattle.crq_move.proofs.HelpingLaws.{at_prepare, prepare_goes, prepare_ends}
use Rattle.crq_move.proofs.help.HelpOp.prepare.Goals as goal

pub returns-in-More : goal.returns-in-More
returns-in-More c n x i = let op = c.args.self.now in let e = c.args.preparing in let s = c.step in let known = at_prepare n c.args.table.now x op c.args.pass.now s.new.pass c.requires.of i c.requires.room e s.new.self c.requires.part in
    prepare_goes n c.args.table.now x op c.args.pass.now s.new.pass c.requires.of i c.requires.room e s.new.self c.requires.part (subst (PrepareStepped n c.args.table.now x e s.new.self c.args.pass.now s.new.pass) c.in-More.is (s.ensures n x known.0))

pub returns-in-Done : goal.returns-in-Done
returns-in-Done c n x i = let op = c.args.self.now in let e = c.args.preparing in let s = c.step in let known = at_prepare n c.args.table.now x op c.args.pass.now s.new.pass c.requires.of i c.requires.room e s.new.self c.requires.part in
    subst (λ (z : FreezeOp). HelpStepped n c.args.table.now x op (record op { part = Freeze z }) c.args.pass.now s.new.pass More) (sym c.new.ensures)
    (prepare_ends n c.args.table.now x op c.args.pass.now s.new.pass c.requires.of i c.requires.room e s.new.self c.requires.part c.in-Done.field-0 (subst (PrepareStepped n c.args.table.now x e s.new.self c.args.pass.now s.new.pass) c.in-Done.is (s.ensures n x known.0)))
