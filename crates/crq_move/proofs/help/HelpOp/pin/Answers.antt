use Rattle.std.proofs.Common.{sym, ap, ◌∙◌, subst}
use Rattle.crq_list.specs.declared.parts.Progress.TheVariants.{More, Done}
use Rattle.crq_move.specs.declared.empty.MoveOp.{MoveOp}
use Rattle.crq_move.specs.declared.help.HelpPart.TheVariants.{Empty}
use Rattle.crq_move.specs.Pinning.{PinStepped}
use Rattle.crq_move.specs.Helping.{HelpStepped}
use Rattle.crq_move.proofs.HelpingLaws.{at_pin, pin_goes, pin_ends, pin_over}
use Rattle.crq_move.proofs.help.HelpOp.pin.Goals as goal

pub returns-in-More : goal.returns-in-More
returns-in-More c n x i = let op = c.args.self.now in let e = c.args.pinning in let s = c.step in let known = at_pin n c.args.table.now x op c.args.pass.now s.new.pass c.requires.of i c.requires.room e s.new.self c.requires.part in
    pin_goes n c.args.table.now x op c.args.pass.now s.new.pass c.requires.of i c.requires.room e s.new.self c.requires.part (subst (PinStepped n c.args.table.now x e s.new.self c.args.pass.now s.new.pass) c.in-More.is (s.ensures n x known.0))

pub returns-in-Done-Done : goal.returns-in-Done-Done
returns-in-Done-Done c n x i = let op = c.args.self.now in let e = c.args.pinning in let s = c.step in let known = at_pin n c.args.table.now x op c.args.pass.now s.new.pass c.requires.of i c.requires.room e s.new.self c.requires.part in
    subst (λ (z : MoveOp). HelpStepped n c.args.table.now x op (record op { part = Empty z }) c.args.pass.now s.new.pass More) (sym c.new.ensures)
    (pin_ends n c.args.table.now x op c.args.pass.now s.new.pass c.requires.of i c.requires.room e s.new.self c.requires.part (subst (PinStepped n c.args.table.now x e s.new.self c.args.pass.now s.new.pass) (c.in-Done-Done.is ∙ ap (λ z. Done z) c.in-Done-Done.field-0-is) (s.ensures n x known.0)))

pub returns-in-Done : goal.returns-in-Done
returns-in-Done c n x i = let op = c.args.self.now in let e = c.args.pinning in let s = c.step in let known = at_pin n c.args.table.now x op c.args.pass.now s.new.pass c.requires.of i c.requires.room e s.new.self c.requires.part in
    pin_over n c.args.table.now x op c.args.pass.now s.new.pass c.requires.of i c.requires.room e s.new.self c.requires.part c.in-Done.field-0 (subst (PinStepped n c.args.table.now x e s.new.self c.args.pass.now s.new.pass) c.in-Done.is (s.ensures n x known.0))
