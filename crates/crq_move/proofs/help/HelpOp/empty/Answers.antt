use Rattle.std.proofs.Common.{sym, ap, ◌∙◌, subst}
use Rattle.crq_list.specs.declared.parts.Progress.TheVariants.{More, Done}
use Rattle.crq_move.specs.declared.finish.FinishOp.{FinishOp}
use Rattle.crq_move.specs.declared.help.HelpPart.TheVariants.{Empty, Finish}
use Rattle.crq_move.specs.Emptying.{EmptyStepped}
use Rattle.crq_move.specs.Helping.{HelpStepped}
use Rattle.crq_move.proofs.HelpingLaws.{part_known, empty_goes, empty_needs, empty_ends, empty_over}
use Rattle.crq_move.proofs.help.HelpOp.empty.Goals as goal

pub returns-in-More : goal.returns-in-More
returns-in-More c n x i = let op = c.args.self.now in let e = c.args.emptying in let s = c.step in let known = part_known n c.args.table.now x op c.args.pass.now s.new.pass (Empty e) c.requires.part i in
    empty_goes n c.args.table.now x op c.args.pass.now s.new.pass e s.new.self c.requires.part i (subst (EmptyStepped n c.args.table.now x e s.new.self c.args.pass.now s.new.pass) c.in-More.is (s.ensures n x known))

pub returns-in-Done-Done : goal.returns-in-Done-Done
returns-in-Done-Done c n x i = let op = c.args.self.now in let e = c.args.emptying in let s = c.step in let known = part_known n c.args.table.now x op c.args.pass.now s.new.pass (Empty e) c.requires.part i in
    subst (λ (z : FinishOp). HelpStepped n c.args.table.now x op (record op { part = Finish z }) c.args.pass.now s.new.pass More) (sym c.new.ensures)
    (empty_ends n c.args.table.now x op c.args.pass.now s.new.pass e s.new.self c.requires.part i (subst (EmptyStepped n c.args.table.now x e s.new.self c.args.pass.now s.new.pass) (c.in-Done-Done.is ∙ ap (λ z. Done z) c.in-Done-Done.field-0-is) (s.ensures n x known)))

pub returns-in-Done-NeedRow : goal.returns-in-Done-NeedRow
returns-in-Done-NeedRow c n x i = let op = c.args.self.now in let e = c.args.emptying in let s = c.step in let known = part_known n c.args.table.now x op c.args.pass.now s.new.pass (Empty e) c.requires.part i in
    empty_needs n c.args.table.now x op c.args.pass.now s.new.pass e s.new.self c.requires.part i (subst (EmptyStepped n c.args.table.now x e s.new.self c.args.pass.now s.new.pass) (c.in-Done-NeedRow.is ∙ ap (λ z. Done z) c.in-Done-NeedRow.field-0-is) (s.ensures n x known))

pub returns-in-Done-Passed : goal.returns-in-Done-Passed
returns-in-Done-Passed c n x i = let op = c.args.self.now in let e = c.args.emptying in let s = c.step in let known = part_known n c.args.table.now x op c.args.pass.now s.new.pass (Empty e) c.requires.part i in
    empty_over n c.args.table.now x op c.args.pass.now s.new.pass e s.new.self c.requires.part i (subst (EmptyStepped n c.args.table.now x e s.new.self c.args.pass.now s.new.pass) (c.in-Done-Passed.is ∙ ap (λ z. Done z) c.in-Done-Passed.field-0-is) (s.ensures n x known))
