use Rattle.std.proofs.Common.{sym, subst}
use Rattle.crq_list.specs.declared.parts.Progress.TheVariants.{More, Done}
use Rattle.crq_list.specs.declared.insert.InsertEnd.{InsertEnd}
use Rattle.crq_list.specs.Inserting.{InsertStepped}
use Rattle.crq_move.specs.declared.bind.BindOp.{BindOp}
use Rattle.crq_move.specs.declared.empty.MoveState.TheVariants.{Bind}
use Rattle.crq_move.specs.Emptying.{EmptyStepped}
use Rattle.crq_move.proofs.CopyingLaws.{copying, copy_goes, copy_owed, copy_over}
use Rattle.crq_move.proofs.empty.MoveOp.copy.Goals as goal

pub returns-in-More : goal.returns-in-More
returns-in-More c n x at = let s = c.step in let i = c.args.inserting in let known = copying n c.args.table.now x c.args.self.now c.args.pass.now at i c.requires.state c.requires.room in
    copy_goes n c.args.table.now x c.args.self.now c.args.pass.now at i c.requires.state c.requires.room s.new.self s.new.pass (subst (InsertStepped n c.args.table.now x i s.new.self c.args.pass.now s.new.pass) c.in-More.is (s.ensures n x known.0))

pub returns-in-Some : goal.returns-in-Some
returns-in-Some c n x at = let s = c.step in let i = c.args.inserting in let op = c.args.self.now in let known = copying n c.args.table.now x op c.args.pass.now at i c.requires.state c.requires.room in
    let told = subst (InsertStepped n c.args.table.now x i s.new.self c.args.pass.now s.new.pass) c.in-Done-Linked.is (s.ensures n x known.0) in
    subst (λ (z : BindOp). EmptyStepped n c.args.table.now x op (record op { state = Bind z }) c.args.pass.now s.new.pass More) (sym c.new.ensures)
    (copy_owed n c.args.table.now x op c.args.pass.now at i c.requires.state c.requires.room s.new.self s.new.pass c.in-Some.debt c.in-Some.is
    (subst (λ (z : InsertEnd). InsertStepped n c.args.table.now x i s.new.self c.args.pass.now s.new.pass (Done z)) c.in-Done-Linked.field-0-is told))

pub returns-in-Done-Frozen : goal.returns-in-Done-Frozen
returns-in-Done-Frozen c n x at = let s = c.step in let i = c.args.inserting in let known = copying n c.args.table.now x c.args.self.now c.args.pass.now at i c.requires.state c.requires.room in
    let told = subst (InsertStepped n c.args.table.now x i s.new.self c.args.pass.now s.new.pass) c.in-Done-Frozen.is (s.ensures n x known.0) in
    copy_over n c.args.table.now x c.args.self.now c.args.pass.now at i c.requires.state c.requires.room s.new.self s.new.pass
    (subst (λ (z : InsertEnd). InsertStepped n c.args.table.now x i s.new.self c.args.pass.now s.new.pass (Done z)) c.in-Done-Frozen.field-0-is told)
