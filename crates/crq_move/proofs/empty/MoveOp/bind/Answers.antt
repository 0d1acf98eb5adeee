use Rattle.std.proofs.Common.{subst}
use Rattle.crq_list.specs.declared.parts.Progress.TheVariants.{Done}
use Rattle.crq_move.specs.declared.bind.BindEnd.{BindEnd}
use Rattle.crq_move.specs.Binding.{BindStepped}
use Rattle.crq_move.proofs.LosingLaws.{binding_now, bind_goes, bind_bound, bind_dead, bind_discarded}
use Rattle.crq_move.proofs.empty.MoveOp.bind.Goals as goal

pub returns-in-More : goal.returns-in-More
returns-in-More c n x at = let s = c.step in let b = c.args.binding in let known = binding_now n c.args.table.now x c.args.self.now c.args.pass.now at c.requires.room b c.requires.state in
    bind_goes n c.args.table.now x c.args.self.now c.args.pass.now at c.requires.room b c.requires.state s.new.self s.new.pass (subst (BindStepped n c.args.table.now b s.new.self c.args.pass.now s.new.pass) c.in-More.is (s.ensures n x known.0))

pub returns-in-Done-Discarded : goal.returns-in-Done-Discarded
returns-in-Done-Discarded c n x at = let s = c.step in let b = c.args.binding in let known = binding_now n c.args.table.now x c.args.self.now c.args.pass.now at c.requires.room b c.requires.state in
    let told = subst (BindStepped n c.args.table.now b s.new.self c.args.pass.now s.new.pass) c.in-Done-Discarded.is (s.ensures n x known.0) in
    bind_discarded n c.args.table.now x c.args.self.now c.args.pass.now at c.requires.room b c.requires.state s.new.self s.new.pass c.new.result c.new.ensures
    (subst (λ (z : BindEnd). BindStepped n c.args.table.now b s.new.self c.args.pass.now s.new.pass (Done z)) c.in-Done-Discarded.field-0-is told)

pub returns-in-Done-Bound : goal.returns-in-Done-Bound
returns-in-Done-Bound c n x at = let s = c.step in let b = c.args.binding in let known = binding_now n c.args.table.now x c.args.self.now c.args.pass.now at c.requires.room b c.requires.state in
    let told = subst (BindStepped n c.args.table.now b s.new.self c.args.pass.now s.new.pass) c.in-Done-Bound.is (s.ensures n x known.0) in
    bind_bound n c.args.table.now x c.args.self.now c.args.pass.now at c.requires.room b c.requires.state s.new.self s.new.pass
    (subst (λ (z : BindEnd). BindStepped n c.args.table.now b s.new.self c.args.pass.now s.new.pass (Done z)) c.in-Done-Bound.field-0-is told)

pub returns-in-Done-Dead : goal.returns-in-Done-Dead
returns-in-Done-Dead c n x at = let s = c.step in let b = c.args.binding in let known = binding_now n c.args.table.now x c.args.self.now c.args.pass.now at c.requires.room b c.requires.state in
    let told = subst (BindStepped n c.args.table.now b s.new.self c.args.pass.now s.new.pass) c.in-Done-Dead.is (s.ensures n x known.0) in
    bind_dead n c.args.table.now x c.args.self.now c.args.pass.now at c.requires.room b c.requires.state s.new.self s.new.pass
    (subst (λ (z : BindEnd). BindStepped n c.args.table.now b s.new.self c.args.pass.now s.new.pass (Done z)) c.in-Done-Dead.field-0-is told)
