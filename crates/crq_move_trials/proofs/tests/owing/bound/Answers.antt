use Rattle.std.proofs.Common.{ap, ◌∙◌, subst}
use Rattle.crq_rule.specs.declared.debts.Debts.{Debts}
use Rattle.crq_move.specs.Binding.{BindStepped}
use Rattle.crq_move_trials.proofs.tests.owing.bound.Goals as goal

pub loop-preserved : goal.loop-preserved
loop-preserved c = let i = c.loop.invariant in let u = i.1 in let s = subst (BindStepped u.0 c.args.table.now c.loop.op c.step.new.self c.loop.pass c.step.new.pass) c.in-More.is (c.step.ensures u.0 u.1 u.2) in
    (s.is, (u.0, u.1, s.answers.0), ap (λ (d : Debts). d.second_cut) s.answers.2 ∙ i.2)
