use Rattle.std.proofs.Common.{◌∙◌, sym, ap, length, arith}
use Rattle.crq_base.specs.declared.event.Event.{Event}
use Rattle.crq_sim.proofs.ScheduleLemmas.{scheduled_none, sent_next}
use Rattle.crq_sim.proofs.sends.Source.schedule_each.Goals as goal

pub loop-target-init : goal.loop-target-init
loop-target-init c = (c.none-sends.ensures ∙ sym (scheduled_none _ _ _), (let none = ap (length {A = Event}) c.none-sends.ensures in omega arith))

pub loop-target-preserved : goal.loop-target-preserved
loop-target-preserved c =
    sent_next c.args.self.now.until c.args.self.now.object c.args.self.now.sent (λ target. record { time = c.args.time; dst = target; load = c.args.load }) c.args.targets.now c.loop-target.target-index 0 c.loop-target.sends _ c.loop-target-test.true c.loop-target.invariant c.schedule.ensures
