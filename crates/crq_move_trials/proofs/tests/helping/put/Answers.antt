use Rattle.std.proofs.Common.{refl, ap, arith}
use Rattle.crq_base.specs.declared.event.Event.{Event}
use Rattle.crq_rule.specs.Parts.{IsEvent}
use Rattle.crq_move_trials.proofs.Moving.{first_held, may_put}
use Rattle.crq_move_trials.proofs.tests.helping.put.Goals as goal

pub loop-init : goal.loop-init
loop-init c = let t = c.new-op.type_inv in let fits : IsEvent c.new-op.result.event = record { time = omega (arith, t); dst = omega (arith, t); src = omega (arith, t); seq = omega (arith, t); load = omega (arith, t) } in let first = c.in-Some.ensures.item.3 in
    (c.requires.of, (0, c.args.control.now, may_put c.requires c.new-op.result _ _ _ (refl, c.head_of.ensures) fits (first_held c.args.pass.now.free.items c.in-Some.row.now first.0 first.1) (ap (λ (e : Event). e.src) c.event_of-event.ensures) c.new-op.ensures))
