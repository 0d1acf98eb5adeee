use Rattle.std.proofs.Common.{◌∙◌, refl, sym}
use Rattle.crq_sim.proofs.GeneratedLemmas.{no_draw, object_drawn}
use Rattle.crq_sim.proofs.generated.phold_objects.Goals as goal

pub loop-i-init : goal.loop-i-init
loop-i-init c = (c.from_vec-objects.ensures ∙ c.new.ensures.items, sym (no_draw c.args.seed))

pub loop-i-preserved : goal.loop-i-preserved
loop-i-preserved c =
    let x = c.in_ok-phold_object.field-0 in
    let state_is = c.draw-drawn.ensures.state in
    rw (c.in_ok-push.ensures.ok, state_is) (object_drawn c.args.seed c.loop-i.i c.loop-i.objects c.loop-i.state x c.loop-i.invariant (c.in_ok-phold_object.ensures ∙ rw c.draw-drawn.ensures.value refl))
