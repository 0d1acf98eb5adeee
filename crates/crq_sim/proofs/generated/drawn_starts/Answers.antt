use Rattle.std.proofs.Common.{◌∙◌, refl}
use Rattle.crq_sim.proofs.GeneratedLemmas.{start_drawn}
use Rattle.crq_sim.proofs.generated.drawn_starts.Goals as goal

pub loop-i-preserved : goal.loop-i-preserved
loop-i-preserved c = λ seed before.
    rw (c.in_ok-push.ensures.ok, c.drawn_start-after.ensures.state)
    (start_drawn seed c.args.objects c.loop-i.i c.loop-i.starts c.loop-i.state c.drawn_start-after.result.0 (c.loop-i.invariant seed before) (c.drawn_start-after.ensures.start ∙ rw c.from.ensures refl))
