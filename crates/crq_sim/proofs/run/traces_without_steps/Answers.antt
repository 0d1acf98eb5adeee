use Rattle.crq_sim.proofs.TraceLemmas.{trace_pushed}
use Rattle.crq_sim.proofs.run.traces_without_steps.Goals as goal

pub loop-object-preserved : goal.loop-object-preserved
loop-object-preserved c =
    rw (c.in_ok-push.ensures.items, c.in_ok-trace_without_steps.ensures, c.loop-object.invariant) (trace_pushed c.args.objects.now c.loop-object.object-index c.object-item.result c.loop-object-test.true c.object-item.is)
