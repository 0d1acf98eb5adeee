use Rattle.std.proofs.Common.{refl}
use Rattle.crq_host.proofs.RunLaws.{running_next, running_last}
use Rattle.crq_host.proofs.running.run_events.Goals as goal

pub loop-event-preserved : goal.loop-event-preserved
loop-event-preserved g c =
    let h = c.loop-event.invariant in
    running_next c.args.model.now c.args.events.now c.loop-event.event-index _ _ _ _ _ _ _ _ c.is_model.ensures c.loop-event-test.true refl h c.in_ok-run_event.ensures.others c.in_ok-run_event.ensures.ran

pub returns-clause-ran : goal.returns-clause-ran
returns-clause-ran g c = running_last _ _ _ _ _ _ _ c.loop-event-test.false c.loop-event.invariant
