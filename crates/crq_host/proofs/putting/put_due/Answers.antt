use Rattle.std.proofs.lemmas.Option.{slice_get-get_or}
use Rattle.crq_host.proofs.Puts.{putting_none, putting_more, putting_may, put_ended, put_short}
use Rattle.crq_host.proofs.putting.put_due.Goals as goal

pub loop-event-init : goal.loop-event-init
loop-event-init g c = record { of = c.requires.of; putting = putting_none _ _ }

pub put-requires-clause-may : goal.put-requires-clause-may
put-requires-clause-may g c = putting_may (g.S.EventSet.setup c.args.set.now) _ _ c.args.due.now c.loop-event.event-index _ c.requires.may c.loop-event.invariant.putting (slice_get-get_or c.args.due.now c.loop-event.event-index _ c.loop-event-test.true)

pub returns-in-Err-clause-put : goal.returns-in-Err-clause-put
returns-in-Err-clause-put g c = put_short _ _ _ _ c.args.due.now c.loop-event.event-index c.in-Err.short c.loop-event.invariant.putting c.in-Err.ensures.gave_up

pub loop-event-preserved : goal.loop-event-preserved
loop-event-preserved g c =
    record {
      of = c.put.ensures.of;
      putting = putting_more _ _ _ c.args.due.now c.loop-event.event-index _ c.loop-event.invariant.putting (slice_get-get_or c.args.due.now c.loop-event.event-index _ c.loop-event-test.true) c.in_default.ensures.puts;
    }

pub returns-clause-put : goal.returns-clause-put
returns-clause-put g c = put_ended _ _ _ c.args.due.now c.loop-event.event-index c.loop-event-test.false c.loop-event.invariant.putting
