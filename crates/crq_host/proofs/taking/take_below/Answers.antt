use Rattle.crq_host.proofs.Takes.{taking_none, taking_more, took_missed, took_memory, took_short}
use Rattle.crq_host.proofs.taking.take_below.Goals as goal

pub loop-init : goal.loop-init
loop-init g c = record { next = tt; finite = tt; of = c.requires.of; taking = taking_none _ _ _ }

pub returns-then-is_err-clause-took : goal.returns-then-is_err-clause-took
returns-then-is_err-clause-took g c = rw c.reserve.ensures.items (took_memory _ _ _ _ _ _ c.loop.invariant.taking)

pub returns-in-Ok-Missed-clause-took : goal.returns-in-Ok-Missed-clause-took
returns-in-Ok-Missed-clause-took g c =
    let missed = rw c.in-Ok-Missed.field-0-is at c.in-Ok-Missed.ensures.takes in
    rw c.reserve.ensures.items (took_missed _ _ _ _ _ _ _ c.loop.invariant.taking missed)

pub returns-in-Err-clause-took : goal.returns-in-Err-clause-took
returns-in-Err-clause-took g c = rw c.reserve.ensures.items (took_short _ _ _ _ _ _ _ c.in-Err.short c.loop.invariant.taking c.in-Err.ensures.gave_up)

pub loop-preserved : goal.loop-preserved
loop-preserved g c =
    let took = rw c.in-Ok-Taken.field-0-is at c.in-Ok-Taken.ensures.takes in
    record {
      next = tt;
      finite = tt;
      of = c.take.ensures.of;
      taking = rw (c.push_reserved.ensures.items, c.in-Ok-Taken.event-is, c.reserve.ensures.items) (taking_more _ _ _ _ _ _ _ c.loop.invariant.taking took.0 took.1);
    }
