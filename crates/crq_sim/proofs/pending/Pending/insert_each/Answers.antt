use Rattle.crq_sim.proofs.EventListLemmas.{inserted_next, inserted_all}
use Rattle.crq_sim.proofs.pending.Pending.insert_each.Goals as goal

pub loop-event-preserved : goal.loop-event-preserved
loop-event-preserved c = rw c.in_ok-insert.ensures (inserted_next _ _ _ _ _ c.loop-event-test.true c.loop-event.invariant)

pub returns : goal.returns
returns c = inserted_all _ _ _ _ c.loop-event-test.false c.loop-event.invariant
