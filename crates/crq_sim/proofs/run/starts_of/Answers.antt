use Rattle.crq_sim.proofs.StartLemmas.{started_due, started_past, started_all}
use Rattle.crq_sim.proofs.run.starts_of.Goals as goal
use Rattle.crq_sim.proofs.run.starts_of.Goals.{then-start-until+in_ok-push, else-start-until}

pub loop-start-preserved : goal.loop-start-preserved
loop-start-preserved c =
    elim c.if-start-until.branch [
      | then-start-until+in_ok-push w ↦ rw (w.events-is, w.seq-is, w.in_ok-push.ensures.items) (started_due _ _ _ _ _ _ c.loop-start-test.true w.if-start-until.true c.loop-start.invariant)
      | else-start-until w ↦ rw (w.events-is, w.seq-is) (started_past _ _ _ _ _ _ c.loop-start-test.true w.if-start-until.false c.loop-start.invariant)
    ]

pub returns : goal.returns
returns c = started_all _ _ _ _ _ c.loop-start-test.false c.loop-start.invariant
