use Rattle.crq_hold.proofs.Regrouping.{Covers}
use Rattle.crq_hold.proofs.tests.phases.unused.Given as goal

abbrev pub invariant-loop-worker : goal.invariant-loop-worker
invariant-loop-worker l = Covers l.workers l.worker-index l.next
