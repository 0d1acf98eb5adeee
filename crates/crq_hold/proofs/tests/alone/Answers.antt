use Rattle.crq_hold.proofs.Teaming.{lone_worker}
use Rattle.crq_hold.proofs.tests.alone.Goals as goal

pub returns-clause-worker : goal.returns-clause-worker
returns-clause-worker c = let e = c.in_ok-queue.ensures in (lone_worker _ _ _ _ e.workers e.count c.in-Some.ensures.items).0

pub returns-clause-one : goal.returns-clause-one
returns-clause-one c = let e = c.in_ok-queue.ensures in let one = lone_worker _ _ _ _ e.workers e.count c.in-Some.ensures.items in (one.1, one.2)
