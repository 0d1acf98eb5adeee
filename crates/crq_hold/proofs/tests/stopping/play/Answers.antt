use Rattle.crq_hold.proofs.Teaming.{popped_worker, others_work}
use Rattle.crq_hold.proofs.tests.stopping.play.Goals as goal

pub stop_all-is_set_up-requires-clause-running : goal.stop_all-is_set_up-requires-clause-running
stop_all-is_set_up-requires-clause-running c = popped_worker _ _ _ _ c.in_ok-queue.ensures.workers.each c.in-Some.ensures.items

pub stop_all-is_set_up-requires-clause-workers : goal.stop_all-is_set_up-requires-clause-workers
stop_all-is_set_up-requires-clause-workers c = others_work _ _ _ _ c.in_ok-queue.ensures.workers.each c.in-Some.ensures.items
