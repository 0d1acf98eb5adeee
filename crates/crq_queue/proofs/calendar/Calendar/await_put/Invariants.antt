use Rattle.crq_queue.specs.Waits.{PutTries}
use Rattle.crq_queue.proofs.Waits.{IsTrying}
use Rattle.crq_queue.proofs.calendar.Calendar.await_put.Given as goal

abbrev pub invariant-loop : goal.invariant-loop
invariant-loop g l = IsTrying (PutTries l.self.table l.event) l.self.table l.fn.pass l.pass
