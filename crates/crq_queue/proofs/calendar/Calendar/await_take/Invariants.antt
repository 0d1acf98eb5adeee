use Rattle.crq_queue.specs.Waits.{TakeTries}
use Rattle.crq_queue.proofs.Waits.{IsTrying}
use Rattle.crq_queue.proofs.calendar.Calendar.await_take.Given as goal

abbrev pub invariant-loop : goal.invariant-loop
invariant-loop g l = IsTrying (TakeTries l.self.table l.limit) l.self.table l.fn.pass l.pass
