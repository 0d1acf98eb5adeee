use Rattle.crq_queue.proofs.Waits.{IsSettling}
use Rattle.crq_queue.proofs.calendar.Calendar.await_settling.Given as goal

abbrev pub invariant-loop : goal.invariant-loop
invariant-loop g l = IsSettling l.self.table l.fn.pass l.pass
