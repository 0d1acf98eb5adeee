use Rattle.crq_queue.proofs.Gathers.{Joining}
use Rattle.crq_queue.proofs.calendar.Calendar.gather.Given as goal

abbrev pub invariant-loop-number : goal.invariant-loop-number
invariant-loop-number l = Joining l.self.table l.fn.passes.places.items l.passes.places.items l.seat l.number
