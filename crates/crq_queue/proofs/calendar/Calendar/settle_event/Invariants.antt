use Rattle.std.specs.Prelude.{◌-◌}
use Rattle.crq_queue.proofs.Settlings.{IsSettling}
use Rattle.crq_queue.proofs.calendar.Calendar.settle_event.Given as goal

abbrev pub invariant-loop-current : goal.invariant-loop-current
invariant-loop-current l = IsSettling l.self.table l.budget l.debt l.initial.pass l.pass

abbrev pub decreases-loop-current : goal.decreases-loop-current
decreases-loop-current l = l.budget - l.pass.turns
