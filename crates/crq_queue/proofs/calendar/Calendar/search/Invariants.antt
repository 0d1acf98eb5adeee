use Rattle.std.specs.Prelude.{◌-◌}
use Rattle.crq_queue.proofs.Takings.{IsSearching}
use Rattle.crq_queue.proofs.calendar.Calendar.search.Given as goal

abbrev pub invariant-loop-event : goal.invariant-loop-event
invariant-loop-event l = IsSearching l.self.table l.budget l.control l.initial.pass l.pass

abbrev pub decreases-loop-event : goal.decreases-loop-event
decreases-loop-event l = l.budget - l.pass.turns
