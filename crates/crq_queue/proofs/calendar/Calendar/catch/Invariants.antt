use Rattle.std.specs.Prelude.{◌-◌}
use Rattle.crq_queue.proofs.Catches.{IsCatching}
use Rattle.crq_queue.proofs.calendar.Calendar.catch.Given as goal

abbrev pub invariant-loop-event : goal.invariant-loop-event
invariant-loop-event l = IsCatching l.self.table l.budget l.control l.raises l.initial.pass l.pass

abbrev pub decreases-loop-event : goal.decreases-loop-event
decreases-loop-event l = l.budget - l.pass.turns
