use Rattle.crq_queue.proofs.CallStages.{IsSweeping}
use Rattle.crq_queue.proofs.calendar.Calendar.sweep_lists.Given as goal

abbrev pub invariant-loop-number : goal.invariant-loop-number
invariant-loop-number l = IsSweeping l.self.table l.budget l.control l.number l.initial.pass l.pass
