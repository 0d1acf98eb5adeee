use Rattle.crq_hold.specs.Teams.{AreWorkers}
use Rattle.crq_hold.proofs.tests.owing.answers_so.Given as goal

abbrev pub invariant-loop-caller : goal.invariant-loop-caller
invariant-loop-caller g l = AreWorkers l.queue.table l.workers
