use Rattle.crq_hold.specs.Teams.{AreWorkers}
use Rattle.crq_hold.proofs.tests.buckets.they_are_enough_for_a_recovery.Given as goal

abbrev pub invariant-loop-seq : goal.invariant-loop-seq
invariant-loop-seq g l = AreWorkers l.queue.table l.workers
