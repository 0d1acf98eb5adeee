use Rattle.crq_hold.specs.Workers.{IsWorker}
use Rattle.crq_hold.proofs.tests.churning.churn.Given as goal

abbrev pub invariant-loop : goal.invariant-loop
invariant-loop g l = IsWorker l.queue.table l.worker
