use Rattle.crq_hold.specs.Workers.{IsWorker}
use Rattle.crq_hold.proofs.tests.scarcity.fill.Given as goal

abbrev pub invariant-loop-pending : goal.invariant-loop-pending
invariant-loop-pending l = IsWorker l.queue.table l.worker
