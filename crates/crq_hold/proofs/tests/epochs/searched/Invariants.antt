use Rattle.crq_hold.specs.Workers.{IsWorker}
use Rattle.crq_hold.proofs.tests.epochs.searched.Given as goal

abbrev pub invariant-loop-row : goal.invariant-loop-row
invariant-loop-row l = IsWorker l.queue.table l.worker
