use Rattle.crq_hold.specs.Workers.{IsWorker}
use Rattle.crq_hold.proofs.tests.no_row_gets_ripe.Given as goal

abbrev pub invariant-loop-seq : goal.invariant-loop-seq
invariant-loop-seq g l = IsWorker l.queue.table l.worker
