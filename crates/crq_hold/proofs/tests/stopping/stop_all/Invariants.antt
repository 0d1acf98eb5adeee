use Rattle.crq_hold.specs.Workers.{WorksOn}
use Rattle.crq_hold.proofs.tests.stopping.stop_all.Given as goal

abbrev pub invariant-loop-worker : goal.invariant-loop-worker
invariant-loop-worker l = WorksOn l.queue.table l.fn.running l.running
