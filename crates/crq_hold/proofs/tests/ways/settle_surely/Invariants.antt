use Rattle.crq_hold.specs.Workers.{WorksOn}
use Rattle.crq_hold.proofs.tests.ways.settle_surely.Given as goal

abbrev pub invariant-loop : goal.invariant-loop
invariant-loop g l = WorksOn l.queue.table l.fn.worker l.worker
