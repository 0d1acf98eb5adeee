use Rattle.crq_hold.specs.Workers.{WorksOn}
use Rattle.crq_hold.proofs.tests.phases.take_some.Given as goal

abbrev pub invariant-loop : goal.invariant-loop
invariant-loop g l = WorksOn l.queue.table l.fn.worker l.worker
