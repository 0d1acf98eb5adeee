use Rattle.crq_hold.specs.Workers.{WorksOn}
use Rattle.crq_hold.proofs.tests.scarcity.put_again.Given as goal

abbrev pub invariant-loop : goal.invariant-loop
invariant-loop l = WorksOn l.queue.table l.fn.worker l.worker
