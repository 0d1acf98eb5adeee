use Rattle.crq_hold.specs.Workers.{IsWorker}
use Rattle.crq_hold.proofs.tests.stopping.play.Given as goal

abbrev pub invariant-loop : goal.invariant-loop
invariant-loop l = IsWorker l.queue.table l.running
