use Rattle.crq_hold.specs.Workers.{IsSettled, PutAndTook}
use Rattle.crq_hold.proofs.hold.hold_often.Given as goal

abbrev pub invariant-loop : goal.invariant-loop
invariant-loop g l = PutAndTook l.queue.table l.fn.worker l.worker l.counter l.counter × IsSettled l.worker
