use Rattle.crq_hold.specs.Teams.{AreSettled, AllWent}
use Rattle.crq_hold.proofs.hold.fill.Given as goal

abbrev pub invariant-loop-i : goal.invariant-loop-i
invariant-loop-i g l = AllWent l.queue.table l.fn.workers l.workers l.i 0 × AreSettled l.workers
