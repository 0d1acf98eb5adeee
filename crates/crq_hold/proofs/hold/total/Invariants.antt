use Rattle.std.proofs.Common.{◌≡◌, ◌+◌, drop}
use Rattle.crq_hold.specs.Teams.{total_holds}
use Rattle.crq_hold.proofs.hold.total.Given as goal

abbrev pub invariant-loop-worker : goal.invariant-loop-worker
invariant-loop-worker l = l.holds + total_holds (drop l.worker-index l.workers) ≡ total_holds l.workers
