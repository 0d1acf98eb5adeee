use Rattle.std.proofs.Common.{length}
use Rattle.crq_hold.specs.Teams.{AreLowered}
use Rattle.crq_hold.proofs.team.lower_all.Given as goal

abbrev pub invariant-loop-worker : goal.invariant-loop-worker
invariant-loop-worker l = AreLowered l.fn.passes.places.items l.passes.places.items l.fn.workers.items (length l.yielded)
