use Rattle.crq_hold.specs.Teams.{AreLifted}
use Rattle.crq_hold.proofs.team.lift_all.Given as goal

abbrev pub invariant-loop-number : goal.invariant-loop-number
invariant-loop-number l = AreLifted l.next l.fn.passes.places.items l.passes.places.items l.workers.items l.number
