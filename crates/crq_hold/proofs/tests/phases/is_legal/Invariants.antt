use Rattle.std.proofs.Common.{◌≡◌, length}
use Rattle.crq_hold.specs.Teams.{AreFree, AreWorkers}
use Rattle.crq_hold.proofs.tests.phases.is_legal.Given as goal

abbrev pub invariant-loop-round : goal.invariant-loop-round
invariant-loop-round g l = AreWorkers l.queue.table l.made.1.items × (length l.made.0.places.items ≡ length l.made.1.items) × AreFree (length l.made.1.items) l.made.0.places.items
