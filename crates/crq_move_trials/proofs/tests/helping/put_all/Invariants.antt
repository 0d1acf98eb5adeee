use Rattle.crq_move_trials.specs.Moving.{AreNewPlaces}
use Rattle.crq_move_trials.proofs.tests.helping.put_all.Given as goal

abbrev pub invariant-loop-time : goal.invariant-loop-time
invariant-loop-time l = AreNewPlaces l.table l.places.items
