use Rattle.crq_set.specs.Plain.{IsInOrder}
use Rattle.crq_trials.proofs.tests.set.takes_the_least_key.Given as goal

abbrev pub invariant-loop-new : goal.invariant-loop-new
invariant-loop-new g l = IsInOrder l.pass.entries.items l.pass.pending.keys l.pass.dealt

abbrev pub invariant-loop-limit : goal.invariant-loop-limit
invariant-loop-limit g l = IsInOrder l.pass.entries.items l.pass.pending.keys l.pass.dealt
