use Rattle.crq_set.specs.Plain.{IsInOrder}
use Rattle.crq_trials.proofs.tests.set.keeps_many_events.Given as goal

abbrev pub invariant-loop-seq : goal.invariant-loop-seq
invariant-loop-seq g l = IsInOrder l.pass.entries.items l.pass.pending.keys l.pass.dealt

abbrev pub invariant-loop-seq-2 : goal.invariant-loop-seq-2
invariant-loop-seq-2 g l = IsInOrder l.pass.entries.items l.pass.pending.keys l.pass.dealt
