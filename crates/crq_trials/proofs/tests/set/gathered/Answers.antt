use Rattle.crq_set.proofs.TestLaws.{one_there}
use Rattle.crq_trials.proofs.tests.set.gathered.Goals as goal

pub gather-requires-clause-there : goal.gather-requires-clause-there
gather-requires-clause-there c = one_there _ _ _ c.requires.places c.lower.ensures.lowered
