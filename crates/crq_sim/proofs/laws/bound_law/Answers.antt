use Rattle.crq_sim.proofs.BoundLemmas.{state_bounds, few_starts, few_sent, sent_more}
use Rattle.crq_sim.proofs.laws.bound_law.Goals as goal

pub returns-clause-states : goal.returns-clause-states
returns-clause-states c = state_bounds

pub returns-clause-starts : goal.returns-clause-starts
returns-clause-starts c = few_starts

pub returns-clause-sent : goal.returns-clause-sent
returns-clause-sent c = few_sent

pub returns-clause-parts : goal.returns-clause-parts
returns-clause-parts c = sent_more
