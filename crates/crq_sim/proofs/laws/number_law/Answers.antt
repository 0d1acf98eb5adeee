use Rattle.crq_sim.proofs.BoundLemmas.{start_numbers, sent_fresh}
use Rattle.crq_sim.proofs.KeyLemmas.{numbers_kept, run_numbers_apart}
use Rattle.crq_sim.proofs.laws.number_law.Goals as goal

pub returns-clause-starts : goal.returns-clause-starts
returns-clause-starts c = start_numbers

pub returns-clause-sent : goal.returns-clause-sent
returns-clause-sent c = sent_fresh

pub returns-clause-rise : goal.returns-clause-rise
returns-clause-rise c = numbers_kept

pub returns-clause-apart : goal.returns-clause-apart
returns-clause-apart c = run_numbers_apart
