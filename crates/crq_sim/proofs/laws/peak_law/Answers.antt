use Rattle.crq_sim.proofs.WindowFacts.{peak_begins, peak_next, one_peak}
use Rattle.crq_sim.proofs.laws.peak_law.Goals as goal

pub returns-clause-begins : goal.returns-clause-begins
returns-clause-begins c = peak_begins

pub returns-clause-next : goal.returns-clause-next
returns-clause-next c = peak_next

pub returns-clause-one : goal.returns-clause-one
returns-clause-one c = one_peak
