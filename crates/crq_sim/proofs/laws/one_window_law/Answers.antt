use Rattle.crq_sim.proofs.WindowCounts.{some_window, one_window, one_end}
use Rattle.crq_sim.proofs.WindowFacts.{one_last}
use Rattle.crq_sim.proofs.laws.one_window_law.Goals as goal

pub returns-clause-some : goal.returns-clause-some
returns-clause-some c = some_window

pub returns-clause-one : goal.returns-clause-one
returns-clause-one c = one_window

pub returns-clause-end : goal.returns-clause-end
returns-clause-end c = one_end

pub returns-clause-last : goal.returns-clause-last
returns-clause-last c = one_last
