use Rattle.crq_sim.proofs.WindowFacts.{data_counted}
use Rattle.crq_sim.proofs.laws.count_law.Goals as goal

pub returns : goal.returns
returns c = data_counted
