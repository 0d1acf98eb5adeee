use Rattle.crq_sim.proofs.WindowFacts.{one_data, some_data, data_many}
use Rattle.crq_sim.proofs.laws.window_data_law.Goals as goal

pub returns-clause-one : goal.returns-clause-one
returns-clause-one c = one_data

pub returns-clause-some : goal.returns-clause-some
returns-clause-some c = some_data

pub returns-clause-many : goal.returns-clause-many
returns-clause-many c = data_many
