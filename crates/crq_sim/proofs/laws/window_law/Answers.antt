use Rattle.crq_sim.proofs.WindowRunLemmas.{window_run}
use Rattle.crq_sim.proofs.laws.window_law.Goals as goal

pub returns : goal.returns
returns c = window_run
