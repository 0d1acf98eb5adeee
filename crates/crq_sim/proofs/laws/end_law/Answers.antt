use Rattle.crq_sim.proofs.AfterLemmas.{kept}
use Rattle.crq_sim.proofs.laws.end_law.Goals as goal

pub returns : goal.returns
returns c = kept
