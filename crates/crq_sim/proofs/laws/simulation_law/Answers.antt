use Rattle.crq_sim.proofs.AfterLemmas.{after_more}
use Rattle.crq_sim.proofs.Sound.{begins, goes_on}
use Rattle.crq_sim.proofs.laws.simulation_law.Goals as goal

pub returns-clause-begins : goal.returns-clause-begins
returns-clause-begins c = begins

pub returns-clause-goes_on : goal.returns-clause-goes_on
returns-clause-goes_on c = goes_on

pub returns-clause-parts : goal.returns-clause-parts
returns-clause-parts c = after_more
