use Rattle.crq_rule.proofs.RaiseWitness.{raised_state}
use Rattle.crq_rule.proofs.laws.current_law.Goals as goal

pub returns : goal.returns
returns c = raised_state
