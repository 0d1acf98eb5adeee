use Rattle.crq_rule.proofs.MoveWitness.{moving_state}
use Rattle.crq_rule.proofs.laws.move_law.Goals as goal

pub returns : goal.returns
returns c = moving_state
