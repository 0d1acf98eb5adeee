use Rattle.crq_rule.proofs.Openings.{opening_inv, opens}
use Rattle.crq_rule.proofs.laws.opening_law.Goals as goal

pub returns : goal.returns
returns c = record { keeps = opening_inv; stands = opens }
