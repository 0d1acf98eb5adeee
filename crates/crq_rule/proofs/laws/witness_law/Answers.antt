use Rattle.crq_rule.proofs.Witnessing.{core, core_inv, witness}
use Rattle.crq_rule.proofs.laws.witness_law.Goals as goal

pub returns : goal.returns
returns c = (core, core_inv, witness)
