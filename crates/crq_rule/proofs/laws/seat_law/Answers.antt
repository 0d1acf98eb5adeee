use Rattle.crq_rule.proofs.Glue.{joins, splits}
use Rattle.crq_rule.proofs.laws.seat_law.Goals as goal

pub returns : goal.returns
returns c = record { splits = splits; joins = joins }
