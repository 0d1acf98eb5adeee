use Rattle.crq_rule.proofs.Gathering.{gathers, respans}
use Rattle.crq_rule.proofs.laws.gather_law.Goals as goal

pub returns : goal.returns
returns c = record { gathers = gathers; respans = respans }
