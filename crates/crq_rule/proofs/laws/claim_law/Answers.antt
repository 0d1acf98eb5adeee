use Rattle.crq_rule.proofs.RowLaws.{claimable_uncovered}
use Rattle.crq_rule.proofs.laws.claim_law.Goals as goal

pub returns : goal.returns
returns c = claimable_uncovered
