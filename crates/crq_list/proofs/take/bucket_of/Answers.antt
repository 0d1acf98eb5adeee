use Rattle.std.proofs.Common.{refl}
use Rattle.crq_rule.specs.Ranks.{bucket}
use Rattle.crq_list.proofs.take.bucket_of.Goals as goal

pub returns : goal.returns
unfolding bucket
returns c = refl
