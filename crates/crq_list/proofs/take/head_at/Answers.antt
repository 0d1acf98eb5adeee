use Rattle.std.proofs.Common.{ap, sym, ◌∙◌}
use Rattle.crq_list.specs.Taking.{head_at}
use Rattle.crq_list.proofs.Heads.{bucket_head}
use Rattle.crq_list.proofs.take.head_at.Goals as goal

pub returns-in-Bucket : goal.returns-in-Bucket
returns-in-Bucket c = bucket_head c.args.control.now c.in-Bucket.bucket c.requires ∙ sym (ap (head_at c.args.control.now) c.in-Bucket.is)
