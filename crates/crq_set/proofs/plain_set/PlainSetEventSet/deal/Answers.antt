use Rattle.std.proofs.Common.{◌∙◌}
use Rattle.crq_set.proofs.PlainLaws.{plain_deals}
use Rattle.crq_set.proofs.plain_set.PlainSetEventSet.deal.Goals as goal

pub returns-clause-deals : goal.returns-clause-deals
returns-clause-deals c = plain_deals c.args.whole.entries.items c.len-dealt.result c.args.span (c.len-dealt.ensures ∙ c.args.whole.entries.ok.0)
