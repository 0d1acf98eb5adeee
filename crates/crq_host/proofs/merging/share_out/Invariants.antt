use Rattle.crq_host.proofs.MergeLaws.{GivingAll}
use Rattle.crq_host.proofs.merging.share_out.Given as goal

abbrev pub invariant-loop-from : goal.invariant-loop-from
invariant-loop-from g l = GivingAll l.span l.from l.fn.workers l.workers
