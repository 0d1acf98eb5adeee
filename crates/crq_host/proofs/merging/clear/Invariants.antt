use Rattle.crq_host.proofs.MergeLaws.{ClearedTo}
use Rattle.crq_host.proofs.merging.clear.Given as goal

abbrev pub invariant-loop-i : goal.invariant-loop-i
invariant-loop-i g l = ClearedTo l.i l.fn.workers l.workers
