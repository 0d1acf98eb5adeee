use Rattle.crq_host.proofs.MergeLaws.{Giving}
use Rattle.crq_host.proofs.merging.give_sends.Given as goal

abbrev pub invariant-loop-at : goal.invariant-loop-at
invariant-loop-at g l = Giving l.span l.from l.at l.fn.workers l.workers
