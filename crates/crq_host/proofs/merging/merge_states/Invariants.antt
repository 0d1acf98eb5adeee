use Rattle.std.proofs.Common.{take}
use Rattle.crq_host.specs.Shares.{AreSet, all_changed}
use Rattle.crq_host.proofs.merging.merge_states.Given as goal

abbrev pub invariant-loop-worker : goal.invariant-loop-worker
invariant-loop-worker g l = AreSet (all_changed (take l.worker-index l.workers)) l.fn.states.items l.states.items
