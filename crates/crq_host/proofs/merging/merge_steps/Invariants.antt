use Rattle.std.proofs.Common.{◌≡◌, ◌++◌, take}
use Rattle.crq_host.specs.Shares.{all_steps}
use Rattle.crq_host.proofs.merging.merge_steps.Given as goal

abbrev pub invariant-loop-worker : goal.invariant-loop-worker
invariant-loop-worker g l = l.log.items ≡ l.fn.log.items ++ all_steps (take l.worker-index l.workers)
