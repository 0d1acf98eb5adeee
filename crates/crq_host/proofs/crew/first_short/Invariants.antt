use Rattle.std.proofs.Common.{◌≡◌, ℕ, ◌<◌, Some, None, slice_get}
use Rattle.crq_host.specs.Workers.{shorts_of}
use Rattle.crq_host.proofs.crew.first_short.Given as goal

abbrev pub invariant-loop-worker : goal.invariant-loop-worker
invariant-loop-worker g l = (k : ℕ) (short : _) → k < l.worker-index → slice_get (shorts_of l.workers) k ≡ Some short → short ≡ None
