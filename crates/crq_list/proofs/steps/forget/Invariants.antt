use Rattle.std.proofs.Common.{◌≡◌, ◌≢◌, ◌<◌, ℕ, slice_index, length}
use Rattle.crq_list.proofs.steps.forget.Given as goal

abbrev pub invariant-loop-at : goal.invariant-loop-at
invariant-loop-at l = (l.free ≡ l.fn.free) × (l.at-end ≡ length l.free.items) × ((k : ℕ) → k < l.at → slice_index l.free.items k ≢ l.row)
