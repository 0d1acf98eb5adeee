use Rattle.std.proofs.Common.{◌≡◌, ℕ, ◌+◌, ◌*◌, map}
use Rattle.std.specs.List.{range_with_len}
use Rattle.crq_sim.specs.Generated.{state_after_draws, generated_start}
use Rattle.crq_sim.proofs.generated.drawn_starts.Given as goal

abbrev pub invariant-loop-i : goal.invariant-loop-i
invariant-loop-i l = (seed : ℕ) → l.fn.state ≡ state_after_draws seed l.objects
    → (l.starts ≡ map (generated_start seed l.objects) (range_with_len 0 l.i)) × (l.state ≡ state_after_draws seed (l.objects + 2 * l.i))
