use Rattle.std.proofs.Common.{◌≡◌, map}
use Rattle.std.specs.List.{range_with_len}
use Rattle.crq_sim.specs.Generated.{state_after_draws, generated_object}
use Rattle.crq_sim.proofs.generated.phold_objects.Given as goal

abbrev pub invariant-loop-i : goal.invariant-loop-i
invariant-loop-i l = (l.objects ≡ map (generated_object l.seed) (range_with_len 0 l.i)) × (l.state ≡ state_after_draws l.seed l.i)
