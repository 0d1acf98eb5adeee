use Rattle.std.proofs.Common.{◌≡◌, take}
use Rattle.crq_sim.specs.Runs.{first_states}
use Rattle.crq_sim.proofs.run.states_of.Given as goal

abbrev pub invariant-loop-object : goal.invariant-loop-object
invariant-loop-object l = l.states.items ≡ first_states (take l.object-index l.objects)
