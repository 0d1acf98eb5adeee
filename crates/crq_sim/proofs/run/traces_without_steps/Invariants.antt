use Rattle.std.proofs.Common.{◌≡◌, take, []}
use Rattle.crq_sim.specs.Runs.{traces_of}
use Rattle.crq_sim.proofs.run.traces_without_steps.Given as goal

abbrev pub invariant-loop-object : goal.invariant-loop-object
invariant-loop-object l = l.traces.items ≡ traces_of (take l.object-index l.objects) []
