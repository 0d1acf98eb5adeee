use Rattle.std.proofs.Common.{◌≡◌, take}
use Rattle.crq_sim.specs.Runs.{traces_of}
use Rattle.crq_sim.proofs.run.gathered.Given as goal

abbrev pub invariant-loop-step : goal.invariant-loop-step
invariant-loop-step l = l.traces.items ≡ traces_of l.objects (take l.step-index l.log)
