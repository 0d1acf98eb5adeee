use Rattle.std.proofs.Common.{◌≡◌, max, take, fold}
use Rattle.crq_sim.specs.declared.traces.Step.{Step}
use Rattle.crq_printer.proofs.summary.latest.Given as goal

abbrev pub invariant-loop-step : goal.invariant-loop-step
invariant-loop-step l = l.latest ≡ fold (λ t (s : Step). max t s.event.time) l.fn.so_far (take l.step-index l.steps)
