use Rattle.std.proofs.Common.{◌≡◌, ◌+◌, ◌%◌, ◌^◌, take}
use Rattle.std.specs.List.{sum_by}
use Rattle.crq_printer.specs.Texts.{step_sum}
use Rattle.crq_printer.proofs.summary.sum_after.Given as goal

abbrev pub invariant-loop-step : goal.invariant-loop-step
invariant-loop-step l = l.sum ≡ (l.fn.so_far + sum_by step_sum (take l.step-index l.steps)) % 2 ^ 64
