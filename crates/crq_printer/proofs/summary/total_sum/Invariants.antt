use Rattle.std.proofs.Common.{◌≡◌, ◌%◌, ◌^◌, take}
use Rattle.std.specs.List.{sum_by}
use Rattle.crq_printer.specs.Texts.{all_steps, step_sum}
use Rattle.crq_printer.proofs.summary.total_sum.Given as goal

abbrev pub invariant-loop-trace : goal.invariant-loop-trace
invariant-loop-trace l = l.sum ≡ sum_by step_sum (all_steps (take l.trace-index l.traces)) % 2 ^ 64
