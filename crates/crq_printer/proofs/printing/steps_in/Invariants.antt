use Rattle.std.proofs.Common.{◌≡◌, ◌<◌, ◌^◌, take}
use Rattle.crq_printer.specs.Texts.{steps_in}
use Rattle.crq_printer.proofs.printing.steps_in.Given as goal

abbrev pub invariant-loop-trace : goal.invariant-loop-trace
invariant-loop-trace l = (l.total < 2 ^ 64) × (l.total ≡ steps_in (take l.trace-index l.traces))
