use Rattle.std.proofs.Common.{◌≡◌, take}
use Rattle.crq_printer.specs.Texts.{all_steps, last_time}
use Rattle.crq_printer.proofs.summary.last_time.Given as goal

abbrev pub invariant-loop-trace : goal.invariant-loop-trace
invariant-loop-trace l = l.last ≡ last_time (all_steps (take l.trace-index l.traces))
