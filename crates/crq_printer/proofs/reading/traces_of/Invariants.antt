use Rattle.std.proofs.Common.{length}
use Rattle.crq_printer.proofs.ReadingLaws.{IsProgress}
use Rattle.crq_printer.proofs.reading.traces_of.Given as goal

abbrev pub invariant-loop-behind : goal.invariant-loop-behind
invariant-loop-behind l = IsProgress l.text l.rest l.traces.items l.total l.line

abbrev pub decreases-loop-behind : goal.decreases-loop-behind
decreases-loop-behind l = length l.rest
