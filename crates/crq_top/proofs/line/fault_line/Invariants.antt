use Rattle.std.proofs.Common.{◌≡◌, ◌≤◌, ◌+◌, ◌*◌, ◌++◌, length, drop}
use Rattle.crq_top.specs.Lines.{fault_line, numbers_after}
use Rattle.crq_top.proofs.line.fault_line.Given as goal

abbrev pub invariant-loop-number : goal.invariant-loop-number
invariant-loop-number l = record {
  rest : l.line ++ numbers_after (drop l.number-index l.numbers) ≡ fault_line l.numbers;
  short : length l.line ≤ 5 + 21 * l.number-index;
}
