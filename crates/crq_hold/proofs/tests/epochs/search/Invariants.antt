use Rattle.crq_rows.specs.Passes.{caller, IsPassOf}
use Rattle.crq_rows.specs.Owning.{IsOwning}
use Rattle.crq_hold.proofs.tests.epochs.search.Given as goal

abbrev pub invariant-loop-i : goal.invariant-loop-i
invariant-loop-i l = IsPassOf l.table l.pass × IsOwning l.table.start.layout l.op (caller l.table l.pass)
