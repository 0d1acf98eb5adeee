use Rattle.crq_rows.specs.Passes.{caller, IsPassOf}
use Rattle.crq_rows.specs.Recovering.{IsRecovering}
use Rattle.crq_hold.proofs.tests.epochs.recover.Given as goal

abbrev pub invariant-loop-i : goal.invariant-loop-i
invariant-loop-i l = IsPassOf l.table l.pass × IsRecovering l.table.start.layout l.op (caller l.table l.pass)
