use Rattle.std.proofs.Common.{ℕ}
use Rattle.crq_rows.specs.Passes.{caller, IsPassOf}
use Rattle.crq_rows.specs.Owning.{IsOwning, own_left}
use Rattle.crq_queue.specs.Runs.{MayRun}
use Rattle.crq_queue.proofs.RecoverRuns.{LooksFrom, OwnGoes}
use Rattle.crq_queue.proofs.runs.own_row.Given as goal

abbrev pub invariant-loop-row : goal.invariant-loop-row
invariant-loop-row l = IsPassOf l.table l.pass × IsOwning l.table.start.layout l.op (caller l.table l.pass) × ((n budget : ℕ) → MayRun l.table n budget l.fn.pass → OwnGoes l.table n budget l.fn.pass l.pass) × LooksFrom l.table l.op l.fn.pass l.pass

abbrev pub decreases-loop-row : goal.decreases-loop-row
decreases-loop-row l = own_left l.table.start.layout l.op
