use Rattle.std.proofs.Common.{ℕ}
use Rattle.crq_rows.specs.Recovering.{recover_left}
use Rattle.crq_queue.specs.Runs.{MayRun}
use Rattle.crq_queue.proofs.RecoverRuns.{RecoverGoes}
use Rattle.crq_queue.proofs.runs.recover_within.Given as goal

abbrev pub invariant-loop-op : goal.invariant-loop-op
invariant-loop-op l = (n : ℕ) → MayRun l.table n l.budget l.fn.pass → RecoverGoes l.table n l.budget l.op l.fn.pass l.pass

abbrev pub decreases-loop-op : goal.decreases-loop-op
decreases-loop-op l = recover_left l.table.start.layout l.op
