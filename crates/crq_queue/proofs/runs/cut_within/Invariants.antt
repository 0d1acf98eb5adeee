use Rattle.std.proofs.Common.{ℕ}
use Rattle.crq_base.specs.declared.words.Control.{Control}
use Rattle.crq_rows.specs.Passes.{caller}
use Rattle.crq_list.specs.Seeking.{seek_left}
use Rattle.crq_list.specs.Cutting.{IsCutting}
use Rattle.crq_queue.proofs.RunLoops.{CutGoes, all_left}
use Rattle.crq_queue.proofs.runs.cut_within.Given as goal

abbrev pub invariant-loop-op : goal.invariant-loop-op
invariant-loop-op l = (n : ℕ) (x : Control) → IsCutting n l.table x l.fn.op (caller l.table l.fn.pass) → CutGoes l.table n l.budget x l.fn.op l.op l.fn.pass l.pass

abbrev pub decreases-loop-op : goal.decreases-loop-op
decreases-loop-op l = all_left l.budget l.pass.turns (seek_left l.op.state (caller l.table l.pass))
