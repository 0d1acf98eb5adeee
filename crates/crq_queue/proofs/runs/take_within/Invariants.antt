use Rattle.std.proofs.Common.{ℕ}
use Rattle.crq_base.specs.declared.words.Control.{Control}
use Rattle.crq_rows.specs.Passes.{caller}
use Rattle.crq_list.specs.Taking.{IsTaking, taking_left}
use Rattle.crq_queue.proofs.RunLoops.{TakeGoes, all_left}
use Rattle.crq_queue.proofs.runs.take_within.Given as goal

abbrev pub invariant-loop-op : goal.invariant-loop-op
invariant-loop-op l = (n : ℕ) (x : Control) → IsTaking n l.table x l.fn.op (caller l.table l.fn.pass) → TakeGoes l.table n l.budget x l.fn.op l.op l.fn.pass l.pass

abbrev pub decreases-loop-op : goal.decreases-loop-op
decreases-loop-op l = all_left l.budget l.pass.turns (taking_left l.op (caller l.table l.pass))
