use Rattle.std.proofs.Common.{◌≡◌, ℕ, false, None}
use Rattle.crq_base.specs.declared.words.Control.{Control}
use Rattle.crq_rows.specs.Passes.{caller, IsPassOf}
use Rattle.crq_list.specs.declared.parts.Progress.{Progress}
use Rattle.crq_list.specs.declared.parts.Progress.TheVariants.{More}
use Rattle.crq_list.specs.declared.take.MarkEnd.{MarkEnd}
use Rattle.crq_list.specs.declared.take.TakeOp.{TakeOp}
use Rattle.crq_list.specs.Taking.{IsTaking, TakeStepped, take_exchanges, taking_left}
use Rattle.crq_list.proofs.Stretching.{Goes}
use Rattle.crq_list.proofs.take.TakeOp.run_search.Given as goal

abbrev pub invariant-loop-op : goal.invariant-loop-op
invariant-loop-op l = IsPassOf l.table l.pass × (l.pass.debts.cut ≡ None) × (take_exchanges l.op ≡ false) × ((n : ℕ) (x : Control) → IsTaking n l.table x l.fn.self (caller l.table l.fn.pass)
    → IsTaking n l.table x l.op (caller l.table l.pass) × Goes TakeOp (Progress MarkEnd) (TakeStepped n l.table x) take_exchanges More l.fn.self l.op l.fn.pass l.pass)

abbrev pub decreases-loop-op : goal.decreases-loop-op
decreases-loop-op l = taking_left l.op (caller l.table l.pass)
