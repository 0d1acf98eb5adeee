use Rattle.std.proofs.Common.{ℕ}
use Rattle.crq_base.specs.declared.words.Control.{Control}
use Rattle.crq_rows.specs.Passes.{caller, IsPassOf}
use Rattle.crq_list.specs.declared.parts.Progress.{Progress}
use Rattle.crq_list.specs.declared.parts.Progress.TheVariants.{More}
use Rattle.crq_list.specs.declared.insert.InsertOp.{InsertOp}
use Rattle.crq_list.specs.declared.insert.InsertEnd.{InsertEnd}
use Rattle.crq_list.specs.declared.insert.InsertState.TheVariants.{Writing}
use Rattle.crq_list.specs.Inserting.{IsInserting, InsertStepped, insert_exchanges, state_left}
use Rattle.crq_list.proofs.Stretching.{Goes}
use Rattle.crq_list.proofs.insert.write_words.Given as goal

abbrev pub invariant-loop-next : goal.invariant-loop-next
invariant-loop-next l = IsPassOf l.table l.pass × ((n : ℕ) (x : Control) → IsInserting n l.table x (record l.op { state = Writing l.fn.first }) (caller l.table l.fn.pass)
    → IsInserting n l.table x (record l.op { state = Writing l.place }) (caller l.table l.pass)
    × Goes InsertOp (Progress InsertEnd) (InsertStepped n l.table x) insert_exchanges More (record l.op { state = Writing l.fn.first }) (record l.op { state = Writing l.place }) l.fn.pass l.pass)

abbrev pub decreases-loop-next : goal.decreases-loop-next
decreases-loop-next l = state_left (Writing l.place) (caller l.table l.pass)
