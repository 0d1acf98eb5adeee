use Rattle.std.proofs.Common.{ℕ}
use Rattle.crq_base.specs.declared.words.Control.{Control}
use Rattle.crq_rows.specs.Passes.{caller, IsPassOf}
use Rattle.crq_list.specs.declared.parts.Progress.{Progress}
use Rattle.crq_list.specs.declared.parts.Progress.TheVariants.{More}
use Rattle.crq_list.specs.declared.take.MarkEnd.{MarkEnd}
use Rattle.crq_list.specs.declared.take.TakeOp.{TakeOp}
use Rattle.crq_list.specs.declared.take.TakeState.TheVariants.{Reading}
use Rattle.crq_list.specs.Taking.{IsTaking, TakeStepped, take_exchanges, taking_left}
use Rattle.crq_list.proofs.Stretching.{Goes}
use Rattle.crq_list.proofs.take.TakeOp.read_event.Given as goal

abbrev pub invariant-loop-next : goal.invariant-loop-next
invariant-loop-next l = IsPassOf l.table l.pass × ((n : ℕ) (x : Control) → IsTaking n l.table x (record l.self { state = Reading l.fn.row l.fn.link l.fn.start l.fn.unread l.fn.first }) (caller l.table l.fn.pass)
    → IsTaking n l.table x (record l.self { state = Reading l.row l.link l.place l.event l.first }) (caller l.table l.pass)
    × Goes TakeOp (Progress MarkEnd) (TakeStepped n l.table x) take_exchanges More (record l.self { state = Reading l.fn.row l.fn.link l.fn.start l.fn.unread l.fn.first }) (record l.self { state = Reading l.row l.link l.place l.event l.first }) l.fn.pass l.pass)

abbrev pub decreases-loop-next : goal.decreases-loop-next
decreases-loop-next l = taking_left (record l.self { state = Reading l.row l.link l.place l.event l.first }) (caller l.table l.pass)
