use Rattle.std.proofs.Common.{ℕ}
use Rattle.crq_base.specs.declared.words.Control.{Control}
use Rattle.crq_rows.specs.Passes.{caller, IsPassOf}
use Rattle.crq_list.specs.declared.seek.SeekState.{SeekState}
use Rattle.crq_list.specs.declared.seek.SeekState.TheVariants.{Passing}
use Rattle.crq_list.specs.declared.seek.SeekEnd.{SeekEnd}
use Rattle.crq_list.specs.declared.parts.Progress.{Progress}
use Rattle.crq_list.specs.declared.parts.Progress.TheVariants.{More}
use Rattle.crq_list.specs.Seeking.{IsSeeking, SeekStepped, seek_exchanges, seek_left}
use Rattle.crq_list.proofs.Stretching.{Goes}
use Rattle.crq_list.proofs.stretch.pass_rows.Given as goal

abbrev pub invariant-loop-next : goal.invariant-loop-next
invariant-loop-next l = IsPassOf l.table l.pass × ((n : ℕ) (x : Control) → IsSeeking n l.table x l.sought (Passing l.fn.before) (caller l.table l.fn.pass)
    → IsSeeking n l.table x l.sought (Passing l.before) (caller l.table l.pass) × Goes SeekState (Progress SeekEnd) (SeekStepped n l.table x l.sought) seek_exchanges More (Passing l.fn.before) (Passing l.before) l.fn.pass l.pass)

abbrev pub decreases-loop-next : goal.decreases-loop-next
decreases-loop-next l = seek_left (Passing l.before) (caller l.table l.pass)
