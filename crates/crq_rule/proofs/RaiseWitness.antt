-- From a new table steps lead to a state in which a take has raised current.
use Rattle.std.proofs.Common.{inl, true, ◌<◌, [], Some, None, refl, arith}
use Rattle.crq_base.specs.declared.words.Control.{Control}
use Rattle.crq_base.specs.declared.words.Current.{Current}
use Rattle.crq_rule.specs.Lists.{put}
use Rattle.crq_rule.specs.Core.{Core, caller_of}
use Rattle.crq_rule.specs.Ranks.{at_head, bucket, first_tick, head_for}
use Rattle.crq_rule.specs.Opening.{opening_core}
use Rattle.crq_rule.specs.ListKinds.{in_bucket}
use Rattle.crq_rule.specs.CurrentKinds.{MayRaise}
use Rattle.crq_rule.specs.Invariant.{Inv}
use Rattle.crq_rule.specs.Steps.{epoch_load, enter, confirm, begin, current_load, walk, raise, After}
use Rattle.crq_rule.proofs.Keeps.{keeps}
use Rattle.crq_rule.proofs.Witnessing.{start, old}

-- the first caller turns its guard on, begins a take, loads current for it, and finds the list of its bucket empty

abbrev pub guarded : Core
guarded = After confirm (After (enter 0) (After epoch_load (opening_core start) 0) 0) 0

abbrev viewing : Core
viewing = After (current_load true) (After begin guarded 0) 0

abbrev walking : Core
walking = After (walk (at_head 32768) in_bucket) viewing 0

abbrev table : Control
table = (opening_core start).words.control

abbrev before : Current
before = (opening_core start).words.current

pub guarded_inv : Inv guarded
unfolding put
guarded_inv = keeps confirm (After (enter 0) (After epoch_load (opening_core start) 0) 0) 0 (omega arith) (0, refl)
    (keeps (enter 0) (After epoch_load (opening_core start) 0) 0 (omega arith) (refl, inl refl) (keeps epoch_load (opening_core start) 0 (omega arith) tt old))

viewing_inv : Inv viewing
unfolding put
viewing_inv = keeps (current_load true) (After begin guarded 0) 0 (omega arith) (([], 0, refl), (table, refl, refl)) (keeps begin guarded 0 (omega arith) tt guarded_inv)

walking_inv : Inv walking
unfolding put bucket head_for
walking_inv = keeps (walk (at_head 32768) in_bucket) viewing 0 (omega arith) (tt, omega arith, (record { table = table; current = before }, refl, refl)) viewing_inv

may_raise : MayRaise table before (caller_of walking 0)
unfolding put bucket first_tick head_for
may_raise = record { sight = refl; walks = (record { head = 32768; at = 0; bucket = Some 0; least = None }, refl, refl, inl refl); room = omega arith }

pub raised_state : (c : Core) × Inv c × (0 < c.words.current.tick)
unfolding bucket first_tick
raised_state = (After (raise table before) walking 0, keeps (raise table before) walking 0 (omega arith) (may_raise, refl) walking_inv, omega arith)
