-- From a new table steps lead to a state in the middle of a move: a row of the open table is frozen, and its copy in the next table is bound and not valid yet.
use Rattle.std.proofs.Common.{inl, inr, ◌≡◌, ⊎_elim, ℕ, true, false, ◌<◌, List, [], ◌∷◌, Some, None, sym, refl, subst, arith}
use Rattle.crq_base.specs.declared.event.Event.{Event}
use Rattle.crq_base.specs.declared.words.Control.{Control}
use Rattle.crq_base.specs.declared.words.Link.{Link}
use Rattle.crq_base.specs.declared.words.Mark.TheVariants.{Val, Inv as Invalid, Mov}
use Rattle.crq_rule.specs.declared.debts.SettleDebt.{SettleDebt}
use Rattle.crq_rule.specs.declared.debts.CopyDebt.{CopyDebt}
use Rattle.crq_rule.specs.declared.view.Stand.{Stand}
use Rattle.crq_rule.specs.declared.view.Help.{Help}
use Rattle.crq_rule.specs.Lists.{put}
use Rattle.crq_rule.specs.Core.{Core}
use Rattle.crq_rule.specs.Ranks.{at_head, bucket, head_for}
use Rattle.crq_rule.specs.ListKinds.{no_take, new_link, no_twin, new_time, new_source, new_sequence, new_load}
use Rattle.crq_rule.specs.Invariant.{Inv}
use Rattle.crq_rule.specs.Stated.{HasTwin}
use Rattle.crq_rule.specs.Steps.{Kind, current_load, control_load, write, link, settle_now, announce, prepare, freeze_head, walk, freeze_row, twin_load, copy, bind, May, After}
use Rattle.crq_rule.proofs.Keeps.{keeps, rest_stays}
use Rattle.crq_rule.proofs.RaiseWitness.{guarded, guarded_inv}

-- the state after the first caller made these steps
abbrev run : List Kind → Core → Core
run [] c = c
run (k ∷ ks) c = run ks (After k c 0)

-- it may make each of them, one after the other
abbrev MayRun : List Kind → Core → Type 0
MayRun [] c = Unit {0}
MayRun (k ∷ ks) c = May k c 0 × MayRun ks (After k c 0)

-- they keep the invariant
run_keeps : (ks : List Kind) (c : Core) → 0 < c.start.layout.workers → MayRun ks c → Inv c → Inv (run ks c)
run_keeps [] c b may inv = inv
run_keeps (k ∷ ks) c b may inv = run_keeps ks (After k c 0) (subst (λ s. 0 < s.layout.workers) (sym (rest_stays k c 0).0) b) may.1 (keeps k c 0 b may.0 inv)

-- The first caller, whose guard is on, gets a permit, finds the table open, and writes an event into its first row

abbrev table : Control
table = record { generation = 1; moving = false; log = 3; shift = 0; new_log = 0; new_shift = 0 }

abbrev event : Event
event = record { time = 1; src = 0; seq = 0; dst = 0; load = 0 }

abbrev empty_head : Link
empty_head = record { generation = 1; row = 0; mark = Val }

abbrev writes : ℕ → Link → List Kind
writes r l = write r (new_link l) ∷ write r no_twin ∷ write r (new_time 1 0) ∷ write r (new_source 0) ∷ write r (new_sequence 0) ∷ write r (new_load 0) ∷ []

abbrev ready : Core
ready = run (current_load false ∷ control_load ∷ []) guarded

abbrev written : Core
written = run (writes 1 empty_head) ready

ready_inv : Inv ready
unfolding put
ready_inv = run_keeps (current_load false ∷ control_load ∷ []) guarded (omega arith) (tt, (tt, tt)) guarded_inv

written_inv : Inv written
unfolding put
written_inv = run_keeps (writes 1 empty_head) ready (omega arith)
    ((inl refl, record { generation = omega arith; row = omega arith }), ((inl refl, tt), ((inl refl, (omega arith, omega arith)), ((inl refl, omega arith), ((inl refl, omega arith), ((inl refl, omega arith), tt)))))) ready_inv

-- it puts the event, which lies ahead of current

abbrev q : ℕ
q = 32769

abbrev owed : SettleDebt
owed = record { event = event; generation = 1; shift = 0 }

abbrev puts_event : List Kind
puts_event = link (at_head q) empty_head 1 event ∷ settle_now owed ∷ []

abbrev put_core : Core
put_core = run puts_event written

may_link : May (link (at_head q) empty_head 1 event) written 0
unfolding put bucket head_for
may_link = (
  (
    table,
    record {
      on = tt;
      settled = refl;
      permit = refl;
      control = refl;
      in_hand_is = inl refl;
      event = record { time = omega arith; dst = omega arith; src = omega arith; seq = omega arith; load = omega arith };
      expected = (record { generation = omega arith; row = omega arith }, refl, refl);
      written = record { link_is = inr (inr (inr (inr (inr (inl refl))))); twin_is = inr (inr (inr (inr (inl refl)))); time_is = inr (inr (inr (inl refl))); source_is = inr (inr (inl refl)); sequence_is = inr (inl refl); load_is = inl refl };
      after = (omega arith, refl);
      before = inl refl;
      fresh = (refl, λ _ _ i _ _. ⊎_elim (λ n. absurd n) (λ n. absurd n) i);
    },
  ),
  refl,
)

may_settle : May (settle_now owed) (After (link (at_head q) empty_head 1 event) written 0) 0
unfolding put bucket
may_settle = (refl, refl)

put_inv : Inv put_core
unfolding put
put_inv = run_keeps puts_event written (omega arith) (may_link, (may_settle, tt)) written_inv

-- It announces the next table, and prepares the one head of that

abbrev moving : Control
moving = record table { moving = true }

abbrev shut : Link
shut = record { generation = 0; row = 0; mark = Mov }

abbrev moves : List Kind
moves = announce table 0 0 ∷ control_load ∷ prepare moving 0 shut ∷ []

abbrev moving_core : Core
moving_core = run moves put_core

may_announce : May (announce table 0 0) put_core 0
unfolding put
may_announce = (record { moves = refl; control = refl; steady = refl; room = omega arith; log_fits = omega arith; shift_fits = omega arith; settled = refl; permit = refl }, refl)

may_prepare : May (prepare moving 0 shut) (run (announce table 0 0 ∷ control_load ∷ []) put_core) 0
unfolding put
may_prepare = (record { control = refl; moving = refl; head = (omega arith, omega arith); older = omega arith }, refl)

moving_inv : Inv moving_core
unfolding put
moving_inv = run_keeps moves put_core (omega arith) (may_announce, (tt, (may_prepare, tt))) put_inv

-- it freezes the old heads, each of which is empty but the event's

abbrev first_link : Link
first_link = record { generation = 1; row = 1; mark = Val }

-- what it has passed, where it froze n heads, of which these are empty in order
abbrev helping : ℕ → ℕ → Help
helping n m = record { generation = 1; prepared = 1; frozen = n; emptied = m; epoch = None; pin = None }

abbrev freezes : List Kind
freezes = freeze_head moving 32768 empty_head ∷ freeze_head moving q first_link ∷ freeze_head moving 32770 empty_head ∷ freeze_head moving 32771 empty_head ∷
    freeze_head moving 32772 empty_head ∷ freeze_head moving 32773 empty_head ∷ freeze_head moving 32774 empty_head ∷ freeze_head moving 32775 empty_head ∷ []

abbrev frozen_core : Core
frozen_core = run freezes moving_core

may_freeze : MayRun freezes moving_core
unfolding put
may_freeze = (
  (record { control = refl; moving = refl; helps = (helping 0 0, refl, refl); head = (omega arith, omega arith); present = refl; now = refl }, refl),
  (
    (record { control = refl; moving = refl; helps = (helping 1 1, refl, refl); head = (omega arith, omega arith); present = refl; now = refl }, refl),
    (
      (record { control = refl; moving = refl; helps = (helping 2 1, refl, refl); head = (omega arith, omega arith); present = refl; now = refl }, refl),
      (
        (record { control = refl; moving = refl; helps = (helping 3 1, refl, refl); head = (omega arith, omega arith); present = refl; now = refl }, refl),
        (
          (record { control = refl; moving = refl; helps = (helping 4 1, refl, refl); head = (omega arith, omega arith); present = refl; now = refl }, refl),
          (
            (record { control = refl; moving = refl; helps = (helping 5 1, refl, refl); head = (omega arith, omega arith); present = refl; now = refl }, refl),
            (
              (record { control = refl; moving = refl; helps = (helping 6 1, refl, refl); head = (omega arith, omega arith); present = refl; now = refl }, refl),
              (
                (record { control = refl; moving = refl; helps = (helping 7 1, refl, refl); head = (omega arith, omega arith); present = refl; now = refl }, refl),
                tt,
              ),
            ),
          ),
        ),
      ),
    ),
  ),
)

frozen_inv : Inv frozen_core
frozen_inv = run_keeps freezes moving_core (omega arith) may_freeze moving_inv

-- It finds the event's row to be the first of its frozen head, freezes it, and finds that it has no copy

abbrev frozen_row : Link
frozen_row = record { generation = 1; row = 0; mark = Mov }

abbrev found_stand : Stand
found_stand = record { row = 1; event = event; generation = 1; last = None; twin = None; valid = false; front = Some q }

abbrev stand : Stand
stand = record found_stand { last = Some frozen_row; valid = true }

abbrev looks_on : List Kind
looks_on = walk (at_head q) no_take ∷ freeze_row 1 empty_head ∷ twin_load 1 ∷ []

abbrev looked_core : Core
looked_core = run looks_on frozen_core

may_look_on : MayRun looks_on frozen_core
unfolding put
may_look_on = (
  (tt, omega arith, tt),
  (
    (record { on = (found_stand, inl refl, refl, (q, omega arith, refl)); present = refl }, refl),
    (
      record { none = refl; on = (stand, inl refl, refl, (frozen_row, refl, refl)) },
      tt,
    ),
  ),
)

looked_inv : Inv looked_core
looked_inv = run_keeps looks_on frozen_core (omega arith) may_look_on frozen_inv

-- It writes a copy into its second row, links that, and binds it

abbrev next_head : Link
next_head = record { generation = 2; row = 0; mark = Val }

abbrev copied_core : Core
copied_core = run (writes 2 (record next_head { mark = Invalid })) looked_core

may_write : MayRun (writes 2 (record next_head { mark = Invalid })) looked_core
unfolding put
may_write = ((inl refl, record { generation = omega arith; row = omega arith }), ((inl refl, tt), ((inl refl, (omega arith, omega arith)), ((inl refl, omega arith), ((inl refl, omega arith), ((inl refl, omega arith), tt))))))

copied_inv : Inv copied_core
copied_inv = run_keeps (writes 2 (record next_head { mark = Invalid })) looked_core (omega arith) may_write looked_inv

abbrev debt : CopyDebt
debt = record { old = 1; copy = 2; event = event; generation = 2; head = 0; last = frozen_row }

abbrev copies : List Kind
copies = copy (at_head 0) next_head 2 stand frozen_row ∷ bind debt ∷ []

abbrev bound_core : Core
bound_core = run copies copied_core

may_copy : May (copy (at_head 0) next_head 2 stand frozen_row) copied_core 0
unfolding put bucket head_for
may_copy = (
  (
    moving,
    record {
      on = tt;
      none = refl;
      room = refl;
      control = refl;
      moving = refl;
      helps = (helping 8 1, refl, refl);
      old = refl;
      frozen = (refl, refl);
      in_hand_is = inl refl;
      event = record { time = omega arith; dst = omega arith; src = omega arith; seq = omega arith; load = omega arith };
      expected = (record { generation = omega arith; row = omega arith }, refl, refl);
      written = record { link_is = inr (inr (inr (inr (inr (inl refl))))); twin_is = inr (inr (inr (inr (inl refl)))); time_is = inr (inr (inr (inl refl))); source_is = inr (inr (inl refl)); sequence_is = inr (inl refl); load_is = inl refl };
      after = (omega arith, refl);
      before = inl refl;
    },
  ),
  refl,
)

may_bind : May (bind debt) (After (copy (at_head 0) next_head 2 stand frozen_row) copied_core 0) 0
unfolding put bucket head_for
may_bind = (refl, refl)

bound_inv : Inv bound_core
bound_inv = run_keeps copies copied_core (omega arith) (may_copy, (may_bind, tt)) copied_inv

has_twin : HasTwin bound_core 1 2
unfolding put bucket head_for
has_twin = record { row = (omega arith, omega arith); in_list = (q, refl); frozen = refl; twin = refl; some = omega arith }

-- the copy isn't valid yet
is_invalid : (bound_core.words.link 2).mark ≡ Invalid
unfolding put
is_invalid = refl

pub moving_state : (c : Core) × Inv c × ((r : ℕ) × (t : ℕ) × HasTwin c r t × ((c.words.link t).mark ≡ Invalid))
moving_state = (bound_core, bound_inv, (1, 2, has_twin, is_invalid))
