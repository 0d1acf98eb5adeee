-- Reading the event of a row, word by word.
use Rattle.std.proofs.Common.{◌≡◌, inl, inr, ℕ, ◌+◌, ◌-◌, ◌*◌, ◌/◌, ◌%◌, ◌^◌, ◌<◌, ◌≤◌, eqb, false, List, [], ◌∷◌, Some, None, refl, sym, ap, ◌∙◌, subst, arith}
use Rattle.std.proofs.Math.Nat.{one-mul, mod-eq_of_lt}
use Rattle.std.proofs.lemmas.Bool.{cond_both, eqb-true, false≢true}
use Rattle.std.proofs.lemmas.Nat.{pow_below}
use Rattle.std.proofs.lemmas.Option.{same_Some}
use Rattle.crq_base.specs.declared.event.Event.{Event}
use Rattle.crq_base.specs.declared.kinds.StepKind.TheVariants.{Read as ReadKind}
use Rattle.crq_base.specs.declared.words.Link.{Link}
use Rattle.crq_base.specs.declared.words.Mark.{Mark}
use Rattle.crq_base.specs.declared.words.Mark.TheVariants.{Inv}
use Rattle.crq_base.specs.declared.words.Control.{Control}
use Rattle.crq_base.specs.Words.{IsControl, link_word}
use Rattle.crq_base.specs.Lists.{In}
use Rattle.crq_rule.specs.declared.pass.Pass.{Pass}
use Rattle.crq_rule.specs.declared.pass.Table.{Table}
use Rattle.crq_rule.specs.declared.view.Made.{Made}
use Rattle.crq_rule.specs.declared.view.Stand.{Stand}
use Rattle.crq_rule.specs.declared.view.Caller.{Caller}
use Rattle.crq_rule.specs.Places.{index}
use Rattle.crq_rule.specs.Parts.{IsEvent}
use Rattle.crq_rule.specs.Kinds.{makes}
use Rattle.crq_rule.specs.Ranks.{head_for, bucket, next_list, shape_of, Cell, at_head, at_row, cell_place}
use Rattle.crq_rule.specs.Helping.{old_head}
use Rattle.crq_rule.specs.ListKinds.{StandsOn, event_word, row_place}
use Rattle.crq_rule.specs.CopyKinds.{stand_on}
use Rattle.crq_rows.specs.Passes.{caller, IsPassOf, Stepped, load_made}
use Rattle.crq_rows.specs.Reading.{stays}
use Rattle.crq_rows.proofs.Knowing.{known_else}
use Rattle.crq_list.specs.declared.parts.Progress.{Progress}
use Rattle.crq_list.specs.declared.parts.Progress.TheVariants.{More}
use Rattle.crq_list.specs.Known.{turns_after}
use Rattle.crq_list.proofs.SeekLaws.{IsCell, event_apart}
use Rattle.crq_move.specs.declared.parts.PartEnd.{PartEnd}
use Rattle.crq_move.specs.declared.empty.MoveState.{MoveState}
use Rattle.crq_move.specs.declared.empty.MoveState.TheVariants.{Front, Discard, Read}
use Rattle.crq_move.specs.declared.empty.MoveOp.{MoveOp}
use Rattle.crq_move.specs.Reads.{IsRead}
use Rattle.crq_move.specs.Helpers.{Knows}
use Rattle.crq_move.specs.Emptying.{IsHeadKnown, FoundFirst, IsAt, IsEmptying, NamesAt, state_exchanges, empty_exchanges, state_kind, state_rank, empty_left, EmptyAnswers, EmptyStepped}
use Rattle.crq_move.proofs.Orders.{head_low, old_in}
use Rattle.crq_move.proofs.EmptyLaws.{nothing_aside, goes_on, empty_stepped}

none_some : (s : Stand) → None ≡ Some s → ⊥
none_some s e = cc

-- what stands on a row that the caller knows is an event
pub stood_event : (table : Table) (pass : Pass) (r : ℕ) (e : Event) → IsPassOf table pass → StandsOn (caller table pass).position.rows r e → IsEvent e
stood_event table pass r e of on = subst IsEvent on.3 (of.lawful.stands on.0 on.1).1

-- a source fits the field that it is read into
pub source_fits : (e : Event) (w p : ℕ) → IsEvent e → w ≡ event_word e p → p ≡ 3 → w < 2 ^ 32
source_fits e w p event word at = let is = word ∙ ap (event_word e) at in let src = event.src in omega arith

-- one word more was read
module _ (read e : Event) (w p : ℕ) (event : IsEvent e) (word : w ≡ event_word e p) (is : IsRead p read e) where
  pub now_time : p ≡ 2 → IsRead (p + 1) (record read { time = w / 2 ^ 32; dst = w % 2 ^ 32 }) e
  now_time at = let same = word ∙ ap (event_word e) at in let dst = event.dst in record {
    time = λ _. (omega arith, omega arith);
    source = λ more. absurd (omega arith);
    number = λ more. absurd (omega arith);
    load = λ more. absurd (omega arith);
  }

  pub now_source : p ≡ 3 → IsRead (p + 1) (record read { src = w }) e
  now_source at = record {
    time = λ _. is.time (omega arith);
    source = λ _. word ∙ ap (event_word e) at;
    number = λ more. absurd (omega arith);
    load = λ more. absurd (omega arith);
  }

  pub now_number : p ≡ 4 → IsRead (p + 1) (record read { seq = w }) e
  now_number at = record {
    time = λ _. is.time (omega arith);
    source = λ _. is.source (omega arith);
    number = λ _. word ∙ ap (event_word e) at;
    load = λ more. absurd (omega arith);
  }

  pub now_load : p ≡ 5 → IsRead (p + 1) (record read { load = w }) e
  now_load at = record {
    time = λ _. is.time (omega arith);
    source = λ _. is.source (omega arith);
    number = λ _. is.number (omega arith);
    load = λ _. word ∙ ap (event_word e) at;
  }

-- the event's list in the new table, as shifts of 32 bits give it
pub next_number : (x : Control) (e : Event) → IsControl x → (x.generation + 1) % 2 * 32768 + e.time / 2 ^ x.new_shift % (1 * 2 ^ x.new_log % 2 ^ 32) ≡ next_list x e
unfolding head_for bucket
next_number x e bits = ap (λ n. (x.generation + 1) % 2 * 32768 + e.time / 2 ^ x.new_shift % n) (ap (λ n. n % 2 ^ 32) (one-mul (2 ^ x.new_log)) ∙ mod-eq_of_lt (pow_below x.new_log 32 (let low = bits.new_log in omega arith)))

-- an event whose words were all read
pub read_all : (place : ℕ) (read e : Event) → IsRead place read e → 5 < place → e ≡ read
read_all place read e is low = let t = is.time (omega arith) in λ i. record { time = sym t.0 i; dst = sym t.1 i; src = sym (is.source (omega arith)) i; seq = sym (is.number (omega arith)) i; load = sym (is.load low) i }

-- the first stand on a row stands on it
pub first_on : (r : ℕ) (ss : List Stand) (s : Stand) → stand_on r ss ≡ Some s → In s ss × (s.row ≡ r)
first_on r [] s is = absurd (none_some s is)
first_on r (x ∷ xs) s is = cond_both (eqb x.row r) (Some x) (stand_on r xs) (λ o. o ≡ Some s → In s (x ∷ xs) × (s.row ≡ r))
    (λ yes e. let same = same_Some x s e in (inl (sym same), ap (λ (z : Stand). z.row) (sym same) ∙ eqb-true x.row r yes)) (λ _ e. let h = first_on r xs s e in (inr h.0, h.1)) is

add_less : (a b c : ℕ) → b < c → a + b < a + c
add_less a b c low = omega arith

-- less is left of the head
pub less_left : (op : MoveOp) (from to : MoveState) (p q : Caller) → op.state ≡ from → state_rank to q < state_rank from p → empty_left (record op { state = to }) q < empty_left op p
less_left op from to p q is low = let far = (2 ^ op.control.log - op.passed) * 2 ^ 170 in subst (λ z. far + state_rank to q < far + state_rank z p) (sym is) (add_less far (state_rank to q) (state_rank from p) low)

-- the caller stands on the row of which words are to be read
module _ (n : ℕ) (table : Table) (x : Control) (op : MoveOp) (p : Caller) (is : IsEmptying n table x op p) where
  pub front_stands : (l m : Link) (read : Event) (place : ℕ) → op.state ≡ Front l m read place → (e : Event) × StandsOn p.position.rows l.row e
  front_stands l m read place state = let at = subst (λ z. IsAt n table x op.passed z p) state is.at in let t = at.1.0 in let on = first_on l.row p.position.rows t at.1.1.first.on in (t.event, (t, on.0, on.1, refl))

  pub read_stands : (row : ℕ) (last : Link) (read : Event) (place : ℕ) → op.state ≡ Read row last read place → (e : Event) × StandsOn p.position.rows row e
  read_stands row last read place state = let at = subst (λ z. IsAt n table x op.passed z p) state is.at in (at.1.0.event, at.1.1.on)

-- a word of an event was read for an emptying
module _ (n : ℕ) (table : Table) (x : Control) (op : MoveOp) (old new : Pass) (is : IsEmptying n table x op (caller table old)) (row place word : ℕ) (s : Stepped table old new (load_made ReadKind (index table.start.layout (row_place row place)) word) stays) where
  abbrev pub read_made : Made
  read_made = load_made ReadKind (index table.start.layout (row_place row place)) word

  -- what was known of a link stays known
  still : (cell : Cell) (w : ℕ) → 2 ≤ place → 0 < row → IsCell cell → Knows n table (cell_place cell) w (caller table old) → Knows n table (cell_place cell) w (makes read_made (caller table old))
  still cell w low some is_cell known = known_else n (caller table old).made read_made (index table.start.layout (cell_place cell)) is.counted (event_apart table.start.layout row place cell some low is_cell) ∙ known

  still_head : (l : Link) → 2 ≤ place → 0 < row → IsHeadKnown n table x op.passed l (caller table old) → IsHeadKnown n table x op.passed l (makes read_made (caller table old))
  still_head l low some k = let q = old_head x (caller table old).number op.passed in record {
    bits = k.bits;
    frozen = k.frozen;
    some_row = k.some_row;
    known = still (at_head q) (link_word l) low some (head_low x.generation (shape_of x) q is.helper.is_control.log (old_in x (caller table old).number op.passed is.more)) k.known;
  }

  still_first : (l m : Link) (mark : Mark) (t : Stand) → 2 ≤ place → 0 < row → FoundFirst n table x op.passed l m mark t (caller table old) → FoundFirst n table x op.passed l m mark t (makes read_made (caller table old))
  still_first l m mark t low some f = record {
    head = still_head l low some f.head;
    first = record { on = f.first.on; front = f.first.front; now = f.first.now };
    next = f.next;
    mark_is = f.mark_is;
    known = still (at_row l.row) (link_word m) low some tt f.known;
  }

  -- the step is one of the emptying
  pub read_stepped : (op' : MoveOp) (answer : Progress PartEnd) → state_kind op.state ≡ ReadKind → empty_exchanges op ≡ false → EmptyAnswers n table x op op' old new answer → EmptyStepped n table x op op' old new answer
  read_stepped op' answer kind plain answers = empty_stepped n table x op old new is s.is read_made (caller table old) s.part (nothing_aside (caller table old)) op' answer (sym kind) (sym plain) refl (λ yes. absurd (false≢true (sym plain ∙ yes)))
      (ap (λ (p : Pass). p.turns) s.same ∙ ap (λ b. turns_after b old.turns) (sym plain)) (ap (λ (p : Pass). p.number) s.same) (ap (λ (p : Pass). p.debts.settle) s.same) answers

  -- and goes on at the same head
  pub read_on : (state : MoveState) → IsAt n table x op.passed state (makes read_made (caller table old)) → IsEmptying n table x (record op { state = state }) (caller table new)
  read_on state at = goes_on n table x op old new is s.is read_made (caller table old) s.part (nothing_aside (caller table old)) state (subst (IsAt n table x op.passed state) (sym s.part) at)

  -- the row that is to be discarded
  module _ (l m : Link) (read got : Event) (state : op.state ≡ Front l m read place) (at_row_is : row ≡ l.row) (room : NamesAt op.state old.debts) (gets : (e : Event) → StandsOn (caller table old).position.rows row e → IsRead place read e → IsRead (place + 1) got e) where
    fronting : IsAt n table x op.passed (Front l m read place) (caller table old)
    fronting = subst (λ z. IsAt n table x op.passed z (caller table old)) state is.at

    front_row : 0 < row
    front_row = subst (λ z. 0 < z) (sym at_row_is) fronting.1.1.head.some_row

    front_read : IsRead (place + 1) got fronting.1.0.event
    front_read = let t = fronting.1.0 in let on = first_on l.row (caller table old).position.rows t fronting.1.1.first.on in gets t.event (t, on.0, on.1 ∙ sym at_row_is, refl) fronting.1.2

    front_names : new.debts.second_cut ≡ None
    front_names = ap (λ (p : Pass). p.debts.second_cut) s.same ∙ subst (λ z. NamesAt z old.debts) state room

    -- there are more words to read
    pub front_more : place < 5 → EmptyStepped n table x op (record op { state = Front l m got (place + 1) }) old new More
    front_more five = let low = fronting.2 in read_stepped (record op { state = Front l m got (place + 1) }) More (ap state_kind state) (ap state_exchanges state) (
      read_on (Front l m got (place + 1)) (fronting.0, (fronting.1.0, still_first l m Inv fronting.1.0 fronting.2 front_row fronting.1.1, front_read), omega arith, omega arith),
      front_names,
      inr (less_left op (Front l m read place) (Front l m got (place + 1)) (caller table old) (caller table new) state (omega arith)),
    )

    -- or all were read
    pub front_done : 5 ≤ place → EmptyStepped n table x op (record op { state = Discard l m got }) old new More
    front_done five = read_stepped (record op { state = Discard l m got }) More (ap state_kind state) (ap state_exchanges state) (
      read_on (Discard l m got) (fronting.0, (fronting.1.0, still_first l m Inv fronting.1.0 fronting.2 front_row fronting.1.1, read_all (place + 1) got fronting.1.0.event front_read (omega arith))),
      front_names,
      inr (less_left op (Front l m read place) (Discard l m got) (caller table old) (caller table new) state (let high = fronting.3 in omega arith)),
    )

  -- the row that is to be copied
  module _ (last : Link) (read got : Event) (state : op.state ≡ Read row last read place) (room : NamesAt op.state old.debts) (gets : (e : Event) → StandsOn (caller table old).position.rows row e → IsRead place read e → IsRead (place + 1) got e) where
    pub reading : IsAt n table x op.passed (Read row last read place) (caller table old)
    reading = subst (λ z. IsAt n table x op.passed z (caller table old)) state is.at

    pub got_read : IsRead (place + 1) got reading.1.0.event
    got_read = gets reading.1.0.event reading.1.1.on reading.1.2

    pub read_names : new.debts.second_cut ≡ None
    read_names = ap (λ (p : Pass). p.debts.second_cut) s.same ∙ subst (λ z. NamesAt z old.debts) state room

    -- there are more words to read
    pub read_more : place < 5 → EmptyStepped n table x op (record op { state = Read row last got (place + 1) }) old new More
    read_more five = let u = reading.1.1 in let low = reading.2 in read_stepped (record op { state = Read row last got (place + 1) }) More (ap state_kind state) (ap state_exchanges state) (
      read_on (Read row last got (place + 1)) (reading.0, (reading.1.0, record { old = u.old; row_is = u.row_is; on = u.on; last_is = u.last_is; now = u.now }, got_read), omega arith, omega arith),
      read_names,
      inr (less_left op (Read row last read place) (Read row last got (place + 1)) (caller table old) (caller table new) state (omega arith)),
    )
