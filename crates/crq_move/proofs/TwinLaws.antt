-- The steps of an emptying that find the twin of a frozen row, and see to it that the twin is valid, tell what they are to tell.
use Rattle.std.proofs.Common.{◌≡◌, ◌≢◌, ⊎_elim, inl, inr, ℕ, ◌+◌, ◌*◌, ◌-◌, ◌^◌, ◌<◌, ◌≤◌, ◌==◌, ◌||◌, eqb, cond, Bool, true, false, List, [], ◌∷◌, ◌++◌, length, drop, Option, Some, None, eq-eqb, ne_eqb, refl, sym, ap, ◌∙◌, subst, arith}
use Rattle.std.proofs.lemmas.Bool.{cond_both, eqb-true, false≢true}
use Rattle.std.proofs.lemmas.Option.{same_Some}
use Rattle.crq_base.specs.declared.event.Event.{Event}
use Rattle.crq_base.specs.declared.kinds.StepKind.TheVariants.{Walk, TwinLoad, Validate as ValidateKind}
use Rattle.crq_base.specs.declared.words.Link.{Link}
use Rattle.crq_base.specs.declared.words.Mark.{Mark}
use Rattle.crq_base.specs.declared.words.Mark.TheVariants.{Val, Inv, Mov, Del}
use Rattle.crq_base.specs.declared.words.Control.{Control}
use Rattle.crq_base.specs.Words.{IsLink, mark_number, link_word}
use Rattle.crq_base.specs.Lists.{In}
use Rattle.crq_rule.specs.declared.layout.Layout.{Layout}
use Rattle.crq_rule.specs.declared.pass.Pass.{Pass}
use Rattle.crq_rule.specs.declared.pass.Table.{Table}
use Rattle.crq_rule.specs.declared.view.Made.{Made}
use Rattle.crq_rule.specs.declared.view.Stand.{Stand}
use Rattle.crq_rule.specs.declared.view.Caller.{Caller}
use Rattle.crq_rule.specs.Places.{index, head, link, twin, IsHead, IsRow}
use Rattle.crq_rule.specs.Kinds.{makes}
use Rattle.crq_rule.specs.Ranks.{shape_of, at_row}
use Rattle.crq_rule.specs.Helping.{old_head}
use Rattle.crq_rule.specs.ListKinds.{StandsOn, no_take, is_cell, is_inv, is_twin, only_row, noted_stand, noted, kept_stands, next_stand, walks}
use Rattle.crq_rule.specs.CopyKinds.{stand_on, twin_stand, twinned, copy_stands, loads_twin, MayTwin, valid_link, validates, MayValidate}
use Rattle.crq_rule.proofs.Standings.{join_in}
use Rattle.crq_rows.specs.Known.{is_exchange, is_tick}
use Rattle.crq_rows.specs.Passes.{caller, IsPassOf, Stepped, load_made, step_made}
use Rattle.crq_rows.proofs.Knowing.{known_else, found_known}
use Rattle.crq_list.specs.declared.parts.Progress.TheVariants.{More}
use Rattle.crq_list.specs.Known.{last_known, turns_after}
use Rattle.crq_list.specs.Swaps.{Saw}
use Rattle.crq_list.proofs.HelpLaws.{walk_keeps}
use Rattle.crq_move.specs.declared.empty.MoveState.{MoveState}
use Rattle.crq_move.specs.declared.empty.MoveState.TheVariants.{Twin, Read, TwinLink, Validate, Pop}
use Rattle.crq_move.specs.declared.empty.MoveOp.{MoveOp}
use Rattle.crq_move.specs.Steps.{WordLeft}
use Rattle.crq_move.specs.Emptying.{IsHeadKnown, IsTwinned, IsAt, IsEmptying, NamesAt, state_exchanges, state_kind, state_rank, empty_left, EmptyStepped}
use Rattle.crq_move.proofs.Orders.{head_low, old_in}
use Rattle.crq_move.proofs.EmptySteps.{on_row}
use Rattle.crq_move.proofs.EmptyLaws.{Aside, nothing_aside, grows_none, goes_on, empty_stepped}

-- Stands

none_stand : (s : Stand) → None ≡ Some s → ⊥
none_stand s e = cc

-- the first stand on a row is one on that row
first_on : (r : ℕ) (ss : List Stand) (s : Stand) → stand_on r ss ≡ Some s → In s ss × (s.row ≡ r)
first_on r [] s is = absurd (none_stand s is)
first_on r (t ∷ ts) s is = cond_both (eqb t.row r) (Some t) (stand_on r ts) (λ o. o ≡ Some s → In s (t ∷ ts) × (s.row ≡ r))
    (λ yes e. let same = same_Some t s e in (inl (sym same), ap (λ (z : Stand). z.row) (sym same) ∙ eqb-true t.row r yes)) (λ _ e. let h = first_on r ts s e in (inr h.0, h.1)) is

-- each stand on a row has the twin that was found
has_twin : (r t : ℕ) (ss : List Stand) (s : Stand) → In s ss → s.row ≡ r → In (record s { twin = Some t }) (twinned r t ss)
has_twin r t [] s i row = absurd i
has_twin r t (x ∷ xs) s i row = ⊎_elim
    (λ (e : s ≡ x). inl (ap (λ (z : Stand). record z { twin = Some t }) e ∙ ap (λ b. cond b (record x { twin = Some t }) x) (sym (eq-eqb x.row r (ap (λ (z : Stand). z.row) (sym e) ∙ row)))))
    (λ h. inr (has_twin r t xs s h row)) i

-- and by the first of them the caller stands on the twin
has_copy : (r t : ℕ) (ss : List Stand) (s : Stand) → stand_on r ss ≡ Some s → In (twin_stand t s) (copy_stands r t ss)
has_copy r t [] s is = absurd (none_stand s is)
has_copy r t (x ∷ xs) s is = go (has_copy r t xs s) (x.row == r) is
  where
    go : (stand_on r xs ≡ Some s → In (twin_stand t s) (copy_stands r t xs)) → (b : Bool) → cond b (Some x) (stand_on r xs) ≡ Some s → In (twin_stand t s) (cond b (twin_stand t x ∷ []) (copy_stands r t xs))
    go later true e = inl (ap (twin_stand t) (sym (same_Some x s e)))
    go later false e = later e

-- a stand stays where the link of a row was noted, maybe with that note
is_noted : (r : ℕ) (l : Link) (ss : List Stand) (s : Stand) → In s ss → In (cond (s.row == r) (noted_stand l s) s) (noted r l ss)
is_noted r l [] s i = absurd i
is_noted r l (t ∷ ts) s i = ⊎_elim (λ (e : s ≡ t). inl (ap (λ (z : Stand). cond (z.row == r) (noted_stand l z) z) e)) (λ h. inr (is_noted r l ts s h)) i

-- with it on that row
noted_here : (r : ℕ) (l : Link) (ss : List Stand) (s : Stand) → In s ss → s.row ≡ r → In (noted_stand l s) (noted r l ss)
noted_here r l ss s i row = subst (λ b. In (cond b (noted_stand l s) s) (noted r l ss)) (eq-eqb s.row r row) (is_noted r l ss s i)

-- and without it on another
noted_else : (r : ℕ) (l : Link) (ss : List Stand) (s : Stand) → In s ss → s.row ≢ r → In s (noted r l ss)
noted_else r l ss s i other = subst (λ b. In (cond b (noted_stand l s) s) (noted r l ss)) (ne_eqb s.row r other) (is_noted r l ss s i)

-- a walk from a row keeps the stands on it, and on a row that it copies
only_keeps : (r : ℕ) (ss : List Stand) (s : Stand) → ((s.row == r) || is_twin r s.twin) ≡ true → In s ss → In s (only_row r ss)
only_keeps r [] s keep i = absurd i
only_keeps r (t ∷ ts) s keep i = cond_both ((t.row == r) || is_twin r t.twin) (t ∷ only_row r ts) (only_row r ts) (λ xs. In s xs) (λ _. ⊎_elim inl (λ h. inr (only_keeps r ts s keep h)) i)
    (λ no. only_keeps r ts s keep (⊎_elim (λ (e : s ≡ t). absurd (false≢true (sym no ∙ (ap (λ (z : Stand). (z.row == r) || is_twin r z.twin) (sym e) ∙ keep)))) (λ h. h) i))

keeps : (r : ℕ) (l : Link) (ss : List Stand) (s : Stand) → ((s.row == r) || is_twin r s.twin) ≡ true → In s ss → In s (kept_stands false r l ss)
keeps r l ss s keep i = cond_both (is_cell l.mark) (only_row r ss) ss (λ xs. In s xs) (λ _. only_keeps r ss s keep i) (λ _. i)

or_true : (b : Bool) → (b || true) ≡ true
or_true true = refl
or_true false = refl

keeps_row : (r : ℕ) (l : Link) (ss : List Stand) (s : Stand) → s.row ≡ r → In s ss → In s (kept_stands false r l ss)
keeps_row r l ss s row i = keeps r l ss s (ap (λ b. b || is_twin r s.twin) (eq-eqb s.row r row)) i

keeps_copied : (r : ℕ) (l : Link) (ss : List Stand) (s : Stand) → s.twin ≡ Some r → In s ss → In s (kept_stands false r l ss)
keeps_copied r l ss s copied i = keeps r l ss s (ap (λ o. (s.row == r) || is_twin r o) copied ∙ (ap (λ b. (s.row == r) || b) (eq-eqb r r refl) ∙ or_true (s.row == r))) i

-- Words

-- the twin's word of a row, and its link, are no heads
twin_apart : (l : Layout) (r q : ℕ) → IsRow l r → IsHead q → index l (twin r) ≢ index l (head q)
twin_apart l r q row is_head e = let some = row.0 in omega arith

link_apart : (l : Layout) (r q : ℕ) → IsRow l r → IsHead q → index l (link r) ≢ index l (head q)
link_apart l r q row is_head e = let some = row.0 in omega arith

-- a link that isn't valid yet has another word than a valid one
valid_apart : (l : Link) → l.mark ≡ Inv → link_word l ≢ link_word (valid_link l)
unfolding link_word
valid_apart l inv same = let one = ap mark_number inv in absurd (omega arith)

-- the head's link stays known after a step on another word
head_known : (n : ℕ) (table : Table) (x : Control) (passed : ℕ) (l : Link) (m : Made) (p r : Caller) → n ≤ length p.made → Aside p r → m.word ≢ index table.start.layout (head (old_head x p.number passed))
    → IsHeadKnown n table x passed l p → IsHeadKnown n table x passed l (makes m r)
head_known n table x passed l m p r counted aside apart is = record {
  bits = is.bits;
  frozen = is.frozen;
  some_row = is.some_row;
  known = (λ i. last_known (drop n (aside.made i ++ m ∷ [])) (index table.start.layout (head (old_head x (aside.stays.number i) passed))))
      ∙ (known_else n p.made m (index table.start.layout (head (old_head x p.number passed))) counted apart ∙ is.known);
}

-- a caller comes to stand elsewhere
stands_aside : (p : Caller) (rows : List Stand) (o : Option Stand) → Aside p (record p { position = record { rows = rows; old = o } })
stands_aside p rows o = record {
  stays = record { number = refl; start = refl; deal = refl; found = refl; guard = refl; permit = refl; sight = refl; told = refl };
  made = refl;
  own = refl;
  settle = refl;
  help = λ h is. (h, is, grows_none h);
}

-- and so does one that walks on from a row
walk_aside : (m : Made) (t : ℕ) (l : Link) (e : Event) (p : Caller) → Aside p (walks (at_row t) no_take l e p)
walk_aside m t l e p = record {
  stays = record { number = refl; start = refl; deal = refl; found = refl; guard = refl; permit = refl; sight = refl; told = refl };
  made = refl;
  own = refl;
  settle = refl;
  help = (walk_keeps m (at_row t) no_take l e p).on.help;
}

-- What is left to do gets less

less_than : (a b c : ℕ) → b < c → a + b < a + c
less_than a b c low = omega arith

less_by : (a : ℕ) → (a + 5 < a + 8) × (1 < a + 8)
less_by a = (omega arith, omega arith)

module _ (n : ℕ) (table : Table) (x : Control) (op : MoveOp) (old new : Pass) (is : IsEmptying n table x op (caller table old)) (s s' : MoveState) (state : op.state ≡ s) (is_new : IsPassOf table new)
    (m : Made) (r : Caller) (part : caller table new ≡ makes m r) (aside : Aside (caller table old) r) (kind : m.kind ≡ state_kind s) (no_tick : is_tick m.kind ≡ false) (at : IsAt n table x op.passed s' (makes m r)) where
  went_on : IsEmptying n table x (record op { state = s' }) (caller table new)
  went_on = goes_on n table x op old new is is_new m r part aside s' (subst (IsAt n table x op.passed s') (sym part) at)

  -- a word was loaded, and the emptying goes on at another state
  loaded : state_exchanges s ≡ false → is_exchange m.kind ≡ false → new ≡ record old { seat = new.seat } → NamesAt s' old.debts → state_rank s' (caller table new) < state_rank s (caller table old)
      → EmptyStepped n table x op (record op { state = s' }) old new More
  loaded loads load same names less = let none : state_exchanges op.state ≡ false = ap state_exchanges state ∙ loads in
      empty_stepped n table x op old new is is_new m r part aside (record op { state = s' }) More (kind ∙ ap state_kind (sym state)) (load ∙ sym none) no_tick (λ yes. absurd (false≢true (sym none ∙ yes)))
      (ap (λ (z : Pass). z.turns) same ∙ ap (λ b. turns_after b old.turns) (sym none)) (ap (λ (z : Pass). z.number) same) (ap (λ (z : Pass). z.debts.settle) same) (
        went_on,
        subst (NamesAt s') (sym (ap (λ (z : Pass). z.debts) same)) names,
        inr (subst (λ z. empty_left (record op { state = s' }) (caller table new) < (2 ^ op.control.log - op.passed) * 2 ^ 170 + state_rank z (caller table old)) (sym state)
            (less_than ((2 ^ op.control.log - op.passed) * 2 ^ 170) (state_rank s' (caller table new)) (state_rank s (caller table old)) less)),
      )

  -- a word was exchanged, or found to be another
  exchanged : state_exchanges s ≡ true → is_exchange m.kind ≡ true → (last_known (drop n (caller table old).made) m.word ≡ Some m.first) × (m.first ≢ m.second)
      → new ≡ record old { seat = new.seat; turns = new.turns; debts = old.debts } → new.turns ≡ turns_after true old.turns
      → NamesAt s' old.debts → EmptyStepped n table x op (record op { state = s' }) old new More
  exchanged swaps swap expects same turns names = let all : state_exchanges op.state ≡ true = ap state_exchanges state ∙ swaps in
      empty_stepped n table x op old new is is_new m r part aside (record op { state = s' }) More (kind ∙ ap state_kind (sym state)) (swap ∙ sym all) no_tick (λ _. expects)
      (turns ∙ ap (λ b. turns_after b old.turns) (sym all)) (ap (λ (z : Pass). z.number) same) (ap (λ (z : Pass). z.debts.settle) same)
      (went_on, subst (NamesAt s') (sym (ap (λ (z : Pass). z.debts) same)) names, inl all)

-- The three steps

module _ (n : ℕ) (table : Table) (x : Control) (op : MoveOp) (old new : Pass) (of : IsPassOf table old) (is : IsEmptying n table x op (caller table old)) where
  -- the next head is one of the two banks
  next_low : IsHead (old_head x (caller table old).number op.passed)
  next_low = let q = old_head x (caller table old).number op.passed in head_low x.generation (shape_of x) q is.helper.is_control.log (old_in x (caller table old).number op.passed is.more)

  -- Twin
  module _ (l last : Link) (state : op.state ≡ Twin l last) where
    twin_at : IsAt n table x op.passed (Twin l last) (caller table old)
    twin_at = subst (λ z. IsAt n table x op.passed z (caller table old)) state is.at

    twin_on : In twin_at.2.0 (caller table old).position.rows × (twin_at.2.0.row ≡ l.row)
    twin_on = first_on l.row (caller table old).position.rows twin_at.2.0 twin_at.2.1.on

    -- the caller may load the twin
    pub may_twin : MayTwin l.row (caller table old)
    may_twin = record { none = twin_at.0.1; on = (twin_at.2.0, twin_on.0, twin_on.1, (last, twin_at.2.1.last_is, twin_at.2.1.frozen)) }

    twin_head : (t : ℕ) (r : Caller) → Aside (caller table old) r → IsHeadKnown n table x op.passed l (makes (load_made TwinLoad (index table.start.layout (twin l.row)) t) r)
    twin_head t r aside = let q = old_head x (caller table old).number op.passed in
        head_known n table x op.passed l (load_made TwinLoad (index table.start.layout (twin l.row)) t) (caller table old) r is.counted aside (twin_apart table.start.layout l.row q (on_row table old twin_at.2.0 l.row of twin_on.0 twin_on.1) next_low) twin_at.1

    -- the row has no twin, and its event is to be read
    pub twin_none : (t : ℕ) (read : Event) → t ≡ 0 → NamesAt op.state old.debts → Stepped table old new (load_made TwinLoad (index table.start.layout (twin l.row)) t) (loads_twin l.row t)
        → EmptyStepped n table x op (record op { state = Read l.row last read 2 }) old new More
    twin_none t read none room told = let p : Caller = caller table old in let rows : List Stand = p.position.rows in let s : Stand = twin_at.2.0 in let m : Made = load_made TwinLoad (index table.start.layout (twin l.row)) 0 in
        let step = subst (λ z. Stepped table old new (load_made TwinLoad (index table.start.layout (twin l.row)) z) (loads_twin l.row z)) none told in
        loaded n table x op old new is (Twin l last) (Read l.row last read 2) state step.is m (loads_twin l.row 0 p) step.part (stands_aside p rows (stand_on l.row rows)) refl refl (
          (twin_at.0.0, twin_at.0.1),
          (
            s,
            record { old = twin_at.2.1.on; row_is = twin_on.1; on = (s, twin_on.0, twin_on.1, refl); last_is = twin_at.2.1.last_is; now = twin_at.2.1.next.now },
            record { time = λ low. absurd (omega arith); source = λ low. absurd (omega arith); number = λ low. absurd (omega arith); load = λ low. absurd (omega arith) },
          ),
          omega arith,
          omega arith,
        )
        refl refl step.same (subst (λ z. NamesAt z old.debts) state room) (less_by (2 ^ 166)).0

    -- or one, whose link is to be loaded
    pub twin_some : (t : ℕ) → t ≢ 0 → NamesAt op.state old.debts → Stepped table old new (load_made TwinLoad (index table.start.layout (twin l.row)) t) (loads_twin l.row t) → EmptyStepped n table x op (record op { state = TwinLink l last t }) old new More
    twin_some t some room step = let p : Caller = caller table old in let rows : List Stand = p.position.rows in let s : Stand = twin_at.2.0 in let m : Made = load_made TwinLoad (index table.start.layout (twin l.row)) t in
        let rows' : List Stand = copy_stands l.row t rows ++ twinned l.row t rows in let r : Caller = record p { position = record { rows = rows'; old = p.position.old } } in let aside = stands_aside p rows' p.position.old in
        let part : caller table new ≡ makes m r = step.part ∙ ap (λ b. makes m (record p { position = record { rows = cond b rows rows'; old = cond b (stand_on l.row rows) p.position.old } })) (ne_eqb t 0 some) in
        loaded n table x op old new is (Twin l last) (TwinLink l last t) state step.is m r part aside refl refl (
          (twin_at.0.0, twin_at.0.1),
          twin_head t r aside,
          record {
            stand = record s { twin = Some t };
            on = join_in (copy_stands l.row t rows) (twinned l.row t rows) (record s { twin = Some t }) (inr (has_twin l.row t rows s twin_on.0 twin_on.1));
            row = twin_on.1;
            last_is = twin_at.2.1.last_is;
            frozen = twin_at.2.1.frozen;
            next = twin_at.2.1.next;
            twin_is = refl;
            copy = twin_stand t s;
            copy_on = join_in (copy_stands l.row t rows) (twinned l.row t rows) (twin_stand t s) (inl (has_copy l.row t rows s twin_at.2.1.on));
            copy_row = refl;
            copy_next = refl;
          },
        )
        refl refl step.same (subst (λ z. NamesAt z old.debts) state room) (less_by (2 ^ 166)).1

  -- TwinLink
  module _ (l last : Link) (t : ℕ) (state : op.state ≡ TwinLink l last t) where
    linked_at : IsAt n table x op.passed (TwinLink l last t) (caller table old)
    linked_at = subst (λ z. IsAt n table x op.passed z (caller table old)) state is.at

    -- the caller stands on the twin
    pub on_twin : (e : Event) × StandsOn (caller table old).position.rows t e
    on_twin = let w = linked_at.2 in (w.copy.event, (w.copy, w.copy_on, w.copy_row, refl))

    module _ (m : Link) (saw : Saw table old new (at_row t) no_take m) where
      abbrev w : IsTwinned x l last t (caller table old)
      w = linked_at.2

      abbrev made : Made
      made = load_made Walk (index table.start.layout (link t)) (link_word m)

      abbrev after : Caller
      after = walks (at_row t) no_take m saw.event (caller table old)

      -- the copy is another row, since it is of the next table
      other : w.stand.row ≢ t
      other same = let a = saw.marked.1 w.stand w.on same in let b = saw.marked.1 w.copy w.copy_on w.copy_row in let next = w.copy_next in omega arith

      aside : Aside (caller table old) after
      aside = walk_aside made t m saw.event (caller table old)

      head_is : IsHeadKnown n table x op.passed l (makes made after)
      head_is = let q = old_head x (caller table old).number op.passed in
          head_known n table x op.passed l made (caller table old) after is.counted aside (link_apart table.start.layout t q (on_row table old w.copy t of w.copy_on w.copy_row) next_low) linked_at.1

      stand_in : In w.stand after.position.rows
      stand_in = let rows : List Stand = (caller table old).position.rows in let kept : List Stand = kept_stands false t m rows in
          join_in (next_stand (at_row t) m saw.event) (noted t m kept) w.stand (inr (noted_else t m kept w.stand (keeps_copied t m rows w.stand w.twin_is w.on) other))

      copy_in : In (noted_stand m w.copy) after.position.rows
      copy_in = let rows : List Stand = (caller table old).position.rows in let kept : List Stand = kept_stands false t m rows in
          join_in (next_stand (at_row t) m saw.event) (noted t m kept) (noted_stand m w.copy) (inr (noted_here t m kept w.copy (keeps_row t m rows w.copy w.copy_row w.copy_on) w.copy_row))

      -- the copy isn't valid yet
      pub link_invalid : m.mark ≡ Inv → NamesAt op.state old.debts → EmptyStepped n table x op (record op { state = Validate l last t m }) old new More
      link_invalid inv room = loaded n table x op old new is (TwinLink l last t) (Validate l last t m) state saw.is made after saw.part aside refl refl (
        (linked_at.0.0, linked_at.0.1),
        head_is,
        record {
          stand = w.stand;
          on = stand_in;
          row = w.row;
          last_is = w.last_is;
          frozen = w.frozen;
          next = w.next;
          twin_is = w.twin_is;
          copy = noted_stand m w.copy;
          copy_on = copy_in;
          copy_row = w.copy_row;
          copy_next = w.copy_next;
        },
        saw.is_link,
        inv,
        found_known n (caller table old).made made (index table.start.layout (link t)) is.counted refl refl,
      )
          refl refl saw.same (subst (λ z. NamesAt z old.debts) state room) (omega arith)

      -- or it was validated before
      pub link_valid : m.mark ≢ Inv → NamesAt op.state old.debts → EmptyStepped n table x op (record op { state = Pop l last }) old new More
      link_valid valid room = loaded n table x op old new is (TwinLink l last t) (Pop l last) state saw.is made after saw.part aside refl refl (
        (linked_at.0.0, linked_at.0.1),
        head_is,
        record {
          stand = w.stand;
          on = stand_in;
          row = w.row;
          last_is = w.last_is;
          gone = inr (w.frozen, (noted_stand m w.copy, copy_in, w.twin_is ∙ ap Some (sym w.copy_row), is_valid m.mark w.copy.valid valid));
          next = w.next;
        },
      )
          refl refl saw.same (inl (subst (λ z. NamesAt z old.debts) state room)) (omega arith)
        where
          is_valid : (k : Mark) (b : Bool) → k ≢ Inv → cond (is_inv k) b true ≡ true
          is_valid Val b not = refl
          is_valid Inv b not = absurd (not refl)
          is_valid Mov b not = refl
          is_valid Del b not = refl

  -- Validate
  module _ (l last : Link) (t : ℕ) (m : Link) (state : op.state ≡ Validate l last t m) where
    invalid_at : IsAt n table x op.passed (Validate l last t m) (caller table old)
    invalid_at = subst (λ z. IsAt n table x op.passed z (caller table old)) state is.at

    pub valid_bits : IsLink m
    valid_bits = invalid_at.3

    -- the caller may validate the twin
    pub may_validate : MayValidate t m (caller table old)
    may_validate = let w = invalid_at.2 in record { twin = (w.stand, w.on, w.twin_is); on = (w.copy.event, (w.copy, w.copy_on, w.copy_row, refl)); copy = invalid_at.4 }

    valid_head : (found : ℕ) (r : Caller) → Aside (caller table old) r → IsHeadKnown n table x op.passed l (makes (step_made ValidateKind (index table.start.layout (link t)) (link_word m) (link_word (valid_link m)) found) r)
    valid_head found r aside = let q = old_head x (caller table old).number op.passed in let w = invalid_at.2 in
        head_known n table x op.passed l (step_made ValidateKind (index table.start.layout (link t)) (link_word m) (link_word (valid_link m)) found)
        (caller table old) r is.counted aside (link_apart table.start.layout t q (on_row table old w.copy t of w.copy_on w.copy_row) next_low) invalid_at.1

    -- it was validated
    pub validate_won : NamesAt op.state old.debts → WordLeft ValidateKind table old new (index table.start.layout (link t)) (link_word m) (link_word (valid_link m)) (validates t m) old.debts true
        → EmptyStepped n table x op (record op { state = Pop l last }) old new More
    validate_won room left = let p : Caller = caller table old in let rows : List Stand = p.position.rows in let w = invalid_at.2 in
        let made : Made = step_made ValidateKind (index table.start.layout (link t)) (link_word m) (link_word (valid_link m)) left.found in
        let aside = stands_aside p (noted t (valid_link m) rows) p.position.old in let s : Stand = cond (w.stand.row == t) (noted_stand (valid_link m) w.stand) w.stand in let same = note_leaves (w.stand.row == t) w.stand in
        exchanged n table x op old new is (Validate l last t m) (Pop l last) state left.is made (validates t m p) left.part aside refl refl (
          (invalid_at.0.0, invalid_at.0.1),
          valid_head left.found (validates t m p) aside,
          record {
            stand = s;
            on = is_noted t (valid_link m) rows w.stand w.on;
            row = same.0 ∙ w.row;
            last_is = same.1 ∙ w.last_is;
            gone = inr (w.frozen, (noted_stand (valid_link m) w.copy, noted_here t (valid_link m) rows w.copy w.copy_on w.copy_row, same.2 ∙ (w.twin_is ∙ ap Some (sym w.copy_row)), refl));
            next = w.next;
          },
        )
        refl refl (invalid_at.5, valid_apart m invalid_at.4) left.same left.turns (inl (subst (λ z. NamesAt z old.debts) state room))
      where
        note_leaves : (b : Bool) (s : Stand) → ((cond b (noted_stand (valid_link m) s) s).row ≡ s.row) × ((cond b (noted_stand (valid_link m) s) s).last ≡ s.last) × ((cond b (noted_stand (valid_link m) s) s).twin ≡ s.twin)
        note_leaves true s = (refl, refl, refl)
        note_leaves false s = (refl, refl, refl)

    -- or its link was another one, and is to be loaded again
    pub validate_lost : NamesAt op.state old.debts → WordLeft ValidateKind table old new (index table.start.layout (link t)) (link_word m) (link_word (valid_link m)) (validates t m) old.debts false
        → EmptyStepped n table x op (record op { state = TwinLink l last t }) old new More
    validate_lost room left = let p : Caller = caller table old in let made : Made = step_made ValidateKind (index table.start.layout (link t)) (link_word m) (link_word (valid_link m)) left.found in let aside = nothing_aside p in
        let w = invalid_at.2 in
        exchanged n table x op old new is (Validate l last t m) (TwinLink l last t) state left.is made p left.part aside refl refl (
          (invalid_at.0.0, invalid_at.0.1),
          valid_head left.found p aside,
          record {
            stand = w.stand;
            on = w.on;
            row = w.row;
            last_is = w.last_is;
            frozen = w.frozen;
            next = w.next;
            twin_is = w.twin_is;
            copy = w.copy;
            copy_on = w.copy_on;
            copy_row = w.copy_row;
            copy_next = w.copy_next;
          },
        )
        refl refl (invalid_at.5, valid_apart m invalid_at.4) left.same left.turns (subst (λ z. NamesAt z old.debts) state room)
