-- What is written into a row that is to be inserted, what its link needs, and what each step of an insertion tells.
use Rattle.std.proofs.Common.{◌≡◌, ◌≢◌, ◌⊎◌, ⊎_elim, inl, inr, ℕ, zero, suc, ◌+◌, ◌^◌, ◌<◌, ◌≤◌, cond, ◌&&◌, eqb, Bool, true, false, List, [], ◌∷◌, ◌++◌, length, drop, Option, Some, None, sym, refl, ap, ◌∙◌, subst, arith, length-append, rules, ne_eqb}
use Rattle.std.proofs.lemmas.Bool.{eqb-true, false≢true}
use mathlib.Core.Logic.{dite}
use native.Mathlib.Decide.{ℕ_discrete}
use Rattle.crq_base.specs.declared.event.Event.{Event}
use Rattle.crq_base.specs.declared.entry.Entry.{Entry}
use Rattle.crq_base.specs.declared.entry.Entry.TheVariants.{Put}
use Rattle.crq_base.specs.declared.kinds.StepKind.{StepKind}
use Rattle.crq_base.specs.declared.words.Control.{Control}
use Rattle.crq_base.specs.declared.words.Link.{Link}
use Rattle.crq_base.specs.declared.words.Mark.{Mark}
use Rattle.crq_base.specs.declared.words.Mark.TheVariants.{Inv}
use Rattle.crq_base.specs.declared.kinds.StepKind.TheVariants.{Write, Link as LinkKind, Copy as CopyKind}
use Rattle.crq_base.specs.Words.{link_word}
use Rattle.crq_base.specs.Lists.{In}
use Rattle.crq_base.specs.Sources.{IsFresh}
use Rattle.crq_rule.specs.declared.pass.Pass.{Pass}
use Rattle.crq_rule.specs.declared.pass.Table.{Table}
use Rattle.crq_rule.specs.declared.layout.Layout.{Layout}
use Rattle.crq_rule.specs.declared.view.Caller.{Caller}
use Rattle.crq_rule.specs.declared.view.Deal.{Deal}
use Rattle.crq_rule.specs.declared.view.Found.{Found}
use Rattle.crq_rule.specs.declared.view.Made.{Made}
use Rattle.crq_rule.specs.declared.view.Help.{Help}
use Rattle.crq_rule.specs.declared.view.Stand.{Stand}
use Rattle.crq_rule.specs.declared.view.Wrote.{Wrote}
use Rattle.crq_rule.specs.Places.{index, IsRow, IsHead, link}
use Rattle.crq_rule.specs.Parts.{IsOn, IsEvent}
use Rattle.crq_rule.specs.Kinds.{makes}
use Rattle.crq_rule.specs.Ranks.{rank, shape_of, next_of, head_in, head_of, list_by, next_list, Cell, at_head, at_row, cell_place}
use Rattle.crq_rule.specs.ListKinds.{Content, no_twin, new_time, new_source, new_sequence, new_load, IsContent, content_number, content_word, event_word, unwritten, wrote, writes, links, StandsOn, IsWritten, ComesAfter, ComesBefore, MayLink}
use Rattle.crq_rows.specs.Passes.{caller, IsPassOf, Stepped, step_made, store_made, counted}
use Rattle.crq_rows.proofs.Reached.{hand_row, stand_row}
use Rattle.crq_list.specs.declared.parts.Before.{Before}
use Rattle.crq_list.specs.declared.parts.ListAt.{ListAt}
use Rattle.crq_list.specs.declared.parts.Spot.{Spot}
use Rattle.crq_list.specs.declared.parts.Spot.TheVariants.{Head, Row}
use Rattle.crq_list.specs.declared.parts.Progress.{Progress}
use Rattle.crq_list.specs.declared.parts.Progress.TheVariants.{More, Done}
use Rattle.crq_list.specs.declared.insert.InsertEnd.{InsertEnd}
use Rattle.crq_list.specs.declared.insert.InsertEnd.TheVariants.{Linked, Frozen}
use Rattle.crq_list.specs.declared.insert.CopyOf.{CopyOf}
use Rattle.crq_list.specs.declared.insert.InsertOp.{InsertOp}
use Rattle.crq_list.specs.declared.insert.InsertState.{InsertState}
use Rattle.crq_list.specs.declared.insert.InsertState.TheVariants.{Writing, Seeking, Placing, Linking}
use Rattle.crq_list.specs.declared.seek.SeekState.{SeekState}
use Rattle.crq_list.specs.declared.seek.SeekState.TheVariants.{Load, Reading, Passing, Cutting, Tagging, Retiring}
use Rattle.crq_list.specs.declared.seek.SeekEnd.TheVariants.{There, Frozen as FoundFrozen}
use Rattle.crq_list.specs.declared.seek.Sought.{Sought}
use Rattle.crq_rows.specs.Known.{is_tick}
use Rattle.crq_rows.proofs.Knowing.{known_else}
use Rattle.crq_list.proofs.SweepLaws.{sweep_begins, sweep_stays}
use Rattle.crq_rows.proofs.Working.{plain_no_tick}
use Rattle.crq_list.proofs.StepLaws.{rows_apart}
use Rattle.crq_list.proofs.SeekSteps.{now_list}
use Rattle.crq_list.specs.Helps.{HelpGrows, KeepsCopying}
use Rattle.crq_list.proofs.HelpLaws.{helps_same, same_keeps}
use Rattle.crq_rule.specs.Moves.{Lawful}
use Rattle.crq_list.specs.Known.{is_exchange, is_link, Stays, Works, turns_after}
use Rattle.crq_rule.specs.declared.debts.CutDebt.{CutDebt}
use Rattle.crq_rule.specs.Core.{HasName, names_of}
use Rattle.crq_list.specs.Spots.{cell, Target, IsOfList, IsReached, IsAfter, IsBeyondSpot, IsListOf}
use Rattle.crq_list.specs.Swaps.{owes_copy, MayOweCopy, Swapped, LinkSwapped, CopySwapped}
use Rattle.crq_list.specs.Seeking.{IsSeeking, IsThere, SeekStepped, seek_kind}
use Rattle.crq_list.specs.Inserting.{AreWritten, sought_by, own_mark, own_debt, IsInsertingAt, IsPutting, IsCopying, InsertAsks, IsInserting, state_exchanges, state_left, link_kind, insert_kind, after_link, copy_noted, LinkAnswers, InsertStepped}

-- What is written

-- what was written at another place stays
pub unwritten_in : (r p : ℕ) (xs : List Wrote) (y : Wrote) → y.place ≢ p → In y xs → In y (unwritten r p xs)
unwritten_in r p [] y ne i = i
unwritten_in r p (x ∷ xs) y ne i = go (eqb x.row r) (eqb x.place p) refl (unwritten_in r p xs y ne) i
  where
    go : (b d : Bool) → eqb x.place p ≡ d → (In y xs → In y (unwritten r p xs)) → In y (x ∷ xs) → In y (cond (b && d) (unwritten r p xs) (x ∷ unwritten r p xs))
    go true true e rest i = ⊎_elim (λ (f : y ≡ x). absurd (ne (ap (λ (z : Wrote). z.place) f ∙ eqb-true x.place p e))) rest i
    go true false e rest i = ⊎_elim (λ (f : y ≡ x). inl f) (λ t. inr (rest t)) i
    go false d e rest i = ⊎_elim (λ (f : y ≡ x). inl f) (λ t. inr (rest t)) i

-- what is written at a place of the row, but its own link
pub spelled : (e : Event) (place word : ℕ) → IsEvent e → 1 ≤ place → place < 6 → word ≡ event_word e place → (x : Content) × IsContent x × (content_number x ≡ place) × (content_word x ≡ word)
spelled e zero word event low high is = absurd (omega arith)
spelled e (suc zero) word event low high is = (no_twin, tt, refl, sym is)
spelled e (suc (suc zero)) word event low high is = (new_time e.time e.dst, (event.time, event.dst), refl, sym is)
spelled e (suc (suc (suc zero))) word event low high is = (new_source e.src, event.src, refl, sym is)
spelled e (suc (suc (suc (suc zero)))) word event low high is = (new_sequence e.seq, event.seq, refl, sym is)
spelled e (suc (suc (suc (suc (suc zero))))) word event low high is = (new_load e.load, event.load, refl, sym is)
spelled e (suc (suc (suc (suc (suc (suc n)))))) word event low high is = absurd (omega arith)

module _ (written : List Wrote) (r : ℕ) (e : Event) where
  -- one word more was written
  pub written_next : (place word : ℕ) → 1 ≤ place → word ≡ event_word e place → AreWritten written r e place → AreWritten (wrote r place word written) r e (place + 1)
  written_next place word low is are = (twin, words)
    where
      kept : (p w : ℕ) → p ≢ place → In (record { row = r; place = p; word = w }) written → In (record { row = r; place = p; word = w }) (wrote r place word written)
      kept p w ne i = inr (unwritten_in r place written (record { row = r; place = p; word = w }) ne i)

      here : (p w : ℕ) → p ≡ place → w ≡ word → In (record { row = r; place = p; word = w }) (wrote r place word written)
      here p w f g = inl (λ i. record { row = r; place = f i; word = g i })

      twin : 1 < place + 1 → In (record { row = r; place = 1; word = 0 }) (wrote r place word written)
      twin less = dite (ℕ_discrete 1 place) (λ f. here 1 0 f (ap (event_word e) f ∙ sym is)) (λ ne. kept 1 0 ne (are.0 (omega arith)))

      words : (p : ℕ) → 2 ≤ p → p < place + 1 → p < 6 → In (record { row = r; place = p; word = event_word e p }) (wrote r place word written)
      words p two less high = dite (ℕ_discrete p place) (λ f. here p (event_word e p) f (ap (event_word e) f ∙ sym is)) (λ ne. kept p (event_word e p) ne (are.1 p two (omega arith) high))

  -- the row's own link was written last
  pub written_all : (mark : Mark) (l : Link) → AreWritten written r e 6 → IsWritten mark (wrote r 0 (link_word (record l { mark = mark })) written) r e l
  written_all mark l are = record {
    link_is = inl refl;
    twin_is = kept 1 0 (omega arith) (are.0 (omega arith));
    time_is = word 2 (omega arith) (omega arith);
    source_is = word 3 (omega arith) (omega arith);
    sequence_is = word 4 (omega arith) (omega arith);
    load_is = word 5 (omega arith) (omega arith);
  }
    where
      kept : (p w : ℕ) → p ≢ 0 → In (record { row = r; place = p; word = w }) written → In (record { row = r; place = p; word = w }) (wrote r 0 (link_word (record l { mark = mark })) written)
      kept p w ne i = inr (unwritten_in r 0 written (record { row = r; place = p; word = w }) ne i)

      word : (p : ℕ) → 2 ≤ p → p < 6 → In (record { row = r; place = p; word = event_word e p }) (wrote r 0 (link_word (record l { mark = mark })) written)
      word p two high = kept p (event_word e p) (omega arith) (are.1 p two high high)

  -- a row whose words are all written
  pub written_back : (mark : Mark) (l : Link) → IsWritten mark written r e l → AreWritten written r e 6
  written_back mark l is = (λ _. is.twin_is, λ p two less high. words p two high)
    where
      words : (p : ℕ) → 2 ≤ p → p < 6 → In (record { row = r; place = p; word = event_word e p }) written
      words zero two high = absurd (omega arith)
      words (suc zero) two high = absurd (omega arith)
      words (suc (suc zero)) two high = is.time_is
      words (suc (suc (suc zero))) two high = is.source_is
      words (suc (suc (suc (suc zero)))) two high = is.sequence_is
      words (suc (suc (suc (suc (suc zero))))) two high = is.load_is
      words (suc (suc (suc (suc (suc (suc n)))))) two high = absurd (omega arith)

-- What is known of words

-- Where the row comes

-- two rows that stand at one place or in order are in order, where they aren't one
pub rank_apart : (e f : Event) (r s : ℕ) → r < 2 ^ 24 → s < 2 ^ 24 → s ≢ r → rank f s ≤ rank e r → rank f s < rank e r
unfolding rank
rank_apart e f r s low low' ne le = omega arith

-- a row of the table is below all that a link can name
pub row_low : (l : Layout) (r : ℕ) → IsRow l r → r < 2 ^ 24
row_low l r row = let fit = l.all_fit in omega arith

-- the row in hand comes after a spot that was reached, at which it doesn't stand
pub comes_after : (x : Control) (list : ListAt) (e : Event) (r : ℕ) (spot : Spot) (p : Caller) → r < 2 ^ 24 → ((s : Stand) → In s p.position.rows → (s.row < 2 ^ 24) × (s.row ≢ r)) → IsHead list.head → IsOfList x list e
    → IsReached x list (Some (e, r)) spot p → ComesAfter (list_by x list.generation) p.position.rows (cell spot) r e
comes_after x list e r (Head h) p low stands is_head of_list reached = (subst IsHead (sym reached) is_head, of_list ∙ sym reached)
comes_after x list e r (Row s) p low stands is_head of_list reached = let on = reached.1 in let t = stands on.0 on.1 in
    (reached.0, (on.0, on.1, on.2, on.3), rank_apart e reached.0 r s low (subst (λ z. z < 2 ^ 24) on.2 t.0) (subst (λ z. z ≢ r) on.2 t.1) reached.3, reached.2 ∙ sym of_list)

-- and before the next row, if there is one
pub comes_before : (e : Event) (r n : ℕ) (ss : List Stand) → IsEvent e → r < 2 ^ 24 → (n ≡ 0) ⊎ ((f : Event) × StandsOn ss n f × IsAfter (Some (e, r)) f n) → ComesBefore ss n r e
comes_before e r n ss event low after = ⊎_elim (λ none. inl none) (λ t. inr (t.0, t.1, search (rules, event, low, t.2))) after

-- the list of an event in the table that the open one moves into
pub moved_list : (x : Control) (g : ℕ) (e : Event) → g ≡ x.generation + 1 → list_by x g e ≡ next_list x e
moved_list x g e is = ap (λ b. head_in g (cond b (shape_of x) (next_of x)) e) (ne_eqb g x.generation (λ same. omega arith)) ∙ ap (λ h. head_in h (next_of x) e) is

-- a row comes after a cell by whichever function tells the lists
comes_as : (f g : Event → ℕ) (ss : List Stand) (cell : Cell) (r : ℕ) (e : Event) → ((d : Event) → f d ≡ g d) → ComesAfter f ss cell r e → ComesAfter g ss cell r e
comes_as f g ss (at_head q) r e same after = (after.0, sym (same e) ∙ after.1)
comes_as f g ss (at_row s) r e same after = (after.0, after.1, after.2, sym (same after.0) ∙ (after.3 ∙ same e))

module _ (n : ℕ) (table : Table) (x : Control) (op : InsertOp) (b : Before) (pass : Pass) (of : IsPassOf table pass) (i : IsInserting n table x (record op { state = Linking b }) (caller table pass)) where
  -- the row comes after the spot and before the next row
  row_after : ComesAfter (list_by x op.list.generation) (caller table pass).position.rows (cell b.spot) op.row op.event
  row_after = comes_after x op.list op.event op.row b.spot (caller table pass) (row_low table.start.layout op.row (hand_row table pass of op.row i.held)) stands i.list_is.is_head i.of_list i.at.0.passed.reached
    where
      stands : (s : Stand) → In s (caller table pass).position.rows → (s.row < 2 ^ 24) × (s.row ≢ op.row)
      stands s on = (row_low table.start.layout s.row (stand_row table pass of s.row s.event (s, on, refl, refl)), of.lawful.apart op.row s i.held on)

  row_before : ComesBefore (caller table pass).position.rows b.link.row op.row op.event
  row_before = comes_before op.event op.row b.link.row (caller table pass).position.rows i.event (row_low table.start.layout op.row (hand_row table pass of op.row i.held)) i.at.0.after

  -- what the link of a put needs is known once the row's place was found and all its words were written
  pub may_link : op.copy_of ≡ None → MayLink table.start.layout.workers x (cell b.spot) b.link op.row op.event (caller table pass)
  may_link put = let a : IsPutting table x (record op { state = Linking b }) (caller table pass) = subst (λ (o : Option CopyOf). InsertAsks o table x (record op { state = Linking b }) (caller table pass)) put i.asks in record {
    on = i.on;
    settled = a.settled;
    permit = a.permit;
    control = i.list_is.control;
    in_hand_is = i.held;
    event = i.event;
    expected = (i.at.0.passed.bits, i.at.0.passed.present, i.at.0.passed.generation ∙ a.opened);
    written = subst (λ (o : Option CopyOf). IsWritten (own_mark o) (caller table pass).written op.row op.event b.link) put i.at.1;
    after = comes_as (list_by x op.list.generation) (head_of x) (caller table pass).position.rows (cell b.spot) op.row op.event (λ d. now_list x op.list.generation d a.opened) row_after;
    before = row_before;
    fresh = a.fresh;
  }

  -- and that of a copy
  pub may_copy : (o : CopyOf) → op.copy_of ≡ Some o → MayOweCopy (cell b.spot) b.link (own_debt op o) (caller table pass)
  may_copy o copy = let p = caller table pass in let a : IsCopying x (record op { state = Linking b }) o p = subst (λ (o : Option CopyOf). InsertAsks o table x (record op { state = Linking b }) p) copy i.asks in (
    x,
    a.stand,
    record {
      on = i.on;
      none = a.none;
      room = a.room;
      control = i.list_is.control;
      moving = a.moving;
      helps = a.helps;
      old = a.old;
      frozen = a.last;
      in_hand_is = i.held;
      event = subst IsEvent (sym a.old_event) i.event;
      expected = (i.at.0.passed.bits, i.at.0.passed.present, i.at.0.passed.generation ∙ a.next);
      written = subst (λ (e : Event). IsWritten Inv p.written op.row e b.link) (sym a.old_event) (subst (λ (o : Option CopyOf). IsWritten (own_mark o) p.written op.row op.event b.link) copy i.at.1);
      after = subst (λ (e : Event). ComesAfter (next_list x) p.position.rows (cell b.spot) op.row e) (sym a.old_event)
          (comes_as (list_by x op.list.generation) (next_list x) p.position.rows (cell b.spot) op.row op.event (λ d. moved_list x op.list.generation d a.next) row_after);
      before = subst (λ (e : Event). ComesBefore p.position.rows b.link.row op.row e) (sym a.old_event) row_before;
    },
    λ k. record {
      old = a.old_row k;
      copy = op.row;
      event = a.old_event k;
      generation = sym a.next k;
      head = (ap (next_list x) a.old_event ∙ (sym (moved_list x op.list.generation op.event a.next) ∙ i.of_list)) k;
      last = o.last;
    },
  )

-- What stays

-- the steps grow in number
pub counts_on : (n : ℕ) (b : Bool) (p q : Caller) → Works n b p q → n ≤ length p.made → n ≤ length q.made
counts_on n b p q works low = subst (λ ms. n ≤ length ms) (sym works.made) (simp length-append (omega arith))

-- the control word that was found stays, and so does what is known of the list
pub list_stays : (x : Control) (list : ListAt) (p q : Caller) → q.found ≡ p.found → IsListOf x list p → IsListOf x list q
list_stays x list p q found is = record { control = ap (λ (f : Found). f.control) found ∙ is.control; told = is.told; is_head = is.is_head; opened = is.opened }

-- what an insertion asks of its caller stays with these parts
asks_stay : (table : Table) (x : Control) (op : InsertOp) (s s' : InsertState) (o : Option CopyOf) (p q : Caller) → Stays p q → Lawful q → q.found.control ≡ Some x → KeepsCopying p q → q.debts.settle ≡ p.debts.settle → q.own ≡ p.own
    → InsertAsks o table x (record op { state = s }) p → InsertAsks o table x (record op { state = s' }) q
asks_stay table x op s s' None p q stays law control keeps settle own a = record {
  settled = settle ∙ a.settled;
  permit = stays.permit ∙ a.permit;
  opened = a.opened;
  fresh = subst (λ (z : Deal × List Entry × ℕ). IsFresh table.start.layout.workers z.0.history z.1 z.0.span z.2 op.event) (λ k. (sym stays.deal k, sym own k, sym stays.number k)) a.fresh;
}
asks_stay table x op s s' (Some o) p q stays law control keeps settle own a = let i = keeps.on.help a.helps.0 a.helps.1 in record {
  none = keeps.copying ∙ a.none;
  room = keeps.on.room a.room;
  moving = a.moving;
  next = a.next;
  helps = (i.0, i.1, all i.0 i.1 i.2);
  stand = a.stand;
  old = keeps.old ∙ a.old;
  old_row = a.old_row;
  old_event = a.old_event;
  last = a.last;
}
  where
    one_control : (y z : Control) → Some y ≡ Some z → y ≡ z
    one_control y z same = cc

    all : (i : Help) → q.help ≡ Some i → HelpGrows a.helps.0 i → i.frozen ≡ 2 ^ x.log
    all i is grows = let t = law.helping i is in let most : i.frozen ≤ 2 ^ x.log = subst (λ (z : Control). i.frozen ≤ 2 ^ z.log) (one_control t.0 x (sym t.1 ∙ control)) t.2.frozen in
        let least : 2 ^ x.log ≤ i.frozen = subst (λ z. z ≤ i.frozen) a.helps.2 grows.frozen in omega arith

-- what an insertion knows of its caller besides its place stays with these parts
pub still_inserting : (n : ℕ) (table : Table) (x : Control) (op : InsertOp) (s s' : InsertState) (p q : Caller) → Stays p q → Lawful q → KeepsCopying p q → q.debts.settle ≡ p.debts.settle → n ≤ length q.made → q.own ≡ p.own → q.hand ≡ p.hand → IsInsertingAt n table x (record op { state = s' }) s' q
    → IsInserting n table x (record op { state = s }) p → IsInserting n table x (record op { state = s' }) q
still_inserting n table x op s s' p q stays law keeps settle counted own hand at i = let list_is = list_stays x op.list p q stays.found i.list_is in record {
  counted = counted;
  on = subst IsOn (sym stays.guard) i.on;
  list_is = list_is;
  of_list = i.of_list;
  held = subst (In op.row) (sym hand) i.held;
  event = i.event;
  asks = asks_stay table x op s s' op.copy_of p q stays law list_is.control keeps settle own i.asks;
  at = at;
}

-- the list is to be walked from its head
pub seeks_anew : (n : ℕ) (b : Bool) (table : Table) (x : Control) (op : InsertOp) (s : InsertState) (p q : Caller) → Works n b p q → q.cut ≡ None → IsInserting n table x (record op { state = s }) p
    → IsSeeking n table x (sought_by op) (Load (Head op.list.head)) q
seeks_anew n b table x op s p q works none i = record {
  counted = counts_on n b p q works i.counted;
  on = subst IsOn (sym works.stays.guard) i.on;
  list_is = list_stays x op.list p q works.stays.found i.list_is;
  target_is = i.of_list;
  swept = sweep_begins table.start.layout (at_head op.list.head) (drop n q.made);
  at = (none, refl);
}

-- the step is of this kind
abbrev pub WorksAs : ℕ → Bool → StepKind → Caller → Caller → Type 0
WorksAs n exchanges kind p q = (w : Works n exchanges p q) × (w.step.kind ≡ kind)

pub seek_no_link : (seek : SeekState) → is_link (seek_kind seek) ≡ false
seek_no_link (Load spot) = refl
seek_no_link (Reading b place) = refl
seek_no_link (Passing b) = refl
seek_no_link (Cutting b last) = refl
seek_no_link (Tagging spot row) = refl
seek_no_link (Retiring spot row tag) = refl

-- Writing a row in hand leaves what is known of a spot that was passed

module _ (m : Made) (r place word : ℕ) (p : Caller) where
  abbrev after_write : Caller
  after_write = makes m (writes r place word p)

  pub write_works : (n : ℕ) (q : Caller) → is_exchange m.kind ≡ false → q ≡ after_write → WorksAs n false m.kind p q
  write_works n q quiet e = subst (WorksAs n false m.kind p) (sym e) (
    record {
      stays = record { number = refl; start = refl; deal = refl; found = refl; guard = refl; permit = refl; sight = refl; told = refl };
      step = m;
      made = refl;
      kind = quiet;
      expects = λ is. absurd (false≢true (sym quiet ∙ is));
      timed = λ is. absurd (false≢true (sym (plain_no_tick m.kind quiet) ∙ is));
      settle = λ _. refl;
    },
    refl,
  )

  reached_stays : (x : Control) (list : ListAt) (target : Target) (spot : Spot) → IsReached x list target spot p → IsReached x list target spot after_write
  reached_stays x list target (Head h) is = is
  reached_stays x list target (Row s) is = is

  beyond_stays : (spot : Spot) (e : Event) (s : ℕ) → IsBeyondSpot spot e s p → IsBeyondSpot spot e s after_write
  beyond_stays (Head h) e s is = is
  beyond_stays (Row t) e s is = is

  pub there_stays : (n : ℕ) (table : Table) (x : Control) (sought : Sought) (b : Before) → n ≤ length p.made → m.word ≢ index table.start.layout (cell_place (cell b.spot)) → IsThere n table x sought b p → IsThere n table x sought b after_write
  there_stays n table x sought b begun ne is = record {
    none = is.none;
    passed = record {
      bits = is.passed.bits;
      present = is.passed.present;
      generation = is.passed.generation;
      known = known_else n p.made m (index table.start.layout (cell_place (cell b.spot))) begun ne ∙ is.passed.known;
      reached = reached_stays x sought.list sought.target b.spot is.passed.reached;
      swept = sweep_stays n p.made after_write.made m refl begun table.start.layout (at_head sought.list.head) (at_row b.link.row) is.passed.swept;
      next = λ some. let t = is.passed.next some in record { event = t.event; on = t.on; belongs = t.belongs; beyond = beyond_stays b.spot t.event b.link.row t.beyond };
      owed = record { ahead = is.passed.owed.ahead };
    };
    after = is.after;
  }

-- the row's own link is another word than the spot's
pub word_apart : (l : Layout) (x : Control) (list : ListAt) (target : Target) (r : ℕ) (spot : Spot) (p : Caller) → IsRow l r → IsHead list.head → ((s : Stand) → In s p.position.rows → s.row ≢ r) → IsReached x list target spot p
    → index l (link r) ≢ index l (cell_place (cell spot))
word_apart l x list target r (Head h) p row is_head apart reached e = omega arith
word_apart l x list target r (Row s) p row is_head apart reached e = let on = reached.1 in apart on.0 on.1 (on.2 ∙ omega arith)

module _ (n : ℕ) (table : Table) (x : Control) (op : InsertOp) (old new : Pass) where
  -- the rows in hand are the free ones of the pass
  hand_stays : IsPassOf table old → IsPassOf table new → new.free.items ≡ old.free.items → (caller table new).hand ≡ (caller table old).hand
  hand_stays of is free = sym is.free ∙ (free ∙ of.free)

  -- a step after which there is more to do
  pub goes_on : (s s' : InsertState) → IsPassOf table old → IsPassOf table new → WorksAs n (state_exchanges s) (insert_kind op.copy_of s) (caller table old) (caller table new) → KeepsCopying (caller table old) (caller table new) → (caller table new).debts.settle ≡ (caller table old).debts.settle → new.turns ≡ turns_after (state_exchanges s) old.turns → new.number ≡ old.number
      → new.debts ≡ old.debts → ((d : CutDebt) → HasName (names_of (caller table new).debts) d → HasName (names_of (caller table old).debts) d) → (caller table new).own ≡ (caller table old).own → new.free.items ≡ old.free.items
      → IsInsertingAt n table x (record op { state = s' }) s' (caller table new) → (state_exchanges s ≡ true) ⊎ (state_left s' (caller table new) < state_left s (caller table old))
      → IsInserting n table x (record op { state = s }) (caller table old) → InsertStepped n table x (record op { state = s }) (record op { state = s' }) old new More
  goes_on s s' of is works keeps settle turns number debts owed own free at less i = record {
    is = is;
    works = works.0;
    kind = works.1;
    turns = turns;
    number = number;
    debts = debts;
    owed = owed;
    helps = keeps.on;
    answers = (still_inserting n table x op s s' (caller table old) (caller table new) works.0.stays is.lawful keeps settle (counts_on n (state_exchanges s) (caller table old) (caller table new) works.0 i.counted) own (hand_stays of is free) at i, refl, own, free, less);
  }

  -- the walk goes on
  pub seeks_on : (seek seek' : SeekState) → IsPassOf table old → IsInserting n table x (record op { state = Seeking seek }) (caller table old) → SeekStepped n table x (sought_by op) seek seek' old new More
      → InsertStepped n table x (record op { state = Seeking seek }) (record op { state = Seeking seek' }) old new More
  seeks_on seek seek' of i s = goes_on (Seeking seek) (Seeking seek') of s.is (s.works, s.kind) s.copying (s.works.settle (ap is_link s.kind ∙ seek_no_link seek)) s.turns s.number s.debts s.owed s.own s.free
      (s.answers.0, subst (λ w. AreWritten w op.row op.event 6) (sym s.written) i.at.1) (⊎_elim (λ e. inl e) (λ less. inr (omega arith)) s.answers.1) i

  -- it came to the row's place
  pub seeks_there : (seek seek' : SeekState) (b : Before) → IsPassOf table old → IsInserting n table x (record op { state = Seeking seek }) (caller table old) → SeekStepped n table x (sought_by op) seek seek' old new (Done (There b))
      → InsertStepped n table x (record op { state = Seeking seek }) (record op { state = Placing b }) old new More
  seeks_there seek seek' b of i s = goes_on (Seeking seek) (Placing b) of s.is (s.works, s.kind) s.copying (s.works.settle (ap is_link s.kind ∙ seek_no_link seek)) s.turns s.number s.debts s.owed s.own s.free
      (s.answers, subst (λ w. AreWritten w op.row op.event 6) (sym s.written) i.at.1) (inr (omega arith)) i

  -- it found a frozen link
  pub seeks_frozen : (seek seek' : SeekState) → IsPassOf table old → IsInserting n table x (record op { state = Seeking seek }) (caller table old) → SeekStepped n table x (sought_by op) seek seek' old new (Done FoundFrozen)
      → InsertStepped n table x (record op { state = Seeking seek }) (record op { state = Seeking seek' }) old new (Done Frozen)
  seeks_frozen seek seek' of i s = record {
    is = s.is;
    works = s.works;
    kind = s.kind;
    turns = s.turns;
    number = s.number;
    debts = s.debts;
    owed = s.owed;
    helps = s.copying.on;
    answers = (
      s.own,
      s.free,
      s.answers.0,
      asks_stay table x op (Seeking seek) (Seeking seek) op.copy_of (caller table old) (caller table new) s.works.stays s.is.lawful (list_stays x op.list (caller table old) (caller table new) s.works.stays.found i.list_is).control s.copying
          (s.works.settle (ap is_link s.kind ∙ seek_no_link seek)) s.own i.asks,
      s.answers.1,
    );
  }

  -- a word of the row was written
  pub writes_on : (s s' : InsertState) (place word w : ℕ) → state_exchanges s ≡ false → insert_kind op.copy_of s ≡ Write → IsPassOf table old → IsInserting n table x (record op { state = s }) (caller table old)
      → Stepped table old new (store_made Write w word) (writes op.row place word) → IsInsertingAt n table x (record op { state = s' }) s' (caller table new) → state_left s' (caller table new) < state_left s (caller table old)
      → InsertStepped n table x (record op { state = s }) (record op { state = s' }) old new More
  writes_on s s' place word w quiet writes of i t at less = goes_on s s' of t.is
      (subst (λ (z : Bool × StepKind). WorksAs n z.0 z.1 (caller table old) (caller table new)) (λ k. (sym quiet k, sym writes k)) (write_works (store_made Write w word) op.row place word (caller table old) n (caller table new) refl t.part))
      (subst (KeepsCopying (caller table old)) (sym t.part) (same_keeps (caller table old) (after_write (store_made Write w word) op.row place word (caller table old)) refl refl refl))
      (ap (λ (y : Caller). y.debts.settle) t.part)
      (ap (λ (y : Pass). y.turns) t.same ∙ ap (λ b. turns_after b old.turns) (sym quiet)) (ap (λ (y : Pass). y.number) t.same) (ap (λ (y : Pass). y.debts) t.same) (λ d has. subst (λ (q : Caller). HasName (names_of q.debts) d) t.part has) (ap (λ (y : Caller). y.own) t.part)
      (ap (λ (y : Pass). y.free.items) t.same) at (inr less) i

  module _ (of : IsPassOf table old) (place word w : ℕ) (is : word ≡ event_word op.event place) (i : IsInserting n table x (record op { state = Writing place }) (caller table old))
      (t : Stepped table old new (store_made Write w word) (writes op.row place word)) where
    are : AreWritten (caller table new).written op.row op.event (place + 1)
    are = subst (λ (q : Caller). AreWritten q.written op.row op.event (place + 1)) (sym t.part) (written_next (caller table old).written op.row op.event place word i.at.1 is i.at.3)

    none : (caller table new).cut ≡ None
    none = ap (λ (q : Caller). q.cut) t.part ∙ i.at.0

    -- and the next one is to be written
    pub writes_next : place < 5 → InsertStepped n table x (record op { state = Writing place }) (record op { state = Writing (place + 1) }) old new More
    writes_next low = writes_on (Writing place) (Writing (place + 1)) place word w refl refl of i t (none, omega arith, omega arith, are) (omega arith)

    -- and it was the last one
    pub writes_last : 5 ≤ place → InsertStepped n table x (record op { state = Writing place }) (record op { state = Seeking (Load (Head op.list.head)) }) old new More
    writes_last high = let last : place ≡ 5 = omega (arith, i.at.2) in writes_on (Writing place) (Seeking (Load (Head op.list.head))) place word w refl refl of i t (
      seeks_anew n false table x op (Writing place) (caller table old) (caller table new) (write_works (store_made Write w word) op.row place word (caller table old) n (caller table new) refl t.part).0 none i,
      subst (λ z. AreWritten (caller table new).written op.row op.event (z + 1)) last are,
    ) (omega (arith, i.at.2))

  -- the row's own link was written
  pub writes_link : (b : Before) (word : ℕ) → word ≡ link_word (record b.link { mark = own_mark op.copy_of }) → IsPassOf table old → IsInserting n table x (record op { state = Placing b }) (caller table old)
      → Stepped table old new (store_made Write (index table.start.layout (link op.row)) word) (writes op.row 0 word) → InsertStepped n table x (record op { state = Placing b }) (record op { state = Linking b }) old new More
  writes_link b word is of i t = let m = store_made Write (index table.start.layout (link op.row)) word in let p = caller table old in
      writes_on (Placing b) (Linking b) 0 word (index table.start.layout (link op.row)) refl refl of i t
      (subst (IsInsertingAt n table x (record op { state = Linking b }) (Linking b)) (sym t.part) (
        there_stays m op.row 0 word p n table x (sought_by op) b i.counted (word_apart table.start.layout x op.list (sought_by op).target op.row b.spot p (hand_row table old of op.row i.held) i.list_is.is_head (λ s. of.lawful.apart op.row s i.held) i.at.0.passed.reached) i.at.0,
        subst (λ z. IsWritten (own_mark op.copy_of) (wrote op.row 0 z p.written) op.row op.event b.link) (sym is) (written_all p.written op.row op.event (own_mark op.copy_of) b.link i.at.1),
      ))
      (omega arith)

  module _ (b : Before) (of : IsPassOf table old) (i : IsInserting n table x (record op { state = Linking b }) (caller table old)) where
    -- the row in hand isn't the next one
    row_apart : op.row ≢ b.link.row
    row_apart same = let row = hand_row table old of op.row i.held in ⊎_elim
        (λ (none : b.link.row ≡ 0). omega arith)
        (λ (t : (f : Event) × StandsOn (caller table old).position.rows b.link.row f × IsAfter (sought_by op).target f b.link.row). let on = t.1 in of.lawful.apart op.row on.0 i.held on.1 (on.2 ∙ sym same)) i.at.0.after

    -- the exchange expects the link that was found at the spot
    link_works : (kind : StepKind) (f : Caller → Caller) (found : ℕ) → is_exchange kind ≡ true → is_tick kind ≡ false → (is_link kind ≡ false → (f (caller table old)).debts.settle ≡ (caller table old).debts.settle) → Stays (caller table old) (f (caller table old))
        → (f (caller table old)).made ≡ (caller table old).made
        → caller table new ≡ makes (step_made kind (index table.start.layout (cell_place (cell b.spot))) (link_word b.link) (link_word (record b.link { row = op.row })) found) (f (caller table old)) → WorksAs n true kind (caller table old) (caller table new)
    link_works kind f found exchanges plain settle stays made part = let m = step_made kind (index table.start.layout (cell_place (cell b.spot))) (link_word b.link) (link_word (record b.link { row = op.row })) found in
        subst (WorksAs n true kind (caller table old)) (sym part) (
          record {
            stays = record { number = stays.number; start = stays.start; deal = stays.deal; found = stays.found; guard = stays.guard; permit = stays.permit; sight = stays.sight; told = stays.told };
            step = m;
            made = ap (λ ms. ms ++ m ∷ []) made;
            kind = exchanges;
            expects = λ _. (i.at.0.passed.known, rows_apart b.link op.row row_apart);
            timed = λ yes. absurd (false≢true (sym plain ∙ yes));
            settle = settle;
          },
          refl,
        )

    same : Stays (caller table old) (caller table old)
    same = record { number = refl; start = refl; deal = refl; found = refl; guard = refl; permit = refl; sight = refl; told = refl }

    -- the event was put
    pub links_row : op.copy_of ≡ None → LinkSwapped table old new (cell b.spot) b.link x op.row op.event true → InsertStepped n table x (record op { state = Linking b }) (record op { state = Linking b }) old new (Done Linked)
    links_row put s = let p = caller table old in
        let works = link_works LinkKind (links x op.row op.event) s.swapped.found refl refl (λ no. absurd (cc)) (record { number = refl; start = refl; deal = refl; found = refl; guard = refl; permit = refl; sight = refl; told = refl }) refl s.swapped.part in record {
          is = s.swapped.is;
          works = works.0;
          kind = works.1 ∙ sym (ap link_kind put);
          turns = s.swapped.turns;
          number = s.swapped.number;
          debts = s.debts ∙ sym (ap (λ (o : Option CopyOf). copy_noted o (record op { state = Linking b }) old.debts) put);
          owed = λ d has. subst (λ (q : Caller). HasName (names_of q.debts) d) s.swapped.part has;
          helps = helps_same p (caller table new) (ap (λ (q : Caller). q.help) s.swapped.part) (ap (λ (q : Caller). q.debts.second_cut) s.swapped.part);
          answers = (
            subst (λ (o : Option CopyOf). LinkAnswers o x (record op { state = Linking b }) old p (caller table new)) (sym put)
                (ap (λ (q : Caller). q.own) s.swapped.part ∙ ap (λ j. p.own ++ Put j op.event ∷ []) of.sits.numbered, ap (λ (q : Caller). q.debts.settle) s.swapped.part),
            s.free,
            ap (λ (q : Caller). q.cut) s.swapped.part ∙ i.at.0.none,
            refl,
          );
        }

    -- the copy was linked
    pub copies_row : (o : CopyOf) → op.copy_of ≡ Some o → CopySwapped table old new (cell b.spot) b.link (own_debt op o) true → InsertStepped n table x (record op { state = Linking b }) (record op { state = Linking b }) old new (Done Linked)
    copies_row o copy s = let p = caller table old in let a : IsCopying x (record op { state = Linking b }) o p = subst (λ (o : Option CopyOf). InsertAsks o table x (record op { state = Linking b }) p) copy i.asks in
        let works = link_works CopyKind (owes_copy (own_debt op o)) s.swapped.found refl refl (λ _. refl) (record { number = refl; start = refl; deal = refl; found = refl; guard = refl; permit = refl; sight = refl; told = refl }) refl s.swapped.part in record {
          is = s.swapped.is;
          works = works.0;
          kind = works.1 ∙ sym (ap link_kind copy);
          turns = s.swapped.turns;
          number = s.swapped.number;
          debts = s.debts ∙ sym (ap (λ (z : Option CopyOf). copy_noted z (record op { state = Linking b }) old.debts) copy);
          owed = λ d has. subst (λ (q : Caller). HasName (names_of q.debts) d) s.swapped.part has;
          helps = helps_same p (caller table new) (ap (λ (q : Caller). q.help) s.swapped.part) (ap (λ (q : Caller). q.debts.second_cut) s.swapped.part);
          answers = (
            subst (λ (z : Option CopyOf). LinkAnswers z x (record op { state = Linking b }) old p (caller table new)) (sym copy) (
              ap (λ (q : Caller). q.own) s.swapped.part,
              ap (λ (q : Caller). q.debts.settle) s.swapped.part,
              ap (λ (q : Caller). q.debts.copy) s.swapped.part,
              ap (λ (q : Caller). q.debts.second_cut) s.swapped.part ∙ a.room,
            ),
            s.free,
            ap (λ (q : Caller). q.cut) s.swapped.part ∙ i.at.0.none,
            refl,
          );
        }

    -- the spot's link had changed
    swaps_not : (kind : StepKind) (to : Link) (f : Caller → Caller) → to ≡ record b.link { row = op.row } → is_exchange kind ≡ true → is_tick kind ≡ false → link_kind op.copy_of ≡ kind → Swapped kind table old new (cell b.spot) b.link to f false → new.free.items ≡ old.free.items → new.debts ≡ old.debts
        → InsertStepped n table x (record op { state = Linking b }) (record op { state = Seeking (Load (Head op.list.head)) }) old new More
    swaps_not kind to f is exchanges plain of_kind s free debts = let p = caller table old in
        let m = step_made kind (index table.start.layout (cell_place (cell b.spot))) (link_word b.link) (link_word to) s.found in
        let works = link_works kind (λ p. p) s.found exchanges plain (λ _. refl) same refl (s.part ∙ ap (λ l. makes (step_made kind (index table.start.layout (cell_place (cell b.spot))) (link_word b.link) (link_word l) s.found) p) is) in
        goes_on (Linking b) (Seeking (Load (Head op.list.head))) of s.is (works.0, works.1 ∙ sym of_kind) (subst (KeepsCopying p) (sym s.part) (same_keeps p (makes m p) refl refl refl)) (ap (λ (q : Caller). q.debts.settle) s.part) s.turns s.number debts (λ d has. subst (λ (q : Caller). HasName (names_of q.debts) d) s.part has) (ap (λ (q : Caller). q.own) s.part) free (
          seeks_anew n true table x op (Linking b) p (caller table new) works.0 (ap (λ (q : Caller). q.cut) s.part ∙ i.at.0.none) i,
          subst (λ (q : Caller). AreWritten q.written op.row op.event 6) (sym s.part) (written_back p.written op.row op.event (own_mark op.copy_of) b.link i.at.1),
        ) (inl refl) i

  -- what follows on the exchange, won or not
  pub links_told : (b : Before) (won : Bool) → IsPassOf table old → op.copy_of ≡ None → LinkSwapped table old new (cell b.spot) b.link x op.row op.event won → IsInserting n table x (record op { state = Linking b }) (caller table old)
      → InsertStepped n table x (record op { state = Linking b }) (record op { state = (after_link op.list b won).0 }) old new (after_link op.list b won).1
  links_told b true of put s i = links_row b of i put s
  links_told b false of put s i = swaps_not b of i LinkKind (record b.link { row = op.row }) (links x op.row op.event) refl refl refl (ap link_kind put) s.swapped s.free s.debts

  pub copies_told : (b : Before) (won : Bool) (o : CopyOf) → IsPassOf table old → op.copy_of ≡ Some o → CopySwapped table old new (cell b.spot) b.link (own_debt op o) won → IsInserting n table x (record op { state = Linking b }) (caller table old)
      → InsertStepped n table x (record op { state = Linking b }) (record op { state = (after_link op.list b won).0 }) old new (after_link op.list b won).1
  copies_told b true o of copy s i = copies_row b of i o copy s
  copies_told b false o of copy s i = swaps_not b of i CopyKind (record b.link { row = op.row }) (owes_copy (own_debt op o)) refl refl refl (ap link_kind copy) s.swapped s.free s.debts

-- a step from the state in which the insertion is, whatever it answered
pub steps_from : (n : ℕ) (table : Table) (x : Control) (op : InsertOp) (s : InsertState) (old new new' : Pass) (r r' : InsertState × Progress InsertEnd) → op.state ≡ s → new' ≡ new → r' ≡ r
    → (IsInserting n table x (record op { state = s }) (caller table old) → InsertStepped n table x (record op { state = s }) (record op { state = r.0 }) old new r.1)
    → IsInserting n table x op (caller table old) → InsertStepped n table x op (record op { state = r'.0 }) old new' r'.1
steps_from n table x op s old new new' r r' at pass answer step i = subst (λ (z : Pass × (InsertState × Progress InsertEnd)). InsertStepped n table x op (record op { state = z.1.0 }) old z.0 z.1.1) (λ k. (sym pass k, sym answer k))
    (subst (λ z. IsInserting n table x (record op { state = z }) (caller table old) → InsertStepped n table x (record op { state = z }) (record op { state = r.0 }) old new r.1) (sym at) step i)
