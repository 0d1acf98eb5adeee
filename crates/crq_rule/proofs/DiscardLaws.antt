-- A caller that discards a copy keeps the invariant: the copy carried nothing, and the caller names it.
use Rattle.std.proofs.Common.{◌≡◌, ◌≢◌, ◌⊎◌, ⊎_elim, inl, inr, ℕ, ◌<◌, ◌≤◌, Option, Some, None, sym, refl, ap, ◌∙◌, subst, arith}
use Rattle.std.proofs.lemmas.Bool.{false≢true}
use Rattle.std.proofs.lemmas.Option.{same_Some}
use Rattle.crq_base.specs.declared.event.Event.{Event}
use Rattle.crq_base.specs.declared.words.Link.{Link}
use Rattle.crq_base.specs.declared.words.Mark.TheVariants.{Val, Inv as Invalid, Mov, Del}
use Rattle.crq_base.specs.Lists.{In}
use Rattle.crq_rule.specs.declared.debts.CopyDebt.{CopyDebt}
use Rattle.crq_rule.specs.declared.debts.CutDebt.{CutDebt}
use Rattle.crq_rule.specs.declared.view.Stand.{Stand}
use Rattle.crq_rule.specs.Lists.{put}
use Rattle.crq_rule.specs.Places.{IsRow}
use Rattle.crq_rule.specs.Core.{Core, DeadNames, HasName, IsOutside, caller_of}
use Rattle.crq_rule.specs.Parts.{newest, ground_of, IsGuarded, IsEvent, rows_of, rows_of_copy}
use Rattle.crq_rule.specs.ListParts.{StandFits, IsFinal, IsNamed, IsOldHead}
use Rattle.crq_rule.specs.HistoryParts.{Carriers}
use Rattle.crq_rule.specs.Ranks.{list_in}
use Rattle.crq_rule.specs.Copies.{IsListed, IsBound, Copies, Rooms}
use Rattle.crq_rule.specs.Invariant.{rows_of_core, Inv}
use Rattle.crq_rule.specs.ListKinds.{is_cell}
use Rattle.crq_rule.specs.CopyKinds.{also_named, named_too, lost_name, front_name, discarded_by, MayDrop, MayDiscard}
use Rattle.crq_rule.proofs.Puts.{put_here, put_else, put_all}
use Rattle.crq_rule.proofs.CoverLaws.{guarded_by, stand_row}
use Rattle.crq_rule.proofs.HeadLaws.{cell_listed, dead_carries}
use Rattle.crq_rule.proofs.SearchLaws.{stand_covered}
use Rattle.crq_rule.proofs.SteadyLaws.{steady_names, still_row, guarded_out, still_mark}
use Rattle.crq_rule.proofs.CopyLaws.{debt_guarded}
use Rattle.crq_rule.proofs.CopyMarks.{put_same, inv_open, marked_as, mark_here, inv_dead, live_stays, live_was, carriers_same, Marking, to_dead, no_bound, old_twin, copies_marked, copies_dropped}
use Rattle.crq_rule.proofs.MarkLaws.{naming_dead}
use Rattle.crq_rule.proofs.NotingLaws.{noting, noted_keeps, front_in, front_held, front_open}

inv_val : Invalid ≡ Val → ⊥
inv_val e = cc

inv_del : Invalid ≡ Del → ⊥
inv_del e = cc

del_inv : Del ≡ Invalid → ⊥
del_inv e = cc

del_mov : Del ≡ Mov → ⊥
del_mov e = cc

none_name : (d : CutDebt) → None ≡ Some d → ⊥
none_name d e = cc

some_none : (d : CutDebt) → Some d ≡ None → ⊥
some_none d e = cc

none_debt : (d : CopyDebt) → None ≡ Some d → ⊥
none_debt d e = cc

-- One name more

also_has : (n : CutDebt) (o second : Option CutDebt) → HasName (also_named n o second) n
also_has n None second = inl refl
also_has n (Some f) second = inr refl

also_stays : (n : CutDebt) (o second : Option CutDebt) (e : CutDebt) → second ≡ None → HasName (record { first = o; second = second }) e → HasName (also_named n o second) e
also_stays n None second e room has = ⊎_elim (λ q. absurd (none_name e q)) inr has
also_stays n (Some f) second e room has = ⊎_elim inl (λ q. absurd (none_name e (sym room ∙ q))) has

also_before : (n : CutDebt) (o second : Option CutDebt) (e : CutDebt) → HasName (also_named n o second) e → HasName (record { first = o; second = second }) e ⊎ (n ≡ e)
also_before n None second e has = ⊎_elim (λ q. inr (same_Some n e q)) (λ q. inl (inr q)) has
also_before n (Some f) second e has = ⊎_elim (λ q. inl (inl q)) (λ q. inr (same_Some n e q)) has

also_first : (n : CutDebt) (o second : Option CutDebt) → (also_named n o second).first ≡ None → ⊥
also_first n None second is = some_none n is
also_first n (Some f) second is = some_none f is

module _ (j : ℕ) (n : CutDebt) (names : ℕ → DeadNames) where
  abbrev more : ℕ → DeadNames
  more = put names j (named_too n (names j))

  more_here : HasName (more j) n
  more_here = subst (λ x. HasName x n) (sym (put_here names j (named_too n (names j)))) (also_has n (names j).first (names j).second)

  more_stays : (names j).second ≡ None → (k : ℕ) (e : CutDebt) → HasName (names k) e → HasName (more k) e
  more_stays room k e = put_all names j (named_too n (names j)) (λ k x. HasName (names k) e → HasName x e) (also_stays n (names j).first (names j).second e room) (λ _ _ h. h) k

  more_before : (k : ℕ) (e : CutDebt) → HasName (more k) e → HasName (names k) e ⊎ (n ≡ e)
  more_before k e = put_all names j (named_too n (names j)) (λ k x. HasName x e → HasName (names k) e ⊎ (n ≡ e)) (also_before n (names j).first (names j).second e) (λ _ _ h. inl h) k

  -- of two the first stays first, and a caller that owes a copy has room for one more
  rooms_more : (count : ℕ) (copying copying' : ℕ → Option CopyDebt) → ((k : ℕ) (d : CopyDebt) → copying' k ≡ Some d → (k ≢ j) × (copying k ≡ Some d)) → Rooms count copying names → Rooms count copying' more
  rooms_more count copying copying' was old = record {
    ordered = put_all names j (named_too n (names j)) (λ k x. k < count → x.first ≡ None → x.second ≡ None) (λ _ is. absurd (also_first n (names j).first (names j).second is)) (λ k _. old.ordered k);
    room = λ k d b is. let h = was k d is in ap (λ (x : DeadNames). x.second) (put_else names j (named_too n (names j)) k h.0) ∙ old.room k d b h.1;
  }

-- The row r, a copy that isn't valid, dies, and the caller j names it with n

module _ (c : Core) (inv : Inv c) (j r : ℕ) (n : CutDebt) (copying' : ℕ → Option CopyDebt) (b : j < c.start.layout.workers) (row : IsRow c.start.layout r) (out : IsOutside c.holding r) (invalid : (c.words.link r).mark ≡ Invalid)
    (kept : (k : ℕ) (d : CopyDebt) → copying' k ≡ Some d → (k ≢ j) × (c.copying k ≡ Some d)) (room : (c.named j).second ≡ None) where
  abbrev links : ℕ → Link
  links = marked_as c.words.link r Del

  abbrev named' : ℕ → DeadNames
  named' = put c.named j (named_too n (c.named j))

  held : IsListed c.holding r
  held = cell_listed (c.holding r) (c.words.link r).mark (ap is_cell invalid) out (inv.marks.mark r row)

  fewer : (k a : ℕ) → In a (rows_of_copy (copying' k)) → In a (rows_of_copy (c.copying k))
  fewer k a = go (copying' k) refl
    where
      go : (o : Option CopyDebt) → copying' k ≡ o → In a (rows_of_copy o) → In a (rows_of_copy (c.copying k))
      go None is i = absurd i
      go (Some d) is i = subst (λ z. In a (rows_of_copy z)) (sym (kept k d is).1) i

  carriers_discarded : ((o : ℕ) → IsBound (rows_of_core c) o r → ⊥) → Carriers c.start.layout c.history links c.words.twin c.words.event c.holding
  carriers_discarded free = carriers_same c.start.layout c.history c.words.link links c.words.twin c.words.twin c.words.event c.holding
      (λ s v. live_stays c.start.layout c.words.link c.words.twin c.holding r Del s (λ same. inv_dead (c.words.link s).mark (c.words.twin s) (c.words.link (c.words.twin s)).mark (ap (λ z. (c.words.link z).mark) same ∙ invalid) v.2)
      (λ mov is. absurd (free s (record { row = v.0; listed_is = v.1; frozen = mov; twin_is = is; some = row.0 }))) v)
      (λ s v. live_was c.start.layout c.words.link c.words.twin c.holding r Del del_inv s
      (λ same. dead_carries (links s).mark (c.words.twin s) (links (c.words.twin s)).mark (ap (λ z. (links z).mark) same ∙ mark_here c.words.link r Del) v.2) v) inv.carriers

  -- what the name needs besides
  discard_inv : Marking (rows_of_core c) r Del → ((o : ℕ) → IsBound (rows_of_core c) o r → ⊥) → n.head ≡ list_in c.shape n.generation n.event → IsNamed c.words.head n r (c.words.event r) (record (c.words.link r) { mark = Del })
      → Copies (record (rows_of_core c) { link = links; copying = copying' }) (ground_of c) → Inv (noting c j r Del copying' named')
  discard_inv marking free list is copies = noted_keeps c j r Del copying' named' fewer marking (λ e. absurd (del_mov e)) (λ val. absurd (inv_val (sym invalid ∙ val)))
      (record {
        settles = inv.dues.settles;
        copies = λ k d b is. inv.dues.copies k d b (kept k d is).1;
        named = λ k e b has. ⊎_elim (inv.dues.named k e b) (λ same. subst (λ (e : CutDebt). (e.generation ≤ newest c.words.control) × (e.head ≡ list_in c.shape e.generation e.event)) same (low, list)) (more_before j n c.named k e has);
      })
      (steady_names _ _ _ _ _ named' (λ k e _ has. ⊎_elim inl (λ same. inr (λ no_move. ap (λ (e : CutDebt). e.generation) (sym same) ∙ (of ∙ still_row c inv no_move r row out))) (more_before j n c.named k e has))
      (λ still _ _ _. absurd (⊎_elim (λ val. inv_val (sym invalid ∙ val)) (λ del. inv_del (sym invalid ∙ del)) (still_mark c inv still r row out))) inv.steady)
      (naming_dead c.start.layout c.words.head c.words.link c.words.event c.holding r j n c.named named' b (more_here j n c.named) (more_stays j n c.named room) (more_before j n c.named) is
      (record { row = subst (IsRow c.start.layout) (sym is.row) row; event = subst IsEvent (sym is.event) (inv.spelled.events r row) }) inv.naming)
      (carriers_discarded free) copies (rooms_more j n c.named c.start.layout.workers c.copying copying' kept inv.rooms) inv
    where
      of : n.generation ≡ (c.words.link r).generation
      of = is.generation

      low : n.generation ≤ newest c.words.control
      low = subst (λ g. g ≤ newest c.words.control) (sym of) (inv.sizes.rows r row out)

-- Discard, of a copy that the caller owes

module _ (c : Core) (inv : Inv c) (j : ℕ) (d : CopyDebt) (b : j < c.start.layout.workers) (may : MayDrop d (c.words.link d.copy) (caller_of c j)) where
  abbrev rest : ℕ → Option CopyDebt
  rest = put c.copying j None

  guarded : IsGuarded (ground_of c) d.copy
  guarded = (debt_guarded c inv j d b may.owes).1

  copy_row : IsRow c.start.layout d.copy
  copy_row = inv.lanes.is_row d.copy guarded

  copy_out : IsOutside c.holding d.copy
  copy_out = guarded_out c inv d.copy guarded

  others : (k : ℕ) (e : CopyDebt) → rest k ≡ Some e → (k ≢ j) × (c.copying k ≡ Some e)
  others k e = put_all c.copying j None (λ k o. o ≡ Some e → (k ≢ j) × (c.copying k ≡ Some e)) (λ is. absurd (none_debt e is)) (λ k ne is. (ne, is)) k

  free : (o : ℕ) → IsBound (rows_of_core c) o d.copy → ⊥
  free o bound = inv.copies.apart o d.copy bound (record { who = j; inside = b; owed = d; debt = may.owes; copy = refl })

  -- the old row has a twin
  old_some : c.words.twin d.old ≢ 0
  old_some none = let t = (inv.standing.each j may.lost.0 b may.lost.1).copy may.lost.3.0 may.lost.3.1 in
      let zero : c.words.twin may.lost.0.row ≡ 0 = ap c.words.twin may.lost.2 ∙ none in let same = t.0 in let some = t.1 in omega arith

  has_twin : (k : ℕ) (e : CopyDebt) → k < c.start.layout.workers → c.copying k ≡ Some e → e.copy ≡ d.copy → c.words.twin e.old ≢ 0
  has_twin k e bk is same none = let w : k ≡ j = inv.copies.alone k j e d bk b is may.owes same in
      old_some (ap (λ (x : CopyDebt). c.words.twin x.old) (sym (same_Some e d (sym is ∙ (ap c.copying w ∙ may.owes)))) ∙ none)

  marking : Marking (rows_of_core c) d.copy Del
  marking = to_dead c inv d.copy copy_row (held c inv j d.copy (lost_name d) rest b copy_row copy_out may.copy others (inv.rooms.room j d b may.owes)) may.copy free has_twin

  drop_inv : Inv (discarded_by c j d.copy (c.words.link d.copy) (lost_name d) None)
  drop_inv = let f = inv.copies.debt j d b may.owes in discard_inv c inv j d.copy (lost_name d) rest b copy_row copy_out may.copy others (inv.rooms.room j d b may.owes) marking free (inv.dues.copies j d b may.owes).1
      (record { row = refl; event = sym f.copy_event; generation = sym f.generation; front = λ e. absurd (false≢true e) })
      (copies_dropped (record (rows_of_core c) { link = marked_as c.words.link d.copy Del }) (ground_of c) j d may.owes (mark_here c.words.link d.copy Del) (copies_marked (rows_of_core c) (ground_of c) d.copy Del marking inv.copies))

pub drop_keeps : (c : Core) (j : ℕ) (d : CopyDebt) (l : Link) → j < c.start.layout.workers → MayDrop d l (caller_of c j) → c.words.link d.copy ≡ l → Inv c → Inv (discarded_by c j d.copy l (lost_name d) None)
drop_keeps c j d l b may is inv = subst (λ z. Inv (discarded_by c j d.copy z (lost_name d) None)) is (drop_inv c inv j d b (subst (λ z. MayDrop d z (caller_of c j)) (sym is) may))

-- Discard, of the first row of a frozen head

module _ (c : Core) (inv : Inv c) (j q r : ℕ) (e : Event) (b : j < c.start.layout.workers) (may : MayDiscard q r e (c.words.link r) (caller_of c j)) where
  abbrev s : Stand
  s = may.on.0

  stand_guarded : IsGuarded (ground_of c) r
  stand_guarded = guarded_by j (stand_covered c inv j r b (subst (λ z. In z (rows_of (c.rows j))) may.on.2 (stand_row (c.rows j) s may.on.1)))

  front_row : IsRow c.start.layout r
  front_row = inv.lanes.is_row r stand_guarded

  front_out : IsOutside c.holding r
  front_out = guarded_out c inv r stand_guarded

  fits : StandFits c.words.head c.words.link c.words.twin c.words.event s
  fits = inv.standing.each j s b may.on.1

  holds : c.words.event r ≡ e
  holds = ap c.words.event (sym may.on.2) ∙ (fits.holds ∙ may.on.3)

  first : ((c.words.head q).mark ≡ Mov) × ((c.words.head q).row ≡ r)
  first = ⊎_elim (λ final. absurd (inv_open (c.words.link r).mark may.copy (subst (λ z. IsFinal (c.words.link z).mark) may.on.2 final))) (λ h. (h.0, h.1 ∙ may.on.2)) (fits.front q may.on.4)

  opened : IsOldHead c.words.control c.shape q × ((c.words.link r).generation ≡ c.words.control.generation)
  opened = front_open c inv r q front_row may.head first.0 first.1

  abbrev name : CutDebt
  name = front_name q r e (c.words.link r)

  list : q ≡ list_in c.shape (c.words.link r).generation e
  list = let i = front_in c inv r q front_row may.head first.0 first.1 in
      sym (inv.sorted.belongs q r may.head i) ∙ (λ k. list_in c.shape (sym (inv.sorted.generation q r may.head i) k) (holds k))

  no_twin : (o : ℕ) → IsBound (rows_of_core c) o r → ⊥
  no_twin o bound = no_bound c inv o r opened.1 bound

  still : (k : ℕ) (d : CopyDebt) → c.copying k ≡ Some d → (k ≢ j) × (c.copying k ≡ Some d)
  still k d is = (λ same. none_debt d (sym may.none ∙ (ap c.copying (sym same) ∙ is)), is)

  dead_marking : Marking (rows_of_core c) r Del
  dead_marking = to_dead c inv r front_row (q, front_held c inv r q front_row may.head first.0 first.1) may.copy no_twin
      (λ k d b is same. old_twin c inv k d b is (ap (λ z. (c.words.link z).generation) same ∙ opened.1))

  front_inv : Inv (discarded_by c j r (c.words.link r) name (c.copying j))
  front_inv = discard_inv c inv j r name (put c.copying j (c.copying j)) b front_row front_out may.copy (λ k d is. still k d (kept k d is)) may.room dead_marking no_twin list
      (record { row = refl; event = sym holds; generation = refl; front = λ _. first })
      (subst (λ f. Copies (record (rows_of_core c) { link = marked_as c.words.link r Del; copying = f }) (ground_of c)) (sym (put_same c.copying j)) (copies_marked (rows_of_core c) (ground_of c) r Del dead_marking inv.copies))
    where
      kept : (k : ℕ) (d : CopyDebt) → put c.copying j (c.copying j) k ≡ Some d → c.copying k ≡ Some d
      kept k d = put_all c.copying j (c.copying j) (λ k o. o ≡ Some d → c.copying k ≡ Some d) (λ e. e) (λ _ _ e. e) k

pub discard_keeps : (c : Core) (j q r : ℕ) (e : Event) (l : Link) → j < c.start.layout.workers → MayDiscard q r e l (caller_of c j) → c.words.link r ≡ l → Inv c → Inv (discarded_by c j r l (front_name q r e l) (c.copying j))
discard_keeps c j q r e l b may is inv = subst (λ z. Inv (discarded_by c j r z (front_name q r e z) (c.copying j))) is (front_inv c inv j q r e b (subst (λ z. MayDiscard q r e z (caller_of c j)) (sym is) may))
