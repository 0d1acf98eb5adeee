-- One listed row gets another mark: what stays of copies, and which rows carry their events then.
use Rattle.std.proofs.Common.{◌≡◌, ◌≢◌, ◌⊎◌, ⊎_elim, inl, inr, ℕ, ◌+◌, ◌<◌, List, Some, None, sym, refl, ap, ◌∙◌, subst, arith}
use mathlib.Core.Logic.{dite}
use native.Mathlib.Decide.{ℕ_discrete}
use Rattle.std.proofs.lemmas.Option.{same_Some}
use Rattle.crq_base.specs.declared.event.Event.{Event}
use Rattle.crq_base.specs.declared.entry.Entry.{Entry}
use Rattle.crq_base.specs.declared.words.Link.{Link}
use Rattle.crq_base.specs.declared.words.Mark.{Mark}
use Rattle.crq_base.specs.declared.words.Mark.TheVariants.{Val, Inv as Invalid, Mov, Del}
use Rattle.crq_rule.specs.declared.debts.CopyDebt.{CopyDebt}
use Rattle.crq_rule.specs.declared.layout.Layout.{Layout}
use Rattle.crq_rule.specs.Lists.{put}
use Rattle.crq_rule.specs.Places.{IsRow}
use Rattle.crq_rule.specs.Core.{Core, Holding}
use Rattle.crq_rule.specs.Parts.{Ground}
use Rattle.crq_rule.specs.ListParts.{IsFinal}
use Rattle.crq_rule.specs.HistoryParts.{IsCarrying, IsLive, Carriers}
use Rattle.crq_rule.specs.Copies.{Rows, IsListed, IsBound, IsCopying, CopyFits, Copies}
use Rattle.crq_rule.specs.Invariant.{rows_of_core, Inv}
use Rattle.crq_rule.proofs.Puts.{put_here, put_else, put_all}
use Rattle.crq_rule.proofs.SteadyLaws.{held_told}
use Rattle.crq_rule.proofs.CopyLaws.{listed_out, debt_guarded}

-- Marks

val_inv : Val ≡ Invalid → ⊥
val_inv e = cc

val_mov : Val ≡ Mov → ⊥
val_mov e = cc

val_del : Val ≡ Del → ⊥
val_del e = cc

inv_mov : Invalid ≡ Mov → ⊥
inv_mov e = cc

none_debt : (d : CopyDebt) → None ≡ Some d → ⊥
none_debt d e = cc

-- a frozen or dead row has its last mark, and one that is neither hasn't
pub not_mov : (m : Mark) → (IsFinal m → ⊥) → m ≢ Mov
not_mov m f e = f (subst IsFinal (sym e) tt)

pub val_open : (m : Mark) → m ≡ Val → IsFinal m → ⊥
val_open m is final = subst IsFinal is final

pub inv_open : (m : Mark) → m ≡ Invalid → IsFinal m → ⊥
inv_open m is final = subst IsFinal is final

-- a function set to what it is at a place is the same
pub put_same : {A : Type 0} (f : ℕ → A) (j : ℕ) → put f j (f j) ≡ f
put_same f j = λ i k. put_all f j (f j) (λ k z. z ≡ f k) refl (λ _ _. refl) k i

-- The row r comes to have the mark m, and all else stays

abbrev pub marked_as : (ℕ → Link) → ℕ → Mark → ℕ → Link
marked_as link r m = put link r (record (link r) { mark = m })

module _ (link : ℕ → Link) (r : ℕ) (m : Mark) where
  -- it leads to the same rows, and is of the same generation
  pub marked_row : (s : ℕ) → (marked_as link r m s).row ≡ (link s).row
  marked_row = put_all link r (record (link r) { mark = m }) (λ s l. l.row ≡ (link s).row) refl (λ s _. refl)

  pub marked_generation : (s : ℕ) → (marked_as link r m s).generation ≡ (link s).generation
  marked_generation = put_all link r (record (link r) { mark = m }) (λ s l. l.generation ≡ (link s).generation) refl (λ s _. refl)

  -- the mark of the row, and the links of others
  pub mark_here : (marked_as link r m r).mark ≡ m
  mark_here = ap (λ (z : Link). z.mark) (put_here link r (record (link r) { mark = m }))

  pub mark_else : (s : ℕ) → s ≢ r → marked_as link r m s ≡ link s
  mark_else s ne = put_else link r (record (link r) { mark = m }) s ne

  pub mark_stays : (s : ℕ) (a : Mark) → s ≢ r → (link s).mark ≡ a → (marked_as link r m s).mark ≡ a
  mark_stays s a ne is = ap (λ (z : Link). z.mark) (mark_else s ne) ∙ is

  pub mark_was : (s : ℕ) (a : Mark) → s ≢ r → (marked_as link r m s).mark ≡ a → (link s).mark ≡ a
  mark_was s a ne is = ap (λ (z : Link). z.mark) (sym (mark_else s ne)) ∙ is

  -- a row with another mark than m is another row, and so is one that had another mark than r
  pub other_now : (s : ℕ) (a : Mark) → m ≢ a → (marked_as link r m s).mark ≡ a → s ≢ r
  other_now s a ne is e = ne (sym mark_here ∙ (ap (λ z. (marked_as link r m z).mark) (sym e) ∙ is))

  pub other_then : (s : ℕ) (a : Mark) → (link r).mark ≢ a → (link s).mark ≡ a → s ≢ r
  other_then s a ne is e = ne (ap (λ z. (link z).mark) (sym e) ∙ is)

  -- no row comes to be a copy that isn't valid
  pub inv_was : m ≢ Invalid → (s : ℕ) → (marked_as link r m s).mark ≡ Invalid → (link s).mark ≡ Invalid
  inv_was differ s is = mark_was s Invalid (other_now s Invalid differ is) is

  -- frozen rows stay so, where r wasn't final
  pub mov_stays : (IsFinal (link r).mark → ⊥) → (s : ℕ) → (link s).mark ≡ Mov → (marked_as link r m s).mark ≡ Mov
  mov_stays was s is = mark_stays s Mov (other_then s Mov (not_mov (link r).mark was) is) is

-- what is known of the row and of its new mark
pub record Marking (rows : Rows) (r : ℕ) (m : Mark) : Type 0 where
  pub row : IsRow rows.layout r
  pub is_listed : IsListed rows.holding r
  pub was : IsFinal (rows.link r).mark → ⊥
  pub no_inv : m ≢ Invalid
  pub lone : rows.twin r ≡ 0
  -- a row that is bound to it needs it valid, and a debt of it dead
  pub bound_to : (o : ℕ) → IsBound rows o r → m ≡ Val
  pub owed_to : (k : ℕ) (d : CopyDebt) → k < rows.layout.workers → rows.copying k ≡ Some d → d.copy ≡ r → (m ≡ Del) × (rows.twin d.old ≢ 0)

-- Copies

module _ (rows : Rows) (ground : Ground) (r : ℕ) (m : Mark) where
  abbrev now : ℕ → Link
  now = marked_as rows.link r m

  abbrev rows' : Rows
  rows' = record rows { link = now }

  bound_was : Marking rows r m → (o t : ℕ) → IsBound rows' o t → IsBound rows o t
  bound_was f o t b = record {
    row = b.row;
    listed_is = b.listed_is;
    frozen = mark_was rows.link r m o Mov (λ e. let z : t ≡ 0 = sym b.twin_is ∙ (ap rows.twin e ∙ f.lone) in let some = b.some in omega arith) b.frozen;
    twin_is = b.twin_is;
    some = b.some;
  }

  bound_stays : (IsFinal (rows.link r).mark → ⊥) → (o t : ℕ) → IsBound rows o t → IsBound rows' o t
  bound_stays was o t b = record { row = b.row; listed_is = b.listed_is; frozen = mov_stays rows.link r m was o b.frozen; twin_is = b.twin_is; some = b.some }

  copying_still : (t : ℕ) → IsCopying rows t → IsCopying rows' t
  copying_still t h = record { who = h.who; inside = h.inside; owed = h.owed; debt = h.debt; copy = h.copy }

  copying_then : (t : ℕ) → IsCopying rows' t → IsCopying rows t
  copying_then t h = record { who = h.who; inside = h.inside; owed = h.owed; debt = h.debt; copy = h.copy }

  fits_marked : Marking rows r m → (k : ℕ) (d : CopyDebt) → k < rows.layout.workers → rows.copying k ≡ Some d → CopyFits rows d → CopyFits rows' d
  fits_marked f k d b is old = let else_old = other_then rows.link r m d.old Mov (not_mov (rows.link r).mark f.was) (ap (λ (z : Link). z.mark) old.last ∙ old.frozen) in record {
    last = mark_else rows.link r m d.old else_old ∙ old.last;
    frozen = old.frozen;
    next = old.next;
    generation = marked_generation rows.link r m d.copy ∙ old.generation;
    old_event = old.old_event;
    copy_event = old.copy_event;
    mark = dite (ℕ_discrete d.copy r)
        (λ e. inr (ap (λ z. (now z).mark) e ∙ (mark_here rows.link r m ∙ (f.owed_to k d b is e).0)))
        (λ ne. ⊎_elim (λ a. inl (mark_stays rows.link r m d.copy Invalid ne a)) (λ a. inr (mark_stays rows.link r m d.copy Del ne a)) old.mark);
    other = old.other;
    open_is = λ z. let o = old.open_is z in (o.0, o.1, mark_stays rows.link r m d.copy Invalid (λ e. (f.owed_to k d b is e).1 z) o.2);
  }

  -- the part on copies stays
  pub copies_marked : Marking rows r m → Copies rows ground → Copies rows' ground
  copies_marked f old = record {
    bound = λ o t b. let w = bound_was f o t b in let c = old.bound o t w in record {
      row = c.row;
      listed_is = c.listed_is;
      mark = dite (ℕ_discrete t r)
          (λ e. inr (ap (λ z. (now z).mark) e ∙ (mark_here rows.link r m ∙ f.bound_to o (subst (IsBound rows o) e w))))
          (λ ne. ⊎_elim (λ a. inl (mark_stays rows.link r m t Invalid ne a)) (λ a. inr (mark_stays rows.link r m t Val ne a)) c.mark);
      generation = marked_generation rows.link r m t ∙ (c.generation ∙ ap (λ z. z + 1) (sym (marked_generation rows.link r m o)));
      event_is = c.event_is;
    };
    one = λ o p t b c. old.one o p t (bound_was f o t b) (bound_was f p t c);
    owned = λ t row out is. ⊎_elim (λ (h : (o : ℕ) × IsBound rows o t). inl (h.0, bound_stays f.was h.0 t h.1)) (λ h. inr (copying_still t h)) (old.owned t row out (inv_was rows.link r m f.no_inv t is));
    apart = λ o t b h. old.apart o t (bound_was f o t b) (copying_then t h);
    alone = old.alone;
    left = λ s v is out. let h = old.left s v (mark_was rows.link r m s Mov (λ e. out (subst (IsListed rows.holding) (sym e) f.is_listed)) is) out in (h.0, λ i. h.1 (inv_was rows.link r m f.no_inv (rows.twin s) i));
    debt = λ k d b is. fits_marked f k d b is (old.debt k d b is);
  }

-- the debt of a dead copy goes
pub copies_dropped : (rows : Rows) (ground : Ground) (j : ℕ) (d : CopyDebt) → rows.copying j ≡ Some d → (rows.link d.copy).mark ≡ Del → Copies rows ground → Copies (record rows { copying = put rows.copying j None }) ground
copies_dropped rows ground j d is del old = record {
  bound = λ o t b. let c = old.bound o t (then o t b) in record { row = c.row; listed_is = c.listed_is; mark = c.mark; generation = c.generation; event_is = c.event_is };
  one = λ o p t b c. old.one o p t (then o t b) (then p t c);
  owned = λ t row out inv. ⊎_elim
      (λ (h : (o : ℕ) × IsBound rows o t). inl (h.0, record { row = h.1.row; listed_is = h.1.listed_is; frozen = h.1.frozen; twin_is = h.1.twin_is; some = h.1.some }))
      (λ (h : IsCopying rows t). inr (record {
        who = h.who;
        inside = h.inside;
        owed = h.owed;
        debt = put_else rows.copying j None h.who (λ e. let same = same_Some h.owed d (sym h.debt ∙ (ap rows.copying e ∙ is)) in
            del_inv (sym del ∙ (ap (λ (x : CopyDebt). (rows.link x.copy).mark) (sym same) ∙ (ap (λ x. (rows.link x).mark) h.copy ∙ inv)))) ∙ h.debt;
        copy = h.copy;
      })) (old.owned t row out inv);
  apart = λ o t b h. old.apart o t (then o t b) (still t h);
  alone = λ i k x y bi bk ix ky. old.alone i k x y bi bk (kept i x ix) (kept k y ky);
  left = old.left;
  debt = λ k x bk ix. let f = old.debt k x bk (kept k x ix) in record {
    last = f.last;
    frozen = f.frozen;
    next = f.next;
    generation = f.generation;
    old_event = f.old_event;
    copy_event = f.copy_event;
    mark = f.mark;
    other = f.other;
    open_is = f.open_is;
  };
}
  where
    rows' : Rows
    rows' = record rows { copying = put rows.copying j None }

    del_inv : Del ≡ Invalid → ⊥
    del_inv e = cc

    then : (o t : ℕ) → IsBound rows' o t → IsBound rows o t
    then o t b = record { row = b.row; listed_is = b.listed_is; frozen = b.frozen; twin_is = b.twin_is; some = b.some }

    kept : (k : ℕ) (x : CopyDebt) → put rows.copying j None k ≡ Some x → rows.copying k ≡ Some x
    kept k x = put_all rows.copying j None (λ k o. o ≡ Some x → rows.copying k ≡ Some x) (λ e. absurd (none_debt x e)) (λ _ _ e. e) k

    still : (t : ℕ) → IsCopying rows' t → IsCopying rows t
    still t h = record { who = h.who; inside = h.inside; owed = h.owed; debt = kept h.who h.owed h.debt; copy = h.copy }

-- Carriers

-- the twin's mark matters only where the row is frozen
pub carries_to : (m : Mark) (t : ℕ) (k k' : Mark) → (m ≡ Mov → k ≡ Invalid → k' ≡ Invalid) → IsCarrying m t k → IsCarrying m t k'
carries_to Val t k k' on is = tt
carries_to Invalid t k k' on is = is
carries_to Mov t k k' on is = ⊎_elim inl (λ e. inr (on refl e)) is
carries_to Del t k k' on is = is

-- a copy that isn't valid carries nothing
pub inv_dead : (m : Mark) (t : ℕ) (k : Mark) → m ≡ Invalid → IsCarrying m t k → ⊥
inv_dead m t k is carries = subst (λ m. IsCarrying m t k) is carries

module _ (l : Layout) (link : ℕ → Link) (twin : ℕ → ℕ) (holding : ℕ → Holding) (r : ℕ) (m : Mark) where
  abbrev after : ℕ → Link
  after = marked_as link r m

  -- another row carries its event as before, unless r was a copy that wasn't valid, and is its twin
  pub live_stays : (s : ℕ) → s ≢ r → ((link s).mark ≡ Mov → twin s ≡ r → (link r).mark ≢ Invalid) → IsLive l link twin holding s → IsLive l after twin holding s
  live_stays s ne other v = (
    v.0,
    v.1,
    subst (λ (x : Link). IsCarrying x.mark (twin s) (after (twin s)).mark) (sym (mark_else link r m s ne))
        (carries_to (link s).mark (twin s) (link (twin s)).mark (after (twin s)).mark (λ mov i. mark_stays link r m (twin s) Invalid (λ e. other mov e (ap (λ z. (link z).mark) (sym e) ∙ i)) i) v.2),
  )

  pub live_was : m ≢ Invalid → (s : ℕ) → s ≢ r → IsLive l after twin holding s → IsLive l link twin holding s
  live_was differ s ne v = (
    v.0,
    v.1,
    carries_to (link s).mark (twin s) (after (twin s)).mark (link (twin s)).mark (λ _ i. inv_was link r m differ (twin s) i) (subst (λ (x : Link). IsCarrying x.mark (twin s) (after (twin s)).mark) (mark_else link r m s ne) v.2),
  )

-- Carriers, where the same rows carry events
pub carriers_same : (l : Layout) (history : List Entry) (link link' : ℕ → Link) (twin twin' : ℕ → ℕ) (event : ℕ → Event) (holding : ℕ → Holding)
    → ((s : ℕ) → IsLive l link twin holding s → IsLive l link' twin' holding s) → ((s : ℕ) → IsLive l link' twin' holding s → IsLive l link twin holding s)
    → Carriers l history link twin event holding → Carriers l history link' twin' event holding
carriers_same l history link link' twin twin' event holding to from old = record {
  carried = λ e p. let c = old.carried e p in (c.0, to c.0 c.1, c.2);
  pending = λ s v. old.pending s (from s v);
  one = λ s t v w. old.one s t (from s v) (from t w);
}

-- Which rows are copies

module _ (c : Core) (inv : Inv c) where
  abbrev rows : Rows
  rows = rows_of_core c

  -- no row of the open table is a copy of a listed row
  pub no_bound : (o r : ℕ) → (c.words.link r).generation ≡ c.words.control.generation → IsBound rows o r → ⊥
  no_bound o r age b = let next = (inv.copies.bound o r b).generation in
      ⊎_elim (λ (low : (c.words.link o).generation ≡ c.words.control.generation). absurd (omega arith)) (λ h. let high = h.1 in absurd (omega arith)) (held_told c inv b.listed_is.0 o b.row b.listed_is.1)

  -- a present row is no copy that is owed
  pub not_owed : (r : ℕ) → (c.words.link r).mark ≡ Val → (k : ℕ) (d : CopyDebt) → k < c.start.layout.workers → c.copying k ≡ Some d → d.copy ≡ r → ⊥
  not_owed r val k d b is e = ⊎_elim (λ i. val_inv (sym val ∙ i)) (λ i. val_del (sym val ∙ i)) (subst (λ z. ((c.words.link z).mark ≡ Invalid) ⊎ ((c.words.link z).mark ≡ Del)) e (inv.copies.debt k d b is).mark)

  -- a present row of the open table comes to be frozen or dead
  pub from_val : (r : ℕ) (m : Mark) → IsRow c.start.layout r → IsListed c.holding r → (c.words.link r).mark ≡ Val → m ≢ Invalid → (c.words.link r).generation ≡ c.words.control.generation → Marking rows r m
  from_val r m row is_listed val differ age = record {
    row = row;
    is_listed = is_listed;
    was = val_open (c.words.link r).mark val;
    no_inv = differ;
    lone = inv.marks.bare r row (listed_out c.holding r is_listed) (λ e. val_mov (sym val ∙ e));
    bound_to = λ o b. absurd (no_bound o r age b);
    owed_to = λ k d b is e. absurd (not_owed r val k d b is e);
  }

  -- a copy that isn't valid and is no twin dies
  pub to_dead : (r : ℕ) → IsRow c.start.layout r → IsListed c.holding r → (c.words.link r).mark ≡ Invalid → ((o : ℕ) → IsBound rows o r → ⊥)
      → ((k : ℕ) (d : CopyDebt) → k < c.start.layout.workers → c.copying k ≡ Some d → d.copy ≡ r → c.words.twin d.old ≢ 0) → Marking rows r Del
  to_dead r row is_listed invalid free owed = record {
    row = row;
    is_listed = is_listed;
    was = inv_open (c.words.link r).mark invalid;
    no_inv = λ e. del_inv e;
    lone = inv.marks.bare r row (listed_out c.holding r is_listed) (λ e. inv_mov (sym invalid ∙ e));
    bound_to = λ o b. absurd (free o b);
    owed_to = λ k d b is e. (refl, owed k d b is e);
  }
    where
      del_inv : Del ≡ Invalid → ⊥
      del_inv e = cc

  -- the debt of a copy of the open table: its old row has a twin
  pub old_twin : (k : ℕ) (d : CopyDebt) → k < c.start.layout.workers → c.copying k ≡ Some d → (c.words.link d.copy).generation ≡ c.words.control.generation → c.words.twin d.old ≢ 0
  old_twin k d b is age none = let f = inv.copies.debt k d b is in let at = (f.open_is none).0 in
      let g : (c.words.link d.old).generation + 1 ≡ (c.words.link d.copy).generation = ap (λ (z : Link). z.generation + 1) f.last ∙ (f.next ∙ sym f.generation) in
      ⊎_elim (λ (low : (c.words.link d.old).generation ≡ c.words.control.generation). absurd (omega arith)) (λ h. let high = h.1 in absurd (omega arith))
      (held_told c inv at.0 d.old (old_row k d b is) at.1)
    where
      old_row : (k : ℕ) (d : CopyDebt) → k < c.start.layout.workers → c.copying k ≡ Some d → IsRow c.start.layout d.old
      old_row k d b is = inv.lanes.is_row d.old (debt_guarded c inv k d b is).0
