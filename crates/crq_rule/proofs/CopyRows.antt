-- A row comes into a list or goes out of one, and links change in the rows that they name: what stays of the parts on copies.
use Rattle.std.proofs.Common.{◌≡◌, ◌≢◌, ◌⊎◌, ⊎_elim, inl, inr, true, ℕ, ◌+◌, ◌<◌, List, [], Option, Some, None, sym, refl, ap, ◌∙◌, subst, arith}
use mathlib.Core.Logic.{dite}
use native.Mathlib.Decide.{ℕ_discrete}
use Rattle.std.proofs.lemmas.Option.{same_Some, none-some}
use Rattle.crq_base.specs.declared.words.Link.{Link}
use Rattle.crq_base.specs.declared.words.Control.{Control}
use Rattle.crq_base.specs.declared.words.Mark.{Mark}
use Rattle.crq_base.specs.declared.words.Mark.TheVariants.{Val, Inv as Invalid, Mov, Del}
use Rattle.crq_rule.specs.declared.debts.CopyDebt.{CopyDebt}
use Rattle.crq_rule.specs.declared.debts.CutDebt.{CutDebt}
use Rattle.crq_rule.specs.Lists.{put}
use Rattle.crq_rule.specs.Places.{IsRow, IsHead}
use Rattle.crq_rule.specs.Core.{IsOutside, in_hand, listed, cut_by, moved_up}
use Rattle.crq_rule.specs.Parts.{Ground, IsGuarded}
use Rattle.crq_rule.specs.Ranks.{Shape}
use Rattle.crq_rule.specs.ListParts.{IsFinal, IsOldHead, IsNewHead}
use Rattle.crq_rule.specs.Copies.{IsListed, Rows, IsBound, IsCopyOf, IsCopying, CopyFits, Copies, Bare}
use Rattle.crq_rule.proofs.Puts.{put_here, put_else, put_all}
use Rattle.crq_rule.proofs.CopyLaws.{listed_or}

del_mov : ◌≡◌ {A = Mark} Del Mov → ⊥
del_mov e = cc

cut_listed : (j q : ℕ) → cut_by j ≡ listed q → ⊥
cut_listed j q e = cc

hand_listed : (j q : ℕ) → in_hand j ≡ listed q → ⊥
hand_listed j q e = cc

-- Links that differ in the rows that they name, and not where they are final

pub record Relinked (link link' : ℕ → Link) : Type 0 where
  pub mark : (s : ℕ) → (link' s).mark ≡ (link s).mark
  pub generation : (s : ℕ) → (link' s).generation ≡ (link s).generation
  pub final : (s : ℕ) → IsFinal (link s).mark → link' s ≡ link s

module _ (rows : Rows) (ground : Ground) (link' : ℕ → Link) (f : Relinked rows.link link') where
  abbrev relinked : Rows
  relinked = record rows { link = link' }

  mark_to : (s : ℕ) (a : Mark) → (rows.link s).mark ≡ a → (link' s).mark ≡ a
  mark_to s a is = f.mark s ∙ is

  mark_from : (s : ℕ) (a : Mark) → (link' s).mark ≡ a → (rows.link s).mark ≡ a
  mark_from s a is = sym (f.mark s) ∙ is

  bound_from : (o t : ℕ) → IsBound relinked o t → IsBound rows o t
  bound_from o t b = record { row = b.row; listed_is = b.listed_is; frozen = mark_from o Mov b.frozen; twin_is = b.twin_is; some = b.some }

  bound_onto : (o t : ℕ) → IsBound rows o t → IsBound relinked o t
  bound_onto o t b = record { row = b.row; listed_is = b.listed_is; frozen = mark_to o Mov b.frozen; twin_is = b.twin_is; some = b.some }

  owed_from : (t : ℕ) → IsCopying relinked t → IsCopying rows t
  owed_from t h = record { who = h.who; inside = h.inside; owed = h.owed; debt = h.debt; copy = h.copy }

  owed_onto : (t : ℕ) → IsCopying rows t → IsCopying relinked t
  owed_onto t h = record { who = h.who; inside = h.inside; owed = h.owed; debt = h.debt; copy = h.copy }

  -- copies stay where links name other rows
  pub copies_relinked : Copies rows ground → Copies relinked ground
  copies_relinked old = record {
    bound = λ o t b. let c = old.bound o t (bound_from o t b) in record {
      row = c.row;
      listed_is = c.listed_is;
      mark = ⊎_elim (λ a. inl (mark_to t Invalid a)) (λ a. inr (mark_to t Val a)) c.mark;
      generation = f.generation t ∙ (c.generation ∙ ap (λ z. z + 1) (sym (f.generation o)));
      event_is = c.event_is;
    };
    one = λ o p t b c. old.one o p t (bound_from o t b) (bound_from p t c);
    owned = λ t row out is. ⊎_elim (λ (h : (o : ℕ) × IsBound rows o t). inl (h.0, bound_onto h.0 t h.1)) (λ h. inr (owed_onto t h)) (old.owned t row out (mark_from t Invalid is));
    apart = λ o t b h. old.apart o t (bound_from o t b) (owed_from t h);
    alone = old.alone;
    left = λ s c is out. let h = old.left s c (mark_from s Mov is) out in (h.0, λ i. h.1 (mark_from (rows.twin s) Invalid i));
    debt = λ k d b is. let g = old.debt k d b is in record {
      last = f.final d.old (subst (λ (z : Link). IsFinal z.mark) (sym g.last) (subst IsFinal (sym g.frozen) tt)) ∙ g.last;
      frozen = g.frozen;
      next = g.next;
      generation = f.generation d.copy ∙ g.generation;
      old_event = g.old_event;
      copy_event = g.copy_event;
      mark = ⊎_elim (λ a. inl (mark_to d.copy Invalid a)) (λ a. inr (mark_to d.copy Del a)) g.mark;
      other = g.other;
      open_is = λ z. let o = g.open_is z in (o.0, o.1, mark_to d.copy Invalid o.2);
    };
  }

-- The row r comes out of a hand into the list q

module _ (rows : Rows) (ground ground' : Ground) (i r q : ℕ) (row : IsRow rows.layout r) (hand : rows.holding r ≡ in_hand i) (lone : rows.twin r ≡ 0)
    (before : (s : ℕ) → IsGuarded ground' s → (s ≡ r) ⊎ IsGuarded ground s) where
  abbrev now_in : Rows
  now_in = record rows { holding = put rows.holding r (listed q) }

  unlisted : IsListed rows.holding r → ⊥
  unlisted h = hand_listed i h.0 (sym hand ∙ h.1)

  listed_in : (s : ℕ) → IsListed rows.holding s → IsListed now_in.holding s
  listed_in s h = (h.0, put_else rows.holding r (listed q) s (λ e. unlisted (subst (IsListed rows.holding) e h)) ∙ h.1)

  listed_here : IsListed now_in.holding r
  listed_here = (q, put_here rows.holding r (listed q))

  listed_before : (s : ℕ) → s ≢ r → IsListed now_in.holding s → IsListed rows.holding s
  listed_before s ne h = (h.0, sym (put_else rows.holding r (listed q) s ne) ∙ h.1)

  outside_before : (s : ℕ) → s ≢ r → IsOutside now_in.holding s → IsOutside rows.holding s
  outside_before s ne out j is = out j (put_else rows.holding r (listed q) s ne ∙ is)

  bound_before : (o t : ℕ) → IsBound now_in o t → IsBound rows o t
  bound_before o t b = record {
    row = b.row;
    listed_is = listed_before o (λ e. let z : t ≡ 0 = sym b.twin_is ∙ (ap rows.twin e ∙ lone) in let some = b.some in omega arith) b.listed_is;
    frozen = b.frozen;
    twin_is = b.twin_is;
    some = b.some;
  }

  bound_in : (o t : ℕ) → IsBound rows o t → IsBound now_in o t
  bound_in o t b = record { row = b.row; listed_is = listed_in o b.listed_is; frozen = b.frozen; twin_is = b.twin_is; some = b.some }

  copy_in : (o t : ℕ) → IsCopyOf rows o t → IsCopyOf now_in o t
  copy_in o t c = record { row = c.row; listed_is = listed_in t c.listed_is; mark = c.mark; generation = c.generation; event_is = c.event_is }

  fits_in : (d : CopyDebt) → CopyFits rows d → CopyFits now_in d
  fits_in d g = record {
    last = g.last;
    frozen = g.frozen;
    next = g.next;
    generation = g.generation;
    old_event = g.old_event;
    copy_event = g.copy_event;
    mark = g.mark;
    other = g.other;
    open_is = λ z. let o = g.open_is z in (listed_in d.old o.0, listed_in d.copy o.1, o.2);
  }

  left_in : Copies rows ground → (s : ℕ) → IsGuarded ground' s → (rows.link s).mark ≡ Mov → (IsListed now_in.holding s → ⊥) → (rows.twin s ≢ 0) × ((rows.link (rows.twin s)).mark ≢ Invalid)
  left_in old s c is out = ⊎_elim (λ e. absurd (out (subst (IsListed now_in.holding) (sym e) listed_here))) (λ c. old.left s c is (λ h. out (listed_in s h))) (before s c)

  -- copies stay, where the row is none
  pub copies_in : (rows.link r).mark ≢ Invalid → Copies rows ground → Copies now_in ground'
  copies_in val old = record {
    bound = λ o t b. copy_in o t (old.bound o t (bound_before o t b));
    one = λ o p t b c. old.one o p t (bound_before o t b) (bound_before p t c);
    owned = λ t w out is. ⊎_elim (λ (h : (o : ℕ) × IsBound rows o t). inl (h.0, bound_in h.0 t h.1)) (λ (h : IsCopying rows t). inr (record { who = h.who; inside = h.inside; owed = h.owed; debt = h.debt; copy = h.copy }))
        (old.owned t w (outside_before t (λ e. val (ap (λ z. (rows.link z).mark) (sym e) ∙ is)) out) is);
    apart = λ o t b h. old.apart o t (bound_before o t b) (record { who = h.who; inside = h.inside; owed = h.owed; debt = h.debt; copy = h.copy });
    alone = old.alone;
    left = left_in old;
    debt = λ k d b is. fits_in d (old.debt k d b is);
  }

  -- and where it is one, which the caller j owes, that owed none
  module _ (j : ℕ) (d : CopyDebt) (inside : j < rows.layout.workers) (none : rows.copying j ≡ None) (inv : (rows.link r).mark ≡ Invalid) (is_copy : d.copy ≡ r)
      (free : IsGuarded ground r → ⊥) (twins : (s : ℕ) → IsGuarded ground s → 0 < rows.twin s → IsGuarded ground (rows.twin s))
      (debts : (k : ℕ) (e : CopyDebt) → k < rows.layout.workers → rows.copying k ≡ Some e → IsGuarded ground e.old × IsGuarded ground e.copy) where
    abbrev now_owed : Rows
    now_owed = record rows { holding = put rows.holding r (listed q); copying = put rows.copying j (Some d) }

    bound_was : (o t : ℕ) → IsBound now_owed o t → IsBound rows o t
    bound_was o t b = bound_before o t (record { row = b.row; listed_is = b.listed_is; frozen = b.frozen; twin_is = b.twin_is; some = b.some })

    bound_now : (o t : ℕ) → IsBound rows o t → IsBound now_owed o t
    bound_now o t b = record { row = b.row; listed_is = listed_in o b.listed_is; frozen = b.frozen; twin_is = b.twin_is; some = b.some }

    other_debt : (k : ℕ) (e : CopyDebt) → rows.copying k ≡ Some e → k ≢ j
    other_debt k e is same = none-some e (sym none ∙ (ap rows.copying (sym same) ∙ is))

    debt_is : (k : ℕ) (e : CopyDebt) → now_owed.copying k ≡ Some e → ((k ≡ j) × (e ≡ d)) ⊎ ((k ≢ j) × (rows.copying k ≡ Some e))
    debt_is k e is = dite (ℕ_discrete k j)
        (λ same. inl (same, sym (same_Some d e (sym (put_here rows.copying j (Some d)) ∙ (ap now_owed.copying (sym same) ∙ is)))))
        (λ ne. inr (ne, sym (put_else rows.copying j (Some d) k ne) ∙ is))

    owed_in : (t : ℕ) → IsCopying rows t → IsCopying now_owed t
    owed_in t h = record { who = h.who; inside = h.inside; owed = h.owed; debt = put_else rows.copying j (Some d) h.who (other_debt h.who h.owed h.debt) ∙ h.debt; copy = h.copy }

    owed_here : IsCopying now_owed r
    owed_here = record { who = j; inside = inside; owed = d; debt = put_here rows.copying j (Some d); copy = is_copy }

    -- no older debt is of this row
    not_copy : (k : ℕ) (e : CopyDebt) → k < rows.layout.workers → rows.copying k ≡ Some e → e.copy ≢ r
    not_copy k e b is same = free (subst (IsGuarded ground) same (debts k e b is).1)

    fits_owed : (e : CopyDebt) → CopyFits rows e → CopyFits now_owed e
    fits_owed e g = record {
      last = g.last;
      frozen = g.frozen;
      next = g.next;
      generation = g.generation;
      old_event = g.old_event;
      copy_event = g.copy_event;
      mark = g.mark;
      other = g.other;
      open_is = λ z. let o = g.open_is z in (listed_in e.old o.0, listed_in e.copy o.1, o.2);
    }

    pub copies_copied : CopyFits now_owed d → Copies rows ground → Copies now_owed ground'
    copies_copied fits old = record {
      bound = λ o t b. let c = old.bound o t (bound_was o t b) in record { row = c.row; listed_is = listed_in t c.listed_is; mark = c.mark; generation = c.generation; event_is = c.event_is };
      one = λ o p t b c. old.one o p t (bound_was o t b) (bound_was p t c);
      owned = λ t w out is. dite (ℕ_discrete t r)
          (λ e. inr (subst (IsCopying now_owed) (sym e) owed_here))
          (λ ne. ⊎_elim (λ (h : (o : ℕ) × IsBound rows o t). inl (h.0, bound_now h.0 t h.1)) (λ h. inr (owed_in t h)) (old.owned t w (outside_before t ne out) is));
      apart = λ o t b h. ⊎_elim
          (λ (e : (h.who ≡ j) × (h.owed ≡ d)). unlisted (subst (IsListed rows.holding) (sym h.copy ∙ (ap (λ (x : CopyDebt). x.copy) e.1 ∙ is_copy)) (old.bound o t (bound_was o t b)).listed_is))
          (λ (e : (h.who ≢ j) × (rows.copying h.who ≡ Some h.owed)). old.apart o t (bound_was o t b) (record { who = h.who; inside = h.inside; owed = h.owed; debt = e.1; copy = h.copy }))
          (debt_is h.who h.owed h.debt);
      alone = λ a k x y ba bk ix iy same. ⊎_elim
          (λ (e : (a ≡ j) × (x ≡ d)). ⊎_elim (λ (g : (k ≡ j) × (y ≡ d)). e.0 ∙ sym g.0)
          (λ (g : (k ≢ j) × (rows.copying k ≡ Some y)). absurd (not_copy k y bk g.1 (sym same ∙ (ap (λ (x : CopyDebt). x.copy) e.1 ∙ is_copy)))) (debt_is k y iy))
          (λ (e : (a ≢ j) × (rows.copying a ≡ Some x)). ⊎_elim (λ (g : (k ≡ j) × (y ≡ d)). absurd (not_copy a x ba e.1 (same ∙ (ap (λ (x : CopyDebt). x.copy) g.1 ∙ is_copy))))
          (λ (g : (k ≢ j) × (rows.copying k ≡ Some y)). old.alone a k x y ba bk e.1 g.1 same) (debt_is k y iy)) (debt_is a x ix);
      left = left_in old;
      debt = λ k e b is. ⊎_elim (λ (g : (k ≡ j) × (e ≡ d)). subst (CopyFits now_owed) (sym g.1) fits) (λ (g : (k ≢ j) × (rows.copying k ≡ Some e)). fits_owed e (old.debt k e b g.1)) (debt_is k e is);
    }

    -- the debt fits: the old row is frozen, and where it has no twin it is listed
    pub new_fits : IsGuarded ground d.old → rows.link d.old ≡ d.last → d.last.mark ≡ Mov → d.last.generation + 1 ≡ d.generation → (rows.link r).generation ≡ d.generation → rows.event d.old ≡ d.event → rows.event r ≡ d.event
        → Copies rows ground → CopyFits now_owed d
    new_fits c last frozen next generation old_event copy_event old = record {
      last = last;
      frozen = frozen;
      next = next;
      generation = subst (λ z. (rows.link z).generation ≡ d.generation) (sym is_copy) generation;
      old_event = old_event;
      copy_event = ap rows.event is_copy ∙ copy_event;
      mark = inl (ap (λ z. (rows.link z).mark) is_copy ∙ inv);
      other = λ e. let same : rows.twin d.old ≡ r = e ∙ is_copy in let some = row.0 in free (subst (IsGuarded ground) same (twins d.old c (omega arith)));
      open_is = λ z. (
        ⊎_elim (listed_in d.old) (λ out. absurd ((old.left d.old c (ap (λ (y : Link). y.mark) last ∙ frozen) out).0 z)) (listed_or rows.holding d.old),
        subst (IsListed now_owed.holding) (sym is_copy) listed_here,
        ap (λ z. (rows.link z).mark) is_copy ∙ inv,
      );
    }

-- The row x goes out of its list, dead, or frozen with a twin that isn't a copy yet to be valid

abbrev pub MayGo : (ℕ → Link) → (ℕ → ℕ) → ℕ → Type 0
MayGo link twin x = ((link x).mark ≡ Del) ⊎ (((link x).mark ≡ Mov) × ((twin x ≢ 0) × ((link (twin x)).mark ≢ Invalid)))

module _ (link : ℕ → Link) (twin : ℕ → ℕ) (x : ℕ) (go : MayGo link twin x) where
  -- it has its last mark
  pub go_final : IsFinal (link x).mark
  go_final = ⊎_elim (λ d. subst IsFinal (sym d) tt) (λ (m : ((link x).mark ≡ Mov) × ((twin x ≢ 0) × ((link (twin x)).mark ≢ Invalid))). subst IsFinal (sym m.0) tt) go

  pub not_inv : (s : ℕ) → (link s).mark ≡ Invalid → s ≢ x
  not_inv s is e = subst IsFinal (ap (λ z. (link z).mark) (sym e) ∙ is) go_final

  pub not_val : (s : ℕ) → (link s).mark ≡ Val → s ≢ x
  not_val s is e = subst IsFinal (ap (λ z. (link z).mark) (sym e) ∙ is) go_final

  -- a frozen row whose twin is 0 or no valid copy is another one
  pub not_moved : (s : ℕ) → (link s).mark ≡ Mov → (twin s ≡ 0) ⊎ ((link (twin s)).mark ≡ Invalid) → s ≢ x
  not_moved s is t e = ⊎_elim
      (λ (d : (link x).mark ≡ Del). del_mov (sym d ∙ (ap (λ z. (link z).mark) (sym e) ∙ is)))
      (λ (m : ((link x).mark ≡ Mov) × ((twin x ≢ 0) × ((link (twin x)).mark ≢ Invalid))).
      ⊎_elim (λ z. m.1.0 (ap twin (sym e) ∙ z)) (λ i. m.1.1 (ap (λ z. (link (twin z)).mark) (sym e) ∙ i)) t) go

module _ (rows : Rows) (ground ground' : Ground) (j x : ℕ) (go : MayGo rows.link rows.twin x) (before : (s : ℕ) → IsGuarded ground' s → IsGuarded ground s) where
  abbrev now_out : Rows
  now_out = record rows { holding = put rows.holding x (cut_by j) }

  else_x : (s : ℕ) → IsListed now_out.holding s → s ≢ x
  else_x s h e = cut_listed j h.0 (sym (put_here rows.holding x (cut_by j)) ∙ (ap now_out.holding (sym e) ∙ h.1))

  listed_was : (s : ℕ) → IsListed now_out.holding s → IsListed rows.holding s
  listed_was s h = (h.0, sym (put_else rows.holding x (cut_by j) s (else_x s h)) ∙ h.1)

  listed_stays : (s : ℕ) → s ≢ x → IsListed rows.holding s → IsListed now_out.holding s
  listed_stays s ne h = (h.0, put_else rows.holding x (cut_by j) s ne ∙ h.1)

  outside_was : (s : ℕ) → IsOutside now_out.holding s → s ≢ x → IsOutside rows.holding s
  outside_was s out ne k is = out k (put_else rows.holding x (cut_by j) s ne ∙ is)

  bound_out_was : (o t : ℕ) → IsBound now_out o t → IsBound rows o t
  bound_out_was o t b = record { row = b.row; listed_is = listed_was o b.listed_is; frozen = b.frozen; twin_is = b.twin_is; some = b.some }

  -- copies stay
  pub copies_out : Copies rows ground → Copies now_out ground'
  copies_out old = record {
    bound = λ o t b. let c = old.bound o t (bound_out_was o t b) in record {
      row = c.row;
      listed_is = listed_stays t (⊎_elim (λ a. not_inv rows.link rows.twin x go t a) (λ a. not_val rows.link rows.twin x go t a) c.mark) c.listed_is;
      mark = c.mark;
      generation = c.generation;
      event_is = c.event_is;
    };
    one = λ o p t b c. old.one o p t (bound_out_was o t b) (bound_out_was p t c);
    owned = λ t w out is. ⊎_elim
        (λ (h : (o : ℕ) × IsBound rows o t). let b = h.1 in inl (
          h.0,
          record {
            row = b.row;
            listed_is = listed_stays h.0 (not_moved rows.link rows.twin x go h.0 b.frozen (inr (ap (λ z. (rows.link z).mark) b.twin_is ∙ is))) b.listed_is;
            frozen = b.frozen;
            twin_is = b.twin_is;
            some = b.some;
          },
        )) (λ (h : IsCopying rows t). inr (record { who = h.who; inside = h.inside; owed = h.owed; debt = h.debt; copy = h.copy }))
        (old.owned t w (outside_was t out (not_inv rows.link rows.twin x go t is)) is);
    apart = λ o t b h. old.apart o t (bound_out_was o t b) (record { who = h.who; inside = h.inside; owed = h.owed; debt = h.debt; copy = h.copy });
    alone = old.alone;
    left = λ s c is out. dite (ℕ_discrete s x)
        (λ e. ⊎_elim (λ (d : (rows.link x).mark ≡ Del). absurd (del_mov (sym d ∙ (ap (λ z. (rows.link z).mark) (sym e) ∙ is))))
        (λ (m : ((rows.link x).mark ≡ Mov) × ((rows.twin x ≢ 0) × ((rows.link (rows.twin x)).mark ≢ Invalid))). subst (λ z. (rows.twin z ≢ 0) × ((rows.link (rows.twin z)).mark ≢ Invalid)) (sym e) m.1) go)
        (λ ne. old.left s (before s c) is (λ h. out (listed_stays s ne h)));
    debt = λ k d b is. let g = old.debt k d b is in record {
      last = g.last;
      frozen = g.frozen;
      next = g.next;
      generation = g.generation;
      old_event = g.old_event;
      copy_event = g.copy_event;
      mark = g.mark;
      other = g.other;
      open_is = λ z. let o = g.open_is z in (
        listed_stays d.old (not_moved rows.link rows.twin x go d.old (ap (λ (y : Link). y.mark) g.last ∙ g.frozen) (inl z)) o.0,
        listed_stays d.copy (not_inv rows.link rows.twin x go d.copy o.2) o.1,
        o.2,
      );
    };
  }

-- Names and empty lists

-- of two names that are left the second is there only with the first
pub moved_ordered : (a o : Option CutDebt) → (moved_up a o).first ≡ None → (moved_up a o).second ≡ None
moved_ordered None o is = refl
moved_ordered (Some d) o is = absurd (none-some d (sym is))

-- the list q has other rows, which aren't any where it had none; heads keep their marks
pub bare_put : (control : Control) (shape : ℕ → Shape) (head head' : ℕ → Link) (chain : ℕ → List ℕ) (q : ℕ) (xs : List ℕ) → ((p : ℕ) → (head' p).mark ≡ (head p).mark)
    → (control.moving ≡ true → (p : ℕ) → IsHead p → IsHead q → IsOldHead control shape p → (head p).mark ≡ Val → IsNewHead control shape q → chain q ≡ [] → xs ≡ [])
    → Bare control shape head chain → Bare control shape head' (put chain q xs)
bare_put control shape head head' chain q xs same empty old = record {
  bare = λ moving p r hp hr is val new. let v : (head p).mark ≡ Val = sym (same p) ∙ val in
      put_all chain q xs (λ r ys. IsHead r → IsNewHead control shape r → ys ≡ []) (λ hq n. empty moving p hp hq is v n (old.bare moving p q hp hq is v n)) (λ r _ hr n. old.bare moving p r hp hr is v n) r hr new;
}
