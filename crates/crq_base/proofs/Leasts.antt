-- The least event that a search has to answer for.
use Rattle.std.proofs.Common.{◌≡◌, ℕ, ◌+◌, ◌<◌, ◌⊎◌, ⊎_elim, inl, inr, Option, Some, None, List, [], ◌++◌, length, take, get_or, refl, sym, ap, ◌∙◌, subst, arith}
use Rattle.crq_base.specs.declared.event.Event.{Event}
use Rattle.crq_base.specs.declared.entry.Entry.{Entry}
use Rattle.crq_base.specs.declared.legality.Bound.{Bound}
use Rattle.std.specs.List.{Contains, cons_option}
use Rattle.std.proofs.lemmas.List.{take_more}
use Rattle.std.proofs.lemmas.List.Elements.{Contains-append_left, Contains-append_right, Contains-append_cases}
use Rattle.crq_base.specs.Keys.{IsBefore}
use Rattle.crq_base.specs.Histories.{settled_of, settleds}
use Rattle.crq_base.specs.Faults.{IsLeft, IsLeftBy, IsFirstOf, IsLeastLeft}
use Rattle.crq_base.proofs.KeyOrder.{before_trans, before_not_itself}
use Rattle.crq_base.proofs.Deeds.{alone, done_more}

-- the least of the events left, or that there is none
abbrev pub IsLeastOf : List Entry → List Entry → Bound → Option Event → Type 0
IsLeastOf front history bound None = (f : Event) → IsLeft front history bound f → ⊥
IsLeastOf front history bound (Some event) = IsLeastLeft front history bound event

settleds_more : (front : List Entry) (i : ℕ) (d : Entry) → i < length front → settleds (take (i + 1) front) ≡ settleds (take i front) ++ cons_option (settled_of (get_or front i d)) []
settleds_more front i d lt = ap settleds (take_more front i d lt) ∙ done_more settled_of (take i front) (get_or front i d)

left_more : (front history : List Entry) (bound : Bound) (i : ℕ) (d : Entry) (f : Event) → i < length front → IsLeft (take i front) history bound f → IsLeft (take (i + 1) front) history bound f
left_more front history bound i d f lt l = record {
  settled = subst (λ z. Contains z f) (sym (settleds_more front i d lt)) (Contains-append_left (settleds (take i front)) (cons_option (settled_of (get_or front i d)) []) f l.settled);
  kept = l.kept;
  below = l.below;
}

left_now : (front history : List Entry) (bound : Bound) (i : ℕ) (d : Entry) (f : Event) → i < length front → IsLeftBy (get_or front i d) history bound f → IsLeft (take (i + 1) front) history bound f
left_now front history bound i d f lt l = record {
  settled = subst (λ z. Contains z f) (sym (settleds_more front i d lt)) (Contains-append_right (settleds (take i front)) (cons_option (settled_of (get_or front i d)) []) f (subst (λ o. Contains (cons_option o []) f) (sym l.settled) (0, omega arith, refl)));
  kept = l.kept;
  below = l.below;
}

left_cases : (front history : List Entry) (bound : Bound) (i : ℕ) (d : Entry) (f : Event) → i < length front → IsLeft (take (i + 1) front) history bound f → IsLeft (take i front) history bound f ⊎ IsLeftBy (get_or front i d) history bound f
left_cases front history bound i d f lt l =
    ⊎_elim (λ s. inl (record { settled = s; kept = l.kept; below = l.below }))
    (λ s. inr (record { settled = alone (settled_of (get_or front i d)) f s; kept = l.kept; below = l.below }))
    (Contains-append_cases (settleds (take i front)) (cons_option (settled_of (get_or front i d)) []) f
    (subst (λ z. Contains z f) (settleds_more front i d lt) l.settled))

-- the next entry leaves nothing
pub least_skip : (front history : List Entry) (bound : Bound) (i : ℕ) (d : Entry) (least : Option Event) → i < length front
    → ((f : Event) → IsLeftBy (get_or front i d) history bound f → ⊥) → IsLeastOf (take i front) history bound least → IsLeastOf (take (i + 1) front) history bound least
least_skip front history bound i d None lt skip inv = λ f l. ⊎_elim (inv f) (skip f) (left_cases front history bound i d f lt l)
least_skip front history bound i d (Some event) lt skip inv = record {
  left = left_more front history bound i d event lt inv.left;
  least = λ f l. ⊎_elim (inv.least f) (λ n. absurd (skip f n)) (left_cases front history bound i d f lt l);
}

same_event : (o : Option Event) (a b : Event) → o ≡ Some a → o ≡ Some b → b ≡ a
same_event o a b p q = cc

-- nothing that the next entry leaves is before what it leaves
not_before : (x : Entry) (history : List Entry) (bound : Bound) (event f : Event) → IsLeftBy x history bound event → IsLeftBy x history bound f → IsBefore f event → ⊥
not_before x history bound event f l m before = before_not_itself event (subst (λ z. IsBefore z event) (same_event (settled_of x) event f l.settled m.settled) before)

-- the next entry leaves an event
pub least_next : (front history : List Entry) (bound : Bound) (i : ℕ) (d : Entry) (least : Option Event) (event first : Event) → i < length front
    → IsLeftBy (get_or front i d) history bound event → IsFirstOf least event first → IsLeastOf (take i front) history bound least → IsLeastOf (take (i + 1) front) history bound (Some first)
least_next front history bound i d None event first lt l is inv = subst (IsLeastLeft (take (i + 1) front) history bound) (sym is) (record {
  left = left_now front history bound i d event lt l;
  least = λ f m before. ⊎_elim (λ o. inv f o) (λ n. not_before (get_or front i d) history bound event f l n before) (left_cases front history bound i d f lt m);
})
least_next front history bound i d (Some known) event first lt l is inv =
    ⊎_elim
    (λ s. subst (IsLeastLeft (take (i + 1) front) history bound) (sym s.0) (record {
      left = left_more front history bound i d known lt inv.left;
      least = λ f m before. ⊎_elim (λ o. inv.least f o before) (λ n. s.1 (subst (λ z. IsBefore z known) (same_event (settled_of (get_or front i d)) event f l.settled n.settled) before)) (left_cases front history bound i d f lt m);
    }))
    (λ s. subst (IsLeastLeft (take (i + 1) front) history bound) (sym s.0) (record {
      left = left_now front history bound i d event lt l;
      least = λ f m before. ⊎_elim (λ o. inv.least f o (before_trans f event known before s.1)) (λ n. not_before (get_or front i d) history bound event f l n before) (left_cases front history bound i d f lt m);
    }))
    is
