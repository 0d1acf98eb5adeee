-- The events of the entries of a history.
use Rattle.std.proofs.Common.{◌≡◌, ℕ, zero, suc, ◌+◌, ◌<◌, ⊎_elim, Option, Some, None, List, [], ◌∷◌, ◌++◌, length, take, get_or, refl, sym, ap, ◌∙◌, subst, arith}
use Rattle.std.specs.List.{filter_map, Contains, cons_option}
use Rattle.std.proofs.lemmas.List.{take_more}
use Rattle.std.proofs.lemmas.List.Elements.{filter_map-append, Contains-append_right, Contains-append_cases}
use Rattle.crq_base.specs.declared.event.Event.{Event}
use Rattle.crq_base.specs.declared.entry.Entry.{Entry}

later : (o : Option Event) (rest : List Event) (e : Event) → Contains rest e → Contains (cons_option o rest) e
later None rest e h = h
later (Some y) rest e h = Contains-append_right (y ∷ []) rest e h

pub alone : (o : Option Event) (e : Event) → Contains (cons_option o []) e → o ≡ Some e
alone None e h = let k = h.1 in absurd (omega arith)
alone (Some y) e (zero, k, q) = ap Some q
alone (Some y) e (suc n, k, q) = absurd (omega arith)

-- the event of an entry is among those of the history
pub done_at : (f : Entry → Option Event) (h : List Entry) (i : ℕ) (d : Entry) (e : Event) → i < length h → f (get_or h i d) ≡ Some e → Contains (filter_map f h) e
done_at f [] i d e lt q = absurd (omega arith)
done_at f (x ∷ h) zero d e lt q = subst (λ o. Contains (cons_option o (filter_map f h)) e) (sym q) (0, omega arith, refl)
done_at f (x ∷ h) (suc i) d e lt q = later (f x) (filter_map f h) e (done_at f h i d e (omega arith) q)

-- one more entry
pub done_more : (f : Entry → Option Event) (h : List Entry) (x : Entry) → filter_map f (h ++ x ∷ []) ≡ filter_map f h ++ cons_option (f x) []
done_more f h x = filter_map-append f h (x ∷ [])

pub not_done_more : (f : Entry → Option Event) (h : List Entry) (i : ℕ) (d : Entry) (e : Event) → i < length h → (f (get_or h i d) ≡ Some e → ⊥) → (Contains (filter_map f (take i h)) e → ⊥) → Contains (filter_map f (take (i + 1) h)) e → ⊥
not_done_more f h i d e lt ne none some =
    ⊎_elim none (λ r. ne (alone (f (get_or h i d)) e r))
    (Contains-append_cases (filter_map f (take i h)) (cons_option (f (get_or h i d)) []) e
    (subst (λ z. Contains z e) (ap (filter_map f) (take_more h i d lt) ∙ done_more f (take i h) (get_or h i d)) some))
