-- What stands in a history that grows, and in the front of it.
use Rattle.std.proofs.Common.{◌⊎◌, ⊎_elim, ℕ, ◌≤◌, Option, List, [], ◌∷◌, ◌++◌, length, take, drop, sym, subst, arith}
use Rattle.std.proofs.lemmas.List.{take-append-le, drop-append-le, take-append-drop, take-take}
use Rattle.std.specs.List.{filter_map, Contains}
use Rattle.std.proofs.lemmas.List.Elements.{filter_map-append, Contains-append_left, Contains-append_right, Contains-append_cases}
use Rattle.crq_base.specs.declared.event.Event.{Event}
use Rattle.crq_base.specs.declared.entry.Entry.{Entry}

module _ (f : Entry → Option Event) where
  pub of_front : (h g : List Entry) (e : Event) → Contains (filter_map f h) e → Contains (filter_map f (h ++ g)) e
  of_front h g e i = subst (λ z. Contains z e) (sym (filter_map-append f h g)) (Contains-append_left (filter_map f h) (filter_map f g) e i)

  pub of_back : (h g : List Entry) (e : Event) → Contains (filter_map f g) e → Contains (filter_map f (h ++ g)) e
  of_back h g e i = subst (λ z. Contains z e) (sym (filter_map-append f h g)) (Contains-append_right (filter_map f h) (filter_map f g) e i)

  pub of_both : (h g : List Entry) (e : Event) → Contains (filter_map f (h ++ g)) e → Contains (filter_map f h) e ⊎ Contains (filter_map f g) e
  of_both h g e i = Contains-append_cases (filter_map f h) (filter_map f g) e (subst (λ z. Contains z e) (filter_map-append f h g) i)

  pub in_take : (m : ℕ) (h g : List Entry) (e : Event) → m ≤ length h → Contains (filter_map f (take m (h ++ g))) e → Contains (filter_map f (take m h)) e
  in_take m h g e low i = subst (λ z. Contains (filter_map f z) e) (take-append-le m h g low) i

  pub take_in : (m : ℕ) (h g : List Entry) (e : Event) → m ≤ length h → Contains (filter_map f (take m h)) e → Contains (filter_map f (take m (h ++ g))) e
  take_in m h g e low i = subst (λ z. Contains (filter_map f z) e) (sym (take-append-le m h g low)) i

  pub in_drop : (m : ℕ) (h g : List Entry) (e : Event) → m ≤ length h → Contains (filter_map f (drop m (h ++ g))) e → Contains (filter_map f (drop m h)) e ⊎ Contains (filter_map f g) e
  in_drop m h g e low i = of_both (drop m h) g e (subst (λ z. Contains (filter_map f z) e) (drop-append-le m h g low) i)

  pub of_take : (m : ℕ) (h : List Entry) (e : Event) → Contains (filter_map f (take m h)) e → Contains (filter_map f h) e
  of_take m h e i = subst (λ z. Contains (filter_map f z) e) (take-append-drop m h) (of_front (take m h) (drop m h) e i)

  pub take_or_drop : (m : ℕ) (h : List Entry) (e : Event) → Contains (filter_map f h) e → Contains (filter_map f (take m h)) e ⊎ Contains (filter_map f (drop m h)) e
  take_or_drop m h e i = of_both (take m h) (drop m h) e (subst (λ z. Contains (filter_map f z) e) (sym (take-append-drop m h)) i)

  pub take_all : (h : List Entry) (e : Event) → Contains (filter_map f h) e → Contains (filter_map f (take (length h) h)) e
  take_all [] e i = i
  take_all (x ∷ h) e i = ⊎_elim (λ l. of_front (x ∷ []) (take (length h) h) e l) (λ r. of_back (x ∷ []) (take (length h) h) e (take_all h e r)) (of_both (x ∷ []) h e i)

  -- nothing stands behind all of it
  pub drop_none : (h : List Entry) (e : Event) → Contains (filter_map f (drop (length h) h)) e → ⊥
  drop_none [] e i = let k = i.1 in absurd (omega arith)
  drop_none (x ∷ h) e i = drop_none h e i

  pub take_more : (m k : ℕ) (h : List Entry) (e : Event) → m ≤ k → Contains (filter_map f (take m h)) e → Contains (filter_map f (take k h)) e
  take_more m k h e low i = of_take m (take k h) e (subst (λ z. Contains (filter_map f z) e) (sym (take-take m k h low)) i)
