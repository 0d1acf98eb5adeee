-- The members of an event list, and their order.
use Rattle.std.proofs.Common.{◌≡◌, ◌⊎◌, List, [], ◌∷◌, true, false, cond, inl, inr, refl, sym, ap, ◌∙◌, subst, Contains}
use Rattle.std.specs.Ordering.{is_eq, is_lt}
use Rattle.std.specs.declared.cmp.Ordering.TheVariants.{Equal}
use Rattle.std.specs.List.{AllByRecursion}
use Rattle.std.proofs.lemmas.Cmp.{tied_itself}
use Rattle.crq_base.specs.declared.event.Event.{Event}
use Rattle.crq_base.specs.Keys.{event_cmp, IsBefore}
use Rattle.crq_base.proofs.KeyOrder.{event_total, before_trans, before_not_itself, same_event}
use Rattle.crq_sim.specs.EventLists.{with_event, with_events, without_event, AreInOrder, IsHead}
use Rattle.crq_sim.proofs.EventListLemmas.{bool_cases, equal_is}
use Rattle.crq_sim.proofs.Members.{none_in, into_cons, from_cons}

pub All-at : (P : Event → Type 0) (es : List Event) (x : Event) → AllByRecursion P es → Contains es x → P x
All-at P [] x all at = absurd (none_in x at)
All-at P (e ∷ es) x all at = elim (from_cons e x es at) [ inl same ↦ subst P same all.0 | inr later ↦ All-at P es x all.1 later ]

-- the first event of a list in order is the least
pub first_least : (es : List Event) (e f : Event) → AreInOrder es → IsHead e es → Contains es f → (f ≡ e) ⊎ IsBefore e f
first_least [] e f h first at = absurd first
first_least (x ∷ xs) e f h first at =
    elim (from_cons x f xs at) [
      | inl same ↦ inl (sym same ∙ sym first)
      | inr later ↦ inr (subst (λ (z : Event). IsBefore z f) (sym first) (All-at (IsBefore x) xs f h.0 later))
    ]

-- one more event
pub in_with : (x e : Event) (es : List Event) → (e ≡ x) ⊎ Contains es x → Contains (with_event e es) x
in_with x e [] h = into_cons e x [] h
in_with x e (f ∷ fs) h =
    elim (is_lt (event_cmp e f)) as (λ b. Contains (cond b (e ∷ f ∷ fs) (f ∷ with_event e fs)) x) [
      | true ↦ into_cons e x (f ∷ fs) h
      | false ↦ elim h [
        | inl new ↦ into_cons f x (with_event e fs) (inr (in_with x e fs (inl new)))
        | inr old ↦ elim (from_cons f x fs old) [
          | inl here ↦ into_cons f x (with_event e fs) (inl here)
          | inr later ↦ into_cons f x (with_event e fs) (inr (in_with x e fs (inr later)))
        ]
      ]
    ]

pub with_in : (x e : Event) (es : List Event) → Contains (with_event e es) x → (e ≡ x) ⊎ Contains es x
with_in x e [] h = from_cons e x [] h
with_in x e (f ∷ fs) h =
    (elim (is_lt (event_cmp e f)) as (λ b. Contains (cond b (e ∷ f ∷ fs) (f ∷ with_event e fs)) x → (e ≡ x) ⊎ Contains (f ∷ fs) x) [
      | true ↦ λ k. from_cons e x (f ∷ fs) k
      | false ↦ λ k. elim (from_cons f x (with_event e fs) k) [
        | inl here ↦ inr (into_cons f x fs (inl here))
        | inr later ↦ elim (with_in x e fs later) [ inl new ↦ inl new | inr old ↦ inr (into_cons f x fs (inr old)) ]
      ]
    ]) h

-- one event less
pub itself : (e : Event) → is_eq (event_cmp e e) ≡ true
itself e = (let tie : event_cmp e e ≡ Equal = tied_itself event_total e in rw tie refl)

pub without_in : (x e : Event) (es : List Event) → Contains (without_event e es) x → Contains es x × (e ≡ x → ⊥)
without_in x e [] h = absurd (none_in x h)
without_in x e (f ∷ fs) h =
    elim (bool_cases (is_eq (event_cmp e f))) [
      | inl same ↦ (let k = without_in x e fs (rw same at h) in (into_cons f x fs (inr k.0), k.1))
      | inr apart ↦ elim (from_cons f x (without_event e fs) (rw apart at h)) [
        | inl here ↦ (into_cons f x fs (inl here), (λ is. (let tie : is_eq (event_cmp e f) ≡ true = subst (λ (z : Event). is_eq (event_cmp e z) ≡ true) (is ∙ sym here) (itself e) in cc)))
        | inr later ↦ (let k = without_in x e fs later in (into_cons f x fs (inr k.0), k.1))
      ]
    ]

pub in_without : (x e : Event) (es : List Event) → Contains es x → (e ≡ x → ⊥) → Contains (without_event e es) x
in_without x e [] h other = absurd (none_in x h)
in_without x e (f ∷ fs) h other =
    elim (bool_cases (is_eq (event_cmp e f))) [
      | inl same ↦ rw same (elim (from_cons f x fs h) [
        | inl here ↦ absurd (other (same_event e f (equal_is _ same) ∙ here))
        | inr later ↦ in_without x e fs later other
      ])
      | inr apart ↦ rw apart (elim (from_cons f x fs h) [
        | inl here ↦ into_cons f x (without_event e fs) (inl here)
        | inr later ↦ into_cons f x (without_event e fs) (inr (in_without x e fs later other))
      ])
    ]

-- several more events
pub in_withs : (x : Event) (es pending : List Event) → Contains es x ⊎ Contains pending x → Contains (with_events es pending) x
in_withs x [] pending h = elim h [ inl none ↦ absurd (none_in x none) | inr old ↦ old ]
in_withs x (e ∷ es) pending h =
    in_withs x es (with_event e pending) (elim h [
      | inl new ↦ elim (from_cons e x es new) [ inl here ↦ inr (in_with x e pending (inl here)) | inr later ↦ inl later ]
      | inr old ↦ inr (in_with x e pending (inr old))
    ])

pub withs_in : (x : Event) (es pending : List Event) → Contains (with_events es pending) x → Contains es x ⊎ Contains pending x
withs_in x [] pending h = inr h
withs_in x (e ∷ es) pending h =
    elim (withs_in x es (with_event e pending) h) [
      | inl later ↦ inl (into_cons e x es (inr later))
      | inr at ↦ elim (with_in x e pending at) [ inl here ↦ inl (into_cons e x es (inl here)) | inr old ↦ inr old ]
    ]

-- the first events of two lists in order with the same members are the same
first_same : (x y : Event) (xs ys : List Event) → AllByRecursion (IsBefore x) xs → AllByRecursion (IsBefore y) ys → Contains (y ∷ ys) x → Contains (x ∷ xs) y → x ≡ y
first_same x y xs ys h k there back =
    elim (from_cons y x ys there) [
      | inl same ↦ sym same
      | inr in_ys ↦ elim (from_cons x y xs back) [
        | inl same ↦ same
        | inr in_xs ↦ absurd (before_not_itself x (before_trans x y x (All-at (IsBefore x) xs y h in_xs) (All-at (IsBefore y) ys x k in_ys)))
      ]
    ]

rest_in : (x y : Event) (xs ys : List Event) → x ≡ y → AllByRecursion (IsBefore x) xs → (e : Event) → Contains xs e → Contains (y ∷ ys) e → Contains ys e
rest_in x y xs ys same h e at there =
    elim (from_cons y e ys there) [
      | inl first ↦ absurd (before_not_itself e (subst (λ (z : Event). IsBefore z e) (same ∙ first) (All-at (IsBefore x) xs e h at)))
      | inr later ↦ later
    ]

-- such lists are one
pub one_order : (xs ys : List Event) → AreInOrder xs → AreInOrder ys → ((e : Event) → Contains xs e → Contains ys e) → ((e : Event) → Contains ys e → Contains xs e) → xs ≡ ys
one_order [] [] h k to from = refl
one_order [] (y ∷ ys) h k to from = absurd (none_in y (from y (into_cons y y ys (inl refl))))
one_order (x ∷ xs) [] h k to from = absurd (none_in x (to x (into_cons x x xs (inl refl))))
one_order (x ∷ xs) (y ∷ ys) h k to from =
    let heads : x ≡ y = first_same x y xs ys h.0 k.0 (to x (into_cons x x xs (inl refl))) (from y (into_cons y y ys (inl refl))) in
    let there : ((e : Event) → Contains xs e → Contains ys e) = λ e at. rest_in x y xs ys heads h.0 e at (to e (into_cons x e xs (inr at))) in
    let back : ((e : Event) → Contains ys e → Contains xs e) = λ e at. rest_in y x ys xs (sym heads) k.0 e at (from e (into_cons y e ys (inr at))) in
    ap (λ z. z ∷ xs) heads ∙ ap (λ zs. y ∷ zs) (one_order xs ys h.1 k.1 there back)
