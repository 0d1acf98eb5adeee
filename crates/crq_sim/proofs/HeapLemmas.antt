-- An event list doesn't depend on the order in which its events come.
use Rattle.std.proofs.Common.{◌≡◌, ◌⊎◌, ℕ, zero, suc, ◌<◌, List, [], ◌∷◌, true, false, length, map, get_or, set, refl, arith, ap, sym, ◌∙◌, subst, inl, inr}
use Rattle.std.specs.declared.cmp.Reverse.{Reverse}
use Rattle.std.specs.Ordering.{is_eq, is_lt}
use Rattle.std.specs.List.{AllByRecursion, swap}
use Rattle.std.specs.List.Sorted.{IsPermutation}
use Rattle.std.proofs.lemmas.List.Sorted.{IsPermutation-keeps, IsPermutation-map}
use Rattle.crq_base.specs.declared.event.Event.{Event}
use Rattle.crq_base.specs.Keys.{event_cmp, IsBefore}
use Rattle.crq_base.proofs.KeyOrder.{before_trans, before_else, before_not_itself, same_event}
use Rattle.crq_sim.specs.EventLists.{with_event, with_events, IsHead}
use Rattle.crq_sim.specs.Heaps.{listed}
use Rattle.crq_sim.proofs.EventListLemmas.{equal_is, bool_cases, All-with_events}

-- of two events one is before the other, or they are one
one_before : (a b : Event) → IsBefore a b ⊎ (IsBefore b a ⊎ (a ≡ b))
one_before a b =
    elim (bool_cases (is_lt (event_cmp a b))) [
      | inl before ↦ inl before
      | inr other ↦ elim (bool_cases (is_eq (event_cmp a b))) [
        | inl same ↦ inr (inr (same_event a b (equal_is _ same)))
        | inr apart ↦ inr (inl (before_else a b other apart))
      ]
    ]

not_back : (a b : Event) → IsBefore a b → is_lt (event_cmp b a) ≡ false
not_back a b h =
    elim (bool_cases (is_lt (event_cmp b a))) [
      | inl back ↦ absurd (before_not_itself a (before_trans a b a h back))
      | inr not ↦ not
    ]

swap_less : (a b : Event) (es : List Event) → IsBefore a b → with_event a (with_event b es) ≡ with_event b (with_event a es)
swap_less a b [] h = rw (h, not_back a b h) refl
swap_less a b (f ∷ fs) h =
    elim (bool_cases (is_lt (event_cmp b f))) [
      | inl b_first ↦ (let a_first : IsBefore a f = before_trans a b f h b_first in rw (b_first, a_first, h, not_back a b h, b_first) refl)
      | inr b_later ↦ elim (bool_cases (is_lt (event_cmp a f))) [
        | inl a_first ↦ rw (b_later, a_first, not_back a b h, b_later) refl
        | inr a_later ↦ rw (b_later, a_later, b_later) (ap (λ (xs : List Event). f ∷ xs) (swap_less a b fs h))
      ]
    ]

with_event_swap : (a b : Event) (es : List Event) → with_event a (with_event b es) ≡ with_event b (with_event a es)
with_event_swap a b es =
    elim (one_before a b) [
      | inl before ↦ swap_less a b es before
      | inr other ↦ elim other [
        | inl after ↦ sym (swap_less b a es after)
        | inr same ↦ (λ i. with_event (same i) (with_event b es)) ∙ ap (λ (x : Event). with_event b (with_event x es)) (sym same)
      ]
    ]

with_events_later : (es pending : List Event) (a : Event) → with_events es (with_event a pending) ≡ with_event a (with_events es pending)
with_events_later [] pending a = refl
with_events_later (e ∷ es) pending a = ap (with_events es) (with_event_swap e a pending) ∙ with_events_later es (with_event e pending) a

-- the events, each put at its place
abbrev placed : List Event → List Event
placed es = with_events es []

placed_more : (e : Event) (es : List Event) → placed (e ∷ es) ≡ with_event e (placed es)
placed_more e es = with_events_later es [] e

-- an event in the place of another
placed_set : (es : List Event) (i : ℕ) (y d : Event) → i < length es → with_event (get_or es i d) (placed (set es i y)) ≡ with_event y (placed es)
placed_set [] i y d lt = absurd (omega arith)
placed_set (e ∷ es) zero y d lt = ap (with_event e) (placed_more y es) ∙ with_event_swap e y (placed es) ∙ ap (with_event y) (sym (placed_more e es))
placed_set (e ∷ es) (suc i) y d lt =
    let g : Event = get_or es i d in
    ap (with_event g) (placed_more e (set es i y)) ∙ with_event_swap g e (placed (set es i y)) ∙ ap (with_event e) (placed_set es i y d (omega arith))
    ∙ with_event_swap e y (placed es) ∙ ap (with_event y) (sym (placed_more e es))

placed_exchanged : (d : Event) (es : List Event) (i j : ℕ) → i < length es → j < length es → placed (set (set es i (get_or es j d)) j (get_or es i d)) ≡ placed es
placed_exchanged d [] i j a b = absurd (omega arith)
placed_exchanged d (e ∷ es) zero zero a b = refl
placed_exchanged d (e ∷ es) zero (suc j) a b = placed_more (get_or es j d) (set es j e) ∙ placed_set es j e d (omega arith) ∙ sym (placed_more e es)
placed_exchanged d (e ∷ es) (suc i) zero a b = placed_more (get_or es i d) (set es i e) ∙ placed_set es i e d (omega arith) ∙ sym (placed_more e es)
placed_exchanged d (e ∷ es) (suc i) (suc j) a b =
    placed_more e (set (set es i (get_or es j d)) j (get_or es i d)) ∙ ap (with_event e) (placed_exchanged d es i j (omega arith) (omega arith)) ∙ sym (placed_more e es)

placed_swap : (es : List Event) (i j : ℕ) → i < length es → j < length es → placed (swap es i j) ≡ placed es
placed_swap [] i j a b = refl
placed_swap (e ∷ es) i j a b = placed_exchanged e (e ∷ es) i j a b

placed_permutation : (xs ys : List Event) → IsPermutation xs ys → placed ys ≡ placed xs
placed_permutation xs ys same = IsPermutation-keeps xs (λ (l : List Event). placed l ≡ placed xs) refl (λ l i j a b h. placed_swap l i j a b ∙ h) ys same

abbrev event_of : Reverse Event → Event
event_of item = item.0

listed_permutation : (xs ys : List (Reverse Event)) → IsPermutation xs ys → listed ys ≡ listed xs
listed_permutation xs ys same = placed_permutation (map event_of xs) (map event_of ys) (IsPermutation-map event_of xs ys same)

-- one more element in a heap
pub listed_pushed : (x : Reverse Event) (items items' : List (Reverse Event)) → IsPermutation (x ∷ items) items' → listed items' ≡ with_event x.0 (listed items)
listed_pushed x items items' same = listed_permutation (x ∷ items) items' same ∙ placed_more x.0 (map event_of items)

-- an event that no other is before goes to the front
least_first : (x : Event) (es : List Event) → AllByRecursion (λ (f : Event). is_lt (event_cmp f x) ≡ false) es → with_event x es ≡ x ∷ es
least_first x [] all = refl
least_first x (f ∷ fs) all =
    elim (one_before x f) [
      | inl before ↦ rw before refl
      | inr other ↦ elim other [
        | inl after ↦ absurd (let no : is_lt (event_cmp f x) ≡ false = all.0 in let yes : is_lt (event_cmp f x) ≡ true = after in cc)
        | inr same ↦ (let not : is_lt (event_cmp x f) ≡ false = ap (λ (y : Event). is_lt (event_cmp y f)) same ∙ sym (ap (λ (y : Event). is_lt (event_cmp f y)) same) ∙ all.0 in
            rw not (ap (λ (xs : List Event). f ∷ xs) (least_first x fs all.1) ∙ (λ i. sym same i ∷ same i ∷ fs)))
      ]
    ]

none_before : (x : Reverse Event) (items : List (Reverse Event)) → AllByRecursion (λ (y : Reverse Event). is_lt (event_cmp y.0 x.0) ≡ false) items
    → AllByRecursion (λ (f : Event). is_lt (event_cmp f x.0) ≡ false) (map event_of items)
none_before x [] all = tt
none_before x (y ∷ ys) all = (all.0, none_before x ys all.1)

-- the greatest element of a heap is the first event
pub listed_first : (x : Reverse Event) (items : List (Reverse Event)) → AllByRecursion (λ (y : Reverse Event). is_lt (event_cmp y.0 x.0) ≡ false) items → listed (x ∷ items) ≡ x.0 ∷ listed items
listed_first x items all =
    placed_more x.0 (map event_of items)
    ∙ least_first x.0 (listed items) (All-with_events (λ (f : Event). is_lt (event_cmp f x.0) ≡ false) (map event_of items) [] (none_before x items all) tt)

pub listed_popped : (x : Reverse Event) (items items' : List (Reverse Event)) → IsPermutation items (x ∷ items') → AllByRecursion (λ (y : Reverse Event). is_lt (event_cmp y.0 x.0) ≡ false) items'
    → listed items ≡ x.0 ∷ listed items'
listed_popped x items items' same all = sym (listed_permutation items (x ∷ items') same) ∙ listed_first x items' all

pub listed_top : (x : Reverse Event) (items : List (Reverse Event)) (pending : List Event) → 0 < length items → x ≡ get_or items 0 x → AllByRecursion (λ (y : Reverse Event). is_lt (event_cmp y.0 x.0) ≡ false) items
    → listed items ≡ pending → IsHead x.0 pending
listed_top x [] pending some top all same = absurd (omega arith)
listed_top x (y ∷ ys) pending some top all same =
    let tail : AllByRecursion (λ (z : Reverse Event). is_lt (event_cmp z.0 y.0) ≡ false) ys = subst (λ (w : Reverse Event). AllByRecursion (λ (z : Reverse Event). is_lt (event_cmp z.0 w.0) ≡ false) ys) top all.1 in
    subst (IsHead x.0) (sym (listed_first y ys tail) ∙ same) (ap event_of top)
