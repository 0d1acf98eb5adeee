-- The order of objects, and what stands where in events that are in it.
use Rattle.std.proofs.Common.{◌≡◌, ℕ, ◌<◌, ◌≤◌, List, [], ◌∷◌, false, length, get_or, arith, inl, inr, refl, sym, ap, ◌∙◌, subst}
use Rattle.std.proofs.lemmas.Cmp.{on_total, then_total, nat_cmp_total}
use Rattle.std.proofs.lemmas.List.Sorted.{sorted_far, ranks_by}
use Rattle.std.proofs.lemmas.Map.Keys.{IsDistinct-IsPermutation, apart_from_distinct, ge_from_not_lt}
use Rattle.std.proofs.lemmas.Bool.Decides.{nat_tests}
use Rattle.std.specs.Cmp.{IsTotalOrder, IsStrictWeakOrder}
use Rattle.std.specs.List.{IsDistinct}
use Rattle.std.specs.List.Sorted.{IsPermutation, IsNonDecreasingBy}
use Rattle.std.specs.Ordering.{is_lt, is_eq, nat_cmp, ordering_then, ordering_reverse}
use Rattle.std.specs.declared.cmp.Ordering.{Ordering}
use Rattle.std.specs.declared.cmp.Ordering.TheVariants.{Less, Equal, Greater}
use Rattle.crq_base.specs.declared.event.Event.{Event}
use Rattle.crq_base.specs.Keys.{event_cmp, IsBefore}
use Rattle.crq_base.proofs.KeyOrder.{event_total, before_else, same_event}
use Rattle.crq_sim.specs.EventLists.{HaveOneKey, HaveKeysApart}
use Rattle.crq_sim.proofs.EventListLemmas.{bool_cases, equal_is, All-weaker}
use Rattle.crq_windows.specs.Arranged.{object_cmp, IsArranged, are_alike, AreDistinct}

pub object_total : IsTotalOrder object_cmp
object_total = then_total (on_total (λ (e : Event). e.dst) nat_cmp_total) event_total

pub object_ranks : IsStrictWeakOrder (λ (a b : Event). is_lt (object_cmp a b))
object_ranks = ranks_by object_total (λ (e : Event). e)

-- of an event that isn't before another one by its object
then_first : (p q : Ordering) → is_lt (ordering_then p q) ≡ false → is_lt p ≡ false
then_first Less q h = h
then_first Equal q h = refl
then_first Greater q h = refl

equal_nat : (a b : ℕ) → a ≡ b → nat_cmp a b ≡ Equal
equal_nat a b h = grind (arith, nat_tests)

pub object_from : (a b : Event) → is_lt (object_cmp a b) ≡ false → b.dst ≤ a.dst
object_from a b h = ge_from_not_lt a.dst b.dst (then_first _ _ h)

pub key_from : (a b : Event) → a.dst ≡ b.dst → is_lt (object_cmp a b) ≡ false → is_lt (event_cmp a b) ≡ false
key_from a b same h = subst (λ (o : Ordering). is_lt (ordering_then o (event_cmp a b)) ≡ false) (equal_nat _ _ same) h

far : (events : List Event) → IsArranged events → (i j : ℕ) (d : Event) → i ≤ j → j < length events → is_lt (object_cmp (get_or events j d) (get_or events i d)) ≡ false
far events h i j d le lt = sorted_far (λ (a b : Event). is_lt (object_cmp a b)) object_ranks events h i j d le lt

-- the objects don't fall
pub objects_rise : (events : List Event) → IsArranged events → IsNonDecreasingBy (λ (e : Event). e.dst) events
objects_rise events h i j d le lt = object_from (get_or events j d) (get_or events i d) (far events h i j d le lt)

-- whether events are alike doesn't depend on which is named first
reverse_equal : (o : Ordering) → is_eq (ordering_reverse o) ≡ is_eq o
reverse_equal Less = refl
reverse_equal Equal = refl
reverse_equal Greater = refl

pub alike_flips : (a b : Event) → are_alike a b ≡ are_alike b a
alike_flips a b = ap is_eq (event_total.antisymm a b) ∙ reverse_equal (event_cmp b a)

-- at one object the keys rise
pub keys_rise : (events : List Event) → IsArranged events → AreDistinct events → (i j : ℕ) (d : Event) → i < j → j < length events
    → (get_or events i d).dst ≡ (get_or events j d).dst → IsBefore (get_or events i d) (get_or events j d)
keys_rise events h apart i j d lt end same =
    let a = get_or events i d in
    let b = get_or events j d in
    let not_before : is_lt (event_cmp b a) ≡ false = key_from b a (sym same) (far events h i j d (omega arith) end) in
    let not_alike : is_eq (event_cmp a b) ≡ false = apart_from_distinct are_alike events i j d apart lt end in
    before_else b a not_before (alike_flips b a ∙ not_alike)

-- events with keys apart are different
apart_not_alike : (e f : Event) → (HaveOneKey e f → ⊥) → are_alike e f ≡ false
apart_not_alike e f h =
    elim (bool_cases (is_eq (event_cmp e f))) [
      | inl same ↦ (let one : e ≡ f = same_event e f (equal_is _ same) in absurd (h (ap (λ (x : Event). x.time) one, ap (λ (x : Event). x.src) one, ap (λ (x : Event). x.seq) one)))
      | inr other ↦ other
    ]

pub distinct_from_apart : (events : List Event) → HaveKeysApart events → AreDistinct events
unfolding IsDistinct
distinct_from_apart [] h = tt
distinct_from_apart (e ∷ es) h =
    (All-weaker (λ (f : Event). HaveOneKey e f → ⊥) (λ (f : Event). are_alike e f ≡ false) (λ f k. apart_not_alike e f k) es h.0, distinct_from_apart es h.1)

pub distinct_after : (old new : List Event) → IsPermutation old new → AreDistinct old → AreDistinct new
distinct_after old new moved h = IsDistinct-IsPermutation are_alike alike_flips old new moved h
