-- An event list with one more event, and with several.
use Rattle.std.proofs.Common.{◌≡◌, ◌⊎◌, ℕ, ◌+◌, ◌<◌, ◌≤◌, List, [], ◌∷◌, Bool, true, false, cond, ◌||◌, refl, arith, ap, length, drop, get_or, sym, ◌∙◌, inl, inr}
use Rattle.std.proofs.lemmas.List.{drop_more, drop_all}
use Rattle.std.specs.declared.cmp.Ordering.{Ordering}
use Rattle.std.specs.declared.cmp.Ordering.TheVariants.{Less, Equal, Greater}
use Rattle.std.specs.List.{AllByRecursion, list_any}
use Rattle.std.specs.Ordering.{is_eq, is_lt}
use Rattle.crq_base.specs.declared.event.Event.{Event}
use Rattle.crq_base.specs.Keys.{event_cmp, IsBefore}
use Rattle.crq_base.proofs.KeyOrder.{before_trans, before_else, same_event}
use Rattle.crq_sim.specs.EventLists.{with_event, with_events, without_event, without_events, AreInOrder}

-- no event of the list has all fields of this one
abbrev pub IsAbsent : Event → List Event → Type 0
IsAbsent e pending = list_any (λ f. is_eq (event_cmp e f)) pending ≡ false

-- each of the events is absent when its turn comes
abbrev pub AreAbsent : List Event → List Event → Type 0
AreAbsent [] pending = Unit {0}
AreAbsent (e ∷ es) pending = IsAbsent e pending × AreAbsent es (with_event e pending)

-- events that are alike have one source and number
alike : (a b : Event) → event_cmp a b ≡ Equal → (a.src ≡ b.src) × (a.seq ≡ b.seq)
alike a b h = (let one = same_event a b h in (ap (λ e. e.src) one, ap (λ e. e.seq) one))

pub equal_is : (o : Ordering) → is_eq o ≡ true → o ≡ Equal
equal_is Less h = absurd (cc)
equal_is Equal h = refl
equal_is Greater h = absurd (cc)

not_equal : (o : Ordering) → (o ≡ Equal → ⊥) → is_eq o ≡ false
not_equal Less h = refl
not_equal Equal h = absurd (h refl)
not_equal Greater h = refl

-- an event is absent where each other one of its source has a lesser number
pub absent : (e : Event) (pending : List Event) → AllByRecursion (λ (f : Event). e.src ≡ f.src → f.seq < e.seq) pending → IsAbsent e pending
absent e [] h = refl
absent e (f ∷ fs) h =
    let here : is_eq (event_cmp e f) ≡ false = not_equal _ (λ same. let s = alike e f same in let l : f.seq < e.seq = h.0 s.0 in let q : e.seq ≡ f.seq = s.1 in omega arith) in
    rw here (absent e fs h.1)

-- a test that no element of the list passes
none_passes : (a b : Bool) → (a || b) ≡ false → (a ≡ false) × (b ≡ false)
none_passes true b h = absurd (cc)
none_passes false b h = (refl, h)

-- what holds of each event still does with one more
pub All-with_event : (P : Event → Type 0) (e : Event) (pending : List Event) → P e → AllByRecursion P pending → AllByRecursion P (with_event e pending)
All-with_event P e [] p h = (p, tt)
All-with_event P e (f ∷ fs) p h =
    elim (is_lt (event_cmp e f)) as (λ b. AllByRecursion P (cond b (e ∷ f ∷ fs) (f ∷ with_event e fs))) [
      | true ↦ (p, h)
      | false ↦ (h.0, All-with_event P e fs p h.1)
    ]

pub All-with_events : (P : Event → Type 0) (es pending : List Event) → AllByRecursion P es → AllByRecursion P pending → AllByRecursion P (with_events es pending)
All-with_events P [] pending h k = k
All-with_events P (e ∷ es) pending h k = All-with_events P es (with_event e pending) h.1 (All-with_event P e pending h.0 k)

-- and without one
pub All-without_event : (P : Event → Type 0) (e : Event) (es : List Event) → AllByRecursion P es → AllByRecursion P (without_event e es)
All-without_event P e [] h = tt
All-without_event P e (f ∷ fs) h =
    elim (is_eq (event_cmp e f)) as (λ b. AllByRecursion P (cond b (without_event e fs) (f ∷ without_event e fs))) [
      | true ↦ All-without_event P e fs h.1
      | false ↦ (h.0, All-without_event P e fs h.1)
    ]

pub All-without_events : (P : Event → Type 0) (es pending : List Event) → AllByRecursion P pending → AllByRecursion P (without_events es pending)
All-without_events P [] pending h = h
All-without_events P (e ∷ es) pending h = All-without_events P es (without_event e pending) (All-without_event P e pending h)

pub All-weaker : {X : Type 0} (P Q : X → Type 0) → ((x : X) → P x → Q x) → (xs : List X) → AllByRecursion P xs → AllByRecursion Q xs
All-weaker P Q f [] h = tt
All-weaker P Q f (x ∷ xs) h = (f x h.0, All-weaker P Q f xs h.1)

All-trans : (e f : Event) (fs : List Event) → IsBefore e f → AllByRecursion (IsBefore f) fs → AllByRecursion (IsBefore e) fs
All-trans e f [] h all = tt
All-trans e f (g ∷ gs) h all = (before_trans e f g h all.0, All-trans e f gs h all.1)

pub bool_cases : (b : Bool) → (b ≡ true) ⊎ (b ≡ false)
bool_cases true = inl refl
bool_cases false = inr refl

-- a new event keeps the order
pub in_order-with_event : (e : Event) (es : List Event) → IsAbsent e es → AreInOrder es → AreInOrder (with_event e es)
in_order-with_event e [] new h = (tt, tt)
in_order-with_event e (f ∷ fs) new h =
    let both = none_passes (is_eq (event_cmp e f)) (list_any (λ g. is_eq (event_cmp e g)) fs) new in
    elim (bool_cases (is_lt (event_cmp e f))) [
      | inl first ↦ rw first ((first, All-trans e f fs first h.0), h)
      | inr later ↦ (let g = before_else e f later both.0 in rw later (All-with_event (IsBefore f) e fs g h.0, in_order-with_event e fs both.1 h.1))
    ]

pub in_order-with_events : (es pending : List Event) → AreAbsent es pending → AreInOrder pending → AreInOrder (with_events es pending)
in_order-with_events [] pending new h = h
in_order-with_events (e ∷ es) pending new h = in_order-with_events es (with_event e pending) new.1 (in_order-with_event e pending new.0 h)

-- what stays is in order
in_order-without_event : (e : Event) (es : List Event) → AreInOrder es → AreInOrder (without_event e es)
in_order-without_event e [] h = tt
in_order-without_event e (f ∷ fs) h =
    elim (is_eq (event_cmp e f)) as (λ b. AreInOrder (cond b (without_event e fs) (f ∷ without_event e fs))) [
      | true ↦ in_order-without_event e fs h.1
      | false ↦ (All-without_event (IsBefore f) e fs h.0, in_order-without_event e fs h.1)
    ]

pub in_order-without_events : (es pending : List Event) → AreInOrder pending → AreInOrder (without_events es pending)
in_order-without_events [] pending h = h
in_order-without_events (e ∷ es) pending h = in_order-without_events es (without_event e pending) (in_order-without_event e pending h)

-- the events from the i-th on, one by one
pub inserted_next : (events pending : List Event) (i : ℕ) (now : List Event) (e : Event) → i < length events → with_events (drop i events) now ≡ with_events events pending
    → with_events (drop (i + 1) events) (with_event (get_or events i e) now) ≡ with_events events pending
inserted_next events pending i now e lt h = sym (ap (λ (es : List Event). with_events es now) (drop_more events i e lt)) ∙ h

pub inserted_all : (events pending : List Event) (i : ℕ) (now : List Event) → length events ≤ i → with_events (drop i events) now ≡ with_events events pending → now ≡ with_events events pending
inserted_all events pending i now le h = sym (ap (λ (es : List Event). with_events es now) (drop_all i events le)) ∙ h
