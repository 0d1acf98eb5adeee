-- What one object sends stands in its sends once, and so does what all objects send.
use Rattle.std.proofs.Common.{◌≡◌, ◌⊎◌, ℕ, ◌+◌, ◌<◌, ◌≤◌, List, [], ◌∷◌, ◌++◌, length, cond, Bool, true, false, nat_eq, refl, sym, ap, ◌∙◌, subst, arith, inl, inr}
use Rattle.std.specs.Prelude.{filter}
use Rattle.std.specs.List.{AllByRecursion}
use Rattle.std.proofs.lemmas.Bool.Decides.{nat_tests}
use Rattle.crq_base.specs.declared.event.Event.{Event}
use Rattle.crq_base.specs.Lists.{In, IsOnce}
use Rattle.crq_sim.specs.declared.reaction.ObjectState.{ObjectState}
use Rattle.crq_sim.specs.Models.{ModelData, IsModel, IsObject}
use Rattle.crq_sim.specs.Reactions.{state_after, sends_of}
use Rattle.crq_sim.specs.WindowRuns.{object_sends}
use Rattle.crq_sim.proofs.EventListLemmas.{All-weaker}
use Rattle.crq_sim.proofs.KeyLemmas.{sends_apart}
use Rattle.crq_sim.proofs.Sound.{IsSend, sends_known, after_sent}
use Rattle.crq_host.proofs.Members.{once_join}
use Rattle.crq_host.proofs.WindowSteps.{numbers_once}

all_in : (Q : Event → Type 0) (es : List Event) (x : Event) → AllByRecursion Q es → In x es → Q x
all_in Q [] x all at = absurd at
all_in Q (e ∷ es) x all (inl same) = subst Q (sym same) all.0
all_in Q (e ∷ es) x all (inr at) = all_in Q es x all.1 at

all_append : (Q : Event → Type 0) (xs ys : List Event) → AllByRecursion Q xs → AllByRecursion Q ys → AllByRecursion Q (xs ++ ys)
all_append Q [] ys a b = b
all_append Q (x ∷ xs) ys a b = (a.0, all_append Q xs ys a.1 b)

-- an object's sends are its own, and numbered on
pub sends_later : (m : ModelData) (o : ℕ) (s : ObjectState) (es : List Event) → IsModel m → IsObject (length m.objects) o
    → AllByRecursion (λ (f : Event). (f.src ≡ o) × (s.sent ≤ f.seq)) (object_sends m o s es)
unfolding object_sends
sends_later m o s [] is there = tt
sends_later m o s (e ∷ es) is there =
    let sent = after_sent m o s e in
    let now : List Event = sends_of m o s e in
    let rest : List Event = object_sends m o (state_after m o s e) es in
    all_append (λ (f : Event). (f.src ≡ o) × (s.sent ≤ f.seq)) now rest
    (All-weaker (IsSend m o s.sent (length now) e) (λ (f : Event). (f.src ≡ o) × (s.sent ≤ f.seq)) (λ f k. (k.source, k.from)) now (sends_known m o s e is there))
    (All-weaker (λ (f : Event). (f.src ≡ o) × ((state_after m o s e).sent ≤ f.seq)) (λ (f : Event). (f.src ≡ o) × (s.sent ≤ f.seq)) (λ f k. (k.0, (let le = k.1 in omega arith))) rest (sends_later m o (state_after m o s e) es is there))

pub sends_once : (m : ModelData) (o : ℕ) (s : ObjectState) (es : List Event) → IsModel m → IsObject (length m.objects) o → IsOnce (object_sends m o s es)
unfolding object_sends
sends_once m o s [] is there = tt
sends_once m o s (e ∷ es) is there =
    let sent = after_sent m o s e in
    let now : List Event = sends_of m o s e in
    let s' : ObjectState = state_after m o s e in
    once_join now (object_sends m o s' es) (numbers_once now (sends_apart m o s e)) (sends_once m o s' es is there)
    (λ x a b.
    let first = all_in (IsSend m o s.sent (length now) e) now x (sends_known m o s e is there) a in
    let later = all_in (λ (f : Event). (f.src ≡ o) × (s'.sent ≤ f.seq)) (object_sends m o s' es) x (sends_later m o s' es is there) b in
    let lt : x.seq < s.sent + length now = first.below in
    let le : s'.sent ≤ x.seq = later.1 in
    absurd (omega arith))

-- the events of one source
abbrev from_source : ℕ → List Event → List Event
from_source o es = filter (λ (e : Event). nat_eq e.src o) es

own_all : (a o : ℕ) (es : List Event) → AllByRecursion (λ (f : Event). f.src ≡ a) es → nat_eq a o ≡ true → from_source o es ≡ es
own_all a o [] all t = refl
own_all a o (e ∷ es) all t = (let x : nat_eq e.src o ≡ true = ap (λ k. nat_eq k o) all.0 ∙ t in rw x (ap (λ ys. e ∷ ys) (own_all a o es all.1 t)))

own_none : (a o : ℕ) (es : List Event) → AllByRecursion (λ (f : Event). f.src ≡ a) es → nat_eq a o ≡ false → from_source o es ≡ []
own_none a o [] all t = refl
own_none a o (e ∷ es) all t = (let x : nat_eq e.src o ≡ false = ap (λ k. nat_eq k o) all.0 ∙ t in rw x (own_none a o es all.1 t))

told : (b : Bool) → (b ≡ true) ⊎ (b ≡ false)
told true = inl refl
told false = inr refl

pub own_apart : (a o : ℕ) (es : List Event) → AllByRecursion (λ (f : Event). f.src ≡ a) es → filter (λ (e : Event). nat_eq e.src o) es ≡ cond (nat_eq a o) es []
own_apart a o es all = elim (told (nat_eq a o)) [ inl t ↦ rw t (own_all a o es all t) | inr t ↦ rw t (own_none a o es all t) ]

-- where the events of each source stand once, all do
in_source : (o : ℕ) (xs : List Event) (x : Event) → nat_eq x.src o ≡ true → In x xs → In x (from_source o xs)
in_source o [] x t at = absurd at
in_source o (y ∷ xs) x t (inl same) = (let u : nat_eq y.src o ≡ true = ap (λ (e : Event). nat_eq e.src o) (sym same) ∙ t in rw u (inl same))
in_source o (y ∷ xs) x t (inr at) =
    elim (told (nat_eq y.src o)) [ inl u ↦ rw u (inr (in_source o xs x t at)) | inr u ↦ rw u (in_source o xs x t at) ]

tail_once : (b : Bool) (x : Event) (xs : List Event) → IsOnce (cond b (x ∷ xs) xs) → IsOnce xs
tail_once true x xs h = h.1
tail_once false x xs h = h

pub once_by_source : (xs : List Event) → ((o : ℕ) → IsOnce (filter (λ (e : Event). nat_eq e.src o) xs)) → IsOnce xs
once_by_source [] h = tt
once_by_source (x ∷ xs) h =
    let t : nat_eq x.src x.src ≡ true = grind (arith, nat_tests) in
    let here : IsOnce (x ∷ from_source x.src xs) = subst (λ b. IsOnce (cond b (x ∷ from_source x.src xs) (from_source x.src xs))) t (h x.src) in
    ((λ at. here.0 (in_source x.src xs x t at)), once_by_source xs (λ o. tail_once (nat_eq x.src o) x (from_source o xs) (h o)))
