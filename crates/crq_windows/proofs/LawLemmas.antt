-- Groups and the events of a window in order.
use Rattle.std.proofs.Common.{◌≡◌, ◌↔◌, ℕ, ◌<◌, List, [], ◌∷◌, Bool, true, false, cond, ◌==◌, Contains, arith, inl, inr, refl, sym, ap, ◌∙◌, subst}
use Rattle.std.proofs.lemmas.Bool.Decides.{nat_tests}
use Rattle.std.proofs.lemmas.List.Elements.{All-from_recursion, All-contains}
use Rattle.std.specs.List.{AllByRecursion, filter}
use Rattle.crq_base.specs.declared.event.Event.{Event}
use Rattle.crq_base.specs.Keys.{IsBefore}
use Rattle.crq_sim.specs.EventLists.{AreInOrder}
use Rattle.crq_sim.specs.WindowRuns.{events_of}
use Rattle.crq_sim.proofs.EventListLemmas.{bool_cases}
use Rattle.crq_sim.proofs.Members.{none_in, into_cons, from_cons}
use Rattle.crq_sim.proofs.OrderLemmas.{one_order}
use Rattle.crq_windows.specs.declared.group.Group.{Group}
use Rattle.crq_windows.specs.Groups.{group_events, IsGroup, AreRising, AreGroups}

-- the members of what passes
kept_in : (p : Event → Bool) (es : List Event) (x : Event) → Contains (filter p es) x → Contains es x × (p x ≡ true)
kept_in p [] x h = absurd (none_in x h)
kept_in p (e ∷ es) x h =
    elim (bool_cases (p e)) [
      | inl passes ↦ elim (from_cons e x (filter p es) (rw passes at h)) [
        | inl first ↦ (into_cons e x es (inl first), subst (λ (z : Event). p z ≡ true) first passes)
        | inr later ↦ (let k = kept_in p es x later in (into_cons e x es (inr k.0), k.1))
      ]
      | inr fails ↦ (let k = kept_in p es x (rw fails at h) in (into_cons e x es (inr k.0), k.1))
    ]

in_kept : (p : Event → Bool) (es : List Event) (x : Event) → Contains es x → p x ≡ true → Contains (filter p es) x
in_kept p [] x h passes = absurd (none_in x h)
in_kept p (e ∷ es) x h passes =
    elim (from_cons e x es h) [
      | inl first ↦ (let here : p e ≡ true = subst (λ (z : Event). p z ≡ true) (sym first) passes in rw here (into_cons e x (filter p es) (inl first)))
      | inr later ↦ elim (p e) as (λ b. Contains (cond b (e ∷ filter p es) (filter p es)) x) [
        | true ↦ into_cons e x (filter p es) (inr (in_kept p es x later passes))
        | false ↦ in_kept p es x later passes
      ]
    ]

all_kept : (P : Event → Type 0) (p : Event → Bool) (es : List Event) → AllByRecursion P es → AllByRecursion P (filter p es)
all_kept P p [] h = tt
all_kept P p (e ∷ es) h =
    elim (p e) as (λ b. AllByRecursion P (cond b (e ∷ filter p es) (filter p es))) [
      | true ↦ (h.0, all_kept P p es h.1)
      | false ↦ all_kept P p es h.1
    ]

kept_in_order : (p : Event → Bool) (es : List Event) → AreInOrder es → AreInOrder (filter p es)
kept_in_order p [] h = tt
kept_in_order p (e ∷ es) h =
    elim (p e) as (λ b. AreInOrder (cond b (e ∷ filter p es) (filter p es))) [
      | true ↦ (all_kept (IsBefore e) p es h.0, kept_in_order p es h.1)
      | false ↦ kept_in_order p es h.1
    ]

kept_of : (p : Event → Bool) (es fs : List Event) → ((e : Event) → Contains es e → Contains fs e) → (x : Event) → Contains (filter p es) x → Contains (filter p fs) x
kept_of p es fs to x h = (let k = kept_in p es x h in in_kept p fs x (to x k.0) k.1)

pub group_in_order : (objects : ℕ) (events below : List Event) (g : Group) → IsGroup objects events g → AreInOrder below → ((e : Event) → Contains events e ↔ Contains below e)
    → group_events events g ≡ events_of g.object below
group_in_order objects events below g is h same =
    let at : Event → Bool = λ e. e.dst == g.object in
    is.just ∙ one_order (filter at events) (filter at below) (subst AreInOrder is.just is.in_order) (kept_in_order at below h)
    (kept_of at events below (λ e. (same e).0)) (kept_of at below events (λ e. (same e).1))

-- an object without a group
nothing : (es : List Event) → ((e : Event) → Contains es e → ⊥) → es ≡ []
nothing [] h = refl
nothing (e ∷ es) h = absurd (h e (into_cons e e es (inl refl)))

equal_tested : (a b : ℕ) → (a == b) ≡ true → a ≡ b
equal_tested a b h = grind (arith, nat_tests)

pub no_group : (objects o : ℕ) (events below : List Event) (groups : List Group) → AreGroups objects events groups → ((e : Event) → Contains events e ↔ Contains below e)
    → ((g : Group) → Contains groups g → g.object ≡ o → ⊥) → events_of o below ≡ []
no_group objects o events below groups are same none =
    nothing (events_of o below) (λ e at.
    let k = kept_in (λ (f : Event). f.dst == o) below e at in
    let one = are.all e ((same e).1 k.0) in
    none one.0 one.1 (one.2 ∙ equal_tested e.dst o k.1))

-- one group at most
later_apart : (g h : Group) (groups : List Group) → AllByRecursion (λ (k : Group). g.object < k.object) groups → Contains groups h → g.object ≡ h.object → ⊥
later_apart g h groups all at same =
    let less : g.object < h.object = All-contains (λ (k : Group). g.object < k.object) groups h (All-from_recursion (λ (k : Group). g.object < k.object) groups all) at in
    omega arith

pub one_group : (groups : List Group) (g h : Group) → AreRising groups → Contains groups g → Contains groups h → g.object ≡ h.object → g ≡ h
one_group [] g h rising in_g in_h same = absurd (none_in g in_g)
one_group (x ∷ xs) g h rising in_g in_h same =
    elim (from_cons x g xs in_g) [
      | inl first ↦ elim (from_cons x h xs in_h) [
        | inl also ↦ sym first ∙ also
        | inr later ↦ absurd (later_apart x h xs rising.0 later (ap (λ (k : Group). k.object) first ∙ same))
      ]
      | inr later ↦ elim (from_cons x h xs in_h) [
        | inl first ↦ absurd (later_apart x g xs rising.0 later (ap (λ (k : Group). k.object) first ∙ sym same))
        | inr also ↦ one_group xs g h rising.1 later also same
      ]
    ]
