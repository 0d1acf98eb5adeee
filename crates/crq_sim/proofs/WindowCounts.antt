-- Each event of a run is in one window, which has one end.
use Rattle.std.proofs.Common.{◌≡◌, ℕ, zero, suc, ◌+◌, ◌-◌, ◌<◌, ◌≤◌, ◌⊎◌, List, [], ◌∷◌, length, refl, arith, ap, sym, ◌∙◌, subst, inl, inr}
use Rattle.std.proofs.lemmas.Bool.{cases_eq, cases_lt}
use Rattle.crq_base.specs.declared.event.Event.{Event}
use Rattle.crq_sim.specs.EventLists.{IsHead}
use Rattle.crq_sim.specs.Models.{ModelData, IsModel}
use Rattle.crq_sim.specs.Runs.{Simulation, after_events}
use Rattle.crq_sim.specs.Simulations.{IsSimulation}
use Rattle.crq_sim.specs.Windows.{EndsWindow, IsWindowEnd, IsInWindowFrom}
use Rattle.crq_sim.proofs.AfterLemmas.{some_before}
use Rattle.crq_sim.proofs.NextWindow.{next_window}
use Rattle.crq_sim.proofs.Sound.{goes_on}

-- a window doesn't end before another end of it
not_earlier : (m : ModelData) (w : Simulation) (n k : ℕ) → EndsWindow m w n → EndsWindow m w k → n < k → ⊥
not_earlier m w n k end other lt = end.2 (other.1 n lt)

pub ends_once : (m : ModelData) (w : Simulation) (n k : ℕ) → EndsWindow m w n → EndsWindow m w k → n ≡ k
ends_once m w n k end other =
    elim (cases_eq n k) [
      | inl same ↦ same
      | inr apart ↦ elim (cases_lt n k) [
        | inl lt ↦ absurd (not_earlier m w n k end other lt)
        | inr le ↦ absurd (not_earlier m w k n other end (omega arith))
      ]
    ]

pub one_end : (m : ModelData) (w : Simulation) (k n n' : ℕ) → IsWindowEnd m w k n → IsWindowEnd m w k n' → n ≡ n'
one_end m w zero n n' h g = h ∙ sym g
one_end m w (suc k) n n' h g =
    let same : h.0 ≡ g.0 = one_end m w k h.0 g.0 h.2 g.2 in
    let many : h.1 ≡ g.1 = ends_once m (after_events m w g.0) h.1 g.1 (subst (λ (i : ℕ). EndsWindow m (after_events m w i) h.1) same h.3) g.3 in
    (let a = h.4 in let b = g.4 in omega arith)

-- the windows before have their ends before
pub end_before : (m : ModelData) (w : Simulation) (k j n : ℕ) → IsWindowEnd m w (k + j) n → (i : ℕ) × IsWindowEnd m w k i × (i ≤ n)
end_before m w k zero n h = (n, subst (λ (z : ℕ). IsWindowEnd m w z n) (let z : k + 0 ≡ k = omega arith in z) h, omega arith)
end_before m w k (suc j) n h =
    let g : IsWindowEnd m w (suc (k + j)) n = subst (λ (z : ℕ). IsWindowEnd m w z n) (let z : k + suc j ≡ suc (k + j) = omega arith in z) h in
    let r = end_before m w k j g.0 g.2 in
    (r.0, r.1, (let a = r.2 in let b = g.4 in omega arith))

-- an event of a window isn't in a later one
not_later : (m : ModelData) (w : Simulation) (k j n : ℕ) → IsInWindowFrom m w (suc k) n → IsInWindowFrom m w (suc (suc k + j)) n → ⊥
not_later m w k j n here there =
    let before = end_before m w (suc k) j there.0 there.1 in
    let same : before.1.0 ≡ here.0 = one_end m w k before.1.0 here.0 before.1.2 here.1 in
    let end : EndsWindow m (after_events m w here.0) before.1.1 = subst (λ (i : ℕ). EndsWindow m (after_events m w i) before.1.1) same before.1.3 in
    end.2 (here.3 before.1.1 (let a = before.2 in let b = there.2 in let c = before.1.4 in omega arith))

later_window : (m : ModelData) (w : Simulation) (k k' n : ℕ) → k < k' → IsInWindowFrom m w (suc k) n → IsInWindowFrom m w (suc k') n → ⊥
later_window m w k k' n lt here there =
    let split : suc k' ≡ suc (suc k + (k' - suc k)) = omega arith in
    not_later m w k (k' - suc k) n here (subst (λ (z : ℕ). IsInWindowFrom m w z n) split there)

pub one_window : (m : ModelData) (w : Simulation) (k k' n : ℕ) → IsInWindowFrom m w k n → IsInWindowFrom m w k' n → k ≡ k'
one_window m w zero k' n h g = absurd h
one_window m w (suc k) zero n h g = absurd g
one_window m w (suc k) (suc k') n h g =
    elim (cases_eq k k') [
      | inl same ↦ ap suc same
      | inr apart ↦ elim (cases_lt k k') [
        | inl lt ↦ absurd (later_window m w k k' n lt h g)
        | inr le ↦ absurd (later_window m w k' k n (omega arith) g h)
      ]
    ]

-- an event list has a first event or none
pub first_or_none : (es : List Event) → (es ≡ []) ⊎ ((e : Event) × IsHead e es)
first_or_none [] = inl refl
first_or_none (e ∷ es) = inr (e, refl)

-- where an event is pending, a window begins, and ends
pub some_end : (m : ModelData) (w : Simulation) → IsModel m → IsSimulation m w → (w.pending ≡ [] → ⊥) → (n : ℕ) × EndsWindow m w n
some_end m w is all some =
    elim (first_or_none w.pending) [
      | inl none ↦ absurd (some none)
      | inr first ↦ (let next = next_window m w first.0 is all first.1 in (length next.0, next.5))
    ]

-- the window of an event, from one that begins before it; so many windows more are looked at
search_window : (m : ModelData) (w : Simulation) (fuel n k i : ℕ) → IsModel m → IsSimulation m w → ((after_events m w n).pending ≡ [] → ⊥) → IsWindowEnd m w k i → i ≤ n → n - i < fuel → (j : ℕ) × IsInWindowFrom m w j n
search_window m w zero n k i is all some begun le few = absurd (omega arith)
search_window m w (suc fuel) n k i is all some begun le few =
    let there : ((after_events m w (i + (n - i))).pending ≡ [] → ⊥) = subst (λ (z : ℕ). (after_events m w z).pending ≡ [] → ⊥) (let z : n ≡ i + (n - i) = omega arith in z) some in
    let end = some_end m (after_events m w i) is (goes_on m w i is all) (some_before m w i (n - i) there) in
    elim (cases_lt n (i + end.0)) [
      | inl lt ↦ (suc k, (i, begun, le, (λ j before. end.1.1 j (omega arith))))
      | inr past ↦ (let some_more = end.1.0 in search_window m w fuel n (suc k) (i + end.0) is all some (i, end.0, begun, end.1, refl) past (omega arith))
    ]

-- an event that is run is in a window
pub some_window : (m : ModelData) (w : Simulation) (n : ℕ) → IsModel m → IsSimulation m w → ((after_events m w n).pending ≡ [] → ⊥) → (k : ℕ) × IsInWindowFrom m w k n
some_window m w n is all some = search_window m w (suc n) n 0 0 is all some refl (omega arith) (omega arith)
