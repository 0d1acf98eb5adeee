-- The windows of a serial run, as its events are counted one by one.
use Rattle.std.proofs.Common.{◌≡◌, ℕ, zero, suc, ◌+◌, ◌-◌, ◌<◌, ◌≤◌, List, [], ◌∷◌, refl, arith, ap, sym, ◌∙◌, subst, inl, inr, add-one}
use Rattle.std.proofs.lemmas.Bool.{cases_eq}
use Rattle.crq_base.specs.declared.event.Event.{Event}
use Rattle.crq_sim.specs.EventLists.{IsHead}
use Rattle.crq_sim.specs.Models.{ModelData, IsModel}
use Rattle.crq_sim.specs.Runs.{Simulation, after_events, beginning, simulation_at}
use Rattle.crq_sim.specs.Shown.{IsCurrentWindow, Tracks}
use Rattle.crq_sim.specs.Windows.{IsNextBelow, edge_of, AreBelowEdge, EndsWindow, IsWindowEnd, IsInWindow}
use Rattle.crq_sim.proofs.AfterLemmas.{after_more}

-- the first pending event tells the edge of a window that begins with it
pub first_edge : (lookahead : ℕ) (pending : List Event) (e : Event) → IsHead e pending → edge_of lookahead pending ≡ e.time + lookahead
first_edge lookahead [] e h = absurd h
first_edge lookahead (f ∷ fs) e h = ap (λ (x : Event). x.time + lookahead) (sym h)

next_below : (edge : ℕ) (pending : List Event) (e : Event) → IsHead e pending → e.time < edge → IsNextBelow edge pending
next_below edge [] e h lt = absurd h
next_below edge (f ∷ fs) e h lt = (let same = ap (λ (x : Event). x.time) h in omega arith)

not_below : (edge : ℕ) (pending : List Event) (e : Event) → IsHead e pending → edge ≤ e.time → IsNextBelow edge pending → ⊥
not_below edge [] e h le below = below
not_below edge (f ∷ fs) e h le below = (let same = ap (λ (x : Event). x.time) h in let k : f.time < edge = below in omega arith)

-- one more event below the edge
one_more : (m : ModelData) (w : Simulation) (n : ℕ) → AreBelowEdge m w n → IsNextBelow (edge_of m.lookahead w.pending) (after_events m w n).pending → AreBelowEdge m w (n + 1)
one_more m w n all here k to =
    elim (cases_eq k n) [
      | inl same ↦ subst (λ z. IsNextBelow (edge_of m.lookahead w.pending) (after_events m w z).pending) (sym same) here
      | inr other ↦ all k (omega arith)
    ]

-- a point of the run from an earlier one
from_earlier : (m : ModelData) (i n : ℕ) → i ≤ n → after_events m (simulation_at m i) (n - i) ≡ simulation_at m n
from_earlier m i n le = sym (after_more m (beginning m) i (n - i)) ∙ ap (simulation_at m) (let z : i + (n - i) ≡ n = omega arith in z)

-- the window that begins with the next event
at_start : (m : ModelData) (w : Simulation) (e : Event) → IsHead e w.pending → edge_of m.lookahead w.pending ≡ e.time + m.lookahead → 0 < m.lookahead → IsNextBelow (edge_of m.lookahead w.pending) (after_events m w 0).pending
unfolding after_events
at_start m w e first edge ahead = next_below (edge_of m.lookahead w.pending) w.pending e first (omega arith)

begin_window : (m : ModelData) (n before : ℕ) (e : Event) → IsModel m → IsHead e (simulation_at m n).pending → IsWindowEnd m (beginning m) before n → IsCurrentWindow m (n + 1) (before + 1) (e.time + m.lookahead)
begin_window m n before e is first end =
    let w : Simulation = simulation_at m n in
    let edge : edge_of m.lookahead w.pending ≡ e.time + m.lookahead = first_edge m.lookahead w.pending e first in
    let ahead = is.ahead in
    record {
      before = before;
      first = n;
      after = refl;
      begun = end;
      inside = omega arith;
      below = (λ k to. (let none : 0 ≡ k = omega arith in subst (λ z. IsNextBelow (edge_of m.lookahead w.pending) (after_events m w z).pending) none (at_start m w e first edge (omega arith))));
      edge_is = sym edge;
    }

-- the next event is below the edge
pub tracks_same : (m : ModelData) (n number edge : ℕ) (e : Event) → IsHead e (simulation_at m n).pending → e.time < edge → Tracks m n number edge → Tracks m (n + 1) number edge
tracks_same m n number edge e first lt (inl none) = absurd (let z = none.2 in omega arith)
tracks_same m n number edge e first lt (inr w) =
    let v : Simulation = simulation_at m w.first in
    let inside : w.first < n = w.inside in
    let here : IsNextBelow (edge_of m.lookahead v.pending) (simulation_at m n).pending = next_below (edge_of m.lookahead v.pending) (simulation_at m n).pending e first (let k = w.edge_is in omega arith) in
    let there : IsNextBelow (edge_of m.lookahead v.pending) (after_events m v (n - w.first)).pending =
    subst (λ (x : Simulation). IsNextBelow (edge_of m.lookahead v.pending) x.pending) (sym (from_earlier m w.first n (omega arith))) here in
    inr (record {
      before = w.before;
      first = w.first;
      after = w.after;
      begun = w.begun;
      inside = omega arith;
      below = subst (λ (z : ℕ). AreBelowEdge m v z) (let z : n - w.first + 1 ≡ n + 1 - w.first = omega arith in z) (one_more m v (n - w.first) w.below there);
      edge_is = w.edge_is;
    })

-- the next event begins a window
pub tracks_next : (m : ModelData) (n number edge : ℕ) (e : Event) → IsModel m → IsHead e (simulation_at m n).pending → edge ≤ e.time → Tracks m n number edge → Tracks m (n + 1) (number + 1) (e.time + m.lookahead)
tracks_next m n number edge e is first le (inl none) =
    let w = begin_window m n 0 e is first none.0 in
    inr (subst (λ z. IsCurrentWindow m (n + 1) (z + 1) (e.time + m.lookahead)) (sym none.1) w)
tracks_next m n number edge e is first le (inr w) =
    let v : Simulation = simulation_at m w.first in
    let inside : w.first < n = w.inside in
    let past : IsNextBelow (edge_of m.lookahead v.pending) (simulation_at m n).pending → ⊥ = not_below (edge_of m.lookahead v.pending) (simulation_at m n).pending e first (let k = w.edge_is in omega arith) in
    let end : EndsWindow m v (n - w.first) =
    (omega arith, w.below, subst (λ (x : Simulation). IsNextBelow (edge_of m.lookahead v.pending) x.pending → ⊥) (sym (from_earlier m w.first n (omega arith))) past) in
    let ended : IsWindowEnd m (beginning m) (suc w.before) n = (w.first, n - w.first, w.begun, end, omega arith) in
    let u = begin_window m n (suc w.before) e is first ended in
    inr (subst (λ z. IsCurrentWindow m (n + 1) (z + 1) (e.time + m.lookahead)) (sym (w.after ∙ add-one w.before)) u)

-- no more windows than events
pub few_windows : (m : ModelData) (w : Simulation) (n k : ℕ) → IsWindowEnd m w k n → k ≤ n
few_windows m w n zero h = omega arith
few_windows m w n (suc k) h = (let before = few_windows m w h.0 k h.2 in let lt = h.3.0 in let sum = h.4 in omega arith)

pub few_tracked : (m : ModelData) (n number edge : ℕ) → Tracks m n number edge → number ≤ n
few_tracked m n number edge (inl none) = (let z = none.1 in omega arith)
few_tracked m n number edge (inr w) = (let few = few_windows m (beginning m) w.first w.before w.begun in let i = w.inside in let a = w.after in omega arith)

-- the window of the last event
pub tracked : (m : ModelData) (n number edge : ℕ) → Tracks m (n + 1) number edge → IsInWindow m number n
tracked m n number edge (inl none) = absurd (let z = none.0 in omega arith)
tracked m n number edge (inr w) =
    let inside : w.first < n + 1 = w.inside in
    let below : AreBelowEdge m (simulation_at m w.first) (n - w.first + 1) = subst (λ (z : ℕ). AreBelowEdge m (simulation_at m w.first) z) (let z : n + 1 - w.first ≡ n - w.first + 1 = omega arith in z) w.below in
    subst (λ z. IsInWindow m z n) (sym (w.after ∙ add-one w.before)) (let r : IsInWindow m (suc w.before) n = (w.first, w.begun, (omega arith), below) in r)
