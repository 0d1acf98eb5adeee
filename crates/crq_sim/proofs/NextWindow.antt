-- The next window of a run, from any point of it.
use Rattle.std.proofs.Common.{◌≡◌, ℕ, ◌+◌, ◌<◌, ◌≤◌, List, [], ◌∷◌, ◌++◌, length, inl, inr, arith, ap, sym, refl, subst}
use Rattle.std.proofs.lemmas.Bool.{cases_lt}
use Rattle.std.specs.List.{AllByRecursion}
use Rattle.crq_base.specs.declared.event.Event.{Event}
use Rattle.crq_base.specs.Keys.{IsBefore}
use Rattle.crq_sim.specs.EventLists.{AreInOrder, IsHead}
use Rattle.crq_sim.specs.Models.{ModelData, IsModel}
use Rattle.crq_sim.specs.Runs.{Simulation, after_events}
use Rattle.crq_sim.specs.Simulations.{IsDue, IsSimulation}
use Rattle.crq_sim.specs.Windows.{IsNextBelow, edge_of, AreBelowEdge, EndsWindow}
use Rattle.crq_sim.specs.WindowRuns.{AreBelow, AreFrom, CanRun, RunsWindow}
use Rattle.crq_sim.proofs.EventListLemmas.{All-weaker}
use Rattle.crq_sim.proofs.WindowLemmas.{first_edge}
use Rattle.crq_sim.proofs.WindowRunLemmas.{later_cmp, window_run, inside_window, below_edge}

-- an event before another isn't later
not_later : (e f : Event) → IsBefore e f → e.time ≤ f.time
not_later e f h =
    elim (cases_lt f.time e.time) [
      | inl later ↦ (let no_more = later_cmp e f later in absurd (cc))
      | inr le ↦ le
    ]

-- where a list in order begins at or after the edge, all of it stands there
all_from : (edge : ℕ) (e : Event) (es : List Event) → edge ≤ e.time → AllByRecursion (IsBefore e) es → AreFrom edge es
all_from edge e es le h = All-weaker (IsBefore e) (λ (f : Event). edge ≤ f.time) (λ f b. (let t = not_later e f b in omega arith)) es h

-- a list of events that is split at an edge
record Split (P : Event → Type 0) (edge : ℕ) (es : List Event) : Type 0 where
  below : List Event
  rest : List Event
  whole : es ≡ below ++ rest
  before : AllByRecursion (λ (f : Event). (f.time < edge) × P f) below
  after : AreFrom edge rest

split_at_edge : (P : Event → Type 0) (edge : ℕ) (es : List Event) → AreInOrder es → AllByRecursion P es → Split P edge es
split_at_edge P edge [] h all = record { below = []; rest = []; whole = refl; before = tt; after = tt }
split_at_edge P edge (e ∷ es) h all =
    elim (cases_lt e.time edge) [
      | inl lt ↦ (let r = split_at_edge P edge es h.1 all.1 in
          record { below = e ∷ r.below; rest = r.rest; whole = ap (λ xs. e ∷ xs) r.whole; before = ((lt, all.0), r.before); after = r.after })
      | inr ge ↦ record { below = []; rest = e ∷ es; whole = refl; before = tt; after = (ge, all_from edge e es ge h.0) }
    ]

both : (P Q : Event → Type 0) (xs : List Event) → AllByRecursion P xs → AllByRecursion Q xs → AllByRecursion (λ (f : Event). P f × Q f) xs
both P Q [] h k = tt
both P Q (x ∷ xs) h k = ((h.0, k.0), both P Q xs h.1 k.1)

-- no event of the list is before its first
first_earliest : (es : List Event) (e : Event) → AreInOrder es → IsHead e es → AreFrom e.time es
first_earliest [] e h first = tt
first_earliest (x ∷ xs) e h first =
    let same : e.time ≡ x.time = ap (λ (f : Event). f.time) first in
    (omega arith, all_from e.time x xs (omega arith) h.0)

none_below : (edge : ℕ) (es : List Event) → AreFrom edge es → IsNextBelow edge es → ⊥
none_below edge [] from next = next
none_below edge (e ∷ es) from next = (let a : edge ≤ e.time = from.0 in let b : e.time < edge = next in omega arith)

-- an event below the edge stands in front
some_below : (edge : ℕ) (e : Event) (below rest : List Event) → IsHead e (below ++ rest) → e.time < edge → AreFrom edge rest → 0 < length below
some_below edge e [] [] first lt from = absurd first
some_below edge e [] (x ∷ rest) first lt from = (let same : e.time ≡ x.time = ap (λ (f : Event). f.time) first in let a : edge ≤ x.time = from.0 in absurd (omega arith))
some_below edge e (b ∷ below) rest first lt from = omega arith

-- the window ends after the events below its edge
ends_there : (m : ModelData) (w : Simulation) (edge : ℕ) (below rest : List Event) → IsModel m → edge_of m.lookahead w.pending ≡ edge → w.pending ≡ below ++ rest
    → AllByRecursion (CanRun m edge) below → AreFrom edge rest → 0 < length below → AreFrom edge (after_events m w (length below)).pending → EndsWindow m w (length below)
ends_there m w edge below rest is edge_is whole can from some end =
    let inside : AreBelowEdge m w (length below) = λ k before. subst (λ z. IsNextBelow z (after_events m w k).pending) (sym edge_is) (inside_window m edge k below rest w is whole can from before) in
    (some, inside, (λ next. none_below edge (after_events m w (length below)).pending end (subst (λ z. IsNextBelow z (after_events m w (length below)).pending) edge_is next)))

-- the events below the edge are the window's, and running them is the run's next part
pub next_window : (m : ModelData) (w : Simulation) (e : Event) → IsModel m → IsSimulation m w → IsHead e w.pending
    → (below : List Event) × (rest : List Event) × (w.pending ≡ below ++ rest) × AreBelow (e.time + m.lookahead) below × AreFrom (e.time + m.lookahead) rest
    × EndsWindow m w (length below) × RunsWindow m (e.time + m.lookahead) w below rest
next_window m w e is known first =
    let edge : ℕ = e.time + m.lookahead in
    let earliest : AreFrom e.time w.pending = first_earliest w.pending e known.in_order first in
    let s = split_at_edge (λ (f : Event). IsDue m w.states f × (e.time ≤ f.time)) edge w.pending known.in_order (both (IsDue m w.states) (λ (f : Event). e.time ≤ f.time) w.pending known.events earliest) in
    let can : AllByRecursion (CanRun m edge) s.below = All-weaker _ (CanRun m edge) (λ f k. (k.0, (let t = k.1.1 in omega arith), k.1.0.there)) s.below s.before in
    let run : RunsWindow m edge w s.below s.rest = window_run m edge s.below s.rest w is known.many s.whole can s.after in
    let ahead = is.ahead in
    let some : 0 < length s.below = some_below edge e s.below s.rest (subst (IsHead e) s.whole first) (omega arith) s.after in (
      s.below,
      s.rest,
      s.whole,
      below_edge m edge s.below can,
      s.after,
      ends_there m w edge s.below s.rest is (first_edge m.lookahead w.pending e first) s.whole can s.after some run.pending,
      run,
    )
