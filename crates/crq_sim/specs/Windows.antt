-- The lookahead windows of a run (Nicol's YAWNS): a window begins where the last one ended, and takes all
-- events below an edge, which lies the lookahead after its first event.
use Rattle.std.specs.Prelude.{◌≡◌, ℕ, zero, suc, ◌+◌, ◌-◌, ◌*◌, ◌<◌, ◌≤◌, List, [], ◌∷◌, length}
use Rattle.crq_base.specs.declared.event.Event.{Event}
use Rattle.crq_sim.specs.Models.{ModelData}
use Rattle.crq_sim.specs.Runs.{Simulation, after_events, events_run, events_sent, beginning}

-- the next event, if there is one, is below the edge
abbrev pub IsNextBelow : ℕ → List Event → Type 0
IsNextBelow edge [] = ⊥
IsNextBelow edge (e ∷ es) = e.time < edge

-- the edge of a window that begins with these pending events; without any there is no window
abbrev pub edge_of : ℕ → List Event → ℕ
edge_of lookahead [] = 0
edge_of lookahead (e ∷ es) = e.time + lookahead

-- the next n events are below the edge of the window that begins in this simulation
abbrev pub AreBelowEdge : ModelData → Simulation → ℕ → Type 0
AreBelowEdge m w n = (k : ℕ) → k < n → IsNextBelow (edge_of m.lookahead w.pending) (after_events m w k).pending

-- the window that begins in this simulation has n events: it has one, they are below its edge, and the next one isn't
abbrev pub EndsWindow : ModelData → Simulation → ℕ → Type 0
EndsWindow m w n = (0 < n) × AreBelowEdge m w n × (IsNextBelow (edge_of m.lookahead w.pending) (after_events m w n).pending → ⊥)

-- of the run from a simulation, window k ends after n events in all; windows are numbered from 1, and 0 is before the first event
abbrev pub IsWindowEnd : ModelData → Simulation → ℕ → ℕ → Type 0
IsWindowEnd m w zero n = n ≡ 0
IsWindowEnd m w (suc k) n = (i : ℕ) × (j : ℕ) × IsWindowEnd m w k i × EndsWindow m (after_events m w i) j × (n ≡ i + j)

-- event number n + 1 of the run from a simulation is in window k
abbrev pub IsInWindowFrom : ModelData → Simulation → ℕ → ℕ → Type 0
IsInWindowFrom m w zero n = ⊥
IsInWindowFrom m w (suc k) n = (i : ℕ) × IsWindowEnd m w k i × (i ≤ n) × AreBelowEdge m (after_events m w i) (n - i + 1)

-- of a model's run
abbrev pub IsInWindow : ModelData → ℕ → ℕ → Type 0
IsInWindow m k n = IsInWindowFrom m (beginning m) k n

-- nothing is pending after window k, so it is the last one
abbrev pub IsLastWindow : ModelData → Simulation → ℕ → Type 0
IsLastWindow m w k = (n : ℕ) × IsWindowEnd m w k n × ((after_events m w n).pending ≡ [])

-- of a window: its events and what they sent, both in the order of the run, and how many events are pending after it
pub record WindowData : Type 0 where
  pub events : List Event
  pub sends : List Event
  pub pending : ℕ

-- the window that begins in a simulation and has n events
abbrev pub window_of : ModelData → Simulation → ℕ → WindowData
window_of m w n = record { events = events_run m w n; sends = events_sent m w n; pending = length (after_events m w n).pending }

-- window k of the run from a simulation; what is pending at the beginning counts as sent in window 0
abbrev pub IsWindow : ModelData → Simulation → ℕ → WindowData → Type 0
IsWindow m w zero x = x ≡ record { events = []; sends = w.pending; pending = length w.pending }
IsWindow m w (suc k) x = (i : ℕ) × (n : ℕ) × IsWindowEnd m w k i × EndsWindow m (after_events m w i) n × (x ≡ window_of m (after_events m w i) n)

-- the greatest number of events that are pending after one of the windows 0 to k
pub record IsPeak (m : ModelData) (w : Simulation) (k peak : ℕ) : Type 0 where
  pub reached : (j : ℕ) × (x : WindowData) × (j ≤ k) × IsWindow m w j x × (peak ≡ x.pending)
  pub most : (j : ℕ) (x : WindowData) → j ≤ k → IsWindow m w j x → x.pending ≤ peak

-- why a run in windows stops before its end: it has more events than it may have with this window, or so many pending after
-- this window that the rows are too few
pub data Stop : Type 0 where
  Events : ℕ → Stop
  Rows : ℕ → ℕ → Stop

-- the windows 1 to k are more than cap events
abbrev pub HasMoreEvents : ModelData → Simulation → ℕ → ℕ → Type 0
HasMoreEvents m w cap k = (n : ℕ) × IsWindowEnd m w k n × (cap < n)

-- for the events that are pending after window k, p in number, there are too few rows: two for each, and two
abbrev pub HasFewRows : ModelData → Simulation → ℕ → ℕ → ℕ → Type 0
HasFewRows m w rows k p = (x : WindowData) × IsWindow m w k x × (p ≡ x.pending) × (rows < 2 * p + 2)

-- the first that holds: in each window the events are looked at before the rows, in window 0 the rows alone
abbrev pub IsStop : ModelData → Simulation → ℕ → ℕ → Stop → Type 0
IsStop m w cap rows (Events k) =
    HasMoreEvents m w cap k × ((j : ℕ) → j < k → HasMoreEvents m w cap j → ⊥) × ((j : ℕ) (p : ℕ) → j < k → HasFewRows m w rows j p → ⊥)
IsStop m w cap rows (Rows k p) =
    HasFewRows m w rows k p × ((j : ℕ) → j ≤ k → HasMoreEvents m w cap j → ⊥) × ((j : ℕ) (q : ℕ) → j < k → HasFewRows m w rows j q → ⊥)
