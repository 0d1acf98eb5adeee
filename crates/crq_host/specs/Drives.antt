-- How a drive of a model in windows ends, and what the maker of its set has afterwards.
use Rattle.std.specs.Prelude.{◌≡◌, ◌⊎◌, ℕ, zero, suc, ◌≤◌, List, [], ◌∷◌, ◌++◌, Result, Ok, Err}
use Rattle.crq_base.specs.declared.entry.Entry.{Entry}
use Rattle.crq_sim.specs.declared.outcome.Outcome.{Outcome}
use Rattle.crq_sim.specs.Models.{ModelData}
use Rattle.crq_sim.specs.Runs.{beginning, simulation_at, traces_of}
use Rattle.crq_sim.specs.Windows.{IsWindowEnd, IsPeak, Stop, Events as StopsByEvents, Rows as StopsByRows, IsStop}
use Rattle.crq_host.specs.declared.drive_end.DriveEnd.{DriveEnd}
use Rattle.crq_host.specs.declared.drive_end.DriveEnd.TheVariants.{Memory, Events, Rows}
use Rattle.crq_host.specs.Histories.{IsRunTo, IsRunToTakes, IsCalm}

-- what a model is driven with: how many events it may have, and how many rows each worker has
pub record Caps : Type 0 where
  pub events : ℕ
  pub rows : ℕ

-- what stops the run of the model
abbrev pub StopsBy : ModelData → Caps → Stop → Type 0
StopsBy m caps stop = IsStop m (beginning m) caps.events caps.rows stop

-- the maker has one more history, which is calm and as P says
abbrev pub HasOneMore : List (List Entry) → List (List Entry) → (List Entry → Type 0) → Type 0
HasOneMore old new P = (history : List Entry) × (new ≡ old ++ (history ∷ [])) × IsCalm history × P history

-- The whole run: nothing stops it, the traces are those of the serial run, which is over after the last window, and the maker has the history of it
pub record IsDriven (m : ModelData) (caps : Caps) (old new : List (List Entry)) (outcome : Outcome) : Type 0 where
  pub goes : (stop : Stop) → StopsBy m caps stop → ⊥
  pub events : ℕ
  pub few : events ≤ caps.events
  pub last : IsWindowEnd m (beginning m) outcome.windows events
  pub over : (simulation_at m events).pending ≡ []
  pub traces : outcome.traces ≡ traces_of m.objects (simulation_at m events).log
  pub peak : IsPeak m (beginning m) outcome.windows outcome.peak
  pub tables : outcome.tables ≡ []
  pub history : HasOneMore old new (IsRunTo m outcome.windows)

-- why there is no outcome, and what the maker has then. Where the rows are too few for the starts, no set was made
abbrev pub DriveStops : ModelData → Caps → List (List Entry) → List (List Entry) → DriveEnd → Type 0
DriveStops m caps old new Memory = (new ≡ old) ⊎ HasOneMore old new (λ history. Unit {0})
DriveStops m caps old new (Events k) = StopsBy m caps (StopsByEvents k) × HasOneMore old new (IsRunToTakes m k)
DriveStops m caps old new (Rows zero p) = StopsBy m caps (StopsByRows zero p) × (new ≡ old)
DriveStops m caps old new (Rows (suc k) p) = StopsBy m caps (StopsByRows (suc k) p) × HasOneMore old new (IsRunToTakes m (suc k))

abbrev pub Drives : ModelData → Caps → List (List Entry) → List (List Entry) → Result Outcome DriveEnd → Type 0
Drives m caps old new (Ok outcome) = IsDriven m caps old new outcome
Drives m caps old new (Err end) = DriveStops m caps old new end
