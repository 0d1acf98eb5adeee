-- How the variables of a run show the simulation that they stand for.
use Rattle.std.specs.Prelude.{◌≡◌, ℕ, ◌+◌, ◌-◌, ◌<◌, ◌⊎◌, List, [], ◌∷◌, ◌++◌, Option, Some, None, slice_set}
use Rattle.crq_base.specs.declared.event.Event.{Event}
use Rattle.crq_sim.specs.declared.run.Run.{Run}
use Rattle.crq_sim.specs.declared.traces.ObjectTrace.{ObjectTrace}
use Rattle.crq_sim.specs.declared.traces.Step.{Step}
use Rattle.crq_sim.specs.EventLists.{IsHead}
use Rattle.crq_sim.specs.Models.{ModelData}
use Rattle.crq_sim.specs.Runs.{beginning, simulation_at}
use Rattle.crq_sim.specs.Windows.{edge_of, AreBelowEdge, IsWindowEnd}

-- the variables are what the model has after as many events as were counted
pub record Shows (m : ModelData) (run : Run) : Type 0 where
  pub states : run.states.items ≡ (simulation_at m run.made).states
  pub pending : run.pending ≡ (simulation_at m run.made).pending
  pub log : run.log.items ≡ (simulation_at m run.made).log

-- they are, but for the least pending event, which was taken
pub record IsNext (m : ModelData) (run : Run) (e : Event) : Type 0 where
  pub states : run.states.items ≡ (simulation_at m run.made).states
  pub pending : (simulation_at m run.made).pending ≡ e ∷ run.pending
  pub log : run.log.items ≡ (simulation_at m run.made).log

-- the least pending event was run, which has this time; or nothing was pending
abbrev pub Advances : ModelData → Run → Run → Option ℕ → Type 0
Advances m old new None = ((simulation_at m old.made).pending ≡ []) × Shows m new × (new.made ≡ old.made)
Advances m old new (Some time) = ((e : Event) × IsHead e (simulation_at m old.made).pending × (e.time ≡ time)) × Shows m new × (new.made ≡ old.made + 1)

-- one more step in the trace of its object
abbrev pub with_step : List ObjectTrace → ObjectTrace → Step → List ObjectTrace
with_step traces trace step = slice_set traces (step.event.dst - 1) (record trace { steps = trace.steps ++ step ∷ [] })

-- the window of the last of n events, with its number and edge
pub record IsCurrentWindow (m : ModelData) (n number edge : ℕ) : Type 0 where
  pub before : ℕ
  pub first : ℕ
  pub after : number ≡ before + 1
  pub begun : IsWindowEnd m (beginning m) before first
  pub inside : first < n
  pub below : AreBelowEdge m (simulation_at m first) (n - first)
  pub edge_is : edge ≡ edge_of m.lookahead (simulation_at m first).pending

-- before the first event there is none
abbrev pub Tracks : ModelData → ℕ → ℕ → ℕ → Type 0
Tracks m n number edge = ((n ≡ 0) × (number ≡ 0) × (edge ≡ 0)) ⊎ IsCurrentWindow m n number edge
