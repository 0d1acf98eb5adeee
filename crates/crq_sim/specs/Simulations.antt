-- What holds of a model's simulations, wherever in its run.
use Rattle.std.specs.Prelude.{◌≡◌, ℕ, ◌<◌, ◌≤◌, List, length, if◌then◌else◌, ◌==◌}
use Rattle.std.specs.List.{AllByRecursion}
use Rattle.crq_base.specs.declared.event.Event.{Event}
use Rattle.crq_sim.specs.declared.reaction.ObjectState.{ObjectState}
use Rattle.crq_sim.specs.EventLists.{AreInOrder}
use Rattle.crq_sim.specs.Models.{ModelData, IsObject}
use Rattle.crq_sim.specs.Reactions.{behaviour_at, IsWordOf}
use Rattle.crq_sim.specs.Runs.{Simulation, state_of}

-- what a source's numbers are below so far; source 0 is the model's file
abbrev pub next_number : ModelData → List ObjectState → ℕ → ℕ
next_number m states src = if src == 0 then length m.starts else (state_of states src).sent

-- a pending event: due by the end, at an object that is there, with a number that its source has given
pub record IsDue (m : ModelData) (states : List ObjectState) (e : Event) : Type 0 where
  pub time : e.time ≤ m.until
  pub there : IsObject (length m.objects) e.dst
  pub number : e.seq < next_number m states e.src

-- a state for each object, and due events in order
pub record IsSimulation (m : ModelData) (w : Simulation) : Type 0 where
  pub many : length w.states ≡ length m.objects
  pub words : (o : ℕ) → IsObject (length m.objects) o → IsWordOf (behaviour_at m o) (state_of w.states o).word
  pub events : AllByRecursion (IsDue m w.states) w.pending
  pub in_order : AreInOrder w.pending
