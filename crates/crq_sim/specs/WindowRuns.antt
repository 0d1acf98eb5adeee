-- What the events of a window do: each object's states, steps, sends and withdrawals depend on its own events alone.
use Rattle.std.specs.Prelude.{◌≡◌, ◌⊎◌, ◌↔◌, ℕ, ◌+◌, ◌<◌, ◌≤◌, List, [], ◌∷◌, ◌++◌, length, map, filter, ◌==◌, Contains}
use Rattle.std.specs.List.{AllByRecursion}
use Rattle.crq_base.specs.declared.event.Event.{Event}
use Rattle.crq_sim.specs.declared.reaction.ObjectState.{ObjectState}
use Rattle.crq_sim.specs.declared.traces.Step.{Step}
use Rattle.crq_sim.specs.Models.{ModelData, IsObject}
use Rattle.crq_sim.specs.Reactions.{state_after, sends_of, withdrawn_by}
use Rattle.crq_sim.specs.Runs.{Simulation, state_of, step_of, after_events, events_run, events_sent, steps_of}

-- the state of one object after its events
unfoldable pub object_after : ModelData → ℕ → ObjectState → List Event → ObjectState
object_after m o s [] = s
object_after m o s (e ∷ es) = object_after m o (state_after m o s e) es

-- its steps
unfoldable pub object_steps : ModelData → ℕ → ObjectState → List Event → List Step
object_steps m o s [] = []
object_steps m o s (e ∷ es) = step_of e (state_after m o s e) ∷ object_steps m o (state_after m o s e) es

-- what it sends
unfoldable pub object_sends : ModelData → ℕ → ObjectState → List Event → List Event
object_sends m o s [] = []
object_sends m o s (e ∷ es) = sends_of m o s e ++ object_sends m o (state_after m o s e) es

-- what it withdraws
unfoldable pub object_withdrawn : ModelData → ℕ → ObjectState → List Event → List Event
object_withdrawn m o s [] = []
object_withdrawn m o s (e ∷ es) = withdrawn_by m o s e ++ object_withdrawn m o (state_after m o s e) es

-- the events of one object
abbrev pub events_of : ℕ → List Event → List Event
events_of o es = filter (λ (e : Event). e.dst == o) es

-- all events are below the edge, or all at it or after it
abbrev pub AreBelow : ℕ → List Event → Type 0
AreBelow edge es = AllByRecursion (λ (e : Event). e.time < edge) es

abbrev pub AreFrom : ℕ → List Event → Type 0
AreFrom edge es = AllByRecursion (λ (e : Event). edge ≤ e.time) es

-- an event below the edge that sends nothing below it, at an object that is there
abbrev pub CanRun : ModelData → ℕ → Event → Type 0
CanRun m edge e = (e.time < edge) × (edge ≤ e.time + m.lookahead) × IsObject (length m.objects) e.dst

-- what one of the objects sends at these events, where each begins in its state
abbrev pub IsSentAt : ModelData → List ObjectState → List Event → Event → Type 0
IsSentAt m states below x = (o : ℕ) × IsObject (length states) o × Contains (object_sends m o (state_of states o) (events_of o below)) x

-- what one of the objects withdraws at these events
abbrev pub IsWithdrawnAt : ModelData → List ObjectState → List Event → Event → Type 0
IsWithdrawnAt m states below x = (o : ℕ) × IsObject (length states) o × Contains (object_withdrawn m o (state_of states o) (events_of o below)) x

-- what running the events below the edge does, where the rest was pending too: pending is then what was in the rest or was
-- sent, and wasn't withdrawn
pub record RunsWindow (m : ModelData) (edge : ℕ) (w : Simulation) (below rest : List Event) : Type 0 where
  pub events : events_run m w (length below) ≡ below
  pub log : map (λ (s : Step). s.event) (after_events m w (length below)).log ≡ map (λ (s : Step). s.event) w.log ++ below
  pub pending : AreFrom edge (after_events m w (length below)).pending
  pub members : (x : Event) → Contains (after_events m w (length below)).pending x
      ↔ ((Contains rest x ⊎ IsSentAt m w.states below x) × (IsWithdrawnAt m w.states below x → ⊥))
  pub sends : (x : Event) → Contains (events_sent m w (length below)) x ↔ IsSentAt m w.states below x
  pub states : (o : ℕ) → IsObject (length w.states) o → state_of (after_events m w (length below)).states o ≡ object_after m o (state_of w.states o) (events_of o below)
  pub steps : (o : ℕ) → IsObject (length w.states) o → steps_of o (after_events m w (length below)).log ≡ steps_of o w.log ++ object_steps m o (state_of w.states o) (events_of o below)
