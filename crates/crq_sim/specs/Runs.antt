-- The serial run: one event list, from which the least event is taken again and again.
use Rattle.std.specs.Prelude.{◌≡◌, ℕ, zero, suc, ◌+◌, ◌-◌, List, [], ◌∷◌, ◌++◌, map, filter, slice_index_or, slice_set, if◌then◌else◌, nat_le, ◌==◌}
use Rattle.crq_base.specs.declared.event.Event.{Event}
use Rattle.crq_sim.specs.declared.model.Object.{Object}
use Rattle.crq_sim.specs.declared.model.Start.{Start}
use Rattle.crq_sim.specs.declared.reaction.ObjectState.{ObjectState}
use Rattle.crq_sim.specs.declared.traces.ObjectTrace.{ObjectTrace}
use Rattle.crq_sim.specs.declared.traces.Step.{Step}
use Rattle.crq_sim.specs.EventLists.{with_events, without_events}
use Rattle.crq_sim.specs.Kinds.{kind_of}
use Rattle.crq_sim.specs.Models.{ModelData}
use Rattle.crq_sim.specs.Reactions.{first_state, state_after, sends_of, withdrawn_by}

-- where a run stands: the objects' states, the pending events in order, and the steps that were made
pub record Simulation : Type 0 where
  pub states : List ObjectState
  pub pending : List Event
  pub log : List Step

-- the state of an object
abbrev pub state_of : List ObjectState → ℕ → ObjectState
state_of states o = slice_index_or states (o - 1) (record { count = 0; word = 0; sent = 0 })

-- an event that is run, with what is seen of its object's state after it
abbrev pub step_of : Event → ObjectState → Step
step_of e s = record { event = e; count = s.count; word = s.word }

-- the least pending event is run at its object; what that withdraws is removed from the pending events, and what it sends is added
unfoldable pub run_first : ModelData → List ObjectState → List Event → List Step → Simulation
run_first m states [] log = record { states = states; pending = []; log = log }
run_first m states (e ∷ es) log = record {
  states = slice_set states (e.dst - 1) (state_after m e.dst (state_of states e.dst) e);
  pending = with_events (sends_of m e.dst (state_of states e.dst) e) (without_events (withdrawn_by m e.dst (state_of states e.dst) e) es);
  log = log ++ step_of e (state_after m e.dst (state_of states e.dst) e) ∷ [];
}

abbrev pub run_next : ModelData → Simulation → Simulation
run_next m w = run_first m w.states w.pending w.log

-- a simulation after so many more events; where nothing is pending any more nothing changes
unfoldable pub after_events : ModelData → Simulation → ℕ → Simulation
after_events m w zero = w
after_events m w (suc n) = after_events m (run_next m w) n

-- the least pending event, where one is pending
abbrev pub first_event : List Event → List Event
first_event [] = []
first_event (e ∷ es) = e ∷ []

-- what it sends
abbrev pub first_sends : ModelData → List ObjectState → List Event → List Event
first_sends m states [] = []
first_sends m states (e ∷ es) = sends_of m e.dst (state_of states e.dst) e

-- the next so many events that are run from a simulation, in the order of the run
unfoldable pub events_run : ModelData → Simulation → ℕ → List Event
events_run m w zero = []
events_run m w (suc n) = first_event w.pending ++ events_run m (run_next m w) n

-- what they send, in the order of the run
unfoldable pub events_sent : ModelData → Simulation → ℕ → List Event
events_sent m w zero = []
events_sent m w (suc n) = first_sends m w.states w.pending ++ events_sent m (run_next m w) n

-- the starts up to the end, numbered in their order; their source is 0
unfoldable pub scheduled_starts : ℕ → ℕ → List Start → List Event
scheduled_starts until n [] = []
scheduled_starts until n (s ∷ ss) =
    if nat_le s.time until then record { time = s.time; src = 0; seq = n; dst = s.object; load = s.load } ∷ scheduled_starts until (n + 1) ss
    else scheduled_starts until n ss

abbrev pub first_states : List Object → List ObjectState
first_states objects = map (λ (o : Object). first_state o.behaviour) objects

-- a model before its first event
abbrev pub beginning : ModelData → Simulation
beginning m = record { states = first_states m.objects; pending = with_events (scheduled_starts m.until 0 m.starts) []; log = [] }

-- the serial run of a model, after so many events
abbrev pub simulation_at : ModelData → ℕ → Simulation
simulation_at m n = after_events m (beginning m) n

-- the steps of one object
abbrev pub steps_of : ℕ → List Step → List Step
steps_of o log = filter (λ (s : Step). s.event.dst == o) log

-- what each of the objects did, the first of which has number o
abbrev pub traces_from : ℕ → List Object → List Step → List ObjectTrace
traces_from o [] log = []
traces_from o (x ∷ xs) log = record { name = x.name; behaviour = kind_of x.behaviour; steps = steps_of o log } ∷ traces_from (o + 1) xs log

abbrev pub traces_of : List Object → List Step → List ObjectTrace
traces_of objects log = traces_from 1 objects log

-- the run is over after at most so many events
abbrev pub IsOverWithin : ModelData → ℕ → Type 0
IsOverWithin m cap = (simulation_at m cap).pending ≡ []

-- the traces of the run, where it is over after at most so many events
abbrev pub traces_within : ModelData → ℕ → List ObjectTrace
traces_within m cap = traces_of m.objects (simulation_at m cap).log
