-- Where the course of a run stands: between two windows, when a window's events are taken, and when they were run.
use Rattle.std.specs.Prelude.{◌≡◌, ◌↔◌, ℕ, zero, suc, ◌+◌, ◌*◌, ◌<◌, ◌≤◌, List, [], ◌∷◌, ◌++◌, length, max, flat_map, slice_get, slice_index_or, Some, Bool, true, false, Result, Ok, Err, All, Contains}
use Rattle.crq_base.specs.declared.event.Event.{Event}
use Rattle.crq_base.specs.declared.entry.Entry.{Entry}
use Rattle.crq_base.specs.declared.limits.TheConstants.{MOST_ROWS}
use Rattle.crq_base.specs.declared.memory.Memory.{Memory}
use Rattle.crq_base.specs.Histories.{puts, outs, IsPending, table_count}
use Rattle.crq_base.specs.Lists.{IsOnce}
use Rattle.crq_base.specs.Sizes.{IsTeam}
use Rattle.crq_set.specs.Views.{Setup, IsSetup}
use Rattle.crq_sim.specs.declared.reaction.ObjectState.{ObjectState}
use Rattle.crq_sim.specs.declared.outcome.Outcome.{Outcome}
use Rattle.crq_sim.specs.declared.run.TheConstants.{MOST_EVENTS}
use Rattle.crq_sim.specs.declared.traces.Step.{Step}
use Rattle.crq_sim.specs.Models.{ModelData, IsObject}
use Rattle.crq_sim.specs.Runs.{state_of, steps_of, events_sent, first_states, traces_of, beginning, simulation_at}
use Rattle.crq_sim.specs.Windows.{IsWindowEnd, IsPeak, Events as StopsByEvents, Rows as StopsByRows}
use Rattle.crq_host.specs.declared.course.Course.{Course}
use Rattle.crq_host.specs.declared.course.Plan.{Plan}
use Rattle.crq_host.specs.declared.drive_end.DriveEnd.{DriveEnd}
use Rattle.crq_host.specs.declared.drive_end.DriveEnd.TheVariants.{Memory as NoMemory, Events, Rows}
use Rattle.crq_host.specs.declared.worker.Worker.{Worker}
use Rattle.crq_host.specs.Drives.{Caps, StopsBy}
use Rattle.crq_host.specs.Histories.{AreJust, ArePutsOf, IsRunTo, IsRunToTakes, IsCalm}
use Rattle.crq_host.specs.Phases.{TakesLeast}
use Rattle.crq_host.specs.Progress.{sent_within, StandsAfter, TakesWindow, PassesTo}
use Rattle.crq_host.specs.Shares.{AreEach, IsCleared, IsReady, owned_by}
use Rattle.crq_host.specs.Workers.{IsDue}

-- what the run is bounded by
abbrev pub caps_of : Plan → Caps
caps_of plan = record { events = plan.cap; rows = plan.rows }

-- the bounds of a plan, within which all counts fit
pub record IsPlan (plan : Plan) : Type 0 where
  pub cap : plan.cap ≤ MOST_EVENTS
  pub rows : plan.rows ≤ MOST_ROWS
  pub span : 1 ≤ plan.span

-- what a course counts and keeps of the run
pub record Counts : Type 0 where
  pub window : ℕ
  pub made : ℕ
  pub pending : ℕ
  pub peak : ℕ
  pub states : List ObjectState
  pub log : List Step

abbrev pub counts_of : {P : Type 0} → Course P → Counts
counts_of c = record { window = c.window; made = c.made; pending = c.pending; peak = c.peak; states = c.states.items; log = c.log.items }

-- the states and steps are those of the run after n events. Of steps at different objects the order is free
pub record AreOfRun (m : ModelData) (n : ℕ) (states : List ObjectState) (log : List Step) : Type 0 where
  pub many : length states ≡ length m.objects
  pub states_then : (o : ℕ) → IsObject (length m.objects) o → state_of states o ≡ state_of (simulation_at m n).states o
  pub steps_then : (o : ℕ) → IsObject (length m.objects) o → steps_of o log ≡ steps_of o (simulation_at m n).log
  pub there : All (λ (s : Step). IsObject (length m.objects) s.event.dst) log

-- the counts of a course after its last window: nothing stops the run up to there
pub record IsCounted (m : ModelData) (caps : Caps) (s : Counts) : Type 0 where
  pub end : IsWindowEnd m (beginning m) s.window s.made
  pub few : s.made ≤ caps.events
  pub pending : s.pending ≡ length (simulation_at m s.made).pending
  pub enough : 2 * s.pending + 2 ≤ caps.rows
  pub peak : IsPeak m (beginning m) s.window s.peak
  pub passes : PassesTo m caps s.window
  pub ran : AreOfRun m s.made s.states s.log

-- what all workers took, and what they have to put
abbrev pub all_taken : {P : Type 0} → List (Worker P) → List Event
all_taken workers = flat_map (λ w. w.taken.items) workers

abbrev pub all_due : {P : Type 0} → List (Worker P) → List Event
all_due workers = flat_map (λ w. w.due.items) workers

-- the workers are as many as the set has callers, with so many rows each, and have taken nothing of the next window yet
pub record IsCrew {P : Type 0} (plan : Plan) (setup : Setup) (workers : List (Worker P)) : Type 0 where
  pub bounds : IsPlan plan
  pub made : IsSetup (length workers) plan.rows setup
  pub team : IsTeam (length workers)
  pub none : All (λ (w : Worker P). w.taken.items ≡ []) workers

-- between two windows
pub record IsBetween {P : Type 0} (m : ModelData) (plan : Plan) (setup : Setup) (history : List Entry) (c : Course P) : Type 0 where
  pub stands : StandsAfter m c.window c.made history
  pub counted : IsCounted m (caps_of plan) (counts_of c)
  pub crew : IsCrew plan setup c.workers.items

-- the first event of the next window was taken
pub record HasFirst {P : Type 0} (m : ModelData) (plan : Plan) (setup : Setup) (history : List Entry) (c : Course P) (first : Event) : Type 0 where
  pub before : List Entry
  pub since : List Entry
  pub extends : history ≡ before ++ since
  pub between : IsBetween m plan setup before c
  pub calm : IsCalm history
  pub tables : table_count since ≡ 0
  pub least : TakesLeast before since (Some first)

-- the events behind the first one and those that the workers took are put together, and the workers' lists are empty
pub record Collects {P : Type 0} (first : Event) (old new : Course P) : Type 0 where
  pub counts : counts_of new ≡ counts_of old
  pub events : new.events.items ≡ first ∷ all_taken old.workers.items
  pub cleared : AreEach IsCleared old.workers.items new.workers.items

-- all events of the next window were taken, and none of them was run
pub record IsTaken {P : Type 0} (m : ModelData) (plan : Plan) (setup : Setup) (history : List Entry) (c : Course P) : Type 0 where
  pub before : List Entry
  pub first : Event
  pub below : List Event
  pub rest : List Event
  pub stands : StandsAfter m c.window c.made before
  pub takes : TakesWindow m c.made before history first below rest
  pub just : AreJust c.events.items below
  pub calm : IsCalm history
  pub counted : IsCounted m (caps_of plan) (counts_of c)
  pub crew : IsCrew plan setup c.workers.items
  pub ready : All (λ (w : Worker P). IsReady w) c.workers.items

-- nothing is pending: the run is over
pub record IsOver {P : Type 0} (m : ModelData) (plan : Plan) (history : List Entry) (c : Course P) : Type 0 where
  pub calm : IsCalm history
  pub run : IsRunTo m c.window history
  pub counted : IsCounted m (caps_of plan) (counts_of c)
  pub over : (simulation_at m c.made).pending ≡ []

-- how the takes of a window end
abbrev pub TakenEnds : {P : Type 0} → ModelData → Plan → Setup → List Entry → Course P → Result Bool Memory → Type 0
TakenEnds m plan setup history c (Ok true) = IsTaken m plan setup history c
TakenEnds m plan setup history c (Ok false) = IsOver m plan history c
TakenEnds m plan setup history c (Err memory) = IsCalm history

-- what comes of a window: the counts before it, the states and steps after it, and what is to be put
pub record HasRun {P : Type 0} (m : ModelData) (plan : Plan) (setup : Setup) (history : List Entry) (c : Course P) : Type 0 where
  pub was : Counts
  pub counted : IsCounted m (caps_of plan) was
  pub window : c.window ≡ was.window
  pub made : c.made ≡ was.made
  pub pending : c.pending ≡ was.pending
  pub peak : c.peak ≡ was.peak
  pub before : List Entry
  pub first : Event
  pub below : List Event
  pub rest : List Event
  pub stands : StandsAfter m was.window was.made before
  pub takes : TakesWindow m was.made before history first below rest
  pub calm : IsCalm history
  pub crew : IsCrew plan setup c.workers.items
  pub few : was.made + length below ≤ plan.cap
  pub events : length c.events.items ≡ length below
  pub ran : AreOfRun m (was.made + length below) c.states.items c.log.items
  pub sends : List Event
  pub once : IsOnce sends
  pub sent : (x : Event) → Contains sends x ↔ Contains (events_sent m (simulation_at m was.made) (length below)) x
  pub due : (k : ℕ) (d : Worker P) → k < length c.workers.items → (slice_index_or c.workers.items k d).due.items ≡ owned_by (length c.workers.items) plan.span k sends

-- the counts go on by the window's events and what they sent
pub record CountsOn {P : Type 0} (old new : Course P) : Type 0 where
  pub window : new.window ≡ old.window + 1
  pub made : new.made ≡ old.made + length old.events.items
  pub pending : new.pending + length old.events.items ≡ old.pending + length (all_due old.workers.items)
  pub states : new.states ≡ old.states
  pub log : new.log ≡ old.log
  pub workers : new.workers ≡ old.workers

abbrev pub CountEnds : {P : Type 0} → Plan → Course P → Course P → Result (Unit {0}) DriveEnd → Type 0
CountEnds plan old new (Ok u) = CountsOn old new × (2 * new.pending + 2 ≤ plan.rows) × (new.peak ≡ max old.peak new.pending)
CountEnds plan old new (Err end) = CountsOn old new × (plan.rows < 2 * new.pending + 2) × (end ≡ Rows new.window new.pending)

-- some of what the workers have to put was put, and nothing else
pub record PutsSome (due : List Event) (put : List Entry) : Type 0 where
  pub none : outs put ≡ []
  pub some : (e : Event) → Contains (puts put) e → Contains due e

-- the counts are those after a window, and what it sent is still to be put: once all of it is, the run stands after that window
pub record IsToPut {P : Type 0} (m : ModelData) (plan : Plan) (setup : Setup) (history : List Entry) (c : Course P) : Type 0 where
  pub counted : IsCounted m (caps_of plan) (counts_of c)
  pub crew : IsCrew plan setup c.workers.items
  pub calm : IsCalm history
  pub tables : table_count history ≡ 0
  pub due : (k : ℕ) (w : Worker P) → slice_get c.workers.items k ≡ Some w → IsDue (length c.workers.items) plan.span history k w.due.items
  pub stands : (put : List Entry) → ArePutsOf (all_due c.workers.items) put → IsCalm (history ++ put) → StandsAfter m c.window c.made (history ++ put)
  pub within : (put : List Entry) → PutsSome (all_due c.workers.items) put → (x : Event) → IsPending (history ++ put) x → Contains (simulation_at m c.made).pending x
  pub sent : (put : List Entry) → PutsSome (all_due c.workers.items) put → (x : Event) → Contains (puts (history ++ put)) x → Contains (sent_within m c.made) x

-- why a run stops, as far as its history goes then
abbrev pub Stops : ModelData → Plan → List Entry → DriveEnd → Type 0
Stops m plan history NoMemory = IsCalm history
Stops m plan history (Events k) = IsCalm history × StopsBy m (caps_of plan) (StopsByEvents k) × IsRunToTakes m k history
Stops m plan history (Rows zero p) = ⊥
Stops m plan history (Rows (suc k) p) = IsCalm history × StopsBy m (caps_of plan) (StopsByRows (suc k) p) × IsRunToTakes m (suc k) history

-- how the run of a window's events ends
abbrev pub RunEnds : {P : Type 0} → ModelData → Plan → Setup → List Entry → Course P → Result (Unit {0}) DriveEnd → Type 0
RunEnds m plan setup history c (Ok u) = IsToPut m plan setup history c
RunEnds m plan setup history c (Err end) = Stops m plan history end

-- how the puts end
abbrev pub PutEnds : {P : Type 0} → ModelData → Plan → Setup → List Entry → Course P → Result (Unit {0}) Memory → Type 0
PutEnds m plan setup history c (Ok u) = IsBetween m plan setup history c
PutEnds m plan setup history c (Err memory) = IsCalm history

-- how a window ends: it went on, there was none, or the run stopped
abbrev pub WindowEnds : {P : Type 0} → ModelData → Plan → Setup → List Entry → Course P → Result Bool DriveEnd → Type 0
WindowEnds m plan setup history c (Ok true) = IsBetween m plan setup history c
WindowEnds m plan setup history c (Ok false) = IsOver m plan history c
WindowEnds m plan setup history c (Err end) = Stops m plan history end

-- how all windows end
abbrev pub AllEnd : {P : Type 0} → ModelData → Plan → List Entry → Course P → Result (Unit {0}) DriveEnd → Type 0
AllEnd m plan history c (Ok u) = IsOver m plan history c
AllEnd m plan history c (Err end) = Stops m plan history end

-- a worker with nothing taken and nothing to put
abbrev pub IsBlank : {P : Type 0} → Worker P → Type 0
IsBlank w = (w.taken.items ≡ []) × (w.due.items ≡ [])

-- the course before the first window: the starts are due at the first worker, which owns their source
pub record Begins {P : Type 0} (m : ModelData) (workers : ℕ) (starts : List Event) (c : Course P) : Type 0 where
  pub counts : counts_of c ≡ record { window = 0; made = 0; pending = length starts; peak = length starts; states = first_states m.objects; log = [] }
  pub count : length c.workers.items ≡ workers
  pub none : All (λ (w : Worker P). w.taken.items ≡ []) c.workers.items
  pub first : (d : Worker P) → (slice_index_or c.workers.items 0 d).due.items ≡ starts
  pub others : (k : ℕ) (d : Worker P) → 0 < k → k < length c.workers.items → (slice_index_or c.workers.items k d).due.items ≡ []

-- the outcome tells what the course counted and kept
pub record Tells {P : Type 0} (m : ModelData) (c : Course P) (outcome : Outcome) : Type 0 where
  pub traces : outcome.traces ≡ traces_of m.objects c.log.items
  pub windows : outcome.windows ≡ c.window
  pub peak : outcome.peak ≡ c.peak
  pub tables : outcome.tables ≡ []
