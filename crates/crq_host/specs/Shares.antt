-- What the workers make of a window's events: the group with index i, from 0, is run by worker i modulo their number.
use Rattle.std.specs.Prelude.{◌↔◌, ◌⊎◌, ◌<◌, ◌==◌, filter, slice_index_or, All, Contains, ◌≡◌, ℕ, zero, suc, ◌+◌, ◌-◌, ◌*◌, ◌^◌, ◌≤◌, List, [], ◌∷◌, ◌++◌, length, map, flat_map, None}
use Rattle.std.specs.List.{AllByRecursion}
use Rattle.crq_base.specs.declared.event.Event.{Event}
use Rattle.crq_base.specs.Lists.{IsOnce}
use Rattle.crq_base.specs.Sources.{owner_of}
use Rattle.crq_sim.specs.declared.reaction.ObjectState.{ObjectState}
use Rattle.crq_sim.specs.declared.traces.Step.{Step}
use Rattle.crq_sim.specs.Models.{ModelData, IsModel, IsObject}
use Rattle.crq_sim.specs.Reactions.{behaviour_at, IsWordOf}
use Rattle.crq_sim.specs.Runs.{state_of, steps_of}
use Rattle.crq_sim.specs.WindowRuns.{object_after, object_steps, object_sends, events_of, IsSentAt}
use Rattle.crq_windows.specs.declared.group.Group.{Group}
use Rattle.crq_windows.specs.Groups.{group_events, AreGroups}
use Rattle.crq_host.specs.declared.worker.Changed.{Changed}
use Rattle.crq_host.specs.declared.worker.Worker.{Worker}

-- the list's elements from index k on, every n-th
abbrev pub every : {A : Type 0} → ℕ → ℕ → List A → List A
every n k [] = []
every n zero (x ∷ xs) = x ∷ every n (n - 1) xs
every n (suc k) (x ∷ xs) = every n k xs

-- where a window's run begins: the model, the states before it, and its events by groups
pub record Begun : Type 0 where
  pub model : ModelData
  pub states : List ObjectState
  pub events : List Event
  pub groups : List Group

abbrev pub state_before : Begun → Group → ObjectState
state_before b g = state_of b.states g.object

-- the object of a group, and its state after its events
abbrev pub changed_by : Begun → Group → Changed
changed_by b g = record { object = g.object; state = object_after b.model g.object (state_before b g) (group_events b.events g) }

abbrev pub group_steps : Begun → Group → List Step
group_steps b g = object_steps b.model g.object (state_before b g) (group_events b.events g)

abbrev pub group_sends : Begun → Group → List Event
group_sends b g = object_sends b.model g.object (state_before b g) (group_events b.events g)

-- a worker ran these groups, one after the other
pub record RanGroups (b : Begun) (groups : List Group) (changed : List Changed) (steps : List Step) (sends : List Event) : Type 0 where
  pub states_after : changed ≡ map (changed_by b) groups
  pub steps_made : steps ≡ flat_map (group_steps b) groups
  pub sent : sends ≡ flat_map (group_sends b) groups

-- these events may be run one after the other at an object in this state
pub record CanRunAt (m : ModelData) (o : ℕ) (s : ObjectState) (es : List Event) : Type 0 where
  pub there : IsObject (length m.objects) o
  pub here : AllByRecursion (λ (e : Event). (e.dst ≡ o) × (e.time ≤ m.until)) es
  pub word : IsWordOf (behaviour_at m o) s.word
  pub count : s.count + length es ≤ 2 ^ 62
  pub sent : s.sent + 4 * length es ≤ 2 ^ 62

-- all events may be run, each at its object: they are in groups and due by the end, and the states are those of the model's objects, with room to count them
pub record CanRunAll (b : Begun) : Type 0 where
  pub by_objects : AreGroups (length b.model.objects) b.events b.groups
  pub due : AllByRecursion (λ (e : Event). e.time ≤ b.model.until) b.events
  pub many : length b.states ≡ length b.model.objects
  pub words : (o : ℕ) → IsObject (length b.model.objects) o → IsWordOf (behaviour_at b.model o) (state_of b.states o).word
  pub counts : (o : ℕ) → IsObject (length b.model.objects) o → (state_of b.states o).count + length b.events ≤ 2 ^ 62
  pub sents : (o : ℕ) → IsObject (length b.model.objects) o → (state_of b.states o).sent + 4 * length b.events ≤ 2 ^ 62

-- a worker that has run nothing in this window yet
abbrev pub IsIdle : {P : Type 0} → Worker P → Type 0
IsIdle w = (w.changed.items ≡ []) × (w.steps.items ≡ []) × (w.sends.items ≡ []) × (w.short ≡ None)

-- the pass stays, and so does what was taken and what is due
abbrev pub KeepsOthers : {P : Type 0} → Worker P → Worker P → Type 0
KeepsOthers old new = (new.pass ≡ old.pass) × (new.taken ≡ old.taken) × (new.due ≡ old.due)

-- a worker ran these events at an object, from its state on
pub record RanEvents {P : Type 0} (m : ModelData) (es : List Event) (from upto : Changed) (old new : Worker P) : Type 0 where
  pub same : upto.object ≡ from.object
  pub state_after : upto.state ≡ object_after m from.object from.state es
  pub steps_more : new.steps.items ≡ old.steps.items ++ object_steps m from.object from.state es
  pub sends_more : new.sends.items ≡ old.sends.items ++ object_sends m from.object from.state es
  pub not_yet : new.changed ≡ old.changed

-- a worker ran these groups, after what it had run before
pub record RanMore {P : Type 0} (b : Begun) (groups : List Group) (old new : Worker P) : Type 0 where
  pub changed_more : new.changed.items ≡ old.changed.items ++ map (changed_by b) groups
  pub steps_more : new.steps.items ≡ old.steps.items ++ flat_map (group_steps b) groups
  pub sends_more : new.sends.items ≡ old.sends.items ++ flat_map (group_sends b) groups

-- it ran a group, and keeps the object's state
abbrev pub RanGroup : {P : Type 0} → ModelData → List ObjectState → List Event → Group → Worker P → Worker P → Type 0
RanGroup m states events g old new = (groups : List Group) → RanMore (record { model = m; states = states; events = events; groups = groups }) (g ∷ []) old new

-- worker number i of n ran its share of the groups, or is short
abbrev pub RanShare : {P : Type 0} → Begun → ℕ → ℕ → Worker P → Type 0
RanShare b n i w = w.short ≡ None → RanGroups b (every n i b.groups) w.changed.items w.steps.items w.sends.items

-- each worker ran its share, or is short
abbrev pub RanShares : {P : Type 0} → Begun → List (Worker P) → List (Worker P) → Type 0
RanShares {P} b old new = (i : ℕ) (d : Worker P) → i < length old → RanShare b (length old) i (slice_index_or new i d)

-- each worker ran its share of the groups, from these states on
pub record IsRun {P : Type 0} (b : Begun) (states : List ObjectState) (workers : List (Worker P)) : Type 0 where
  pub begun : b.states ≡ states
  pub can : CanRunAll b
  pub some : 0 < length workers
  pub ran : (i : ℕ) (d : Worker P) → i < length workers → (let w = slice_index_or workers i d in RanGroups b (every (length workers) i b.groups) w.changed.items w.steps.items w.sends.items)

-- what all workers changed, their steps, and what they sent, worker by worker
abbrev pub all_changed : {P : Type 0} → List (Worker P) → List Changed
all_changed workers = flat_map (λ w. w.changed.items) workers

abbrev pub all_steps : {P : Type 0} → List (Worker P) → List Step
all_steps workers = flat_map (λ w. w.steps.items) workers

abbrev pub all_sends : {P : Type 0} → List (Worker P) → List Event
all_sends workers = flat_map (λ w. w.sends.items) workers

-- the object has one of these changes, to this state; or it has none
abbrev pub IsChangedTo : List Changed → ℕ → ObjectState → Type 0
IsChangedTo changed o s = (c : Changed) × Contains changed c × (c.object ≡ o) × (c.state ≡ s)

abbrev pub IsUnchanged : List Changed → ℕ → Type 0
IsUnchanged changed o = (c : Changed) → Contains changed c → c.object ≡ o → ⊥

-- objects have new states as these changes say, and the others keep theirs
pub record AreSet (changed : List Changed) (old new : List ObjectState) : Type 0 where
  pub count : length new ≡ length old
  pub each : (o : ℕ) → IsObject (length old) o → IsChangedTo changed o (state_of new o) ⊎ ((state_of new o ≡ state_of old o) × IsUnchanged changed o)

-- the changes are of so many objects
abbrev pub AreChanges : ℕ → List Changed → Type 0
AreChanges objects changed = All (λ (c : Changed). IsObject objects c.object) changed

-- what the run of a window left: each object's state and steps are those of its own events, and what was sent is what the objects sent
pub record WindowRan (b : Begun) (states : List ObjectState) (old log : List Step) (sends : List Event) : Type 0 where
  pub count : length states ≡ length b.states
  pub states_after : (o : ℕ) → IsObject (length b.states) o → state_of states o ≡ object_after b.model o (state_of b.states o) (events_of o b.events)
  pub steps_made : (o : ℕ) → IsObject (length b.states) o → steps_of o log ≡ steps_of o old ++ object_steps b.model o (state_of b.states o) (events_of o b.events)
  pub sent : (x : Event) → Contains sends x ↔ IsSentAt b.model b.states b.events x
  pub once : IsModel b.model → IsOnce sends
  pub there : (s : Step) → Contains log s → Contains old s ⊎ IsObject (length b.states) s.event.dst

-- each worker beside the one at its place
pub record AreEach {P : Type 0} (R : Worker P → Worker P → Type 0) (old new : List (Worker P)) : Type 0 where
  pub count : length new ≡ length old
  pub each : (i : ℕ) (d : Worker P) → i < length old → R (slice_index_or old i d) (slice_index_or new i d)

-- all stays but what is due
pub record KeepsButDue {P : Type 0} (old new : Worker P) : Type 0 where
  pub pass : new.pass ≡ old.pass
  pub taken : new.taken ≡ old.taken
  pub changed : new.changed ≡ old.changed
  pub steps : new.steps ≡ old.steps
  pub sends : new.sends ≡ old.sends
  pub short : new.short ≡ old.short

-- the events whose source worker k of n owns
abbrev pub owned_by : ℕ → ℕ → ℕ → List Event → List Event
owned_by n span k es = filter (λ (e : Event). owner_of n span e.src == k) es

-- each of these events is due at the worker that owns its source, after what was due before
abbrev pub AreDue : {P : Type 0} → ℕ → List Event → List (Worker P) → List (Worker P) → Type 0
AreDue {P} span es old new = (k : ℕ) (d : Worker P) → k < length old → (slice_index_or new k d).due.items ≡ (slice_index_or old k d).due.items ++ owned_by (length old) span k es

-- the pass and why it stopped stay, and all lists are empty
pub record IsCleared {P : Type 0} (old new : Worker P) : Type 0 where
  pub pass : new.pass ≡ old.pass
  pub short : new.short ≡ old.short
  pub taken : new.taken.items ≡ []
  pub changed : new.changed.items ≡ []
  pub steps : new.steps.items ≡ []
  pub sends : new.sends.items ≡ []
  pub due : new.due.items ≡ []

-- a worker that has run nothing in this window yet and has nothing to put
abbrev pub IsReady : {P : Type 0} → Worker P → Type 0
IsReady w = IsIdle w × (w.due.items ≡ [])

abbrev pub KeepsPass : {P : Type 0} → Worker P → Worker P → Type 0
KeepsPass old new = (new.pass ≡ old.pass) × (new.taken ≡ old.taken)

-- the window was run, and each worker has to put what was sent by the sources that it owns
pub record WindowDone {P : Type 0} (b : Begun) (span : ℕ) (states : List ObjectState) (old log : List Step) (workers : List (Worker P)) : Type 0 where
  pub sends : List Event
  pub ran : WindowRan b states old log sends
  pub due : (k : ℕ) (d : Worker P) → k < length workers → (slice_index_or workers k d).due.items ≡ owned_by (length workers) span k sends
