-- Event lists: pending events in the order in which they are taken.
use Rattle.std.specs.Prelude.{◌≡◌, List, [], ◌∷◌, if◌then◌else◌}
use Rattle.std.specs.List.{AllByRecursion}
use Rattle.std.specs.Ordering.{is_eq, is_lt}
use Rattle.crq_base.specs.declared.event.Event.{Event}
use Rattle.crq_base.specs.Keys.{event_cmp, IsBefore}

-- one more event, at its place
abbrev pub with_event : Event → List Event → List Event
with_event e [] = e ∷ []
with_event e (f ∷ fs) = if is_lt (event_cmp e f) then e ∷ f ∷ fs else f ∷ with_event e fs

-- more events, each at its place
abbrev pub with_events : List Event → List Event → List Event
with_events [] pending = pending
with_events (e ∷ es) pending = with_events es (with_event e pending)

-- without an event
abbrev pub without_event : Event → List Event → List Event
without_event e [] = []
without_event e (f ∷ fs) = if is_eq (event_cmp e f) then without_event e fs else f ∷ without_event e fs

-- without any of several events
abbrev pub without_events : List Event → List Event → List Event
without_events [] pending = pending
without_events (e ∷ es) pending = without_events es (without_event e pending)

-- each event is before all that follow
abbrev pub AreInOrder : List Event → Type 0
AreInOrder [] = Unit {0}
AreInOrder (e ∷ es) = AllByRecursion (IsBefore e) es × AreInOrder es

-- an event is the first of the list
abbrev pub IsHead : Event → List Event → Type 0
IsHead x [] = ⊥
IsHead x (y ∷ ys) = x ≡ y

-- the key of an event: its time, its source, and the source's number for it
abbrev pub HaveOneKey : Event → Event → Type 0
HaveOneKey e f = (e.time ≡ f.time) × (e.src ≡ f.src) × (e.seq ≡ f.seq)

-- no two events of a list, at whatever places, have one key
abbrev pub HaveKeysApart : List Event → Type 0
HaveKeysApart [] = Unit {0}
HaveKeysApart (e ∷ es) = AllByRecursion (λ (f : Event). HaveOneKey e f → ⊥) es × HaveKeysApart es

-- the source of an event, and the source's number for it
abbrev pub HaveOneNumber : Event → Event → Type 0
HaveOneNumber e f = (e.src ≡ f.src) × (e.seq ≡ f.seq)

-- no two events of a list, at whatever places, have one source and number
abbrev pub HaveNumbersApart : List Event → Type 0
HaveNumbersApart [] = Unit {0}
HaveNumbersApart (e ∷ es) = AllByRecursion (λ (f : Event). HaveOneNumber e f → ⊥) es × HaveNumbersApart es
