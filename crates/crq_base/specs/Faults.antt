-- The faults of a history that isn't legal.
use Rattle.std.specs.Prelude.{◌≡◌, ℕ, ◌<◌, ◌⊎◌, Option, Some, None, List, Contains, take, slice_get}
use Rattle.crq_base.specs.declared.event.Event.{Event}
use Rattle.crq_base.specs.declared.entry.Entry.{Entry}
use Rattle.crq_base.specs.declared.entry.Entry.TheVariants.{Put, Settled, Take, Miss}
use Rattle.crq_base.specs.declared.legality.Fault.{Fault}
use Rattle.crq_base.specs.declared.legality.Fault.TheVariants.{PutTwice, NotPut, SettledTwice, TakenTwice, NoBegin, Passed}
use Rattle.crq_base.specs.declared.legality.Deed.{Deed}
use Rattle.crq_base.specs.declared.legality.Deed.TheVariants as deed
use Rattle.crq_base.specs.declared.legality.Bound.{Bound}
use Rattle.crq_base.specs.declared.legality.Bound.TheVariants.{Key, Time}
use Rattle.crq_base.specs.Keys.{IsBefore}
use Rattle.crq_base.specs.Histories.{put_of, settled_of, taken_of, puts, settleds, outs, IsEarlier, Began, IsLegal}

abbrev pub event_of : Deed → Entry → Option Event
event_of deed.Put entry = put_of entry
event_of deed.Settle entry = settled_of entry
event_of deed.Take entry = taken_of entry

abbrev pub IsBelow : Bound → Event → Type 0
IsBelow (Key taken) event = IsEarlier event taken
IsBelow (Time limit) event = event.time < limit

-- settled by this entry, not taken, and within the bound
pub record IsLeftBy (entry : Entry) (history : List Entry) (bound : Bound) (event : Event) : Type 0 where
  pub settled : settled_of entry ≡ Some event
  pub kept : Contains (outs history) event → ⊥
  pub below : IsBelow bound event

-- the event, or a known one that it isn't before
abbrev pub IsFirstOf : Option Event → Event → Event → Type 0
IsFirstOf None event first = first ≡ event
IsFirstOf (Some known) event first = ((first ≡ known) × (IsBefore event known → ⊥)) ⊎ ((first ≡ event) × IsBefore event known)

-- settled in front, not taken, and within the bound
pub record IsLeft (front history : List Entry) (bound : Bound) (event : Event) : Type 0 where
  pub settled : Contains (settleds front) event
  pub kept : Contains (outs history) event → ⊥
  pub below : IsBelow bound event

-- the first of these events in the order of events, which is by key
pub record IsLeastLeft (front history : List Entry) (bound : Bound) (event : Event) : Type 0 where
  pub left : IsLeft front history bound event
  pub least : (f : Event) → IsLeft front history bound f → IsBefore f event → ⊥

-- why a caller may not end a search at this bound
abbrev pub IsUnfound : List Entry → ℕ → Bound → Fault → Type 0
IsUnfound history caller bound NoBegin = (front : List Entry) → Began caller history front → ⊥
IsUnfound history caller bound (Passed event) = (front : List Entry) × Began caller history front × IsLeastLeft front history bound event
IsUnfound history caller bound _ = ⊥

-- the first fault of the entry after this history
abbrev pub IsWrong : List Entry → Entry → Fault → Type 0
IsWrong history (Put caller event) PutTwice = Contains (puts history) event
IsWrong history (Settled caller event) NotPut = Contains history (Put caller event) → ⊥
IsWrong history (Settled caller event) SettledTwice = Contains history (Put caller event) × Contains (settleds history) event
IsWrong history (Take caller event) NotPut = Contains (puts history) event → ⊥
IsWrong history (Take caller event) TakenTwice = Contains (puts history) event × Contains (outs history) event
IsWrong history (Take caller event) fault =
    Contains (puts history) event × (Contains (outs history) event → ⊥) × IsUnfound history caller (Key event) fault
IsWrong history (Miss caller limit) fault = IsUnfound history caller (Time limit) fault
IsWrong history _ _ = ⊥

-- the entries before this one are legal, and it has this fault
pub record IsFirstWrong (history : List Entry) (index : ℕ) (fault : Fault) : Type 0 where
  pub entry : Entry
  pub at : slice_get history index ≡ Some entry
  pub before : IsLegal (take index history)
  pub wrong : IsWrong (take index history) entry fault
