-- Histories of a set of events, oldest entry first, and which of them are legal.
use Rattle.std.specs.Prelude.{◌≡◌, ℕ, ◌<◌, Option, Some, None, List, [], ◌∷◌, ◌++◌, Bool, true, false, ◌==◌, length, filter, Contains}
use Rattle.std.specs.List.{filter_map}
use Rattle.std.specs.Ordering.{is_lt}
use Rattle.crq_base.specs.declared.event.Event.{Event}
use Rattle.crq_base.specs.declared.entry.Entry.{Entry}
use Rattle.crq_base.specs.declared.entry.Entry.TheVariants.{Begin, Put, Settled, Take, Miss, Table}
use Rattle.crq_base.specs.Keys.{key_cmp}
use Rattle.crq_base.specs.Entries.{caller_of}

-- the first event has the lesser key
abbrev pub IsEarlier : Event → Event → Type 0
IsEarlier a b = is_lt (key_cmp a b) ≡ true

abbrev pub put_of : Entry → Option Event
put_of (Put caller event) = Some event
put_of _ = None

abbrev pub settled_of : Entry → Option Event
settled_of (Settled caller event) = Some event
settled_of _ = None

abbrev pub taken_of : Entry → Option Event
taken_of (Take caller event) = Some event
taken_of _ = None

-- the events that were put, that were settled, and that were taken
abbrev pub puts : List Entry → List Event
puts history = filter_map put_of history

abbrev pub settleds : List Entry → List Event
settleds history = filter_map settled_of history

abbrev pub outs : List Entry → List Event
outs history = filter_map taken_of history

-- the Table entries of a history, and its Settled and Table entries together, which are those that raise the epoch of current
abbrev pub is_table : Entry → Bool
is_table (Table caller log shift) = true
is_table _ = false

abbrev pub is_raising : Entry → Bool
is_raising (Settled caller event) = true
is_raising (Table caller log shift) = true
is_raising _ = false

abbrev pub table_count : List Entry → ℕ
table_count history = length (filter is_table history)

abbrev pub raising_count : List Entry → ℕ
raising_count history = length (filter is_raising history)

-- the entries of one caller
abbrev pub own : ℕ → List Entry → List Entry
own caller history = filter (λ entry. caller_of entry == caller) history

-- put and not taken
pub record IsPending (history : List Entry) (event : Event) : Type 0 where
  pub put : Contains (puts history) event
  pub kept : Contains (outs history) event → ⊥

-- the later history goes on from the earlier one
abbrev pub Extends : List Entry → List Entry → Type 0
Extends earlier later = (since : List Entry) × (later ≡ earlier ++ since)

-- the caller's last entry is a Begin, and front is what stood before it
pub record Began (caller : ℕ) (history front : List Entry) : Type 0 where
  pub back : List Entry
  pub parts : history ≡ front ++ Begin caller ∷ back
  pub last : own caller back ≡ []

-- no event that was settled in front and isn't taken has a lesser key than this one
abbrev pub NoneEarlier : List Entry → List Entry → Event → Type 0
NoneEarlier front history event = (f : Event) → Contains (settleds front) f → (Contains (outs history) f → ⊥) → IsEarlier f event → ⊥

-- each event that was settled in front and lies below the limit is taken
abbrev pub NoneBelow : List Entry → List Entry → ℕ → Type 0
NoneBelow front history limit = (f : Event) → Contains (settleds front) f → f.time < limit → Contains (outs history) f

-- the entry is legal after this history
abbrev pub MayFollow : List Entry → Entry → Type 0
MayFollow history (Begin caller) = Unit {0}
MayFollow history (Put caller event) = Contains (puts history) event → ⊥
MayFollow history (Settled caller event) = Contains history (Put caller event) × (Contains (settleds history) event → ⊥)
MayFollow history (Take caller event) =
    Contains (puts history) event × (Contains (outs history) event → ⊥)
    × ((front : List Entry) × Began caller history front × NoneEarlier front history event)
MayFollow history (Miss caller limit) = (front : List Entry) × Began caller history front × NoneBelow front history limit
MayFollow history (Table caller log shift) = Unit {0}

-- the entries are legal after this history, one after another
abbrev pub IsLegalAfter : List Entry → List Entry → Type 0
IsLegalAfter history [] = Unit {0}
IsLegalAfter history (entry ∷ entries) = MayFollow history entry × IsLegalAfter (history ++ entry ∷ []) entries

abbrev pub IsLegal : List Entry → Type 0
IsLegal history = IsLegalAfter [] history
