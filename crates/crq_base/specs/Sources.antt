-- Whose a source of events is, and which events a caller may put.
use Rattle.std.specs.Prelude.{◌≡◌, ◌⊎◌, ℕ, ◌-◌, ◌/◌, List, min}
use Rattle.crq_base.specs.declared.event.Event.{Event}
use Rattle.crq_base.specs.declared.entry.Entry.{Entry}
use Rattle.crq_base.specs.declared.entry.Entry.TheVariants.{Put}
use Rattle.crq_base.specs.Lists.{In}

-- whose the source x is, where each of n callers has `span` sources in a row, and the last one those of all greater sources too
abbrev pub owner_of : ℕ → ℕ → ℕ → ℕ
owner_of n span x = min (x / span) (n - 1)

-- the event is of the caller's sources, and no event of that source and number is in what the caller has seen
abbrev pub IsFresh : ℕ → List Entry → List Entry → ℕ → ℕ → Event → Type 0
IsFresh n dealt own span j e = (owner_of n span e.src ≡ j) × ((k : ℕ) (f : Event) → In (Put k f) dealt ⊎ In (Put k f) own → f.src ≡ e.src → f.seq ≡ e.seq → ⊥)
