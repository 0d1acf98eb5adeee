-- One history of all passes, and passes that are dealt one history.
use Rattle.std.specs.Prelude.{◌≡◌, ℕ, ◌<◌, ◌≤◌, List, [], ◌++◌, length, Option, Some, Contains, slice_get}
use Rattle.crq_base.specs.declared.event.Event.{Event}
use Rattle.crq_base.specs.declared.entry.Entry.{Entry}
use Rattle.crq_base.specs.Entries.{caller_of as whose}
use Rattle.crq_base.specs.Histories.{puts, settleds, own as own_of, IsLegal, table_count, raising_count}
use Rattle.crq_base.specs.Lists.{In}
use Rattle.crq_base.specs.Refusals.{AreCounted}
use Rattle.crq_set.specs.Views.{PassView}

-- each of n passes is in its place
abbrev pub AreThere : ℕ → List (Option PassView) → Type 0
AreThere n places = (k : ℕ) → k < n → (v : PassView) × (slice_get places k ≡ Some (Some v))

-- what holds of one pass in the history: it goes on from what was dealt, the caller made just its own entries since, the events that its refusal counted were pending, and it has as many entries as the pass was told
pub record StandsIn (history since : List Entry) (k : ℕ) (v : PassView) : Type 0 where
  pub extends : history ≡ v.dealt ++ since
  pub own : own_of k since ≡ v.own
  pub refused : AreCounted history k v.refused
  pub tables : v.told.tables ≤ table_count history
  pub settled : v.told.settled ≤ raising_count history

-- The history of n passes: it is legal, each event that was put is settled in it, and since it was dealt each pass's own entries stand in it, in order, and no other ones
pub record Gathers (n : ℕ) (places : List (Option PassView)) (history : List Entry) : Type 0 where
  pub legal : IsLegal history
  pub settled : (e : Event) → Contains (puts history) e → Contains (settleds history) e
  pub since : List Entry
  pub each : (k : ℕ) (v : PassView) → slice_get places k ≡ Some (Some v) → StandsIn history since k v
  pub inside : (e : Entry) → In e since → whose e < n

-- the pass k was dealt the history and so many sources in a row, has added no entry, and was told nothing
pub record IsDealt (history : List Entry) (span k : ℕ) (v : PassView) : Type 0 where
  pub number : v.number ≡ k
  pub sources : v.span ≡ span
  pub dealt : v.dealt ≡ history
  pub own : v.own ≡ []
  pub tables : v.told.tables ≡ 0
  pub settled : v.told.settled ≡ 0

-- a pass for each of n callers, in its place
pub record Deals (n : ℕ) (history : List Entry) (span : ℕ) (places : List (Option PassView)) : Type 0 where
  pub count : length places ≡ n
  pub each : (k : ℕ) → k < n → (v : PassView) × (slice_get places k ≡ Some (Some v)) × IsDealt history span k v
