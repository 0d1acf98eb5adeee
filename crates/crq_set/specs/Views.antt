-- What is known of a set of events and of a pass of it.
use Rattle.std.specs.Prelude.{◌≡◌, ℕ, List}
use Rattle.crq_base.specs.declared.event.Event.{Event}
use Rattle.crq_base.specs.declared.entry.Entry.{Entry}
use Rattle.crq_base.specs.declared.first.First.{First}
use Rattle.crq_base.specs.Sources.{IsFresh}

-- with what a set was made: where its counters began, for how many callers, and how many rows each of them has. No call changes it
pub record Setup : Type 0 where
  pub first : First
  pub workers : ℕ
  pub rows : ℕ

-- what answers told a pass of the history at their return: so many Table entries, and so many Settled and Table entries together, were in it at least
pub record Told : Type 0 where
  pub tables : ℕ
  pub settled : ℕ

-- what is known of a pass: its number; how many sources in a row it may put events of; the history that was dealt to it; its own entries since; the events that its last refusal for rows counted; and what it was told
pub record PassView : Type 0 where
  pub number : ℕ
  pub span : ℕ
  pub dealt : List Entry
  pub own : List Entry
  pub refused : List Event
  pub told : Told

-- the pass may put the event: it is of its sources, and no event of that source and number is in what the pass has seen
abbrev pub MayPut : Setup → PassView → Event → Type 0
MayPut setup v e = IsFresh setup.workers v.dealt v.own v.span v.number e

-- a program's set for so many callers with so many rows each: its epoch and the epoch of its guards begin at 0, its generation at 1
pub record IsSetup (workers rows : ℕ) (setup : Setup) : Type 0 where
  pub first : setup.first ≡ record { epoch = 0; generation = 1; guard = 0 }
  pub callers : setup.workers ≡ workers
  pub each : setup.rows ≡ rows
