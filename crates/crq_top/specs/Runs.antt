-- What a run over a set of events leaves: its text, or why it has none, and the history of its set.
use Rattle.std.specs.Prelude.{◌≡◌, ◌⊎◌, ℕ, ◌≤◌, List}
use Rattle.crq_base.specs.declared.entry.Entry.{Entry}
use Rattle.crq_base.specs.Sizes.{AreRows}
use Rattle.crq_host.specs.declared.drive_end.DriveEnd.{DriveEnd}
use Rattle.crq_host.specs.declared.drive_end.DriveEnd.TheVariants as drive_ends
use Rattle.crq_host.specs.Drives.{Caps, StopsBy, HasOneMore, DriveStops}
use Rattle.crq_host.specs.Histories.{IsRunTo}
use Rattle.crq_printer.specs.Texts.{trace_text_of}
use Rattle.crq_sim.specs.declared.run.TheConstants.{MOST_EVENTS}
use Rattle.crq_sim.specs.Models.{ModelData}
use Rattle.crq_sim.specs.Runs.{IsOverWithin, traces_within, beginning}
use Rattle.crq_sim.specs.Windows.{Stop, IsLastWindow}
use Rattle.crq_top.specs.declared.ending.Ending.{Ending}
use Rattle.crq_top.specs.declared.ending.Ending.TheVariants as endings
use Rattle.crq_top.specs.declared.running.Limits.{Limits}

-- the text of the run over one event list, which is over within so many events
abbrev pub IsTextOfRun : ModelData → ℕ → List ℕ → Type 0
IsTextOfRun m events text = IsOverWithin m events × (text ≡ trace_text_of (traces_within m events))

-- one more set was closed, and its history is that of the run up to its last window
abbrev pub KeepsRun : ModelData → List (List Entry) → List (List Entry) → Type 0
KeepsRun m old new = (windows : ℕ) × IsLastWindow m (beginning m) windows × HasOneMore old new (IsRunTo m windows)

-- no set was closed, or one was, with a calm history
abbrev pub HasOneAtMost : List (List Entry) → List (List Entry) → Type 0
HasOneAtMost old new = (new ≡ old) ⊎ HasOneMore old new (λ history. Unit {0})

-- a run over a set left its text: nothing stopped it, and the history of its set is whole
pub record LeavesText (m : ModelData) (caps : Caps) (old new : List (List Entry)) (text : List ℕ) : Type 0 where
  pub goes : (stop : Stop) → StopsBy m caps stop → ⊥
  pub is_text : IsTextOfRun m caps.events text
  pub history : KeepsRun m old new

-- what a drive that has no outcome ends a call with
abbrev pub ending_after : DriveEnd → Ending
ending_after drive_ends.Memory = endings.Memory
ending_after (drive_ends.Events window) = endings.Events window
ending_after (drive_ends.Rows window pending) = endings.Rows window pending

-- a run over a set left no text, and this is the ending
abbrev pub LeavesNone : ModelData → Caps → List (List Entry) → List (List Entry) → Ending → Type 0
LeavesNone m caps old new e = (end : DriveEnd) × (e ≡ ending_after end) × DriveStops m caps old new end

abbrev pub caps_of : Limits → Caps
caps_of limits = record { events = limits.events; rows = limits.rows }

-- the limits of a run over a set that may have so many workers
pub record AreLimits (most : ℕ) (limits : Limits) : Type 0 where
  pub workers : (1 ≤ limits.workers) × (limits.workers ≤ most)
  pub rows : AreRows limits.rows
  pub events : (1 ≤ limits.events) × (limits.events ≤ MOST_EVENTS)
