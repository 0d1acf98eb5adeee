-- What one phase of a window does to the history of a set, from one gathering to the next, and why it is cut short.
use Rattle.std.specs.Prelude.{◌≡◌, ◌↔◌, ℕ, ◌+◌, ◌-◌, ◌*◌, ◌^◌, ◌<◌, ◌≤◌, List, [], ◌∷◌, ◌++◌, length, Option, Some, None, Result, Ok, Err, Contains}
use Rattle.crq_base.specs.declared.event.Event.{Event}
use Rattle.crq_base.specs.declared.entry.Entry.{Entry}
use Rattle.crq_base.specs.declared.answers.Short.{Short}
use Rattle.crq_base.specs.declared.answers.Short.TheVariants.{Rows, Epochs, Memory}
use Rattle.crq_base.specs.Histories.{puts, outs, IsPending, IsEarlier, table_count, raising_count}
use Rattle.crq_base.specs.Lists.{In, IsOnce}
use Rattle.crq_set.specs.Views.{Setup}
use Rattle.crq_host.specs.Histories.{ArePutsOf, IsCalm}

-- the history went on by these entries and is calm
pub record GoesOn (old new since : List Entry) : Type 0 where
  pub extends : new ≡ old ++ since
  pub calm : IsCalm new
  pub tables : table_count since ≡ 0

-- the entries take just the events that were pending below the limit, each once, and put none
pub record Drains (limit : ℕ) (history since : List Entry) : Type 0 where
  pub puts_none : puts since ≡ []
  pub once : IsOnce (outs since)
  pub just : (e : Event) → Contains (outs since) e ↔ (IsPending history e × (e.time < limit))

-- the entries take the least pending event alone, or nothing where nothing is pending, and put none
abbrev pub TakesLeast : List Entry → List Entry → Option Event → Type 0
TakesLeast history since None = (puts since ≡ []) × (outs since ≡ []) × ((e : Event) → IsPending history e → ⊥)
TakesLeast history since (Some e) = (puts since ≡ []) × (outs since ≡ e ∷ []) × IsPending history e × ((f : Event) → IsPending history f → IsEarlier f e → ⊥)

-- so many different events are pending in the history that the rows are too few: as many as half of them
pub record LacksRowsFor (setup : Setup) (history : List Entry) : Type 0 where
  pub events : List Event
  pub once : IsOnce events
  pub pending : (e : Event) → In e events → IsPending history e
  pub many : setup.rows ≤ 2 * length events

-- why takes were cut short, where `history` is the one before them; and why puts were, where it is the one after them
abbrev pub TakesShort : Setup → List Entry → Short → Type 0
TakesShort setup history Rows = LacksRowsFor setup history
TakesShort setup history Epochs = ⊥
TakesShort setup history Memory = Unit {0}

abbrev pub PutsShort : Setup → List Entry → Short → Type 0
PutsShort setup history Rows = LacksRowsFor setup history
PutsShort setup history Epochs = 2 ^ 32 - 64 ≤ setup.first.epoch + raising_count history
PutsShort setup history Memory = Unit {0}

-- the least event was looked for, by one take
abbrev pub LeastEnds : Setup → List Entry → List Entry → Result (Option Event) Short → Type 0
LeastEnds setup old new (Ok found) = (since : List Entry) × GoesOn old new since × TakesLeast old since found
LeastEnds setup old new (Err short) = (since : List Entry) × GoesOn old new since × TakesShort setup old short

-- a drain up to a limit ended
abbrev pub DrainEnds : Setup → ℕ → List Entry → List Entry → Result (Unit {0}) Short → Type 0
DrainEnds setup limit old new (Ok u) = (since : List Entry) × GoesOn old new since × Drains limit old since
DrainEnds setup limit old new (Err short) = (since : List Entry) × GoesOn old new since × TakesShort setup old short

-- the puts of these events ended
abbrev pub PutsEnd : Setup → List Event → List Entry → List Entry → Result (Unit {0}) Short → Type 0
PutsEnd setup due old new (Ok u) = (since : List Entry) × GoesOn old new since × ArePutsOf due since
PutsEnd setup due old new (Err short) = (since : List Entry) × GoesOn old new since × (outs since ≡ []) × ((e : Event) → Contains (puts since) e → Contains due e) × PutsShort setup new short
