-- What the calls of a set add to what a pass has seen, and why they give up.
use Rattle.std.specs.Prelude.{◌≡◌, ℕ, ◌+◌, ◌-◌, ◌*◌, ◌^◌, ◌<◌, ◌≤◌, List, [], ◌∷◌, ◌++◌, length}
use Rattle.crq_base.specs.declared.event.Event.{Event}
use Rattle.crq_base.specs.declared.entry.Entry.{Entry}
use Rattle.crq_base.specs.declared.entry.Entry.TheVariants.{Begin, Put, Settled, Take, Miss}
use Rattle.crq_base.specs.declared.answers.TakeEnd.{TakeEnd}
use Rattle.crq_base.specs.declared.answers.TakeEnd.TheVariants.{Taken, Missed}
use Rattle.crq_base.specs.declared.answers.Short.{Short}
use Rattle.crq_base.specs.declared.answers.Short.TheVariants.{Rows, Epochs, Memory}
use Rattle.crq_set.specs.Views.{PassView, Setup}

-- The pass added just these entries. Its number, its sources and what was dealt to it stay, and what it was told doesn't fall
pub record Adds (old new : PassView) (entries : List Entry) : Type 0 where
  pub number : new.number ≡ old.number
  pub span : new.span ≡ old.span
  pub dealt : new.dealt ≡ old.dealt
  pub own : new.own ≡ old.own ++ entries
  pub tables : old.told.tables ≤ new.told.tables
  pub settled : old.told.settled ≤ new.told.settled

-- each of these entries is a Begin of the caller
abbrev pub AreBegins : ℕ → List Entry → Type 0
AreBegins caller [] = Unit {0}
AreBegins caller (entry ∷ entries) = (entry ≡ Begin caller) × AreBegins caller entries

-- the pass added Begins alone, if any
abbrev pub AddsBegins : PassView → PassView → Type 0
AddsBegins old new = (begins : List Entry) × AreBegins old.number begins × Adds old new begins

-- the pass added one or more Begins, and then these entries
abbrev pub AddsBegun : PassView → PassView → List Entry → Type 0
AddsBegun old new entries = (begins : List Entry) × AreBegins old.number begins × Adds old new (begins ++ (Begin old.number ∷ entries))

-- the event was put, and counts for each take that begins from here on
abbrev pub Puts : PassView → PassView → Event → Type 0
Puts old new e = AddsBegun old new (Put old.number e ∷ Settled old.number e ∷ [])

-- an event below the limit was taken, or none was there
abbrev pub Takes : PassView → PassView → ℕ → TakeEnd → Type 0
Takes old new limit (Taken e route) = (e.time < limit) × AddsBegun old new (Take old.number e ∷ [])
Takes old new limit Missed = AddsBegun old new (Miss old.number limit ∷ [])

-- Rows: twice the number of the events that the pass keeps is at least that of its rows. Gathering tells of them that they were put and not taken before its last Begin
abbrev pub LacksRows : Setup → PassView → Type 0
LacksRows setup v = setup.rows ≤ 2 * length v.refused

-- Epochs: the pass was told of so many Settled and Table entries that the epoch of current has no room left
abbrev pub LacksEpochs : Setup → PassView → Type 0
LacksEpochs setup v = 2 ^ 32 - 64 ≤ setup.first.epoch + v.told.settled

-- The pass gave up for rows. It had begun; a call that gives up before its Begin does so only where it was told of a Table entry
abbrev pub GaveUpForRows : Setup → PassView → PassView → Type 0
GaveUpForRows setup old new = (begins : List Entry) × AreBegins old.number begins × Adds old new begins × (begins ≡ [] → 0 < new.told.tables) × LacksRows setup new

-- why a put gave up, and what it added
abbrev pub PutGaveUp : Setup → PassView → PassView → Short → Type 0
PutGaveUp setup old new Rows = GaveUpForRows setup old new
PutGaveUp setup old new Epochs = AddsBegins old new × LacksEpochs setup new
PutGaveUp setup old new Memory = new ≡ old

-- why a take gave up, and what it added
abbrev pub TakeGaveUp : Setup → PassView → PassView → Short → Type 0
TakeGaveUp setup old new Rows = GaveUpForRows setup old new
TakeGaveUp setup old new Epochs = ⊥
TakeGaveUp setup old new Memory = new ≡ old
