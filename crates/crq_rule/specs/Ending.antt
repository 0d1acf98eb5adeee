-- The part of the invariant on how a move ends: the pin, which names the next table once no take walks the old one unseen, and the tables that were opened so far.
use Rattle.std.specs.Prelude.{◌≡◌, ℕ, ◌+◌, ◌<◌, ◌≤◌, Option, Some}
use Rattle.crq_base.specs.declared.words.Link.{Link}
use Rattle.crq_base.specs.declared.words.Mark.TheVariants.{Mov}
use Rattle.crq_base.specs.declared.words.Control.{Control}
use Rattle.crq_base.specs.declared.words.Current.{Current}
use Rattle.crq_base.specs.declared.words.Pin.{Pin}
use Rattle.crq_rule.specs.declared.layout.Start.{Start}
use Rattle.crq_rule.specs.declared.view.Help.{Help}
use Rattle.crq_rule.specs.declared.view.Sight.{Sight}
use Rattle.crq_rule.specs.declared.view.Walk.{Walk}
use Rattle.crq_rule.specs.Places.{IsHead}
use Rattle.crq_rule.specs.Ranks.{Shape, IsHeadIn}
use Rattle.crq_rule.specs.Parts.{newest}
use Rattle.crq_rule.specs.ListParts.{IsOldHead}

-- what this part is stated over
pub record Ending : Type 0 where
  pub start : Start
  pub control : Control
  pub shape : ℕ → Shape
  pub head : ℕ → Link
  pub current : Current
  pub pin : Pin
  pub sight : ℕ → Option Sight
  pub walk : ℕ → Option Walk
  pub help : ℕ → Option Help

-- No take that walks saw an epoch of current above this one, and none begins to walk the open table, since its heads are frozen
pub record IsSealed (e : Ending) (epoch : ℕ) : Type 0 where
  pub frozen : (q : ℕ) → IsHead q → IsOldHead e.control e.shape q → (e.head q).mark ≡ Mov
  pub walks : (k : ℕ) (w : Walk) (s : Sight) → k < e.start.layout.workers → e.walk k ≡ Some w → e.sight k ≡ Some s → s.current.epoch ≤ epoch
  pub low : epoch ≤ e.current.epoch

-- a helper found the pin p of its move: that is the pin still, and once the move is over current is past it
pub record IsPinOf (e : Ending) (h : Help) (p : Pin) : Type 0 where
  pub next : p.generation ≡ h.generation + 1
  pub now : h.generation ≡ e.control.generation → p ≡ e.pin
  pub past : h.generation < e.control.generation → p.epoch < e.current.epoch

-- 29. Ends
pub record Ends (e : Ending) : Type 0 where
  -- each head of a table that was opened is of that table, or of a later one of its bank
  pub opened : (g q : ℕ) → IsHead q → e.start.first.generation ≤ g → g ≤ e.control.generation → IsHeadIn g (e.shape g) q → g ≤ (e.head q).generation
  -- a helper loaded current's epoch for the pin, when all heads of the open table were frozen
  pub loaded : (k : ℕ) (h : Help) (n : ℕ) → k < e.start.layout.workers → e.help k ≡ Some h → h.epoch ≡ Some n → n ≤ e.current.epoch
  pub sealed : (k : ℕ) (h : Help) (n : ℕ) → k < e.start.layout.workers → e.help k ≡ Some h → h.epoch ≡ Some n → h.generation ≡ e.control.generation → IsSealed e n
  -- the pin names no later table than the newest, and no earlier one than the open one, if that isn't the first
  pub low : e.pin.generation ≤ newest e.control
  pub high : e.start.first.generation < e.control.generation → e.control.generation ≤ e.pin.generation
  -- while it names the next table the open one is sealed, and current is past it once that is open
  pub pinned : e.pin.generation ≡ e.control.generation + 1 → IsSealed e e.pin.epoch
  pub past : 0 < e.pin.generation → e.pin.generation ≤ e.control.generation → e.pin.epoch < e.current.epoch
  pub pins : (k : ℕ) (h : Help) (p : Pin) → k < e.start.layout.workers → e.help k ≡ Some h → h.pin ≡ Some p → IsPinOf e h p
  -- a take that walks a table before the open one saw an epoch of current that has passed
  pub older : (k : ℕ) (w : Walk) (s : Sight) → k < e.start.layout.workers → e.walk k ≡ Some w → e.sight k ≡ Some s → s.table.generation < e.control.generation → s.current.epoch < e.current.epoch
