-- The part of the invariant on what is left of current's epochs and of generations.
use Rattle.std.specs.Prelude.{cond, ◌≡◌, ◌==◌, ◌&&◌, nat_lt, true, ℕ, zero, suc, ◌+◌, ◌-◌, ◌^◌, ◌<◌, ◌≤◌, List, Option, Some, Bool}
use Rattle.crq_base.specs.declared.entry.Entry.{Entry}
use Rattle.crq_base.specs.declared.words.Control.{Control}
use Rattle.crq_base.specs.declared.words.Current.{Current}
use Rattle.crq_base.specs.declared.words.Pin.{Pin}
use Rattle.crq_base.specs.Histories.{table_count, raising_count}
use Rattle.crq_base.specs.Words.{flag_number}
use Rattle.crq_rule.specs.declared.debts.SettleDebt.{SettleDebt}
use Rattle.crq_rule.specs.declared.layout.Start.{Start}
use Rattle.crq_rule.specs.Parts.{newest}

-- how many of the first n callers have a permit
abbrev pub permits : (ℕ → Bool) → ℕ → ℕ
permits permit zero = 0
permits permit (suc n) = flag_number (permit n) + permits permit n

-- the pin names the next table, and current's epoch is past it
abbrev pub is_passed : Control → Current → Pin → Bool
is_passed control current pin = (pin.generation == control.generation + 1) && nat_lt pin.epoch current.epoch

-- while control moves and current isn't past the pin, a step that raises current's epoch past that is still to come
abbrev pub coming : Control → Current → Pin → ℕ
coming control current pin = cond control.moving (cond (is_passed control current pin) 0 1) 0

-- 22. Bounds: for each caller that may raise current's epoch once there is an epoch left, and so for a move whose pin current has yet to pass; a caller that owes an event may; and each rise of the epoch, past or to come, stands in the history. So does each table that was made
pub record Bounds (start : Start) (control : Control) (current : Current) (pin : Pin) (history : List Entry) (settling : ℕ → Option SettleDebt) (permit : ℕ → Bool) : Type 0 where
  pub tables : newest control ≤ 2 ^ 30 - 2
  pub opened : newest control ≡ start.first.generation + table_count history
  pub left : current.epoch + (permits permit start.layout.workers + coming control current pin) ≤ 2 ^ 32 - 48
  pub entries : current.epoch + coming control current pin ≤ start.first.epoch + raising_count history
  pub owed : (k : ℕ) (d : SettleDebt) → k < start.layout.workers → settling k ≡ Some d → permit k ≡ true
