-- The part of the invariant on current: it passes no settled event.
use Rattle.std.specs.Prelude.{◌≤◌, List, Contains}
use Rattle.crq_base.specs.declared.event.Event.{Event}
use Rattle.crq_base.specs.declared.entry.Entry.{Entry}
use Rattle.crq_base.specs.declared.words.Current.{Current}
use Rattle.crq_base.specs.Histories.{settleds, outs}

-- 23. Ahead: each event that is settled and not out isn't before current
pub record Ahead (history : List Entry) (current : Current) : Type 0 where
  pub each : (e : Event) → Contains (settleds history) e → (Contains (outs history) e → ⊥) → current.tick ≤ e.time
