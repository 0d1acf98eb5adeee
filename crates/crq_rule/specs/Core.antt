-- The core state: what the words say, the one history, and what each caller knows, as plain data. It is given as separate functions by caller, by row and by head, so that a part of
-- the invariant can be stated over those alone that it reads.
use Rattle.std.specs.Prelude.{◌≡◌, ◌⊎◌, ℕ, List, Option, Some, None, Bool}
use Rattle.crq_base.specs.declared.event.Event.{Event}
use Rattle.crq_base.specs.declared.entry.Entry.{Entry}
use Rattle.crq_rule.specs.declared.debts.Debts.{Debts}
use Rattle.crq_rule.specs.declared.debts.SettleDebt.{SettleDebt}
use Rattle.crq_rule.specs.declared.debts.CutDebt.{CutDebt}
use Rattle.crq_rule.specs.declared.debts.CopyDebt.{CopyDebt}
use Rattle.crq_rule.specs.declared.layout.Start.{Start}
use Rattle.crq_rule.specs.declared.view.Guard.{Guard}
use Rattle.crq_rule.specs.declared.view.Tick.{Tick}
use Rattle.crq_rule.specs.declared.view.CutRow.{CutRow}
use Rattle.crq_rule.specs.declared.view.Base.{Base}
use Rattle.crq_rule.specs.declared.view.Deal.{Deal}
use Rattle.crq_rule.specs.declared.view.Stand.{Stand}
use Rattle.crq_rule.specs.declared.view.Found.{Found}
use Rattle.crq_rule.specs.declared.view.Wrote.{Wrote}
use Rattle.crq_rule.specs.declared.view.Sight.{Sight}
use Rattle.crq_rule.specs.declared.view.Walk.{Walk}
use Rattle.crq_rule.specs.declared.view.Help.{Help}
use Rattle.crq_rule.specs.declared.view.Sweep.{Sweep}
use Rattle.crq_rule.specs.declared.view.Told.{Told}
use Rattle.crq_rule.specs.declared.view.Made.{Made}
use Rattle.crq_rule.specs.declared.view.Caller.{Caller}
use Rattle.crq_rule.specs.Places.{Words}
use Rattle.crq_rule.specs.Ranks.{Shape}

-- who holds a row: a caller that has it in hand, the list of a head, the caller that cut it, or nobody, since it was retired with a tag
pub data Holding : Type 0 where
  in_hand : ℕ → Holding
  listed : ℕ → Holding
  cut_by : ℕ → Holding
  retired : ℕ → Holding

-- the row is in no hand
abbrev pub IsOutside : (ℕ → Holding) → ℕ → Type 0
IsOutside holding r = (j : ℕ) → holding r ≡ in_hand j → ⊥

-- the dead rows that a caller still has to cut. Where there is one, it is the first
pub record DeadNames : Type 0 where
  pub first : Option CutDebt
  pub second : Option CutDebt

pub record Core : Type 0 where
  pub start : Start
  pub words : Words
  pub history : List Entry
  pub deal : Deal
  -- by generation, the shape of its table
  pub shape : ℕ → Shape
  -- by head, the rows of its list in order
  pub chain : ℕ → List ℕ
  -- by row
  pub holding : ℕ → Holding
  -- by caller: the lengths of the history at its last Begin, and when its take last read a table
  pub begun : ℕ → ℕ
  pub read : ℕ → ℕ
  -- by caller, what its view has
  pub own : ℕ → List Entry
  pub made : ℕ → List Made
  pub epochs : ℕ → List ℕ
  pub guard : ℕ → Guard
  pub tick : ℕ → Tick
  pub hand : ℕ → List ℕ
  pub ripening : ℕ → List (ℕ × ℕ)
  pub cut : ℕ → Option CutRow
  pub base : ℕ → Option Base
  -- what it owes: an event to settle, a copy to bind, and dead rows to cut
  pub settling : ℕ → Option SettleDebt
  pub copying : ℕ → Option CopyDebt
  pub named : ℕ → DeadNames
  pub permit : ℕ → Bool
  -- where it stands: on rows of a list, and on a frozen row whose copy it has yet to link
  pub rows : ℕ → List Stand
  pub old : ℕ → Option Stand
  pub found : ℕ → Found
  pub written : ℕ → List Wrote
  pub sight : ℕ → Option Sight
  pub walk : ℕ → Option Walk
  pub help : ℕ → Option Help
  pub sweep : ℕ → Option Sweep
  pub clean : ℕ → List ℕ
  pub refused : ℕ → List Event
  pub told : ℕ → Told

-- the name is one of these
abbrev pub HasName : DeadNames → CutDebt → Type 0
HasName names d = (names.first ≡ Some d) ⊎ (names.second ≡ Some d)

-- the names that are left of two: where the first is gone the second moves up
abbrev pub moved_up : Option CutDebt → Option CutDebt → DeadNames
moved_up None second = record { first = second; second = None }
moved_up (Some d) second = record { first = Some d; second = second }

abbrev pub names_of : Debts → DeadNames
names_of d = record { first = d.cut; second = d.second_cut }

-- the same debts with these names
abbrev pub renamed : Debts → DeadNames → Debts
renamed d names = record d { cut = names.first; second_cut = names.second }

-- all that a caller owes
abbrev pub owed_by : Option SettleDebt → Option CopyDebt → DeadNames → Debts
owed_by settle copy names = record { settle = settle; copy = copy; cut = names.first; second_cut = names.second }

-- what the caller j knows
abbrev pub caller_of : Core → ℕ → Caller
caller_of c j = record {
  number = j;
  start = c.start;
  deal = c.deal;
  own = c.own j;
  made = c.made j;
  epochs = c.epochs j;
  guard = c.guard j;
  tick = c.tick j;
  hand = c.hand j;
  ripening = c.ripening j;
  cut = c.cut j;
  base = c.base j;
  debts = owed_by (c.settling j) (c.copying j) (c.named j);
  permit = c.permit j;
  position = record { rows = c.rows j; old = c.old j };
  found = c.found j;
  written = c.written j;
  sight = c.sight j;
  walk = c.walk j;
  help = c.help j;
  sweep = c.sweep j;
  clean = c.clean j;
  refused = c.refused j;
  told = c.told j;
}
