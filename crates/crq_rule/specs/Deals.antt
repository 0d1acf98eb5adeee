-- What a gather and a new deal of all callers do to a view.
use Rattle.std.specs.Prelude.{◌≡◌, ℕ, ◌<◌, ◌≤◌, List, [], ◌++◌, map, None, Contains}
use mathlib.Core.Option.{some}
use lib.ListN.{get_elem?}
use Rattle.atomic_table.specs.Table.{Me, Allows}
use Rattle.crq_base.specs.declared.event.Event.{Event}
use Rattle.crq_base.specs.declared.entry.Entry.{Entry}
use Rattle.crq_base.specs.Entries.{caller_of as whose}
use Rattle.crq_base.specs.Histories.{puts, settleds, table_count, raising_count, own as own_of, IsLegal}
use Rattle.crq_base.specs.Lists.{In}
use Rattle.crq_base.specs.Refusals.{AreCounted}
use Rattle.crq_rule.specs.declared.layout.Start.{Start}
use Rattle.crq_rule.specs.declared.view.Caller.{Caller}
use Rattle.crq_rule.specs.declared.view.View.{View}
use Rattle.crq_rule.specs.Rule.{Stands}

-- the view carries each of the n callers
abbrev pub HasAll : ℕ → View → Type 0
HasAll n v = (j : ℕ) → j < n → ((k : ℕ) × (p : Caller) × (get_elem? v.parts k ≡ some p) × (p.number ≡ j))

-- in a seat that stands for `me`, a load of the spare word keeps the rule, and leaves something of which R holds
abbrev pub LoadsSpare : Start → ℕ → ℕ → Me (Unit {0}) View → (Me (Unit {0}) View → Type 0) → Type 0
LoadsSpare key slots id me R = Allows (Stands key) slots id me 0 (λ n. n) (λ _ m. R m)

-- the history h is dealt to a caller, which has made no entry since, and was told nothing
abbrev pub settled_part : List Entry → Caller → Caller
settled_part h p = record p { deal = record { history = h; span = p.deal.span }; own = []; told = record { tables = 0; settled = 0 } }

abbrev pub dealt_again : List Entry → View → View
dealt_again h v = record v { parts = map (settled_part h) v.parts }

-- no caller owes an event
abbrev pub AreSettled : View → Type 0
AreSettled v = (k : ℕ) (p : Caller) → get_elem? v.parts k ≡ some p → p.debts.settle ≡ None

-- The history so far was dealt to all callers of a view. It is legal, and each of its events is settled, where no caller owes one. It goes on from the one dealt before, by entries of the callers alone, and each has made just its own, in order
pub record Gathered (v w : View) : Type 0 where
  pub history : List Entry
  pub since : List Entry
  pub is : w ≡ dealt_again history v
  pub legal : IsLegal history
  pub settled : AreSettled v → (e : Event) → Contains (puts history) e → Contains (settleds history) e
  pub each : (k : ℕ) (p : Caller) → get_elem? v.parts k ≡ some p → (history ≡ p.deal.history ++ since) × (own_of p.number since ≡ p.own)
  -- and the events that a caller keeps of a refusal for want of rows are still counted
  pub counted : (k : ℕ) (p : Caller) → get_elem? v.parts k ≡ some p → AreCounted history p.number p.refused
  -- and has as many entries as it was told
  pub tables : (k : ℕ) (p : Caller) → get_elem? v.parts k ≡ some p → p.told.tables ≤ table_count history
  pub raising : (k : ℕ) (p : Caller) → get_elem? v.parts k ≡ some p → p.told.settled ≤ raising_count history
  pub inside : (k : ℕ) (p : Caller) (e : Entry) → get_elem? v.parts k ≡ some p → In e since → whose e < p.start.layout.workers

-- n sources in a row are dealt to each caller
abbrev pub spanned_part : ℕ → Caller → Caller
spanned_part n p = record p { deal = record { history = p.deal.history; span = n } }

abbrev pub spans : ℕ → View → View
spans n v = record v { parts = map (spanned_part n) v.parts }

-- no caller has made an entry since the deal
abbrev pub IsSilent : View → Type 0
IsSilent v = (k : ℕ) (p : Caller) → get_elem? v.parts k ≡ some p → p.own ≡ []
