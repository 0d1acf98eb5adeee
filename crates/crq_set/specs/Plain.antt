-- What a plain set keeps, and what is known of its one pass.
use Rattle.std.specs.Prelude.{◌≡◌, ◌⊎◌, ℕ, ◌≤◌, List, [], length, take, drop, Contains}
use Rattle.std.specs.List.{AllByRecursion}
use Rattle.std.proofs.Common.{zero-le, suc-le-suc}
use Rattle.crq_base.specs.declared.event.Event.{Event}
use Rattle.crq_base.specs.declared.entry.Entry.{Entry}
use Rattle.crq_base.specs.Entries.{caller_of}
use Rattle.crq_base.specs.Histories.{puts, settleds, outs, IsLegal}
use Rattle.crq_base.specs.Lists.{In}
use Rattle.crq_base.specs.Sizes.{IsTeam}
use Rattle.crq_set.specs.Views.{PassView, Setup}

-- The events that were put are those that were settled, and each of them is pending or taken. Nothing else is, and nothing is both
pub record IsBalanced (put settled taken pending : List Event) : Type 0 where
  pub settles : (e : Event) → Contains put e → Contains settled e
  pub settled_put : (e : Event) → Contains settled e → Contains put e
  pub taken_put : (e : Event) → Contains taken e → Contains put e
  pub pending_put : (e : Event) → In e pending → Contains put e
  pub apart : (e : Event) → In e pending → Contains taken e → ⊥
  pub each : (e : Event) → Contains put e → In e pending ⊎ Contains taken e

-- the history is legal, and these events are pending in it
pub record IsKept (history : List Entry) (pending : List Event) : Type 0 where
  pub legal : IsLegal history
  pub balanced : IsBalanced (puts history) (settleds history) (outs history) pending

-- a pass between two calls: it was dealt so many first entries of the history, and made the others itself
pub record IsInOrder (history : List Entry) (pending : List Event) (dealt : ℕ) : Type 0 where
  pub kept : IsKept history pending
  pub within : dealt ≤ length history
  pub mine : AllByRecursion (λ (entry : Entry). caller_of entry ≡ 0) (drop dealt history)

-- what is known of that pass. It is never short of rows or of epochs, so it is told nothing
abbrev pub plain_view : List Entry → ℕ → ℕ → PassView
plain_view history dealt span =
    record { number = 0; span = span; dealt = take dealt history; own = drop dealt history; refused = []; told = record { tables = 0; settled = 0 } }

-- a plain set is a program's set for one caller
abbrev pub plain_setup : ℕ → Setup
plain_setup rows = record { first = record { epoch = 0; generation = 1; guard = 0 }; workers = 1; rows = rows }

-- one caller is as many as a set may have
pub one_is_a_team : IsTeam 1
one_is_a_team = (suc-le-suc zero-le, suc-le-suc zero-le)
