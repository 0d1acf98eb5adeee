-- The passes of a calendar, made one and dealt again.
use Rattle.std.specs.Prelude.{◌≡◌, ℕ, ◌<◌, ◌≤◌, List, [], ◌∷◌, ◌++◌, Some, None, Contains, length, slice_get}
use Rattle.std.specs.VecDeque.{deque_capacity}
use mathlib.Core.Option.{some}
use lib.ListN.{get_elem?}
use Rattle.crq_base.specs.declared.event.Event.{Event}
use Rattle.crq_base.specs.declared.entry.Entry.{Entry}
use Rattle.crq_base.specs.Entries.{caller_of as whose}
use Rattle.crq_base.specs.Histories.{puts, settleds, table_count, raising_count, own as own_of, IsLegal}
use Rattle.crq_base.specs.Lists.{In}
use Rattle.crq_base.specs.Refusals.{AreCounted}
use Rattle.crq_rule.specs.declared.pass.Pass.{Pass}
use Rattle.crq_rule.specs.declared.pass.Rest.{Rest}
use Rattle.crq_rule.specs.declared.pass.Table.{Table}
use Rattle.crq_rule.specs.declared.pass.Seating.{Seating}
use Rattle.crq_rule.specs.declared.pass.Seating.TheVariants.{Here, Resting}
use Rattle.crq_rule.specs.declared.view.Caller.{Caller}
use Rattle.crq_rule.specs.declared.view.Told.{Told}
use Rattle.crq_rule.specs.declared.view.Guard.TheVariants.{Off}
use Rattle.crq_rule.specs.Moves.{Lawful}
use Rattle.crq_rows.specs.Passes.{caller, IsOwed, IsPassOf}
use Rattle.crq_queue.specs.declared.calendar.Whole.{Whole}
use Rattle.crq_queue.specs.declared.calendar.Closed.{Closed}

-- the pass has ended its call: its guard is off, it holds no row that it cut, and it owes at most an event to settle, which its run-time field has as it is known, and dead rows to cut
pub record IsResting (table : Table) (pass : Pass) : Type 0 where
  pub is : IsPassOf table pass
  pub guard : (caller table pass).guard ≡ Off
  pub cut : (caller table pass).cut ≡ None
  pub settle : (caller table pass).debts.settle ≡ pass.debts.settle
  pub copy : pass.debts.copy ≡ None
  pub second_cut : pass.debts.second_cut ≡ None

-- it owes no event either, as gathering asks
pub record MayGather (table : Table) (pass : Pass) : Type 0 where
  pub rests : IsResting table pass
  pub settled : pass.debts.settle ≡ None

-- each caller's pass is in its place, has ended its call, and owes no event
pub record AreResting (table : Table) (places : List Seating) : Type 0 where
  pub wide : length places ≡ table.start.layout.workers
  pub each : (k : ℕ) → k < table.start.layout.workers → ((pass : Pass) × (slice_get places k ≡ Some (Here pass)) × (pass.number ≡ k) × MayGather table pass)

-- what stays of a pass whose caller rests
abbrev pub rest_of : Pass → Rest
rest_of pass = record { free = pass.free; debts = pass.debts }

-- each pass is what rests there, awake: it has the same free rows and debts
abbrev pub AreAwake : List Seating → List Seating → Type 0
AreAwake resting awake = (k : ℕ) (pass : Pass) → slice_get awake k ≡ Some (Here pass) → slice_get resting k ≡ Some (Resting (rest_of pass))

-- the history that was dealt to callers
abbrev pub dealt : List Caller → List Entry
dealt [] = []
dealt (p ∷ ps) = p.deal.history

abbrev pub history_of : Whole → List Entry
history_of whole = dealt whole.seat.me.0.parts

abbrev pub last_history : Closed → List Entry
last_history closed = dealt closed.seat.me.0.parts

-- no answer told a caller anything yet
abbrev pub untold : Told
untold = record { tables = 0; settled = 0 }

-- what is known of the caller k, and what stays of its pass while it rests. It has made no entry since the history was dealt, and was told nothing
pub record Rests (table : Table) (history : List Entry) (k : ℕ) (p : Caller) (rest : Rest) : Type 0 where
  pub number : p.number ≡ k
  pub start : p.start ≡ table.start
  pub lawful : Lawful p
  pub deal : p.deal.history ≡ history
  pub own : p.own ≡ []
  pub guard : p.guard ≡ Off
  pub cut : p.cut ≡ None
  pub free : rest.free.items ≡ p.hand
  pub room : table.start.layout.home ≤ deque_capacity rest.free
  pub debts : IsOwed rest.debts p.debts
  pub settle : rest.debts.settle ≡ None
  pub settled : p.debts.settle ≡ None
  pub told : p.told ≡ untold
  pub copy : rest.debts.copy ≡ None
  pub second_cut : rest.debts.second_cut ≡ None

-- the whole is of the table: its one seat carries all callers in order, and all rest
pub record IsWhole (table : Table) (whole : Whole) : Type 0 where
  pub seated : whole.seat.table_id ≡ table.inner.shared.table_id
  pub bare : whole.seat.me.1 ≡ []
  pub parts : length whole.seat.me.0.parts ≡ table.start.layout.workers
  pub wide : length whole.places.items ≡ table.start.layout.workers
  pub each : (k : ℕ) → k < table.start.layout.workers → ((p : Caller) × (rest : Rest)
      × (get_elem? whole.seat.me.0.parts k ≡ some p) × (slice_get whole.places.items k ≡ Some (Resting rest)) × Rests table (history_of whole) k p rest)

-- the whole has one legal history, in which each event that was put is settled. It goes on from what was dealt, and since then each caller made just its own entries, in order, and nobody else made any
pub record IsGathered (table : Table) (places : List Seating) (whole : Whole) : Type 0 where
  pub legal : IsLegal (history_of whole)
  pub settled : (e : Event) → Contains (puts (history_of whole)) e → Contains (settleds (history_of whole)) e
  pub since : List Entry
  pub each : (k : ℕ) (pass : Pass) → slice_get places k ≡ Some (Here pass) → (history_of whole ≡ (caller table pass).deal.history ++ since) × (own_of k since ≡ (caller table pass).own)
  -- the events that a caller keeps of a refusal for want of rows are different, were put, and none was taken before a Begin of the caller
  pub refused : (k : ℕ) (pass : Pass) → slice_get places k ≡ Some (Here pass) → AreCounted (history_of whole) k (caller table pass).refused
  -- and the history has as many entries as its answers told it to have
  pub tables : (k : ℕ) (pass : Pass) → slice_get places k ≡ Some (Here pass) → (caller table pass).told.tables ≤ table_count (history_of whole)
  pub raising : (k : ℕ) (pass : Pass) → slice_get places k ≡ Some (Here pass) → (caller table pass).told.settled ≤ raising_count (history_of whole)
  pub inside : (e : Entry) → In e since → whose e < table.start.layout.workers
  pub awake : AreAwake whole.places.items places

-- the caller k was dealt the history, and `span` sources in a row. It has made no entry since and was told nothing, and its pass made no exchange
pub record IsDealt (table : Table) (history : List Entry) (span k : ℕ) (pass : Pass) : Type 0 where
  pub number : pass.number ≡ k
  pub deal : (caller table pass).deal ≡ record { history = history; span = span }
  pub own : (caller table pass).own ≡ []
  pub told : (caller table pass).told ≡ untold
  pub turns : pass.turns ≡ 0

pub record AreDealt (table : Table) (whole : Whole) (span : ℕ) (places : List Seating) : Type 0 where
  pub each : (k : ℕ) (pass : Pass) → slice_get places k ≡ Some (Here pass) → IsDealt table (history_of whole) span k pass
  pub awake : AreAwake whole.places.items places
