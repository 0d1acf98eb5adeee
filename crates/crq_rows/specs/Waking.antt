-- Passes made of callers that rest.
use Rattle.std.specs.Prelude.{◌≡◌, ℕ, ◌<◌, List, [], ◌∷◌, length, Some, slice_get}
use mathlib.Core.Option.{some}
use lib.ListN.{get_elem?}
use Rattle.atomic_table.specs.declared.shared.Seat.{Seat}
use Rattle.crq_rule.specs.declared.pass.Pass.{Pass}
use Rattle.crq_rule.specs.declared.pass.Rest.{Rest}
use Rattle.crq_rule.specs.declared.pass.Seating.{Seating}
use Rattle.crq_rule.specs.declared.pass.Seating.TheVariants.{Here, Resting}
use Rattle.crq_rule.specs.declared.pass.Table.{Table}
use Rattle.crq_rule.specs.declared.view.Caller.{Caller}
use Rattle.crq_rule.specs.declared.view.View.{View}

-- the seat carries all callers of the table in order, and each of them rests in its place
pub record AllRest (table : Table) (seat : Seat (Unit {0}) View) (places : List Seating) : Type 0 where
  pub wide : length places ≡ table.start.layout.workers
  pub seated : seat.table_id ≡ table.inner.shared.table_id
  pub bare : seat.me.1 ≡ []
  pub parts : length seat.me.0.parts ≡ table.start.layout.workers
  pub each : (k : ℕ) (p : Caller) → get_elem? seat.me.0.parts k ≡ some p → (p.number ≡ k) × ((rest : Rest) × (slice_get places k ≡ Some (Resting rest)))

-- the pass of the caller k, which has made no exchange, with this seat and what rested of it
abbrev pub pass_of : Seat (Unit {0}) View → ℕ → Rest → Pass
pass_of seat k rest = record { seat = seat; number = k; free = rest.free; debts = rest.debts; turns = 0 }

-- the caller k, which the seat carried among others and which rested in its place, has its pass in that place now, whose seat carries it alone
pub record IsWoken (table : Table) (seat : Seat (Unit {0}) View) (places now : List Seating) (k : ℕ) : Type 0 where
  pub alone : Seat (Unit {0}) View
  pub part : Caller
  pub rest : Rest
  pub carried : get_elem? seat.me.0.parts k ≡ some part
  pub rested : slice_get places k ≡ Some (Resting rest)
  pub here : slice_get now k ≡ Some (Here (pass_of alone k rest))
  pub seated : alone.table_id ≡ table.inner.shared.table_id
  pub me : alone.me ≡ (record { parts = part ∷ [] }, [])

pub record AllWoken (table : Table) (seat : Seat (Unit {0}) View) (places now : List Seating) : Type 0 where
  pub wide : length now ≡ table.start.layout.workers
  pub each : (k : ℕ) → k < table.start.layout.workers → IsWoken table seat places now k
