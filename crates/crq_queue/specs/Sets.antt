-- A calendar as a set of events: what is known of its passes, and which are its own.
use Rattle.std.specs.Prelude.{◌≡◌, ℕ, List, [], ◌∷◌, Option, Some, None, map, length, slice_get}
use Rattle.crq_rule.specs.declared.pass.Pass.{Pass}
use Rattle.crq_rule.specs.declared.pass.Table.{Table}
use Rattle.crq_rule.specs.declared.pass.Seating.{Seating}
use Rattle.crq_rule.specs.declared.pass.Seating.TheVariants.{Here, Resting, Lifted}
use Rattle.crq_rule.specs.declared.view.Caller.{Caller}
use Rattle.crq_rule.specs.declared.view.Told.{Told}
use Rattle.crq_set.specs.Views.{PassView, Setup, Told as ToldIn}
use Rattle.crq_queue.specs.Wholes.{MayGather}

-- with what a calendar was made
abbrev pub setup_of : Table → Setup
setup_of table = record { first = table.start.first; workers = table.start.layout.workers; rows = table.start.layout.rows }

-- what answers told a caller
abbrev pub told_view : Told → ToldIn
told_view t = record { tables = t.tables; settled = t.settled }

-- what the first of a seat's callers knows
abbrev pub first_view : List Caller → PassView
first_view [] = record { number = 0; span = 0; dealt = []; own = []; refused = []; told = record { tables = 0; settled = 0 } }
first_view (p ∷ ps) = record { number = p.number; span = p.deal.span; dealt = p.deal.history; own = p.own; refused = p.refused; told = told_view p.told }

-- What is known of a pass: its number, and what its caller knows, which its seat carries alone
abbrev pub pass_view : Pass → PassView
pass_view pass = record (first_view pass.seat.me.0.parts) { number = pass.number }

-- the pass that is in a place. None is a pass that was lifted
abbrev pub place_view : Seating → Option PassView
place_view (Here pass) = Some (pass_view pass)
place_view (Resting rest) = None
place_view Lifted = None

abbrev pub place_views : List Seating → List (Option PassView)
place_views places = map place_view places

-- in the place k is the pass of that number, which has ended its call and owes no event, or it was lifted
abbrev pub IsPlaced : Table → ℕ → Seating → Type 0
IsPlaced table k (Here pass) = (pass.number ≡ k) × MayGather table pass
IsPlaced table k (Resting rest) = ⊥
IsPlaced table k Lifted = Unit {0}

-- there is a place for each caller's pass
pub record ArePlaced (table : Table) (places : List Seating) : Type 0 where
  pub wide : length places ≡ table.start.layout.workers
  pub each : (k : ℕ) (place : Seating) → slice_get places k ≡ Some place → IsPlaced table k place
