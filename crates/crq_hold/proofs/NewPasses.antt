-- The passes of a new table, lifted and lowered.
use Rattle.std.proofs.Common.{◌≡◌, ℕ, ◌<◌, List, length, set, Some, sym, ◌∙◌, subst, arith}
use Rattle.std.specs.Prelude.{slice_get}
use Rattle.crq_rule.specs.declared.pass.Pass.{Pass}
use Rattle.crq_rule.specs.declared.pass.Table.{Table}
use Rattle.crq_rule.specs.declared.pass.Seating.{Seating}
use Rattle.crq_rule.specs.declared.pass.Seating.TheVariants.{Here}
use Rattle.crq_rows.specs.Passes.{IsNew, AreNew}
use Rattle.crq_rows.proofs.Slots.{get_here}
use Rattle.crq_rows.proofs.Deals.{same_pass}

-- a pass that was lifted from its place is new
pub lifted_new : (table : Table) (places : List Seating) (j : ℕ) (pass : Pass) → j < table.start.layout.workers → AreNew table places → slice_get places j ≡ Some (Here pass) → IsNew table j pass
lifted_new table places j pass b new at = let h = new.each j b in subst (IsNew table j) (same_pass h.0 pass (sym h.1 ∙ at)) h.2

-- a pass that was put back is in its place
pub lowered_here : (places : List Seating) (pass : Pass) (j : ℕ) → pass.number ≡ j → j < length places → slice_get (set places pass.number (Here pass)) j ≡ Some (Here pass)
lowered_here places pass j is b = subst (λ k. slice_get (set places pass.number (Here pass)) k ≡ Some (Here pass)) is (get_here places pass.number (Here pass) (omega arith))
