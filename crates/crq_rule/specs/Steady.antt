-- A table that may not move is the first one for good. Only one file of lemmas opens this part.
use Rattle.std.specs.Prelude.{◌≡◌, ℕ, ◌<◌, false, None}
use Rattle.crq_rule.specs.declared.debts.CutDebt.{CutDebt}
use Rattle.crq_rule.specs.declared.layout.Start.{Start}
use Rattle.crq_base.specs.declared.words.Link.{Link}
use Rattle.crq_base.specs.declared.words.Control.{Control}
use Rattle.crq_rule.specs.Places.{IsRow}
use Rattle.crq_rule.specs.Core.{Holding, IsOutside, DeadNames, HasName}

pub record Steady (start : Start) (control : Control) (link : ℕ → Link) (holding : ℕ → Holding) (names : ℕ → DeadNames) : Type 0 where
  pub still : start.moves ≡ false → control.moving ≡ false
  pub first : start.moves ≡ false → control.generation ≡ start.first.generation
  -- all that isn't in hand is of it, and so is what names name
  pub rows : (r : ℕ) → start.moves ≡ false → IsRow start.layout r → IsOutside holding r → (link r).generation ≡ control.generation
  pub named : (k : ℕ) (d : CutDebt) → start.moves ≡ false → k < start.layout.workers → HasName (names k) d → d.generation ≡ control.generation
  -- a caller owes one dead row
  pub single : (k : ℕ) → start.moves ≡ false → k < start.layout.workers → (names k).second ≡ None
