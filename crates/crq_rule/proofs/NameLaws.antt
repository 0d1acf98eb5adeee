-- The two names of a caller, of which some are dropped and the second moves up.
use Rattle.std.proofs.Common.{◌≡◌, ◌⊎◌, ⊎_elim, inl, inr, Option, Some, None, refl}
use Rattle.std.proofs.lemmas.Option.{none-some}
use Rattle.crq_rule.specs.declared.debts.CutDebt.{CutDebt}
use Rattle.crq_rule.specs.Core.{HasName, moved_up}

-- without a second name the first stays where it is
pub moved_first : (a o : Option CutDebt) → o ≡ None → (moved_up a o).first ≡ a
moved_first None o none = none
moved_first (Some d) o none = refl

pub moved_second : (a o : Option CutDebt) → o ≡ None → (moved_up a o).second ≡ None
moved_second None o none = refl
moved_second (Some d) o none = none

-- the names are those that are left
pub has_moved : (a o : Option CutDebt) (d : CutDebt) → (a ≡ Some d) ⊎ (o ≡ Some d) → HasName (moved_up a o) d
has_moved None o d h = ⊎_elim (λ n. absurd (none-some d n)) inl h
has_moved (Some x) o d h = h

pub was_left : (a o : Option CutDebt) (d : CutDebt) → HasName (moved_up a o) d → (a ≡ Some d) ⊎ (o ≡ Some d)
was_left None o d h = ⊎_elim inr (λ n. absurd (none-some d n)) h
was_left (Some x) o d h = h
