-- A caller that looks at lists.
use Rattle.std.specs.Prelude.{ℕ, ◌<◌}
use Rattle.crq_base.specs.declared.event.Event.{Event}
use Rattle.crq_rule.specs.declared.pass.Pass.{Pass}
use Rattle.crq_rule.specs.declared.pass.Table.{Table}
use Rattle.crq_rule.specs.Parts.{IsOn}
use Rattle.crq_rule.specs.ListKinds.{StandsOn}
use Rattle.crq_rows.specs.Passes.{caller, IsPassOf}

-- its guard is on
pub record IsLooker (table : Table) (pass : Pass) : Type 0 where
  pub of : IsPassOf table pass
  pub on : IsOn (caller table pass).guard

-- it stands on this row, if it is one
abbrev pub HasCome : Table → ℕ → Pass → Type 0
HasCome table row pass = 0 < row → (e : Event) × StandsOn (caller table pass).position.rows row e
