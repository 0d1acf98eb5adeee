-- The rows that a pass may reach are rows of its table.
use Rattle.std.proofs.Common.{◌≡◌, ℕ, ◌<◌, subst, arith}
use Rattle.crq_rule.specs.declared.layout.Start.{Start}
use Rattle.crq_rule.specs.declared.pass.Pass.{Pass}
use Rattle.crq_rule.specs.declared.pass.Table.{Table}
use Rattle.crq_rule.specs.Places.{index, stamp, IsRow, IsHomeRow}
use Rattle.crq_base.specs.declared.event.Event.{Event}
use Rattle.crq_base.specs.Lists.{In}
use Rattle.crq_rule.specs.Kinds.{MayRetire, IsRipe}
use Rattle.crq_rule.specs.ListKinds.{row_place, StandsOn}
use Rattle.crq_rule.proofs.ListSteps.{row_place_is}
use Rattle.crq_rule.proofs.PartLaws.{home_is_row}
use Rattle.crq_rule.proofs.Placing.{within}
use Rattle.crq_rows.specs.Passes.{caller, IsPassOf}

module _ (table : Table) (pass : Pass) (of : IsPassOf table pass) where
  pub cut_row : (r t : ℕ) → MayRetire (caller table pass).cut r t → IsRow table.start.layout r
  cut_row r t may = subst (λ (z : Start × ℕ). IsRow z.0.layout z.1) (λ i. (of.sits.started i, may.2 i)) (of.lawful.cut may.0 may.1)

  pub home_row : (r : ℕ) → IsHomeRow table.start.layout pass.number r → IsRow table.start.layout r
  home_row r home = home_is_row table.start.layout pass.number r of.sits.inside home

  pub ripe_row : (r e : ℕ) → IsRipe (caller table pass).ripening r e → IsRow table.start.layout r
  ripe_row r e ripe = home_row r (subst (λ (z : Start × ℕ). IsHomeRow z.0.layout z.1 r) (λ i. (of.sits.started i, of.sits.numbered i)) (of.lawful.ripening r ripe.0 ripe.1))

  pub hand_row : (r : ℕ) → In r (caller table pass).hand → IsRow table.start.layout r
  hand_row r i = home_row r (subst (λ (z : Start × ℕ). IsHomeRow z.0.layout z.1 r) (λ i. (of.sits.started i, of.sits.numbered i)) (of.lawful.hand r i))

  pub stand_row : (r : ℕ) (e : Event) → StandsOn (caller table pass).position.rows r e → IsRow table.start.layout r
  stand_row r e on = subst (λ (z : Start × ℕ). IsRow z.0.layout z.1) (λ i. (of.sits.started i, on.2 i)) (of.lawful.stands on.0 on.1).0

-- a word of a row is a word of the table
pub row_below : (table : Table) (r n w : ℕ) → IsRow table.start.layout r → w ≡ index table.start.layout (row_place r n) → w < table.inner.shared.table_id.words
row_below table r n w row is = let wide = table.wide in let low = within table.start.layout (row_place r n) (row_place_is table.start r n row) in omega arith

-- the stamp of a row is a word of the table
pub stamp_below : (table : Table) (r w : ℕ) → IsRow table.start.layout r → w ≡ index table.start.layout (stamp r) → w < table.inner.shared.table_id.words
stamp_below table r w row is = let wide = table.wide in let low = within table.start.layout (stamp r) row in omega arith
