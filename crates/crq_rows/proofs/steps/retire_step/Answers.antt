use Rattle.std.proofs.Common.{ℕ, sym, subst}
use Rattle.crq_base.specs.declared.kinds.StepKind.TheVariants.{Retire}
use Rattle.crq_rule.specs.Kinds.{retires}
use Rattle.crq_rule.specs.Moves.{Moves, TellsLow}
use Rattle.crq_rule.proofs.RowSteps.{retire_moves}
use Rattle.crq_rows.specs.Passes.{caller}
use Rattle.crq_rows.proofs.Reached.{cut_row, stamp_below}
use Rattle.crq_rows.proofs.steps.retire_step.Goals as goal

pub store_as-requires-clause-moves : goal.store_as-requires-clause-moves
store_as-requires-clause-moves c = let table = c.args.table.now in let key = table.start in let p = caller table c.args.pass.now in let t = c.args.tag in
    subst (λ (z : ℕ × ℕ). Moves Retire key p z.0 (λ _. z.1) (λ _. retires) (λ _. TellsLow t 0)) (λ i. (sym c.stamp-word.ensures i, sym c.saturating_add.ensures i)) (retire_moves key p c.args.row t (cut_row table c.args.pass.now c.requires.of c.args.row t c.requires.cut) c.requires.cut)

pub stamp-word-requires : goal.stamp-word-requires
stamp-word-requires c = cut_row c.args.table.now c.args.pass.now c.requires.of c.args.row c.args.tag c.requires.cut

pub store_as-requires-clause-word : goal.store_as-requires-clause-word
store_as-requires-clause-word c = stamp_below c.args.table.now c.args.row _ (cut_row c.args.table.now c.args.pass.now c.requires.of c.args.row c.args.tag c.requires.cut) c.stamp-word.ensures
