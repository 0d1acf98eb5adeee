use Rattle.std.proofs.Common.{ℕ, sym, subst, ap, ◌∙◌, arith}
use Rattle.crq_base.specs.declared.kinds.StepKind.TheVariants.{Write}
use Rattle.crq_rule.specs.Places.{index}
use Rattle.crq_rule.specs.ListKinds.{row_place, writes, content_number, content_word}
use Rattle.crq_rule.specs.Moves.{Moves, quiet}
use Rattle.crq_rule.proofs.Glue.{moves_flat}
use Rattle.crq_rule.proofs.ListSteps.{write_moves}
use Rattle.crq_rows.specs.Passes.{caller}
use Rattle.crq_rows.proofs.Reached.{hand_row, row_below}
use Rattle.crq_rule.proofs.WriteLaws.{number_low}
use Rattle.crq_rows.proofs.steps.write_step.Goals as goal

pub row_word-at-requires-clause-row : goal.row_word-at-requires-clause-row
row_word-at-requires-clause-row c = hand_row c.args.table.now c.args.pass.now c.requires.of c.args.row c.requires.held

pub row_word-at-requires-clause-place : goal.row_word-at-requires-clause-place
row_word-at-requires-clause-place c = let s = c.requires.spelled in let low = number_low s.0 in let is = s.2 in omega arith

pub store_as-requires-clause-word : goal.store_as-requires-clause-word
store_as-requires-clause-word c = row_below c.args.table.now c.args.row c.args.place _ (hand_row c.args.table.now c.args.pass.now c.requires.of c.args.row c.requires.held) c.row_word-at.ensures

pub store_as-requires-clause-moves : goal.store_as-requires-clause-moves
store_as-requires-clause-moves c = let table = c.args.table.now in let key = table.start in let p = caller table c.args.pass.now in let r = c.args.row in let s = c.requires.spelled in
    let moves = moves_flat Write key p (index key.layout (row_place r (content_number s.0))) (λ _. content_word s.0) (λ _. writes r (content_number s.0) (content_word s.0)) quiet
    (write_moves key p r s.0 (hand_row table c.args.pass.now c.requires.of r c.requires.held) c.requires.held s.1) in
    subst (λ (z : ℕ × ℕ × ℕ). Moves Write key p z.0 (λ _. z.2) (λ _. writes r z.1 z.2) (λ _. quiet z.2)) (λ i. ((ap (λ n. index key.layout (row_place r n)) s.2 ∙ sym c.row_word-at.ensures) i, s.2 i, s.3 i)) moves
