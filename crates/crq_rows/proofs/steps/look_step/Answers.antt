use Rattle.std.proofs.Common.{ℕ, sym, subst, ◌∙◌}
use Rattle.crq_base.specs.declared.kinds.StepKind.TheVariants.{Look}
use Rattle.crq_rows.proofs.StampWords.{kept_word, retired_word}
use Rattle.crq_rule.specs.Places.{IsHomeRow}
use Rattle.crq_rule.specs.Kinds.{looks}
use Rattle.crq_rule.specs.Moves.{Moves, quiet}
use Rattle.crq_rule.proofs.RowSteps.{look_moves}
use Rattle.crq_rows.specs.Passes.{caller, Stepped, load_made}
use Rattle.crq_rows.proofs.Reached.{home_row, stamp_below}
use Rattle.crq_rows.proofs.steps.look_step.Goals as goal

pub load_as-word-requires-clause-moves : goal.load_as-word-requires-clause-moves
load_as-word-requires-clause-moves c = let table = c.args.table.now in let key = table.start in let p = caller table c.args.pass.now in let r = c.args.row in
    subst (λ w. Moves Look key p w (λ n. n) (looks r) quiet) (sym c.stamp.ensures) (look_moves key p r (home_row table c.args.pass.now c.requires.of r c.requires.home) (subst (λ j. IsHomeRow key.layout j r) (sym c.requires.of.sits.numbered) c.requires.home))

pub returns-else-word-eq0 : goal.returns-else-word-eq0
returns-else-word-eq0 c = let table = c.args.table.now in let r = c.args.row in let w = c.load_as-word.result in
    subst (λ (z : ℕ × ℕ). Stepped table c.args.pass.now c.load_as-word.new.pass (load_made Look z.0 z.1) (looks r z.1)) (λ i. (c.stamp.ensures i, sym (retired_word w c.if-word-eq0.false) i)) c.load_as-word.ensures.stepped

pub returns-then-word-eq0 : goal.returns-then-word-eq0
returns-then-word-eq0 c = let table = c.args.table.now in let r = c.args.row in
    subst (λ (z : ℕ × ℕ). Stepped table c.args.pass.now c.load_as-word.new.pass (load_made Look z.0 z.1) (looks r z.1)) (λ i. (c.stamp.ensures i, (c.if-word-eq0.true ∙ sym kept_word) i)) c.load_as-word.ensures.stepped

pub stamp-requires : goal.stamp-requires
stamp-requires c = home_row c.args.table.now c.args.pass.now c.requires.of c.args.row c.requires.home

pub load_as-word-requires-clause-word : goal.load_as-word-requires-clause-word
load_as-word-requires-clause-word c = stamp_below c.args.table.now c.args.row _ (home_row c.args.table.now c.args.pass.now c.requires.of c.args.row c.requires.home) c.stamp.ensures
