use Rattle.std.proofs.Common.{ℕ, sym, ap, ◌∙◌, subst}
use Rattle.crq_base.specs.declared.kinds.StepKind.TheVariants.{Enter}
use Rattle.crq_rule.specs.Kinds.{enters}
use Rattle.crq_rule.specs.Moves.{Moves, TellsLow}
use Rattle.crq_rule.specs.Places.{index, announced}
use Rattle.crq_rule.proofs.GuardSteps.{enter_moves}
use Rattle.crq_rows.specs.Passes.{caller}
use Rattle.crq_rows.proofs.steps.enter_step.Goals as goal

pub store_as-requires-clause-moves : goal.store_as-requires-clause-moves
store_as-requires-clause-moves c = let table = c.args.table.now in let key = table.start in let p = caller table c.args.pass.now in let e = c.args.epoch in
    let word = ap (λ j. index key.layout (announced j)) c.requires.of.sits.numbered ∙ sym c.announced-word.ensures in
    subst (λ (z : ℕ × ℕ). Moves Enter key p z.0 (λ _. z.1) (λ _. enters e) (λ _. TellsLow e 0)) (λ i. (word i, sym c.saturating_add.ensures i)) (enter_moves key p e c.requires.off c.requires.read)
