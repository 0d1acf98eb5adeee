use Rattle.std.proofs.Common.{sym, ap, ◌∙◌, subst}
use Rattle.crq_base.specs.declared.kinds.StepKind.TheVariants.{Leave}
use Rattle.crq_rule.specs.Kinds.{leaves}
use Rattle.crq_rule.specs.Moves.{Moves, quiet}
use Rattle.crq_rule.specs.Places.{index, announced}
use Rattle.crq_rule.proofs.GuardSteps.{leave_moves}
use Rattle.crq_rows.specs.Passes.{caller}
use Rattle.crq_rows.proofs.steps.leave_step.Goals as goal

pub store_as-requires-clause-moves : goal.store_as-requires-clause-moves
store_as-requires-clause-moves c = let table = c.args.table.now in let key = table.start in let p = caller table c.args.pass.now in
    let word = ap (λ j. index key.layout (announced j)) c.requires.of.sits.numbered ∙ sym c.announced-word.ensures in
    subst (λ w. Moves Leave key p w (λ _. 0) (λ _. leaves) quiet) word (leave_moves key p c.requires.cut (c.requires.of.debts.copy ∙ c.requires.copy))
