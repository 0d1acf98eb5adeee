use Rattle.std.proofs.Common.{sym, subst}
use Rattle.crq_base.specs.declared.kinds.StepKind.TheVariants.{Confirm}
use Rattle.crq_rule.specs.Kinds.{confirms}
use Rattle.crq_rule.specs.Moves.{Moves, TellsEpoch}
use Rattle.crq_rule.proofs.GuardSteps.{confirm_moves}
use Rattle.crq_rows.specs.Passes.{caller}
use Rattle.crq_rows.proofs.steps.confirm_step.Goals as goal

pub load_as-requires-clause-moves : goal.load_as-requires-clause-moves
load_as-requires-clause-moves c = let table = c.args.table.now in let key = table.start in let p = caller table c.args.pass.now in subst (λ w. Moves Confirm key p w (λ n. n) confirms TellsEpoch) (sym c.epoch-again.ensures) (confirm_moves key p c.requires.entering.0 c.requires.entering.1)
