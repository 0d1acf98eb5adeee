use Rattle.std.proofs.Common.{sym, subst}
use Rattle.std.proofs.Math.Facts.{Fits-of_lt}
use Rattle.crq_base.specs.declared.kinds.StepKind.TheVariants.{TwinLoad}
use Rattle.crq_rule.specs.CopyKinds.{finds_twin}
use Rattle.crq_rule.specs.Moves.{Moves, TellsTwin}
use Rattle.crq_rule.proofs.Glue.{moves_flat}
use Rattle.crq_rule.proofs.CopySteps.{reload_moves}
use Rattle.crq_rows.specs.Passes.{caller, Stepped, load_made}
use Rattle.crq_move.proofs.EmptySteps.{twin_fits, owed_twin_aside}
use Rattle.crq_move.proofs.steps.owed_twin_step.Goals as goal

pub load_as-requires-clause-aside : goal.load_as-requires-clause-aside
load_as-requires-clause-aside c = owed_twin_aside c.args.debt.now

pub load_as-requires-clause-moves : goal.load_as-requires-clause-moves
load_as-requires-clause-moves c = let key = c.args.table.now.start in let p = caller c.args.table.now c.args.pass.now in let d = c.args.debt.now in
    subst (λ w. Moves TwinLoad key p w (λ n. n) (finds_twin d) TellsTwin) (sym c.row_word-word.ensures) (moves_flat TwinLoad key p _ (λ n. n) (finds_twin d) TellsTwin (reload_moves key p d c.requires.owes))

pub overflow_cast-result : goal.overflow_cast-result
overflow_cast-result c = Fits-of_lt (twin_fits c.args.table.now c.args.pass.now c.load_as.result c.requires.of c.load_as.ensures.told)

pub returns-clause-stepped : goal.returns-clause-stepped
returns-clause-stepped c = let t = c.load_as.result in
    subst (λ w. Stepped c.args.table.now c.args.pass.now c.load_as.new.pass (load_made TwinLoad w t) (finds_twin c.args.debt.now t)) c.row_word-word.ensures c.load_as.ensures.stepped

pub returns-clause-told : goal.returns-clause-told
returns-clause-told c = c.load_as.ensures.told
