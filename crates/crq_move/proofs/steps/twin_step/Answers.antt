use Rattle.std.proofs.Common.{sym, subst}
use Rattle.std.proofs.Math.Facts.{Fits-of_lt}
use Rattle.crq_base.specs.declared.kinds.StepKind.TheVariants.{TwinLoad}
use Rattle.crq_rule.specs.Places.{twin}
use Rattle.crq_rule.specs.CopyKinds.{loads_twin}
use Rattle.crq_rule.specs.Moves.{Moves, TellsTwin}
use Rattle.crq_rule.proofs.Glue.{moves_flat}
use Rattle.crq_rule.proofs.CopySteps.{twin_moves}
use Rattle.crq_rows.specs.Passes.{caller, Stepped, load_made}
use Rattle.crq_list.proofs.StepLaws.{place_below}
use Rattle.crq_move.proofs.EmptySteps.{on_row, twin_fits, twin_aside}
use Rattle.crq_move.proofs.steps.twin_step.Goals as goal

pub row_word-word-requires-clause-row : goal.row_word-word-requires-clause-row
row_word-word-requires-clause-row c = let on = c.requires.may.on in on_row c.args.table.now c.args.pass.now on.0 c.args.row c.requires.of on.1 on.2

pub load_as-requires-clause-word : goal.load_as-requires-clause-word
load_as-requires-clause-word c = let on = c.requires.may.on in place_below c.args.table.now (twin c.args.row) _ (on_row c.args.table.now c.args.pass.now on.0 c.args.row c.requires.of on.1 on.2) c.row_word-word.ensures

pub load_as-requires-clause-aside : goal.load_as-requires-clause-aside
load_as-requires-clause-aside c = twin_aside c.args.row

pub load_as-requires-clause-moves : goal.load_as-requires-clause-moves
load_as-requires-clause-moves c = let key = c.args.table.now.start in let p = caller c.args.table.now c.args.pass.now in let r = c.args.row in
    subst (λ w. Moves TwinLoad key p w (λ n. n) (loads_twin r) TellsTwin) (sym c.row_word-word.ensures) (moves_flat TwinLoad key p _ (λ n. n) (loads_twin r) TellsTwin (twin_moves key p r c.requires.may))

pub overflow_cast-result : goal.overflow_cast-result
overflow_cast-result c = Fits-of_lt (twin_fits c.args.table.now c.args.pass.now c.load_as.result c.requires.of c.load_as.ensures.told)

pub returns-clause-stepped : goal.returns-clause-stepped
returns-clause-stepped c = let t = c.load_as.result in
    subst (λ w. Stepped c.args.table.now c.args.pass.now c.load_as.new.pass (load_made TwinLoad w t) (loads_twin c.args.row t)) c.row_word-word.ensures c.load_as.ensures.stepped

pub returns-clause-told : goal.returns-clause-told
returns-clause-told c = c.load_as.ensures.told
