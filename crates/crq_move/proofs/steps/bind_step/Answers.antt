use Rattle.std.proofs.Common.{◌==◌, ℕ, cond, true, false, refl, sym, subst, eq-eqb, ne_eqb}
use prog.Atomic.{either}
use Rattle.std.proofs.Math.Facts.{Fits-of_lt}
use Rattle.crq_base.specs.declared.kinds.StepKind.TheVariants.{Bind}
use Rattle.crq_rule.specs.CopyKinds.{binds, finds_twin}
use Rattle.crq_rule.specs.Moves.{Moves, TellsTwin}
use Rattle.crq_rule.specs.declared.view.Caller.{Caller}
use Rattle.crq_rule.proofs.Glue.{moves_flat}
use Rattle.crq_rule.proofs.CopySteps.{bind_moves}
use Rattle.crq_rows.specs.Passes.{caller}
use Rattle.crq_move.proofs.EmptySteps.{twin_fits, bound}
use Rattle.crq_move.proofs.steps.bind_step.Goals as goal
use Rattle.crq_move.proofs.steps.bind_step.Goals.{then-found-eq0, else-found-eq0}

pub exchange_seated-found-requires-clause-moves : goal.exchange_seated-found-requires-clause-moves
exchange_seated-found-requires-clause-moves c = let key = c.args.table.now.start in let p = caller c.args.table.now c.args.pass.now in let d = c.args.debt.now in
    let f = λ (t : ℕ) (q : Caller). cond (t == 0) (binds d q) (finds_twin d t q) in
    subst (λ (z : ℕ × ℕ). Moves Bind key p z.0 (λ n. either (n == 0) z.1 n) f TellsTwin) (λ i. (sym c.row_word-word.ensures i, sym c.from.ensures i))
    (moves_flat Bind key p _ (λ n. either (n == 0) d.copy n) f TellsTwin (bind_moves key p d c.requires.owes))

pub overflow_cast-result : goal.overflow_cast-result
overflow_cast-result c = Fits-of_lt (twin_fits c.args.table.now c.args.pass.now c.exchange_seated-found.result c.requires.of c.exchange_seated-found.ensures.told)

pub returns : goal.returns
returns c = let table = c.args.table.now in let old = c.args.pass.now in let mid = c.exchange_seated-found.new.pass in let found = c.exchange_seated-found.result in let d = c.args.debt.now in
    elim c.if-found-eq0.branch [
      | then-found-eq0 w ↦ bound table old mid c.if-found-eq0.pass c.row_word-word.result 0 c.from.result found d true c.requires.of c.row_word-word.ensures refl c.from.ensures (eq-eqb found 0 w.if-found-eq0.true) c.exchange_seated-found.ensures.told c.exchange_seated-found.ensures.exchanges w.pass-is
      | else-found-eq0 w ↦ bound table old mid c.if-found-eq0.pass c.row_word-word.result 0 c.from.result found d false c.requires.of c.row_word-word.ensures refl c.from.ensures (ne_eqb found 0 w.if-found-eq0.false) c.exchange_seated-found.ensures.told c.exchange_seated-found.ensures.exchanges w.pass-is
    ]
