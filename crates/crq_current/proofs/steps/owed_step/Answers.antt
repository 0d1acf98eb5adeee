use Rattle.std.proofs.Common.{cond, refl, sym, ap, subst, None}
use Rattle.crq_base.specs.declared.kinds.StepKind.TheVariants.{SettleLoad}
use Rattle.crq_rule.specs.Moves.{MovesBy, FoundOwed}
use Rattle.crq_rule.proofs.CurrentSteps.{owed_moves}
use Rattle.crq_rows.specs.Passes.{caller}
use Rattle.crq_current.proofs.StepLaws.{viewed_owed, current_below}
use Rattle.crq_current.proofs.steps.owed_step.Goals as goal

pub load_seated-found-requires-clause-word : goal.load_seated-found-requires-clause-word
load_seated-found-requires-clause-word c = current_below c.args.table.now _ c.current-word.ensures

pub load_seated-found-requires-clause-moves : goal.load_seated-found-requires-clause-moves
load_seated-found-requires-clause-moves c = let table = c.args.table.now in let p = caller table c.args.pass.now in
    subst (λ w. MovesBy SettleLoad table.start p w (λ n. n) (FoundOwed c.args.debt.now)) (sym c.current-word.ensures) (owed_moves table.start p c.args.debt.now c.requires.owes)

pub returns-then-ahead : goal.returns-then-ahead
returns-then-ahead c = let y = c.position-current.ensures in let mid = c.load_seated-found.new.pass in
    viewed_owed c.args.table.now c.args.pass.now mid (record mid { debts = record mid.debts { settle = None } }) c.args.debt.now c.position-current.result c.current-word.result c.load_seated-found.result c.lies_ahead-ahead.result
    c.requires.of c.current-word.ensures y.0 y.1 c.lies_ahead-ahead.ensures c.load_seated-found.ensures refl
    (ap (λ b. cond b (record mid.debts { settle = None }) mid.debts) (sym c.if-ahead.true))

pub returns-else-ahead : goal.returns-else-ahead
returns-else-ahead c = let y = c.position-current.ensures in let mid = c.load_seated-found.new.pass in
    viewed_owed c.args.table.now c.args.pass.now mid mid c.args.debt.now c.position-current.result c.current-word.result c.load_seated-found.result c.lies_ahead-ahead.result
    c.requires.of c.current-word.ensures y.0 y.1 c.lies_ahead-ahead.ensures c.load_seated-found.ensures refl
    (ap (λ b. cond b (record mid.debts { settle = None }) mid.debts) (sym c.if-ahead.false))
