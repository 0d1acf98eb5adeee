use Rattle.std.proofs.Common.{◌==◌, ℕ, cond, None, refl, sym, ap, ◌∙◌, subst, arith, eq-eqb, ne_eqb}
use prog.Atomic.{either}
use Rattle.crq_base.specs.declared.kinds.StepKind.TheVariants.{Settle}
use Rattle.crq_base.specs.Words.{current_word}
use Rattle.crq_rule.specs.CurrentKinds.{owed_position, settles_back}
use Rattle.crq_rule.specs.Moves.{Moves, wins, quiet}
use Rattle.crq_rule.proofs.Glue.{moves_flat}
use Rattle.crq_rule.proofs.CurrentSteps.{settle_moves}
use Rattle.crq_rows.specs.Passes.{caller}
use Rattle.crq_current.proofs.StepLaws.{current_below, settled_back}
use Rattle.crq_current.proofs.steps.settle_step.Goals as goal

pub exchange_seated-found-requires-clause-word : goal.exchange_seated-found-requires-clause-word
exchange_seated-found-requires-clause-word c = current_below c.args.table.now _ c.current-word.ensures

pub exchange_seated-found-requires-clause-moves : goal.exchange_seated-found-requires-clause-moves
exchange_seated-found-requires-clause-moves c = let key = c.args.table.now.start in let p = caller c.args.table.now c.args.pass.now in let d = c.args.debt.now in let y = c.args.from in let f = wins (current_word y) (settles_back d) in
    subst (λ (z : ℕ × ℕ × ℕ). Moves Settle key p z.0 (λ n. either (n == z.1) z.2 n) f quiet) (λ i. (sym c.current-word.ensures i, sym c.pack-old.ensures i, sym (c.pack.ensures ∙ ap current_word c.requires.next) i))
    (moves_flat Settle key p _ (λ n. either (n == current_word y) (current_word (owed_position d y)) n) f quiet (settle_moves key p d y record { epoch = omega arith; tick = omega arith } c.requires.may))

pub returns-then-won : goal.returns-then-won
returns-then-won c = let found = c.exchange_seated-found.result in let from = c.pack-old.result in let mid = c.exchange_seated-found.new.pass in
    settled_back c.args.table.now c.args.pass.now mid (record mid { debts = record mid.debts { settle = None } }) c.args.debt.now c.args.from c.current-word.result found (found == from) from c.pack.result c.requires.of c.current-word.ensures c.pack-old.ensures
    (c.pack.ensures ∙ ap current_word c.requires.next) refl c.exchange_seated-found.ensures.exchanges refl
    (ap (λ b. cond b (record mid.debts { settle = None }) mid.debts) (sym (eq-eqb found from c.if-won.true)))

pub returns-else-won : goal.returns-else-won
returns-else-won c = let found = c.exchange_seated-found.result in let from = c.pack-old.result in let mid = c.exchange_seated-found.new.pass in
    settled_back c.args.table.now c.args.pass.now mid mid c.args.debt.now c.args.from c.current-word.result found (found == from) from c.pack.result c.requires.of c.current-word.ensures c.pack-old.ensures
    (c.pack.ensures ∙ ap current_word c.requires.next) refl c.exchange_seated-found.ensures.exchanges refl
    (ap (λ b. cond b (record mid.debts { settle = None }) mid.debts) (sym (ne_eqb found from c.if-won.false)))
