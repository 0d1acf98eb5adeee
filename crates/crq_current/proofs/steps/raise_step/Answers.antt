use Rattle.std.proofs.Common.{◌==◌, ℕ, sym, ap, ◌∙◌, subst, arith}
use prog.Atomic.{either}
use Rattle.crq_base.specs.declared.kinds.StepKind.TheVariants.{Raise}
use Rattle.crq_base.specs.Words.{current_word}
use Rattle.crq_rule.specs.CurrentKinds.{next_position, raises}
use Rattle.crq_rule.specs.Moves.{Moves, wins, quiet}
use Rattle.crq_rule.proofs.Glue.{moves_flat}
use Rattle.crq_rule.proofs.CurrentSteps.{raise_moves}
use Rattle.crq_rows.specs.Passes.{caller}
use Rattle.crq_current.proofs.StepLaws.{current_below, raised_aside, raised}
use Rattle.crq_current.proofs.steps.raise_step.Goals as goal

pub exchange_as-found-requires-clause-word : goal.exchange_as-found-requires-clause-word
exchange_as-found-requires-clause-word c = current_below c.args.table.now _ c.current-word.ensures

pub exchange_as-found-requires-clause-aside : goal.exchange_as-found-requires-clause-aside
exchange_as-found-requires-clause-aside c = raised_aside (current_word c.args.from)

pub exchange_as-found-requires-clause-moves : goal.exchange_as-found-requires-clause-moves
exchange_as-found-requires-clause-moves c = let key = c.args.table.now.start in let p = caller c.args.table.now c.args.pass.now in let x = c.args.control.now in let y = c.args.from in let f = wins (current_word y) raises in
    subst (λ (z : ℕ × ℕ × ℕ). Moves Raise key p z.0 (λ n. either (n == z.1) z.2 n) f quiet) (λ i. (sym c.current-word.ensures i, sym c.pack-old.ensures i, sym (c.pack.ensures ∙ ap current_word c.requires.next) i))
    (moves_flat Raise key p _ (λ n. either (n == current_word y) (current_word (next_position x y)) n) f quiet (raise_moves key p x y record { epoch = omega arith; tick = omega arith } c.requires.may))

pub returns : goal.returns
returns c = raised c.args.table.now c.args.pass.now c.exchange_as-found.new.pass c.args.control.now c.args.from c.current-word.result c.pack-old.result c.pack.result c.exchange_as-found.result
    c.current-word.ensures c.pack-old.ensures (c.pack.ensures ∙ ap current_word c.requires.next) c.exchange_as-found.ensures.exchanged
