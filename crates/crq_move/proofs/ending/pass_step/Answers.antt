use Rattle.std.proofs.Common.{◌==◌, ℕ, sym, subst, arith}
use prog.Atomic.{either}
use Rattle.crq_base.specs.declared.kinds.StepKind.TheVariants.{Pass as PassStep}
use Rattle.crq_base.specs.Words.{current_word}
use Rattle.crq_rule.specs.Places.{index, current}
use Rattle.crq_rule.specs.PinKinds.{passed_from}
use Rattle.crq_rule.specs.Moves.{Moves, wins, quiet}
use Rattle.crq_rule.proofs.Glue.{moves_flat}
use Rattle.crq_rule.proofs.EndSteps.{pass_moves}
use Rattle.crq_rows.specs.Passes.{caller}
use Rattle.crq_list.proofs.StepLaws.{place_below}
use Rattle.crq_move.proofs.EndingLaws.{tried_aside, tried}
use Rattle.crq_move.proofs.ending.pass_step.Goals as goal

pub exchange_as-found-requires-clause-word : goal.exchange_as-found-requires-clause-word
exchange_as-found-requires-clause-word c = place_below c.args.table.now current _ tt c.current-word.ensures

pub exchange_as-found-requires-clause-aside : goal.exchange_as-found-requires-clause-aside
exchange_as-found-requires-clause-aside c = tried_aside (current_word c.args.from)

pub exchange_as-found-requires-clause-moves : goal.exchange_as-found-requires-clause-moves
exchange_as-found-requires-clause-moves c = let key = c.args.table.now.start in let p = caller c.args.table.now c.args.pass.now in let y = c.args.from in let m = c.requires.may in let f = wins (current_word y) (λ q. q) in
    subst (λ (z : ℕ × ℕ × ℕ). Moves PassStep key p z.0 (λ m. either (m == z.1) z.2 m) f quiet) (λ i. (sym c.current-word.ensures i, sym c.pack-old.ensures i, sym c.pack.ensures i))
    (moves_flat PassStep key p _ (λ m. either (m == current_word y) (current_word (passed_from y)) m) f quiet (pass_moves key p m.0 m.1 m.2 y record { epoch = omega arith; tick = omega arith } m.3))

pub returns : goal.returns
returns c = tried PassStep c.args.table.now c.args.pass.now c.exchange_as-found.new.pass c.current-word.result c.pack-old.result c.pack.result c.exchange_as-found.result (index c.args.table.now.start.layout current) (current_word c.args.from) (current_word (passed_from c.args.from))
    c.current-word.ensures c.pack-old.ensures c.pack.ensures c.exchange_as-found.ensures.exchanged
