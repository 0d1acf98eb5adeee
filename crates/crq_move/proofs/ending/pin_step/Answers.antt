use Rattle.std.proofs.Common.{◌==◌, ℕ, sym, subst}
use prog.Atomic.{either}
use Rattle.crq_base.specs.declared.kinds.StepKind.TheVariants.{Pin as PinStep}
use Rattle.crq_base.specs.Words.{pin_word}
use Rattle.crq_rule.specs.Places.{index, pin}
use Rattle.crq_rule.specs.PinKinds.{pin_of}
use Rattle.crq_rule.specs.Moves.{Moves, wins, quiet}
use Rattle.crq_rule.proofs.Glue.{moves_flat}
use Rattle.crq_rule.proofs.EndSteps.{pin_moves}
use Rattle.crq_rows.specs.Passes.{caller}
use Rattle.crq_list.proofs.StepLaws.{place_below}
use Rattle.crq_move.proofs.EndingLaws.{tried_aside, tried}
use Rattle.crq_move.proofs.ending.pin_step.Goals as goal

pub exchange_as-found-requires-clause-word : goal.exchange_as-found-requires-clause-word
exchange_as-found-requires-clause-word c = place_below c.args.table.now pin _ tt c.pin-word.ensures

pub exchange_as-found-requires-clause-aside : goal.exchange_as-found-requires-clause-aside
exchange_as-found-requires-clause-aside c = tried_aside (pin_word c.args.pin)

pub exchange_as-found-requires-clause-moves : goal.exchange_as-found-requires-clause-moves
exchange_as-found-requires-clause-moves c = let key = c.args.table.now.start in let p = caller c.args.table.now c.args.pass.now in let x = c.args.control.now in let n = c.args.pin in let f = wins (pin_word n) (λ q. q) in
    subst (λ (z : ℕ × ℕ × ℕ). Moves PinStep key p z.0 (λ m. either (m == z.1) z.2 m) f quiet) (λ i. (sym c.pin-word.ensures i, sym c.pack-old.ensures i, sym c.pack.ensures i))
    (moves_flat PinStep key p _ (λ m. either (m == pin_word n) (pin_word (pin_of x c.args.epoch)) m) f quiet (pin_moves key p x c.requires.may.0 c.args.epoch n c.requires.bits c.requires.may.1))

pub returns : goal.returns
returns c = tried PinStep c.args.table.now c.args.pass.now c.exchange_as-found.new.pass c.pin-word.result c.pack-old.result c.pack.result c.exchange_as-found.result (index c.args.table.now.start.layout pin) (pin_word c.args.pin) (pin_word (pin_of c.args.control.now c.args.epoch))
    c.pin-word.ensures c.pack-old.ensures c.pack.ensures c.exchange_as-found.ensures.exchanged
