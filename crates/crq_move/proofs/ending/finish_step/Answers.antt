use Rattle.std.proofs.Common.{◌==◌, ℕ, sym, subst}
use prog.Atomic.{either}
use Rattle.crq_base.specs.declared.kinds.StepKind.TheVariants.{Finish}
use Rattle.crq_base.specs.Words.{control_word}
use Rattle.crq_rule.specs.Places.{index, control}
use Rattle.crq_rule.specs.PinKinds.{opened_from}
use Rattle.crq_rule.specs.Moves.{Moves, wins, quiet}
use Rattle.crq_rule.proofs.Glue.{moves_flat}
use Rattle.crq_rule.proofs.EndSteps.{finish_moves}
use Rattle.crq_rows.specs.Passes.{caller}
use Rattle.crq_list.proofs.StepLaws.{place_below}
use Rattle.crq_move.proofs.EndingLaws.{tried_aside, tried}
use Rattle.crq_move.proofs.ending.finish_step.Goals as goal

pub exchange_as-found-requires-clause-word : goal.exchange_as-found-requires-clause-word
exchange_as-found-requires-clause-word c = place_below c.args.table.now control _ tt c.control-word.ensures

pub exchange_as-found-requires-clause-aside : goal.exchange_as-found-requires-clause-aside
exchange_as-found-requires-clause-aside c = tried_aside (control_word c.args.control.now)

pub exchange_as-found-requires-clause-moves : goal.exchange_as-found-requires-clause-moves
exchange_as-found-requires-clause-moves c = let key = c.args.table.now.start in let p = caller c.args.table.now c.args.pass.now in let x = c.args.control.now in let m = c.requires.may in let f = wins (control_word x) (λ q. q) in
    subst (λ (z : ℕ × ℕ × ℕ). Moves Finish key p z.0 (λ m. either (m == z.1) z.2 m) f quiet) (λ i. (sym c.control-word.ensures i, sym c.pack-old.ensures i, sym c.pack.ensures i))
    (moves_flat Finish key p _ (λ m. either (m == control_word x) (control_word (opened_from x)) m) f quiet (finish_moves key p x m.0 m.1 m.2 (c.requires.of.lawful.controlled x m.3.helper.control).0 m.3))

pub returns : goal.returns
returns c = tried Finish c.args.table.now c.args.pass.now c.exchange_as-found.new.pass c.control-word.result c.pack-old.result c.pack.result c.exchange_as-found.result (index c.args.table.now.start.layout control) (control_word c.args.control.now) (control_word (opened_from c.args.control.now))
    c.control-word.ensures c.pack-old.ensures c.pack.ensures c.exchange_as-found.ensures.exchanged
