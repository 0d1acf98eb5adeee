use Rattle.std.proofs.Common.{inl, refl, sym, subst}
use Rattle.crq_base.specs.declared.kinds.StepKind.TheVariants.{CurrentLoad}
use Rattle.crq_rule.specs.Places.{current}
use Rattle.crq_rule.specs.Moves.{MovesBy, FoundForPin}
use Rattle.crq_rule.proofs.EndSteps.{for_pin_moves}
use Rattle.crq_rows.specs.Passes.{caller, StaysAside}
use Rattle.crq_list.proofs.StepLaws.{place_below}
use Rattle.crq_move.proofs.EndingLaws.{loaded_for_pin}
use Rattle.crq_move.proofs.ending.for_pin_step.Goals as goal

pub load_turning-found-requires-clause-word : goal.load_turning-found-requires-clause-word
load_turning-found-requires-clause-word c = place_below c.args.table.now current _ tt c.current-word.ensures

pub load_turning-found-requires-clause-aside : goal.load_turning-found-requires-clause-aside
load_turning-found-requires-clause-aside c r p q _ h = subst (StaysAside p) h.after record { hand = refl; debts = inl refl }

pub load_turning-found-requires-clause-moves : goal.load_turning-found-requires-clause-moves
load_turning-found-requires-clause-moves c = let table = c.args.table.now in let p = caller table c.args.pass.now in
    subst (λ w. MovesBy CurrentLoad table.start p w (λ n. n) FoundForPin) (sym c.current-word.ensures) (for_pin_moves table.start p c.args.control.now c.requires.may.0 c.requires.may.1)

pub returns : goal.returns
returns c = let y = c.in-Some.ensures.found in
    loaded_for_pin c.args.table.now c.args.pass.now c.load_turning-found.new.pass c.current-word.result c.load_turning-found.result c.in-Some.current c.current-word.ensures y.0 y.1 c.load_turning-found.ensures
