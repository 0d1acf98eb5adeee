use Rattle.std.proofs.Common.{inl, refl, sym, subst}
use Rattle.crq_base.specs.declared.kinds.StepKind.TheVariants.{PinLoad}
use Rattle.crq_rule.specs.Places.{pin}
use Rattle.crq_rule.specs.Moves.{MovesBy, FoundPin}
use Rattle.crq_rule.proofs.EndSteps.{pin_load_moves}
use Rattle.crq_rows.specs.Passes.{caller, StaysAside}
use Rattle.crq_list.proofs.StepLaws.{place_below}
use Rattle.crq_move.proofs.EndingLaws.{pin_loaded}
use Rattle.crq_move.proofs.ending.pin_load_step.Goals as goal

pub load_turning-found-requires-clause-word : goal.load_turning-found-requires-clause-word
load_turning-found-requires-clause-word c = place_below c.args.table.now pin _ tt c.pin-word.ensures

pub load_turning-found-requires-clause-aside : goal.load_turning-found-requires-clause-aside
load_turning-found-requires-clause-aside c r p q _ h = subst (StaysAside p) h.after record { hand = refl; debts = inl refl }

pub load_turning-found-requires-clause-moves : goal.load_turning-found-requires-clause-moves
load_turning-found-requires-clause-moves c = let table = c.args.table.now in let p = caller table c.args.pass.now in
    subst (λ w. MovesBy PinLoad table.start p w (λ n. n) FoundPin) (sym c.pin-word.ensures) (pin_load_moves table.start p)

pub returns : goal.returns
returns c = let y = c.in-Some.ensures.found in
    pin_loaded c.args.table.now c.args.pass.now c.load_turning-found.new.pass c.pin-word.result c.load_turning-found.result c.in-Some.pin c.pin-word.ensures y.0 y.1 c.load_turning-found.ensures
