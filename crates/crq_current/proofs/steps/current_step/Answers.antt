use Rattle.std.proofs.Common.{inl, refl, sym, subst}
use Rattle.crq_base.specs.declared.kinds.StepKind.TheVariants.{CurrentLoad}
use Rattle.crq_rule.specs.Moves.{MovesBy, FoundCurrent}
use Rattle.crq_rule.proofs.CurrentSteps.{current_moves}
use Rattle.crq_rows.specs.Passes.{caller, StaysAside}
use Rattle.crq_current.proofs.StepLaws.{viewed, current_below}
use Rattle.crq_current.proofs.steps.current_step.Goals as goal

pub load_turning-found-requires-clause-word : goal.load_turning-found-requires-clause-word
load_turning-found-requires-clause-word c = current_below c.args.table.now _ c.current-word.ensures

pub load_turning-found-requires-clause-aside : goal.load_turning-found-requires-clause-aside
load_turning-found-requires-clause-aside c r p q _ h = subst (StaysAside p) h.after record { hand = refl; debts = inl refl }

pub load_turning-found-requires-clause-moves : goal.load_turning-found-requires-clause-moves
load_turning-found-requires-clause-moves c = let table = c.args.table.now in let p = caller table c.args.pass.now in
    subst (λ w. MovesBy CurrentLoad table.start p w (λ n. n) (FoundCurrent c.args.walks)) (sym c.current-word.ensures) (current_moves table.start p c.args.walks c.requires.may)

pub returns : goal.returns
returns c = let y = c.position.ensures in
    viewed c.args.table.now c.args.pass.now c.load_turning-found.new.pass c.args.walks c.current-word.result c.load_turning-found.result c.position.result c.current-word.ensures y.0 y.1 c.load_turning-found.ensures
