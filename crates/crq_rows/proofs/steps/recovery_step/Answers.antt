use Rattle.std.proofs.Common.{inl, refl, sym, subst}
use Rattle.crq_base.specs.declared.kinds.StepKind.TheVariants.{EpochLoad}
use Rattle.crq_rule.specs.Moves.{MovesBy, BeginsRecovery}
use Rattle.crq_rule.proofs.GuardSteps.{recovery_moves}
use Rattle.crq_rows.specs.Passes.{caller, StaysAside}
use Rattle.crq_rows.proofs.steps.recovery_step.Goals as goal

pub load_turning-requires-clause-aside : goal.load_turning-requires-clause-aside
load_turning-requires-clause-aside c r p q _ h = subst (StaysAside p) h.after record { hand = refl; debts = inl refl }

pub load_turning-requires-clause-moves : goal.load_turning-requires-clause-moves
load_turning-requires-clause-moves c = let table = c.args.table.now in let p = caller table c.args.pass.now in
    subst (λ w. MovesBy EpochLoad table.start p w (λ n. n) BeginsRecovery) (sym c.epoch.ensures) (recovery_moves table.start p)
