use Rattle.std.proofs.Common.{sym, subst}
use Rattle.crq_base.specs.declared.kinds.StepKind.TheVariants.{EpochLoad}
use Rattle.crq_rule.specs.Kinds.{loads_epoch}
use Rattle.crq_rule.specs.Moves.{Moves, TellsEpoch}
use Rattle.crq_rule.proofs.GuardSteps.{load_moves}
use Rattle.crq_rows.specs.Passes.{caller}
use Rattle.crq_rows.proofs.steps.epoch_step.Goals as goal

pub load_as-requires-clause-moves : goal.load_as-requires-clause-moves
load_as-requires-clause-moves c = let table = c.args.table.now in let key = table.start in let p = caller table c.args.pass.now in subst (λ w. Moves EpochLoad key p w (λ n. n) loads_epoch TellsEpoch) (sym c.epoch.ensures) (load_moves key p)
