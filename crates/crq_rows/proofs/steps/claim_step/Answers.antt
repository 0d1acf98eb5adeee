use Rattle.std.proofs.Common.{sym, subst}
use Rattle.crq_base.specs.declared.kinds.StepKind.TheVariants.{Claim}
use Rattle.crq_rule.specs.Kinds.{claims}
use Rattle.crq_rule.specs.Moves.{Moves, TellsRoom}
use Rattle.crq_rule.proofs.RowSteps.{claim_moves}
use Rattle.crq_rows.specs.Passes.{caller}
use Rattle.crq_rows.proofs.Reached.{ripe_row, stamp_below}
use Rattle.crq_rows.proofs.steps.claim_step.Goals as goal

pub store_seated-requires-clause-moves : goal.store_seated-requires-clause-moves
store_seated-requires-clause-moves c = let table = c.args.table.now in let key = table.start in let p = caller table c.args.pass.now in let r = c.args.row in
    subst (λ w. Moves Claim key p w (λ _. 0) (λ _. claims r) (λ _. TellsRoom 0)) (sym c.stamp-word.ensures) (claim_moves key p r c.args.epoch (ripe_row table c.args.pass.now c.requires.of r c.args.epoch c.requires.ripe) c.requires.read c.requires.ripe)

pub stamp-word-requires : goal.stamp-word-requires
stamp-word-requires c = ripe_row c.args.table.now c.args.pass.now c.requires.of c.args.row c.args.epoch c.requires.ripe

pub store_seated-requires-clause-word : goal.store_seated-requires-clause-word
store_seated-requires-clause-word c = stamp_below c.args.table.now c.args.row _ (ripe_row c.args.table.now c.args.pass.now c.requires.of c.args.row c.args.epoch c.requires.ripe) c.stamp-word.ensures
