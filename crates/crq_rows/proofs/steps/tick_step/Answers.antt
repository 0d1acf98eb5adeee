use Rattle.std.proofs.Common.{◌+◌, eqb, sym, subst}
use prog.Atomic.{either}
use Rattle.crq_base.specs.declared.kinds.StepKind.TheVariants.{Tick}
use Rattle.crq_rule.specs.Kinds.{ticks, HasScanned}
use Rattle.crq_rule.specs.Moves.{Moves, TellsEpoch}
use Rattle.crq_rule.proofs.GuardSteps.{tick_moves}
use Rattle.crq_rows.specs.Passes.{caller}
use Rattle.crq_rows.proofs.steps.tick_step.Goals as goal

pub exchange_as-found-requires-clause-moves : goal.exchange_as-found-requires-clause-moves
exchange_as-found-requires-clause-moves c = let table = c.args.table.now in let key = table.start in let p = caller table c.args.pass.now in let x = c.args.from in
    subst (λ w. Moves Tick key p w (λ n. either (eqb n x) (x + 1) n) (ticks x) TellsEpoch) (sym c.epoch-word.ensures)
    (tick_moves key p x c.requires.below c.requires.loaded c.requires.off (subst (λ j. HasScanned key.layout.workers j p.tick) (sym c.requires.of.sits.numbered) c.requires.scanned))
