use Rattle.std.proofs.Common.{sym, subst}
use Rattle.crq_base.specs.declared.kinds.StepKind.TheVariants.{Scan}
use Rattle.crq_rule.specs.Kinds.{scans}
use Rattle.crq_rule.specs.Moves.{Moves, quiet}
use Rattle.crq_rule.proofs.GuardSteps.{scan_moves}
use Rattle.crq_rows.specs.Passes.{caller}
use Rattle.crq_rows.proofs.steps.scan_step.Goals as goal

pub load_as-requires-clause-moves : goal.load_as-requires-clause-moves
load_as-requires-clause-moves c = let table = c.args.table.now in let key = table.start in let p = caller table c.args.pass.now in let k = c.args.number in subst (λ w. Moves Scan key p w (λ n. n) (scans k) quiet) (sym c.announced.ensures) (scan_moves key p k c.requires.inside)
