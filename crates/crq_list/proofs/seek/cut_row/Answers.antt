use Rattle.crq_rows.specs.Passes.{caller}
use Rattle.crq_list.proofs.SeekSteps.{may_cut, cut_done, cut_missed}
use Rattle.crq_list.proofs.seek.cut_row.Goals as goal

pub cut_step-requires-clause-may : goal.cut_step-requires-clause-may
cut_step-requires-clause-may c = let s = c.requires.seek in may_cut s.0 c.args.table.now s.1 c.args.sought.now (caller c.args.table.now c.args.pass.now) c.args.before c.args.last s.2

pub returns-then-cut_step : goal.returns-then-cut_step
returns-then-cut_step c = λ n x at. cut_done n c.args.table.now x c.args.sought.now c.args.pass.now c.cut_step.new.pass c.args.before c.args.last c.cut_step.result c.requires.of c.if-cut_step.true c.cut_step.ensures at

pub returns-else-cut_step : goal.returns-else-cut_step
returns-else-cut_step c = λ n x at. cut_missed n c.args.table.now x c.args.sought.now c.args.pass.now c.cut_step.new.pass c.args.before c.args.last c.cut_step.result c.if-cut_step.false c.cut_step.ensures at
