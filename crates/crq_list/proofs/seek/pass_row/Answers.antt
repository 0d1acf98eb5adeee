use Rattle.std.proofs.Common.{⊎_elim, ap}
use Rattle.crq_rule.specs.ListKinds.{is_cell}
use Rattle.crq_list.proofs.SeekSteps.{pass_present, pass_dead, pass_frozen}
use Rattle.crq_list.proofs.seek.pass_row.Goals as goal

pub returns-in-Val : goal.returns-in-Val
returns-in-Val c = λ n x at. pass_present n c.args.table.now x c.args.sought.now c.args.pass.now c.walk_step-link.new.pass c.args.before c.walk_step-link.result c.next_of.result
    c.requires.of c.walk_step-link.ensures (⊎_elim (ap is_cell) (ap is_cell) c.in-Val.is) c.next_of.ensures at

pub returns-in-Del : goal.returns-in-Del
returns-in-Del c = λ n x at. pass_dead n c.args.table.now x c.args.sought.now c.args.pass.now c.walk_step-link.new.pass c.args.before c.walk_step-link.result
    c.requires.of c.walk_step-link.ensures c.in-Del.is at

pub returns-in-Mov : goal.returns-in-Mov
returns-in-Mov c = λ n x at. pass_frozen n c.args.table.now x c.args.sought.now c.args.pass.now c.walk_step-link.new.pass c.args.before c.walk_step-link.result
    c.requires.of c.walk_step-link.ensures c.in-Mov.is at
