use Rattle.std.proofs.Common.{⊎_elim, ap}
use Rattle.crq_rule.specs.ListKinds.{is_cell}
use Rattle.crq_list.proofs.SeekSteps.{load_present, load_dead, load_frozen, load_other}
use Rattle.crq_list.proofs.seek.load.Goals as goal

pub returns-in-Val : goal.returns-in-Val
returns-in-Val c = λ n x at. load_present n c.args.table.now x c.args.sought.now c.args.pass.now c.walk_step-link.new.pass c.args.spot c.walk_step-link.result c.next_of.result
    c.requires.of c.walk_step-link.ensures (⊎_elim (ap is_cell) (ap is_cell) c.in-Val.is) c.if-link-sought.false c.next_of.ensures at

pub returns-in-Del : goal.returns-in-Del
returns-in-Del c = λ n x at. load_dead n c.args.table.now x c.args.sought.now c.args.pass.now c.walk_step-link.new.pass c.args.spot c.walk_step-link.result c.requires.of c.walk_step-link.ensures c.in-Del.is c.if-link-sought.false at

pub returns-in-Mov : goal.returns-in-Mov
returns-in-Mov c = λ n x at. load_frozen n c.args.table.now x c.args.sought.now c.args.pass.now c.walk_step-link.new.pass c.args.spot c.walk_step-link.result c.requires.of c.walk_step-link.ensures c.in-Mov.is at

pub returns-then-link-sought : goal.returns-then-link-sought
returns-then-link-sought c = λ n x at. load_other n c.args.table.now x c.args.sought.now c.args.pass.now c.walk_step-link.new.pass c.args.spot c.walk_step-link.result c.requires.of c.walk_step-link.ensures c.if-link-sought.true at
