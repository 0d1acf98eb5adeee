use Rattle.crq_move.proofs.BindingLaws.{twin_none, twin_other}
use Rattle.crq_move.proofs.bind.BindOp.twin.Goals as goal

pub returns-then-owed_twin_step-eq0 : goal.returns-then-owed_twin_step-eq0
returns-then-owed_twin_step-eq0 c n x at = let s = c.owed_twin_step in twin_none n c.args.table.now c.args.self.now c.args.pass.now s.new.pass at c.requires.state s.result s.ensures.stepped c.if-owed_twin_step-eq0.true

pub returns-else-owed_twin_step-eq0 : goal.returns-else-owed_twin_step-eq0
returns-else-owed_twin_step-eq0 c n x at = let s = c.owed_twin_step in twin_other n c.args.table.now c.args.self.now c.args.pass.now s.new.pass at c.requires.state s.result s.ensures.stepped c.if-owed_twin_step-eq0.false
