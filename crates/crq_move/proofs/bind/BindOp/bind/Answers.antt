use Rattle.crq_move.proofs.BindingLaws.{bind_won, bind_lost}
use Rattle.crq_move.proofs.bind.BindOp.bind.Goals as goal

pub returns-then-bind_step-eq0 : goal.returns-then-bind_step-eq0
returns-then-bind_step-eq0 c n x at = let s = c.bind_step in bind_won n c.args.table.now c.args.self.now c.args.pass.now s.new.pass at c.requires.of c.requires.state s.result s.ensures c.if-bind_step-eq0.true

pub returns : goal.returns
returns c n x at = let s = c.bind_step in bind_lost n c.args.table.now c.args.self.now c.args.pass.now s.new.pass at c.requires.of c.requires.state s.result s.ensures c.if-bind_step-eq0.false
