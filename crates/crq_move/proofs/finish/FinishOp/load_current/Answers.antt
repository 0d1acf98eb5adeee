use Rattle.crq_move.proofs.FinishingLaws.{current_past, current_at}
use Rattle.crq_move.proofs.finish.FinishOp.load_current.Goals as goal

pub returns-then-pin-current : goal.returns-then-pin-current
returns-then-pin-current c n x is = let s = c.current_step-current in current_past n c.args.table.now x c.args.self.now c.args.pass.now s.new.pass is c.args.pin s.result c.requires.state s.ensures c.if-pin-current.true

pub returns : goal.returns
returns c n x is = let s = c.current_step-current in current_at n c.args.table.now x c.args.self.now c.args.pass.now s.new.pass is c.args.pin s.result c.requires.state s.ensures c.if-pin-current.false
