use Rattle.crq_move.proofs.TwinLaws.{may_twin, twin_none, twin_some}
use Rattle.crq_move.proofs.empty.MoveOp.twin.Goals as goal

pub twin_step-twin-requires-clause-may : goal.twin_step-twin-requires-clause-may
twin_step-twin-requires-clause-may c = let o = c.requires.op in may_twin o.0 c.args.table.now o.1 c.args.self.now c.args.pass.now c.args.pass.now c.requires.of o.2 c.args.head c.args.last c.requires.state

pub returns-then-twin-eq0 : goal.returns-then-twin-eq0
returns-then-twin-eq0 c n x at = let s = c.twin_step-twin in
    twin_none n c.args.table.now x c.args.self.now c.args.pass.now s.new.pass c.requires.of at c.args.head c.args.last c.requires.state s.result c.unread.result c.if-twin-eq0.true c.requires.room s.ensures.stepped

pub returns-else-twin-eq0 : goal.returns-else-twin-eq0
returns-else-twin-eq0 c n x at = let s = c.twin_step-twin in
    twin_some n c.args.table.now x c.args.self.now c.args.pass.now s.new.pass c.requires.of at c.args.head c.args.last c.requires.state s.result c.if-twin-eq0.false c.requires.room s.ensures.stepped
