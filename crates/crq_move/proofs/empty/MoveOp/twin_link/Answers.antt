use Rattle.crq_move.proofs.TwinLaws.{on_twin, link_invalid, link_valid}
use Rattle.crq_move.proofs.empty.MoveOp.twin_link.Goals as goal

pub row_step-link-requires-clause-on : goal.row_step-link-requires-clause-on
row_step-link-requires-clause-on c = let o = c.requires.op in on_twin o.0 c.args.table.now o.1 c.args.self.now c.args.pass.now c.args.pass.now c.requires.of o.2 c.args.head c.args.last c.args.twin c.requires.state

pub returns-in-Inv : goal.returns-in-Inv
returns-in-Inv c n x at = let s = c.row_step-link in
    link_invalid n c.args.table.now x c.args.self.now c.args.pass.now s.new.pass c.requires.of at c.args.head c.args.last c.args.twin c.requires.state s.result s.ensures c.in-Inv.is c.requires.room

pub returns-in_default : goal.returns-in_default
returns-in_default c n x at = let s = c.row_step-link in
    link_valid n c.args.table.now x c.args.self.now c.args.pass.now s.new.pass c.requires.of at c.args.head c.args.last c.args.twin c.requires.state s.result s.ensures c.in_default.not-Inv c.requires.room
