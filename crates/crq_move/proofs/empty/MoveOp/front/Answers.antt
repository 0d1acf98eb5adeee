use Rattle.std.proofs.Common.{refl}
use Rattle.crq_rows.specs.Passes.{caller}
use Rattle.crq_move.proofs.ReadLaws.{front_stands, front_more, front_done}
use Rattle.crq_move.proofs.empty.MoveOp.front.Goals as goal

pub read_word-event-requires-clause-stands : goal.read_word-event-requires-clause-stands
read_word-event-requires-clause-stands c = let o = c.requires.op in front_stands o.0 c.args.table.now o.1 c.args.self.now (caller c.args.table.now c.args.pass.now) o.2 c.args.head c.args.link c.args.read c.args.place c.requires.state

pub returns-then-place-lt5 : goal.returns-then-place-lt5
returns-then-place-lt5 c n x at = let r = c.read_word-event in let s = r.ensures.stepped in
    front_more n c.args.table.now x c.args.self.now c.args.pass.now r.new.pass at c.args.head.row c.args.place s.0 s.1 c.args.head c.args.link c.args.read r.result c.requires.state refl c.requires.room r.ensures.read c.if-place-lt5.true

pub returns-else-place-lt5 : goal.returns-else-place-lt5
returns-else-place-lt5 c n x at = let r = c.read_word-event in let s = r.ensures.stepped in
    front_done n c.args.table.now x c.args.self.now c.args.pass.now r.new.pass at c.args.head.row c.args.place s.0 s.1 c.args.head c.args.link c.args.read r.result c.requires.state refl c.requires.room r.ensures.read c.if-place-lt5.false
