use Rattle.std.proofs.Common.{arith}
use Rattle.std.proofs.lemmas.List.{nil_from_length}
use Rattle.crq_rows.specs.Passes.{caller}
use Rattle.crq_move.proofs.ReadLaws.{read_stands, read_more}
use Rattle.crq_move.proofs.BeginLaws.{front_in, read_short, read_begins}
use Rattle.crq_move.proofs.empty.MoveOp.read.Goals as goal

pub read_word-event-requires-clause-stands : goal.read_word-event-requires-clause-stands
read_word-event-requires-clause-stands c = let o = c.requires.op in read_stands o.0 c.args.table.now o.1 c.args.self.now (caller c.args.table.now c.args.pass.now) o.2 c.args.row c.args.last c.args.read c.args.place c.requires.state

pub returns-then-place-lt5 : goal.returns-then-place-lt5
returns-then-place-lt5 c n x at = let r = c.read_word-event in let s = r.ensures.stepped in
    read_more n c.args.table.now x c.args.self.now c.args.pass.now r.new.pass at c.args.row c.args.place s.0 s.1 c.args.last c.args.read r.result c.requires.state c.requires.room r.ensures.read c.if-place-lt5.true

pub returns-in_default : goal.returns-in_default
returns-in_default c n x at = let r = c.read_word-event in let s = r.ensures.stepped in let item = c.in_default.ensures.item in
    read_short n c.args.table.now x c.args.self.now c.args.pass.now r.new.pass at c.args.row c.args.place s.0 s.1 c.args.last c.args.read r.result c.requires.state c.requires.room r.ensures.read c.if-place-lt5.false (nil_from_length r.new.pass.free.items (omega arith))

pub returns : goal.returns
returns c n x at = let r = c.read_word-event in let s = r.ensures.stepped in let item = c.in-Some.ensures.item in
    read_begins n c.args.table.now x c.args.self.now c.args.pass.now r.new.pass at c.args.row c.args.place s.0 s.1 c.args.last c.args.read r.result c.requires.state c.requires.room r.ensures.read c.if-place-lt5.false c.copy.result c.in-Some.copy.now c.next_list.result (front_in r.new.pass.free.items c.in-Some.copy.now (omega arith) item.1) c.next_list.ensures c.copy.ensures
