use Rattle.std.proofs.Common.{◌+◌, sym, subst, arith}
use Rattle.crq_rule.specs.Parts.{IsEvent}
use Rattle.crq_list.specs.declared.parts.Progress.TheVariants.{More}
use Rattle.crq_list.specs.declared.take.TakeState.TheVariants.{Reading}
use Rattle.crq_list.specs.Taking.{take_at, row_read}
use Rattle.crq_list.proofs.TakeLaws.{is_event, read_stepped, whole_stepped}
use Rattle.crq_list.proofs.TakeMarks.{answers_so}
use Rattle.crq_list.proofs.take.TakeOp.read.Goals as goal

pub with_word-event-requires-clause-word : goal.with_word-event-requires-clause-word
with_word-event-requires-clause-word c = let w = c.requires.op.2.at.1.0 in let on = w.on in (w.event, (is_event c.args.table.now c.args.pass.now c.args.row w.event c.requires.of (on.0, on.1, on.2, on.3)).0, c.read_step-word.ensures.word w.event (on.0, on.1, on.2, on.3))

pub returns-then-place-lt5 : goal.returns-then-place-lt5
returns-then-place-lt5 c n x t = let table = c.args.table.now in let op = c.args.self in let old = c.args.pass.now in let r = c.args.row in let l = c.args.link in let k = c.args.place in let f = c.args.first in let got = c.with_word-event.result in
    answers_so n table x (take_at op (Reading r l k c.args.unread f)) old _ (c.at.result, More) (take_at op (Reading r l (k + 1) got f), More) (λ i. (c.at.ensures i, More))
    (λ control u. read_stepped n table op r l k c.args.unread f op.place old _ c.read_step-word.result got c.requires.of c.read_step-word.ensures.stepped c.read_step-word.ensures.word c.with_word-event.ensures u c.if-place-lt5.true) c.requires.of.lawful t

pub row_read-requires-clause-best : goal.row_read-requires-clause-best
row_read-requires-clause-best c d is = is_event c.args.table.now c.args.pass.now d.row d.event c.requires.of (c.requires.op.2.at.0 d is).present.on

pub row_read-requires-clause-row : goal.row_read-requires-clause-row
row_read-requires-clause-row c = let t = c.requires.op.2 in let w = t.at.1.0 in let on = w.on in let known = is_event c.args.table.now c.args.pass.now c.args.row w.event c.requires.of (on.0, on.1, on.2, on.3) in
    (subst IsEvent (sym ((c.with_word-event.ensures w.event known.0 (c.read_step-word.ensures.word w.event (on.0, on.1, on.2, on.3)) t.at.1.2).1 (let six = t.at.3 in let five = c.if-place-lt5.false in omega arith))) known.0, known.1)

pub returns : goal.returns
returns c n x t = let table = c.args.table.now in let op = c.args.self in let old = c.args.pass.now in let r = c.args.row in let l = c.args.link in let k = c.args.place in let f = c.args.first in let got = c.with_word-event.result in
    answers_so n table x (take_at op (Reading r l k c.args.unread f)) old _ c.row_read.result (row_read op.place op r l got f) c.row_read.ensures
    (λ control u. whole_stepped n table op r l k c.args.unread f op.place old _ c.read_step-word.result got c.requires.of c.read_step-word.ensures.stepped c.read_step-word.ensures.word c.with_word-event.ensures u control c.if-place-lt5.false) c.requires.of.lawful t
