use Rattle.std.proofs.Common.{◌+◌, refl}
use Rattle.crq_list.specs.declared.parts.Progress.TheVariants.{More}
use Rattle.crq_list.specs.declared.take.TakeState.TheVariants.{Reading}
use Rattle.crq_list.specs.Taking.{take_at, row_read}
use Rattle.crq_list.proofs.TakeLaws.{is_event, read_stepped, whole_stepped}
use Rattle.crq_list.proofs.TakeMarks.{answers_so, row_in}
use Rattle.crq_list.proofs.take.TakeOp.read_in.Goals as goal

pub with_word-event-requires-clause-word : goal.with_word-event-requires-clause-word
with_word-event-requires-clause-word c = let w = c.requires.op.2.at.1.0 in let on = w.on in (w.event, (is_event c.args.table.now c.args.pass.now c.args.row w.event c.requires.of (on.0, on.1, on.2, on.3)).0, c.read_step-word.ensures.word w.event (on.0, on.1, on.2, on.3))

pub returns-then-place-lt5-clause-stepped : goal.returns-then-place-lt5-clause-stepped
returns-then-place-lt5-clause-stepped c n x t = let table = c.args.table.now in let op = c.args.self.now in let old = c.args.pass.now in let r = c.args.row in let l = c.args.link in let k = c.args.place in let f = c.args.first in let got = c.with_word-event.result in
    answers_so n table x (take_at op (Reading r l k c.args.unread f)) old _ _ (take_at op (Reading r l (k + 1) got f), More) refl
    (λ control u. read_stepped n table op r l k c.args.unread f op.place old _ c.read_step-word.result got c.requires.of c.read_step-word.ensures.stepped c.read_step-word.ensures.word c.with_word-event.ensures u c.if-place-lt5.true) c.requires.of.lawful t

pub returns-then-place-lt5-clause-same : goal.returns-then-place-lt5-clause-same
returns-then-place-lt5-clause-same c other found next read head is = (cc, cc, cc)

pub returns-clause-stepped : goal.returns-clause-stepped
returns-clause-stepped c n x t = let table = c.args.table.now in let op = c.args.self.now in let old = c.args.pass.now in let r = c.args.row in let l = c.args.link in let k = c.args.place in let f = c.args.first in let got = c.with_word-event.result in let told = c.row_read_in.result in
    answers_so n table x (take_at op (Reading r l k c.args.unread f)) old _ (take_at op told.0, told.1) (row_read op.place op r l got f) (row_in op c.args.bucket c.requires.place r l got f told c.row_read_in.ensures)
    (λ control u. whole_stepped n table op r l k c.args.unread f op.place old _ c.read_step-word.result got c.requires.of c.read_step-word.ensures.stepped c.read_step-word.ensures.word c.with_word-event.ensures u control c.if-place-lt5.false) c.requires.of.lawful t
