use Rattle.std.proofs.Common.{refl}
use Rattle.crq_list.specs.declared.parts.Progress.TheVariants.{Done}
use Rattle.crq_list.specs.declared.take.MarkEnd.TheVariants.{Marked, Lost}
use Rattle.crq_list.specs.declared.take.TakeState.TheVariants.{Load, Marking}
use Rattle.crq_list.specs.Taking.{take_at}
use Rattle.crq_list.proofs.TakeMarks.{marks_row, marks_not, answers_so}
use Rattle.crq_list.proofs.take.TakeOp.mark.Goals as goal

pub returns-then-mark_step : goal.returns-then-mark_step
returns-then-mark_step c n x t = let table = c.args.table.now in let op = c.args.self.now in let old = c.args.pass.now in let r = c.args.row in let l = c.args.link in let e = c.args.event in let f = c.args.first in
    answers_so n table x (take_at op (Marking r l e f)) old _ _ (take_at op Load, Done (Marked r e c.cut_of-cut.result)) refl
    (λ control u. marks_row n table op r l e f op.place old _ c.requires.of control u c.mark_step.ensures c.cut_of-cut.result c.cut_of-cut.ensures c.if-mark_step.true) c.requires.of.lawful t

pub returns-else-mark_step : goal.returns-else-mark_step
returns-else-mark_step c n x t = let table = c.args.table.now in let op = c.args.self.now in let old = c.args.pass.now in let r = c.args.row in let l = c.args.link in let e = c.args.event in let f = c.args.first in
    answers_so n table x (take_at op (Marking r l e f)) old _ _ (take_at op Load, Done Lost) refl
    (λ control u. marks_not n table op r l e f op.place old _ c.requires.of control u c.mark_step.ensures c.if-mark_step.false) c.requires.of.lawful t
