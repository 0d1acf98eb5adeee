use Rattle.crq_list.specs.declared.take.MarkEnd.TheVariants.{Frozen}
use Rattle.std.proofs.Common.{⊎_elim, ap, refl}
use Rattle.crq_rule.specs.ListKinds.{is_passed}
use Rattle.crq_list.specs.declared.parts.Progress.TheVariants.{More, Done}
use Rattle.crq_list.specs.declared.take.TakeState.TheVariants.{Walking, Reading}
use Rattle.crq_list.specs.Taking.{take_at, goes_past}
use Rattle.crq_list.proofs.TakeLaws.{present_stepped, dead_stepped, row_frozen}
use Rattle.crq_list.proofs.TakeMarks.{answers_so}
use Rattle.crq_list.proofs.take.TakeOp.walk.Goals as goal

pub returns-in-Val : goal.returns-in-Val
returns-in-Val c n x t = let table = c.args.table.now in let op = c.args.self in let old = c.args.pass.now in let l = c.walk_step-link.result in let r = c.args.row in let f = c.args.first in
    answers_so n table x (take_at op (Walking r f)) old _ (c.at.result, More) (take_at op (Reading r l 2 (record { time = 0; dst = 0; src = 0; seq = 0; load = 0 }) f), More) (λ i. (c.at.ensures i, More))
    (λ control u. present_stepped n table op old _ l r f op.place control c.requires.of.lawful c.walk_step-link.ensures u (record { time = 0; dst = 0; src = 0; seq = 0; load = 0 }) c.in-Val.is) c.requires.of.lawful t

pub returns-in-Inv : goal.returns-in-Inv
returns-in-Inv c n x t = let table = c.args.table.now in let op = c.args.self in let old = c.args.pass.now in let l = c.walk_step-link.result in let r = c.args.row in let f = c.args.first in
    answers_so n table x (take_at op (Walking r f)) old _ c.goes_past.result (goes_past op l f) c.goes_past.ensures
    (λ control u. dead_stepped n table op old _ l r f op.place control c.requires.of.lawful c.walk_step-link.ensures u (⊎_elim (ap is_passed) (ap is_passed) c.in-Inv.is)) c.requires.of.lawful t

pub returns-in-Mov : goal.returns-in-Mov
returns-in-Mov c n x t = let table = c.args.table.now in let op = c.args.self in let old = c.args.pass.now in let l = c.walk_step-link.result in let r = c.args.row in let f = c.args.first in
    answers_so n table x (take_at op (Walking r f)) old _ (op, Done Frozen) (op, Done Frozen) refl
    (λ control u. row_frozen n table op op old _ l r f op.place c.requires.of.lawful c.walk_step-link.ensures c.in-Mov.is u) c.requires.of.lawful t
