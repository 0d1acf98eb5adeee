use Rattle.std.proofs.Common.{refl}
use Rattle.crq_list.specs.declared.take.MarkEnd.TheVariants.{Frozen}
use Rattle.crq_list.specs.declared.parts.Progress.TheVariants.{Done}
use Rattle.crq_list.specs.declared.take.TakeState.TheVariants.{Load}
use Rattle.crq_list.specs.Taking.{take_at, goes_past}
use Rattle.crq_list.proofs.TakeLaws.{head_stepped, head_frozen}
use Rattle.crq_list.proofs.TakeMarks.{answers_so}
use Rattle.crq_list.proofs.take.TakeOp.load.Goals as goal

pub returns-in-Val : goal.returns-in-Val
returns-in-Val c n x t = let table = c.args.table.now in let op = c.args.self in let old = c.args.pass.now in let l = c.walk_step-link.result in
    answers_so n table x (take_at op Load) old _ c.goes_past.result (goes_past op l l.row) c.goes_past.ensures
    (λ control u. head_stepped n table op old _ l op.place control c.requires.of.lawful c.walk_step-link.ensures c.in-Val.is c.if-link-self.false u) c.requires.of.lawful t

pub returns-in_default : goal.returns-in_default
returns-in_default c n x t = let table = c.args.table.now in let op = c.args.self in let old = c.args.pass.now in let l = c.walk_step-link.result in
    answers_so n table x (take_at op Load) old _ (op, Done Frozen) (op, Done Frozen) refl
    (λ control u. head_frozen n table op op old _ l op.place c.requires.of.lawful c.walk_step-link.ensures (λ _. c.in_default.not-Val) u) c.requires.of.lawful t

pub returns-then-link-self : goal.returns-then-link-self
returns-then-link-self c n x t = let table = c.args.table.now in let op = c.args.self in let old = c.args.pass.now in let l = c.walk_step-link.result in
    answers_so n table x (take_at op Load) old _ (op, Done Frozen) (op, Done Frozen) refl
    (λ control u. head_frozen n table op op old _ l op.place c.requires.of.lawful c.walk_step-link.ensures (λ same _. c.if-link-self.true same) u) c.requires.of.lawful t
