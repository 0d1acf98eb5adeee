use Rattle.std.proofs.Common.{◌∙◌}
use Rattle.crq_list.specs.declared.take.TakeState.TheVariants.{Load, Walking, Reading, Marking}
use Rattle.crq_list.specs.Taking.{take_at}
use Rattle.crq_list.proofs.TakeMarks.{step_is}
use Rattle.crq_list.proofs.take.TakeOp.step.Goals.{in-Load, in-Walking, in-Reading, in-Marking}
use Rattle.crq_list.proofs.take.TakeOp.step.Goals as goal

pub returns : goal.returns
returns c n x t = let table = c.args.table.now in let op = c.args.self.now in let old = c.args.pass.now in let new' = c.match-before.pass in let to = c.match-before.answer in elim c.match-before.branch [
  | in-Load w ↦ step_is n table x op Load old w.load.new.pass new' w.load.result to w.in-Load.is w.pass-is w.answer-is (w.load.ensures n x) t
  | in-Walking w ↦ step_is n table x op (Walking w.in-Walking.row w.in-Walking.first) old w.walk.new.pass new' w.walk.result to w.in-Walking.is w.pass-is w.answer-is (w.walk.ensures n x) t
  | in-Reading w ↦ let b = w.in-Reading in step_is n table x op (Reading b.row b.link b.place b.event b.first) old w.read.new.pass new' w.read.result to b.is w.pass-is w.answer-is (w.read.ensures n x) t
  | in-Marking w ↦ let b = w.in-Marking in step_is n table x op (Marking b.row b.link b.event b.first) old w.mark-told.new.pass new' (take_at op Load, w.mark-told.result) to b.is w.pass-is (w.answer-is ∙ (λ k. (w.at.ensures k, w.mark-told.result))) (w.mark-told.ensures n x) t
]
