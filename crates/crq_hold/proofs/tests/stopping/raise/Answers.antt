use Rattle.std.proofs.Common.{ap, ◌∙◌}
use Rattle.crq_list.specs.declared.take.TakeOp.{TakeOp}
use Rattle.crq_hold.proofs.Stopping.{may_raise}
use Rattle.crq_hold.proofs.tests.stopping.raise.Goals as goal

pub loop-preserved : goal.loop-preserved
loop-preserved c = let l = c.loop.invariant in let s = c.in-More.ensures 0 _ l.1 in (s.is, s.answers.0, ap (λ d. d.cut) s.answers.3 ∙ l.2, ap (λ (o : TakeOp). o.place) s.answers.1 ∙ l.3, s.works.stays.sight ∙ l.4)
