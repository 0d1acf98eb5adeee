use Rattle.std.proofs.Common.{refl, arith}
use Rattle.crq_queue.proofs.CallOps.{may_cut}
use Rattle.crq_hold.proofs.tests.stopping.cut.Goals as goal

pub loop-init : goal.loop-init
loop-init c = let r = c.requires in (r.of, may_cut r.of r.inside c.new-op.result _ c.args.event c.args.row (omega arith) (refl, c.head_of.ensures) c.new-op.ensures)

pub loop-preserved : goal.loop-preserved
loop-preserved c = let s = c.in-More.ensures 0 _ c.loop.invariant.1 in (s.is, s.answers.0)
