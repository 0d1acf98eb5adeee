use Rattle.crq_hold.proofs.Regrouping.{next_covers, all_cover}
use Rattle.crq_hold.proofs.tests.phases.unused.Goals as goal

pub loop-worker-preserved : goal.loop-worker-preserved
loop-worker-preserved c = let l = c.loop-worker in next_covers _ _ _ _ _ l.invariant c.worker-item.is c.later-next.ensures.0 c.later-next.ensures.1

pub returns : goal.returns
returns c = let l = c.loop-worker in all_cover _ _ _ c.loop-worker-test.false l.invariant
