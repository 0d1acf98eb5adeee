use Rattle.crq_hold.proofs.Working.{went_none, went_both}
use Rattle.crq_hold.proofs.hold.drain.Goals as goal

pub loop-init : goal.loop-init
loop-init g c = (went_none _ _ c.requires.worker, c.requires.settled)

pub take_surely-event-requires : goal.take_surely-event-requires
take_surely-event-requires g c = c.loop.invariant.0.on.worker

pub loop-preserved : goal.loop-preserved
loop-preserved g c = let e = c.take_surely-event.ensures in (went_both c.loop.invariant.0 e.taken, e.settled)
