use Rattle.crq_hold.proofs.Working.{went_none, on_both}
use Rattle.crq_hold.proofs.tests.phases.take_some.Goals as goal

pub loop-init : goal.loop-init
loop-init g c = (went_none _ _ c.requires).on

pub take_once-requires : goal.take_once-requires
take_once-requires g c = c.loop.invariant.worker

pub loop-preserved : goal.loop-preserved
loop-preserved g c = on_both c.loop.invariant c.take_once.ensures
