use Rattle.crq_hold.proofs.Working.{on_both, settle_ended}
use Rattle.crq_hold.proofs.tests.ways.settle_surely.Goals as goal

pub try_settle-requires-clause-rests : goal.try_settle-requires-clause-rests
try_settle-requires-clause-rests g c = c.loop.invariant.worker.rests

pub returns-in-Ok-clause-on : goal.returns-in-Ok-clause-on
returns-in-Ok-clause-on g c = let l = c.loop.invariant in on_both l (settle_ended _ c.loop.worker l.worker _ _ _ c.try_settle.ensures.answers).on

pub loop-preserved : goal.loop-preserved
loop-preserved g c = let l = c.loop.invariant in on_both l (settle_ended _ c.loop.worker l.worker _ _ _ c.try_settle.ensures.answers).on
