use Rattle.std.proofs.Common.{arith}
use Rattle.crq_hold.proofs.Working.{went_none, went_both, went_counted}
use Rattle.crq_hold.proofs.hold.hold_often.Goals as goal

pub loop-init : goal.loop-init
loop-init g c = (went_none _ _ c.requires.worker, c.requires.settled)

pub hold-state-requires-clause-worker : goal.hold-state-requires-clause-worker
hold-state-requires-clause-worker g c = c.loop.invariant.0.on.worker

pub loop-preserved : goal.loop-preserved
loop-preserved g c = let e = c.hold-state.ensures in (went_both c.loop.invariant.0 e.held, e.settled)

pub overflow_sub-worker : goal.overflow_sub-worker
overflow_sub-worker g c = let rises = c.loop.invariant.0.numbers in omega arith

pub returns-clause-made : goal.returns-clause-made
returns-clause-made g c = went_counted c.loop.invariant.0 c.loop-test.false c.loop.auto.counter-end

pub returns-clause-counts : goal.returns-clause-counts
returns-clause-counts g c = let rises = c.loop.invariant.0.numbers in let low = c.loop-test.false in let high = c.loop.auto.counter-end in omega arith

pub returns-clause-settled : goal.returns-clause-settled
returns-clause-settled g c = c.loop.invariant.1
