use Rattle.std.proofs.Common.{arith}
use Rattle.crq_queue.proofs.Settlings.{settled_ahead, settling_late, settled_back_done, settling_lost}
use Rattle.crq_queue.proofs.calendar.Calendar.settle_event.Goals as goal

pub returns-then-settled : goal.returns-then-settled
returns-then-settled c n may = settled_ahead c.loop-current.invariant c.owed_step-settled.ensures c.if-settled.true may

pub returns-then-pass-budget : goal.returns-then-pass-budget
returns-then-pass-budget c n may = settling_late c.loop-current.invariant c.owed_step-settled.ensures c.if-settled.false c.if-pass-budget.true may

pub returns-then-settle_step : goal.returns-then-settle_step
returns-then-settle_step c n may = let room = c.if-pass-budget.false in settled_back_done c.loop-current.invariant c.owed_step-settled.ensures c.if-settled.false c.settle_step.ensures (omega arith) c.if-settle_step.true may

pub loop-current-preserved : goal.loop-current-preserved
loop-current-preserved c = let room = c.if-pass-budget.false in (settling_lost c.loop-current.invariant c.owed_step-settled.ensures c.if-settled.false c.settle_step.ensures (omega arith) c.ranges.budget.fits c.if-settle_step.false).0
