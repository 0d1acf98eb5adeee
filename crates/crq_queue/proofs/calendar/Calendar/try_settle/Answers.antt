use Rattle.crq_queue.proofs.CallEnds.{settled_all, begin_stopped}
use Rattle.crq_queue.proofs.calendar.Calendar.try_settle.Goals as goal

pub returns-in-Ok-clause-answers : goal.returns-in-Ok-clause-answers
returns-in-Ok-clause-answers c = settled_all c.args.pass.now c.ranges.budget.fits c.in-Ok.ensures

pub returns-in-Err-clause-answers : goal.returns-in-Err-clause-answers
returns-in-Err-clause-answers c = begin_stopped c.args.pass.now c.ranges.budget.fits c.in-Err.ensures
