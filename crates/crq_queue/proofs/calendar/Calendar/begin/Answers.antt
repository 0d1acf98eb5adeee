use Rattle.std.proofs.lemmas.Result.{err_from_is_err_and}
use Rattle.crq_queue.proofs.CallEnds.{first_settled, begin_stopped, begin_done}
use Rattle.crq_queue.proofs.calendar.Calendar.begin.Goals as goal

pub begin_step-requires : goal.begin_step-requires
begin_step-requires c = record { of = (first_settled c.args.pass.now c.ranges.budget.fits c.in_ok-settle.ensures).rests.is }

pub returns-in_err-settle : goal.returns-in_err-settle
returns-in_err-settle c = let p = err_from_is_err_and c.from_residual.result c.from_residual.ensures.1 in rw (p.1) (begin_stopped c.args.pass.now c.ranges.budget.fits c.in_err-settle.ensures)

pub returns : goal.returns
returns c = begin_done c.args.pass.now c.ranges.budget.fits c.in_ok-settle.ensures c.begin_step.ensures
