use Rattle.std.proofs.lemmas.Result.{err_from_is_err_and}
use Rattle.crq_queue.proofs.CallSteps.{may_from_none, may_go}
use Rattle.crq_queue.proofs.Settlings.{stopped_at_event, none_left, cut_after}
use Rattle.crq_queue.proofs.calendar.Calendar.settle.Goals as goal

pub returns-in_err-finish_event : goal.returns-in_err-finish_event
returns-in_err-finish_event c n may = let p = err_from_is_err_and c.from_residual.result c.from_residual.ensures.1 in rw (p.1) (stopped_at_event (c.in_err-finish_event.ensures n may))

pub returns-then-is_none : goal.returns-then-is_none
returns-then-is_none c n may = none_left (c.in_ok-finish_event.ensures n may) c.if-is_none.ensures

pub settle_cut-requires-clause-rests : goal.settle_cut-requires-clause-rests
settle_cut-requires-clause-rests c = (c.in_ok-finish_event.ensures 0 (may_from_none c.requires.within c.ranges.budget.fits)).rests

pub returns : goal.returns
returns c n may = let f = c.in_ok-finish_event.ensures n may in cut_after f c.if-is_none.ensures c.settle_cut.result (c.settle_cut.ensures n (may_go may f.answers.0))
