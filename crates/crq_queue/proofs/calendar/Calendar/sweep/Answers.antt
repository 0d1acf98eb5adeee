use Rattle.crq_queue.proofs.CallSteps.{may_from_none}
use Rattle.crq_queue.proofs.CallStages.{enter_inside, enter_swept, sweep_ended}
use Rattle.crq_queue.proofs.calendar.Calendar.sweep.Goals as goal

pub sweep_lists-end-requires : goal.sweep_lists-end-requires
sweep_lists-end-requires c = let r = c.requires in let one = enter_inside r.rests r.control c.enter.ensures (may_from_none r.within c.ranges.budget.fits) in record { of = one.1.is; inside = one.1.inside; within = one.0.within }

pub leave-requires : goal.leave-requires
leave-requires c = let r = c.requires in let w = (enter_swept r.rests r.control c.enter.ensures c.sweep_lists-end.result c.sweep_lists-end.ensures (may_from_none r.within c.ranges.budget.fits)).1 in record { of = w.is; cut = w.inside.uncut; copy = w.copy }

pub returns : goal.returns
returns c n may = let r = c.requires in sweep_ended r.rests r.control c.enter.ensures c.sweep_lists-end.result c.sweep_lists-end.ensures c.leave.new.pass c.leave.ensures may
