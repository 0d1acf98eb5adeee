use Rattle.crq_queue.proofs.CallSteps.{may_from_none}
use Rattle.crq_queue.proofs.CallStages.{load_enter, load_cut, debt_cut}
use Rattle.crq_queue.proofs.calendar.Calendar.settle_cut.Goals as goal

pub finish_cut-end-requires : goal.finish_cut-end-requires
finish_cut-end-requires c = let one = load_enter c.requires.rests c.control_step-control.ensures c.enter.ensures (may_from_none c.requires.within c.ranges.budget.fits) in record { of = one.1.is; inside = one.1.inside; one = one.1.second_cut; within = one.0.within }

pub leave-requires : goal.leave-requires
leave-requires c = let w = (load_cut c.requires.rests c.control_step-control.ensures c.enter.ensures c.finish_cut-end.ensures (may_from_none c.requires.within c.ranges.budget.fits)).1 in record { of = w.is; cut = w.inside.uncut; copy = w.copy }

pub returns : goal.returns
returns c = λ n may. debt_cut c.requires.rests c.control_step-control.ensures c.enter.ensures c.finish_cut-end.ensures c.leave.ensures may
