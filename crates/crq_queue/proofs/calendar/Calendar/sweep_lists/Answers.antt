use Rattle.std.proofs.Common.{refl, arith}
use Rattle.std.proofs.lemmas.Result.{err_from_is_err_and}
use Rattle.crq_queue.proofs.CallSteps.{list_count}
use Rattle.crq_queue.proofs.CallStages.{sweeping_begins, sweep_one, sweeping_on, sweeping_late, all_swept}
use Rattle.crq_queue.proofs.calendar.Calendar.sweep_lists.Goals as goal

pub loop-number-init : goal.loop-number-init
loop-number-init c = sweeping_begins c.requires.of c.requires.inside c.requires.within

pub cut_within-requires-clause-op : goal.cut_within-requires-clause-op
cut_within-requires-clause-op c = let r = c.requires in let x = c.args.control.now in let count = list_count x (r.of.lawful.controlled x r.inside.control).0 in let below = c.loop-number-test.true in
    (0, x, sweep_one c.ranges.budget.fits c.loop-number.invariant (omega arith) refl refl c.new.ensures (omega arith))

pub returns-in_err-cut_within : goal.returns-in_err-cut_within
returns-in_err-cut_within c n may = let r = c.requires in let x = c.args.control.now in let count = list_count x (r.of.lawful.controlled x r.inside.control).0 in let below = c.loop-number-test.true in
    let p = err_from_is_err_and c.from_residual.result c.from_residual.ensures.1 in rw (p.1) (sweeping_late c.ranges.budget.fits c.loop-number.invariant (omega arith) refl refl c.new.ensures c.in_err-cut_within.ensures may)

pub loop-number-preserved : goal.loop-number-preserved
loop-number-preserved c = let r = c.requires in let x = c.args.control.now in let count = list_count x (r.of.lawful.controlled x r.inside.control).0 in let below = c.loop-number-test.true in
    sweeping_on c.ranges.budget.fits c.loop-number.invariant (omega arith) refl refl c.new.ensures c.in_ok-cut_within.ensures

pub returns : goal.returns
returns c n may = let r = c.requires in let x = c.args.control.now in let count = list_count x (r.of.lawful.controlled x r.inside.control).0 in let past = c.loop-number-test.false in all_swept (omega arith) c.loop-number.invariant may
