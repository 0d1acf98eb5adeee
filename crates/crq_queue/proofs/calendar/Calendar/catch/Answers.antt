use Rattle.std.proofs.Common.{◌∙◌, arith}
use Rattle.std.proofs.lemmas.Result.{err_from_is_err_and}
use Rattle.crq_queue.specs.declared.taking.Round.TheVariants.{Marked, Missed, On}
use Rattle.crq_queue.proofs.CallSteps.{may_from_none, list_count}
use Rattle.crq_queue.proofs.Catches.{catching_begins, catch_marked, catch_may_miss, catch_missed, catch_late, catching_on, may_search, catch_searched, round_so}
use Rattle.crq_queue.proofs.calendar.Calendar.catch.Goals as goal

pub loop-event-init : goal.loop-event-init
loop-event-init c = let r = c.requires in catching_begins (record { of = r.of; inside = r.inside; began = r.began; free = r.free; one = r.one }) r.within

pub returns-in_err-event : goal.returns-in_err-event
returns-in_err-event c n may = let p = err_from_is_err_and c.from_residual.result c.from_residual.ensures.1 in rw (p.1) (catch_late c.loop-event.invariant c.args.limit c.round.new.pass c.in_err-event.field-0.0 c.in_err-event.ensures may)

pub returns-in-Marked : goal.returns-in-Marked
returns-in-Marked c n may = let m = c.in-Marked in catch_marked c.loop-event.invariant c.args.limit c.round.new.pass m.event m.tick m.cut (round_so c.args.self.now.table c.args.budget c.args.control.now c.args.limit c.loop-event.raises c.loop-event.pass c.round.new.pass (Marked m.event m.tick m.cut) m.is c.in_ok-event.ensures) may

pub miss_step-requires : goal.miss_step-requires
miss_step-requires c = let t = catch_may_miss c.loop-event.invariant c.args.limit c.round.new.pass (round_so c.args.self.now.table c.args.budget c.args.control.now c.args.limit c.loop-event.raises c.loop-event.pass c.round.new.pass Missed c.in-Missed.is c.in_ok-event.ensures) (may_from_none c.requires.within c.ranges.budget.fits) in record { of = t.0; may = t.1 }

pub returns-in-Missed : goal.returns-in-Missed
returns-in-Missed c n may = catch_missed c.loop-event.invariant c.args.limit c.round.new.pass (round_so c.args.self.now.table c.args.budget c.args.control.now c.args.limit c.loop-event.raises c.loop-event.pass c.round.new.pass Missed c.in-Missed.is c.in_ok-event.ensures) c.miss_step.ensures may

pub search-requires : goal.search-requires
search-requires c = let m = c.in-On in let t = may_search c.loop-event.invariant c.args.limit c.round.new.pass m.made (round_so c.args.self.now.table c.args.budget c.args.control.now c.args.limit c.loop-event.raises c.loop-event.pass c.round.new.pass (On m.made) m.is c.in_ok-event.ensures) (may_from_none c.requires.within c.ranges.budget.fits) in
    record { of = t.0.of; inside = t.0.inside; began = t.0.began; free = t.0.free; one = t.0.one; sees = t.1; within = t.2 }

pub returns-then-made-control : goal.returns-then-made-control
returns-then-made-control c n may = let m = c.in-On in let r = c.requires in let x = c.args.control.now in let count = list_count x (r.of.lawful.controlled x r.inside.control).0 in let all = c.if-made-control.true in
    catch_searched c.loop-event.invariant c.args.limit c.round.new.pass m.made (round_so c.args.self.now.table c.args.budget c.args.control.now c.args.limit c.loop-event.raises c.loop-event.pass c.round.new.pass (On m.made) m.is c.in_ok-event.ensures) c.search.new.pass c.search.result c.search.ensures (all ∙ count) may

pub loop-event-preserved : goal.loop-event-preserved
loop-event-preserved c = let m = c.in-On in let r = c.requires in let x = c.args.control.now in let count = list_count x (r.of.lawful.controlled x r.inside.control).0 in let more = c.if-made-control.false in let may = may_from_none r.within c.ranges.budget.fits in
    let few = (may_search c.loop-event.invariant c.args.limit c.round.new.pass m.made (round_so c.args.self.now.table c.args.budget c.args.control.now c.args.limit c.loop-event.raises c.loop-event.pass c.round.new.pass (On m.made) m.is c.in_ok-event.ensures) may).3 in
    (catching_on c.loop-event.invariant c.args.limit c.round.new.pass m.made (round_so c.args.self.now.table c.args.budget c.args.control.now c.args.limit c.loop-event.raises c.loop-event.pass c.round.new.pass (On m.made) m.is c.in_ok-event.ensures) may (omega arith)).0

pub loop-event-smaller : goal.loop-event-smaller
loop-event-smaller c = let m = c.in-On in let r = c.requires in let x = c.args.control.now in let count = list_count x (r.of.lawful.controlled x r.inside.control).0 in let more = c.if-made-control.false in let may = may_from_none r.within c.ranges.budget.fits in
    let few = (may_search c.loop-event.invariant c.args.limit c.round.new.pass m.made (round_so c.args.self.now.table c.args.budget c.args.control.now c.args.limit c.loop-event.raises c.loop-event.pass c.round.new.pass (On m.made) m.is c.in_ok-event.ensures) may).3 in
    let on = catching_on c.loop-event.invariant c.args.limit c.round.new.pass m.made (round_so c.args.self.now.table c.args.budget c.args.control.now c.args.limit c.loop-event.raises c.loop-event.pass c.round.new.pass (On m.made) m.is c.in_ok-event.ensures) may (omega arith) in let less = on.1 in let within = on.0.within in omega arith
