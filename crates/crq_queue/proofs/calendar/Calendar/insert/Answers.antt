use Rattle.std.proofs.Common.{arith}
use Rattle.crq_rule.specs.Parts.{IsEvent}
use Rattle.crq_queue.proofs.CallSteps.{may_from_none}
use Rattle.crq_queue.proofs.CallStages.{debt_same, enter_inside, enter_insert, enter_noted, event_inserted}
use Rattle.crq_queue.proofs.calendar.Calendar.insert.Goals as goal

pub insert_noted-end-requires : goal.insert_noted-end-requires
insert_noted-end-requires c = let r = c.requires in let may = may_from_none r.within c.ranges.budget.fits in let one = enter_inside r.rests r.control c.enter.ensures may in
    let t = c.new-op.type_inv in let fits : IsEvent c.new-op.result.event = record { time = omega (arith, t); dst = omega (arith, t); src = omega (arith, t); seq = omega (arith, t); load = omega (arith, t) } in record {
      of = one.1.is;
      within = one.0.within;
      op = (0, c.args.control.now, enter_insert r.rests r.control c.enter.ensures c.list_of.ensures fits r.settled r.permit r.held r.fresh c.new-op.ensures may, debt_same c.args.control.now c.new-op.ensures c.debt_of.result c.debt_of.ensures);
    }

pub leave-requires : goal.leave-requires
leave-requires c = let r = c.requires in let may = may_from_none r.within c.ranges.budget.fits in
    let t = c.new-op.type_inv in let fits : IsEvent c.new-op.result.event = record { time = omega (arith, t); dst = omega (arith, t); src = omega (arith, t); seq = omega (arith, t); load = omega (arith, t) } in
    let w = enter_noted r.rests r.control c.enter.ensures c.list_of.ensures fits r.settled r.permit r.held r.fresh c.new-op.ensures c.debt_of.ensures c.insert_noted-end.result c.insert_noted-end.ensures may in record { of = w.is; cut = w.inside.uncut; copy = w.copy }

pub returns : goal.returns
returns c = let r = c.requires in let t = c.new-op.type_inv in let fits : IsEvent c.new-op.result.event = record { time = omega (arith, t); dst = omega (arith, t); src = omega (arith, t); seq = omega (arith, t); load = omega (arith, t) } in
    λ n may. event_inserted r.rests r.control c.enter.ensures c.list_of.ensures fits r.settled r.permit r.held r.fresh c.new-op.ensures c.debt_of.ensures c.leave.new.pass c.insert_noted-end.result c.insert_noted-end.ensures c.leave.ensures may
