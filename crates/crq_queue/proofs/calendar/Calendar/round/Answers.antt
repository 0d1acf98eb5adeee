use Rattle.std.proofs.lemmas.Result.{err_from_is_err_and}
use Rattle.std.proofs.Common.{arith}
use Rattle.crq_list.specs.declared.take.MarkEnd.TheVariants.{Marked, Beyond, Nothing, Lost, Frozen}
use Rattle.crq_queue.proofs.CallSteps.{may_from_none}
use Rattle.crq_queue.proofs.Takings.{says_so, in_its_bucket, IsReady, may_view, round_takes, begins_take, round_marked, round_beyond, round_lost, round_late, round_unfrozen, walked_out, nothing_within, round_raised}
use Rattle.crq_queue.proofs.calendar.Calendar.round.Goals as goal

pub current_step-current-requires : goal.current_step-current-requires
current_step-current-requires c = let r = c.requires in record { of = r.of; may = may_view c.args.self.now.still (record { of = r.of; inside = r.inside; began = r.began; free = r.free; one = r.one }) }

pub take_within-requires-clause-op : goal.take_within-requires-clause-op
take_within-requires-clause-op c = let r = c.requires in (0, c.args.control.now, begins_take (round_takes (record { of = r.of; inside = r.inside; began = r.began; free = r.free; one = r.one }) c.current_step-current.ensures (in_its_bucket c.current_step-current.result c.new-op.ensures)) (omega arith))

pub returns-in_err-event : goal.returns-in_err-event
returns-in_err-event c n may = let r = c.requires in let p = err_from_is_err_and c.from_residual.result c.from_residual.ensures.1 in
    rw (p.1) (round_late (record { of = r.of; inside = r.inside; began = r.began; free = r.free; one = r.one }) c.current_step-current.ensures (in_its_bucket c.current_step-current.result c.new-op.ensures) c.take_within.new.pass may c.args.raises c.in_err-event.field-0.0 c.in_err-event.ensures)

pub raise-requires : goal.raise-requires
raise-requires c = let r = c.requires in let may = may_from_none r.within c.ranges.budget.fits in let ready : IsReady c.args.self.now.table c.args.control.now c.args.pass.now = record { of = r.of; inside = r.inside; began = r.began; free = r.free; one = r.one } in
    let take = says_so c.args.self.now.table c.args.budget c.new-op.result c.current_step-current.new.pass c.take_within.new.pass Nothing c.in-Nothing.is c.in_ok-event.ensures in let is = in_its_bucket c.current_step-current.result c.new-op.ensures in let w = nothing_within ready c.current_step-current.ensures is c.take_within.new.pass may take in
    record { of = w.0; walked = walked_out ready c.current_step-current.ensures is c.take_within.new.pass may take; few = r.few; within = w.1 }

pub unreachable-requires : goal.unreachable-requires
unreachable-requires c = let r = c.requires in let may = may_from_none r.within c.ranges.budget.fits in
    round_unfrozen (record { of = r.of; inside = r.inside; began = r.began; free = r.free; one = r.one }) c.current_step-current.ensures (in_its_bucket c.current_step-current.result c.new-op.ensures) c.take_within.new.pass may (says_so c.args.self.now.table c.args.budget c.new-op.result c.current_step-current.new.pass c.take_within.new.pass Frozen c.in-Frozen.is c.in_ok-event.ensures)

pub returns-in-Marked : goal.returns-in-Marked
returns-in-Marked c n may = let r = c.requires in let m = c.in-Marked in
    round_marked (record { of = r.of; inside = r.inside; began = r.began; free = r.free; one = r.one }) c.current_step-current.ensures (in_its_bucket c.current_step-current.result c.new-op.ensures) c.take_within.new.pass may c.args.raises m.field-0 m.event m.cut (says_so c.args.self.now.table c.args.budget c.new-op.result c.current_step-current.new.pass c.take_within.new.pass (Marked m.field-0 m.event m.cut) m.is c.in_ok-event.ensures)

pub returns-in-Beyond : goal.returns-in-Beyond
returns-in-Beyond c n may = let r = c.requires in let m = c.in-Beyond in
    round_beyond (record { of = r.of; inside = r.inside; began = r.began; free = r.free; one = r.one }) c.current_step-current.ensures (in_its_bucket c.current_step-current.result c.new-op.ensures) c.take_within.new.pass may c.args.raises m.field-0 (says_so c.args.self.now.table c.args.budget c.new-op.result c.current_step-current.new.pass c.take_within.new.pass (Beyond m.field-0) m.is c.in_ok-event.ensures)

pub returns-in-Nothing : goal.returns-in-Nothing
returns-in-Nothing c n may = let r = c.requires in
    round_raised (record { of = r.of; inside = r.inside; began = r.began; free = r.free; one = r.one }) c.current_step-current.ensures (in_its_bucket c.current_step-current.result c.new-op.ensures) c.take_within.new.pass may (says_so c.args.self.now.table c.args.budget c.new-op.result c.current_step-current.new.pass c.take_within.new.pass Nothing c.in-Nothing.is c.in_ok-event.ensures) c.raise.new.pass c.args.raises c.raise.result c.raise.ensures

pub returns-in-Lost : goal.returns-in-Lost
returns-in-Lost c n may = let r = c.requires in
    round_lost (record { of = r.of; inside = r.inside; began = r.began; free = r.free; one = r.one }) c.current_step-current.ensures (in_its_bucket c.current_step-current.result c.new-op.ensures) c.take_within.new.pass may r.few (says_so c.args.self.now.table c.args.budget c.new-op.result c.current_step-current.new.pass c.take_within.new.pass Lost c.in-Lost.is c.in_ok-event.ensures)
