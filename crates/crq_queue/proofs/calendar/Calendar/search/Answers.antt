use Rattle.std.proofs.Common.{arith}
use Rattle.std.proofs.lemmas.Result.{err_from_is_err_and}
use Rattle.crq_queue.proofs.Takings.{search_begins, search_takes, search_marked, search_lost, search_may_miss, search_missed, search_late, says_so}
use Rattle.crq_list.specs.declared.take.MarkEnd.TheVariants.{Marked, Lost}
use Rattle.crq_queue.proofs.calendar.Calendar.search.Goals as goal

pub loop-event-init : goal.loop-event-init
loop-event-init c = let r = c.requires in search_begins r.of r.inside r.began r.free r.one r.sees r.within

pub take_within-requires-clause-op : goal.take_within-requires-clause-op
take_within-requires-clause-op c = (0, c.args.control.now, search_takes c.loop-event.invariant c.new-op.ensures (omega arith))

pub returns-in_err-event : goal.returns-in_err-event
returns-in_err-event c n may = let p = err_from_is_err_and c.from_residual.result c.from_residual.ensures.1 in
    rw (p.1) (search_late c.loop-event.invariant c.new-op.ensures c.take_within.new.pass c.args.raises c.in_err-event.field-0.0 c.in_err-event.ensures may)

pub returns-in-Marked : goal.returns-in-Marked
returns-in-Marked c n may = search_marked c.loop-event.invariant c.new-op.ensures c.take_within.new.pass c.args.raises c.in-Marked.field-0 c.in-Marked.event c.in-Marked.cut (says_so c.args.self.now.table c.args.budget c.new-op.result c.loop-event.pass c.take_within.new.pass (Marked c.in-Marked.field-0 c.in-Marked.event c.in-Marked.cut) c.in-Marked.is c.in_ok-event.ensures) may

pub loop-event-smaller : goal.loop-event-smaller
loop-event-smaller c = let lost = search_lost c.loop-event.invariant c.new-op.ensures c.take_within.new.pass (says_so c.args.self.now.table c.args.budget c.new-op.result c.loop-event.pass c.take_within.new.pass Lost c.in-Lost.is c.in_ok-event.ensures) in let less = lost.1 in let within = lost.0.within in omega arith

pub loop-event-preserved : goal.loop-event-preserved
loop-event-preserved c = (search_lost c.loop-event.invariant c.new-op.ensures c.take_within.new.pass (says_so c.args.self.now.table c.args.budget c.new-op.result c.loop-event.pass c.take_within.new.pass Lost c.in-Lost.is c.in_ok-event.ensures)).0

pub miss_step-requires : goal.miss_step-requires
miss_step-requires c = let t = search_may_miss c.loop-event.invariant c.new-op.ensures c.take_within.new.pass c.in_ok-event.field-0 c.in_default.not-Marked c.in_default.not-Lost c.in_ok-event.ensures in record { of = t.0; may = t.1 }

pub returns-in_default : goal.returns-in_default
returns-in_default c n may = search_missed c.loop-event.invariant c.new-op.ensures c.take_within.new.pass c.in_ok-event.field-0 c.in_default.not-Marked c.in_default.not-Lost c.in_ok-event.ensures c.args.raises c.miss_step.ensures may
