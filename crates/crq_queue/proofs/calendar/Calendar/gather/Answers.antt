use Rattle.std.proofs.Common.{◌≡◌, [], sym, subst, arith}
use Rattle.crq_rule.proofs.Glue.{joins}
use Rattle.crq_queue.specs.declared.calendar.Whole.{Whole}
use Rattle.crq_queue.proofs.Gathers.{joining_first, joining_next, joining_of, joining_more, joining_all, joining_end, joined_whole, joined_history}
use Rattle.crq_queue.proofs.calendar.Calendar.gather.Goals as goal

pub rest-seat-requires : goal.rest-seat-requires
rest-seat-requires c = let few = c.args.self.now.table.start.layout.few in let a = c.requires.each 0 few.0 in (a.0, a.1)

pub loop-number-init : goal.loop-number-init
loop-number-init c = let few = c.args.self.now.table.start.layout.few in let r = c.rest-seat.ensures in joining_first _ _ c.requires _ _ r.0 few.0 r.1 r.2 r.3

pub rest-other-requires : goal.rest-other-requires
rest-other-requires c = joining_next _ _ c.requires _ _ _ c.loop-number.invariant c.loop-number-test.true

pub join_seat-requires : goal.join_seat-requires
join_seat-requires c = let j = c.loop-number.invariant in let r = c.rest-other.ensures in let sits = (joining_of _ _ c.requires _ _ _ j c.loop-number-test.true r.0 r.1).is.sits in let w = c.args.self.now.table.wide in
    (j.seated, subst (λ s. s.table_id ≡ c.args.self.now.table.inner.shared.table_id) (sym r.2) sits.seated, subst (λ s. s.me.1 ≡ []) (sym r.2) sits.bare, omega arith, joins _ _ _ _ _)

pub loop-number-preserved : goal.loop-number-preserved
loop-number-preserved c = let r = c.rest-other.ensures in let e = c.join_seat.ensures in joining_more _ _ c.requires _ _ _ c.loop-number.invariant c.loop-number-test.true _ _ _ r.0 r.1 r.2 r.3 e.0 e.2

pub gather_step-requires-clause-all : goal.gather_step-requires-clause-all
gather_step-requires-clause-all c = let few = c.args.self.now.table.start.layout.few in let l = c.loop-number in
    joining_all _ _ c.requires _ l.seat (joining_end _ _ _ _ _ l.invariant c.loop-number-test.false (l.auto.number-end few.0))

pub returns-clause-whole : goal.returns-clause-whole
returns-clause-whole c = let whole : Whole = record { seat = c.gather_step.new.seat; places = c.loop-number.passes.places } in let few = c.args.self.now.table.start.layout.few in let l = c.loop-number in
    let e = c.gather_step.ensures in joined_whole _ _ l.seat whole c.requires (joining_end _ _ _ _ _ l.invariant c.loop-number-test.false (l.auto.number-end few.0)) few.0 e.gathered e.same.0 e.same.2

pub returns-clause-history : goal.returns-clause-history
returns-clause-history c = let whole : Whole = record { seat = c.gather_step.new.seat; places = c.loop-number.passes.places } in let few = c.args.self.now.table.start.layout.few in let l = c.loop-number in
    joined_history _ _ l.seat whole c.requires (joining_end _ _ _ _ _ l.invariant c.loop-number-test.false (l.auto.number-end few.0)) few.0 c.gather_step.ensures.gathered
