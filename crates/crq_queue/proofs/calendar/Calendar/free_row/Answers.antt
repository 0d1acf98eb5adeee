use Rattle.std.proofs.Common.{ap, ◌∙◌}
use Rattle.crq_rule.specs.declared.view.Found.{Found}
use Rattle.crq_queue.proofs.CallSteps.{may_from_none, may_go}
use Rattle.crq_queue.proofs.CallStages.{own_rests, own_found, swept_late, recovered_held, recovered_none, recovered_late, recovered_row}
use Rattle.crq_queue.proofs.calendar.Calendar.free_row.Goals as goal

pub returns-in-Some : goal.returns-in-Some
returns-in-Some c = λ n may. own_found c.requires.rests (c.in-Some.ensures n c.args.budget may)

pub sweep-requires : goal.sweep-requires
sweep-requires c = let r = c.requires in let o = c.in_default.ensures 0 c.args.budget (may_from_none r.within c.ranges.budget.fits) in
    record { rests = own_rests r.rests o; control = ap (λ (f : Found). f.control) o.found ∙ r.control; within = o.ran.within }

pub returns-in_default-sweep : goal.returns-in_default-sweep
returns-in_default-sweep c = λ n may. let o = c.in_default.ensures n c.args.budget may in swept_late c.requires.rests o (c.in_default-sweep.ensures n (may_go may o.ran))

pub recover_within-requires : goal.recover_within-requires
recover_within-requires c = let r = c.requires in let may = may_from_none r.within c.ranges.budget.fits in let o = c.in_default.ensures 0 c.args.budget may in let w = c.in-Ok.ensures 0 (may_go may o.ran) in
    record { of = w.rests.is; off = w.rests.guard; within = w.ran.within }

pub returns-in-Ok-Held : goal.returns-in-Ok-Held
returns-in-Ok-Held c = λ n may. let o = c.in_default.ensures n c.args.budget may in let w = c.in-Ok.ensures n (may_go may o.ran) in
    let v = rw c.in-Ok-Held.field-0-is at (c.in-Ok-Held.ensures n (may_go (may_go may o.ran) w.ran)) in recovered_held c.requires.rests o w v

pub returns-in-Ok-Rows : goal.returns-in-Ok-Rows
returns-in-Ok-Rows c = λ n may. let o = c.in_default.ensures n c.args.budget may in let w = c.in-Ok.ensures n (may_go may o.ran) in
    let v = rw c.in-Ok-Rows.field-0-is at (c.in-Ok-Rows.ensures n (may_go (may_go may o.ran) w.ran)) in recovered_none c.requires.rests o w v

pub returns-in-Some-front : goal.returns-in-Some-front
returns-in-Some-front c = λ n may. let o = c.in_default.ensures n c.args.budget may in let w = c.in-Ok.ensures n (may_go may o.ran) in let first = c.in-Some-front.ensures.item.3 in
    recovered_row c.requires.rests o w c.in-Some-front.row.now (c.in-Ok-Ready.ensures n (may_go (may_go may o.ran) w.ran)) first.0 first.1

pub returns-in-Err : goal.returns-in-Err
returns-in-Err c = λ n may. let o = c.in_default.ensures n c.args.budget may in let w = c.in-Ok.ensures n (may_go may o.ran) in recovered_late c.requires.rests o w (c.in-Err.ensures n (may_go (may_go may o.ran) w.ran))
