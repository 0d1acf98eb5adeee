use Rattle.std.proofs.Common.{arith}
use Rattle.crq_host.proofs.Runnings.{taken_window, too_many, counts_small, run_ended}
use Rattle.crq_host.proofs.window.run_taken.Goals as goal

pub overflow_add-result : goal.overflow_add-result
overflow_add-result g c = let t = c.requires.taken in let small = taken_window c.args.model.now c.args.plan t.0 t.1 c.args.course.now c.is_model.ensures t.2 in omega arith

pub returns-then-len-plan : goal.returns-then-len-plan
returns-then-len-plan g c = record {
  ran = λ setup history t.
      too_many c.args.model.now c.args.plan setup history c.args.course.now c.is_model.ensures t
      (let many = c.if-len-plan.true in let l = c.len.ensures in let few = t.counted.few in omega arith);
}

pub count-requires-clause-window : goal.count-requires-clause-window
count-requires-clause-window g c = let t = c.requires.taken in (counts_small c.args.model.now c.args.plan t.0 t.1 c.run_events.new.course c.is_model.ensures (c.in_ok-run_events.ensures.ran t.0 t.1 t.2)).0

pub count-requires-clause-made : goal.count-requires-clause-made
count-requires-clause-made g c = let t = c.requires.taken in (counts_small c.args.model.now c.args.plan t.0 t.1 c.run_events.new.course c.is_model.ensures (c.in_ok-run_events.ensures.ran t.0 t.1 t.2)).1

pub count-requires-clause-events : goal.count-requires-clause-events
count-requires-clause-events g c = let t = c.requires.taken in (counts_small c.args.model.now c.args.plan t.0 t.1 c.run_events.new.course c.is_model.ensures (c.in_ok-run_events.ensures.ran t.0 t.1 t.2)).2

pub count-requires-clause-pending : goal.count-requires-clause-pending
count-requires-clause-pending g c = let t = c.requires.taken in (counts_small c.args.model.now c.args.plan t.0 t.1 c.run_events.new.course c.is_model.ensures (c.in_ok-run_events.ensures.ran t.0 t.1 t.2)).3

pub count-requires-clause-due : goal.count-requires-clause-due
count-requires-clause-due g c = let t = c.requires.taken in (counts_small c.args.model.now c.args.plan t.0 t.1 c.run_events.new.course c.is_model.ensures (c.in_ok-run_events.ensures.ran t.0 t.1 t.2)).4

pub returns : goal.returns
returns g c = record {
  ran = λ setup history t. run_ended c.args.model.now c.args.plan setup history c.run_events.new.course c.is_model.ensures (c.in_ok-run_events.ensures.ran setup history t) c.count.new.self c.count.result c.count.ensures;
}
