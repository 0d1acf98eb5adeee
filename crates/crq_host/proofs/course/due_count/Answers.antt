use Rattle.std.proofs.Common.{arith, ap, ◌∙◌, length, take}
use Rattle.std.proofs.lemmas.List.{length-append, take_all}
use Rattle.crq_base.specs.declared.event.Event.{Event}
use Rattle.crq_host.specs.Courses.{all_due}
use Rattle.crq_host.proofs.MergeLaws.{flat_next}
use Rattle.crq_host.proofs.Takings.{due_fits}
use Rattle.crq_host.specs.declared.worker.Worker.{Worker}
use Rattle.crq_host.proofs.course.due_count.Goals as goal

pub overflow_add-count : goal.overflow_add-count
overflow_add-count g c =
    let fits = due_fits c.args.workers.now c.loop-worker.worker-index c.worker-item.result c.loop-worker-test.true c.requires in
    let is = ap (λ (w : Worker _). length w.due.items) c.worker-item.is in
    let kept = c.loop-worker.invariant in
    let more = c.len-count.ensures in
    omega arith

pub loop-worker-preserved : goal.loop-worker-preserved
loop-worker-preserved g c =
    let ws = c.args.workers.now in
    let i = c.loop-worker.worker-index in
    let more = ap (length {A = Event}) (flat_next (λ (w : Worker _). w.due.items) ws i c.worker-item.result c.loop-worker-test.true)
    ∙ length-append (all_due (take i ws)) _ in
    let is = ap (λ (w : Worker _). length w.due.items) c.worker-item.is in
    let kept = c.loop-worker.invariant in
    let len = c.len-count.ensures in
    omega arith

pub returns : goal.returns
returns g c = c.loop-worker.invariant ∙ ap (λ ws. length (all_due ws)) (take_all c.loop-worker.worker-index c.args.workers.now c.loop-worker-test.false)
