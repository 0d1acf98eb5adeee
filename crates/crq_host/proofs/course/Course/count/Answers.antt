use Rattle.std.proofs.Common.{◌≡◌, arith, refl, ap, ◌∙◌, ◌+◌, length}
use Rattle.crq_host.specs.Courses.{all_due}
use Rattle.crq_host.proofs.course.Course.count.Goals as goal

pub returns : goal.returns
returns g c =
    let due : c.due_count-sends.result ≡ length (all_due c.args.self.now.workers.items) = c.due_count-sends.ensures ∙ ap (λ ws. length (all_due ws)) c.as_slice.ensures.value in
    let len : c.len-events.result ≡ length c.args.self.now.events.items = c.len-events.ensures ∙ c.args.self.now.events.ok.0 in
    let low = c.requires.events in
    (record { window = refl; made = ap (λ k. c.args.self.now.made + k) len; pending = omega arith; states = refl; log = refl; workers = refl }, c.if-self-plan.false, c.max-self.ensures)

pub returns-then-self-plan : goal.returns-then-self-plan
returns-then-self-plan g c =
    let due : c.due_count-sends.result ≡ length (all_due c.args.self.now.workers.items) = c.due_count-sends.ensures ∙ ap (λ ws. length (all_due ws)) c.as_slice.ensures.value in
    let len : c.len-events.result ≡ length c.args.self.now.events.items = c.len-events.ensures ∙ c.args.self.now.events.ok.0 in
    let low = c.requires.events in
    (record { window = refl; made = ap (λ k. c.args.self.now.made + k) len; pending = omega arith; states = refl; log = refl; workers = refl }, c.if-self-plan.true, refl)
