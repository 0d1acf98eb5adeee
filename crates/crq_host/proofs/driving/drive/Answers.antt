use Rattle.std.proofs.Common.{[], ◌∷◌, ◌++◌, arith, length, refl, ap, sym, subst, ◌∙◌}
use Rattle.crq_base.specs.declared.event.Event.{Event}
use Rattle.crq_host.specs.declared.course.Plan.{Plan}
use Rattle.crq_sim.proofs.BoundLemmas.{few_starts}
use Rattle.crq_host.specs.Courses.{Begins, IsToPut, AllEnd}
use Rattle.crq_host.proofs.Drivings.{begins_to_put, driven, too_few}
use Rattle.crq_host.proofs.driving.drive.Goals as goal

pub overflow_cast-result : goal.overflow_cast-result
overflow_cast-result g c =
    let l = c.len-then-len-rows.ensures in
    let o = c.in_ok-starts.starts.ok.0 in
    let e = ap (length {A = Event}) c.in_ok-starts.ensures in
    let f = few_starts c.args.model.now.until 0 c.args.model.now.starts in
    let s = c.is_model.ensures.few_starts in
    omega arith

pub returns-then-len-rows-clause-drives : goal.returns-then-len-rows-clause-drives
returns-then-len-rows-clause-drives g c =
    let o = c.in_ok-starts.starts.ok.0 in
    too_few c.args.model.now (record { events = c.args.cap; rows = c.args.rows }) (g.M.SetMaker.closed c.args.maker.now) (g.M.SetMaker.closed c.args.maker.now) c.len-then-len-rows.result c.is_model.ensures
    (c.len-then-len-rows.ensures ∙ o ∙ ap (length {A = Event}) c.in_ok-starts.ensures)
    (let l = c.len-then-len-rows.ensures in let k = c.len.ensures in let t = c.if-len-rows.true in omega arith) refl

pub run_all-whole-requires-clause-to_put : goal.run_all-whole-requires-clause-to_put
run_all-whole-requires-clause-to_put g c κs within =
    let m = c.args.model.now in
    let plan : Plan = record { cap = c.args.cap; rows = c.args.rows; span = c.span_of-span.result } in
    let setup = g.M.Set.EventSet.setup c.in_ok-set.set in
    let course = c.in_ok-course.course in
    let begun = subst (λ es. Begins m c.args.workers es course) c.in_ok-starts.ensures c.in_ok-course.ensures.begins in
    let most = g.M.SetMaker.team in
    subst (λ h. IsToPut m plan setup h course) (sym c.in_ok-set.ensures.empty)
    (begins_to_put m plan setup c.args.workers course c.is_model.ensures begun (record { cap = c.requires.cap.1; rows = c.requires.rows.1; span = c.span_of-span.ensures })
    (let o = c.in_ok-starts.starts.ok.0 in let e = ap (length {A = Event}) c.in_ok-starts.ensures in let l = c.len.ensures in let t = c.if-len-rows.false in omega arith)
    c.in_ok-set.ensures.setup (c.requires.workers.0, (let top = most.1 in let few = c.requires.workers.1 in omega arith)))

pub returns-clause-drives : goal.returns-clause-drives
returns-clause-drives g c =
    let m = c.args.model.now in
    let plan : Plan = record { cap = c.args.cap; rows = c.args.rows; span = c.span_of-span.result } in
    let history = g.M.Set.EventSet.history c.run_all-whole.result.0 in
    let course = c.run_all-whole.new.course in
    driven m plan (g.M.SetMaker.closed c.args.maker.now) (g.M.SetMaker.closed c.close.new.self) history course c.in_ok-into_outcome.field-0
    (c.close.ensures.closed ∙ ap (λ hs. hs ++ history ∷ []) c.in_ok-set.ensures.closed)
    (subst (AllEnd m plan history course) c.in_ok-end.was c.run_all-whole.ensures.all) c.in_ok-into_outcome.ensures
