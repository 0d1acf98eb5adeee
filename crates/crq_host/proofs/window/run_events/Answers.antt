use Rattle.std.proofs.Common.{All, arith, length, refl, sym, subst}
use Rattle.std.specs.List.Sorted.{IsPermutation}
use Rattle.std.proofs.lemmas.List.{with_items_is}
use Rattle.crq_windows.specs.Groups.{AreGroups}
use Rattle.crq_host.specs.Shares.{AreEach, KeepsPass, IsReady}
use Rattle.crq_host.proofs.Runnings.{taken_window, events_there, events_apart, can_run, was_run, on_ok, all_under}
use Rattle.crq_host.proofs.window.run_events.Goals as goal

pub group_by_object-requires-clause-known : goal.group_by_object-requires-clause-known
group_by_object-requires-clause-known g c =
    let t = c.requires.taken in
    all_under c.args.model.now.objects c.objects.result.now c.args.course.now.events.items (sym c.objects.ensures) (events_there c.args.model.now c.args.plan t.0 t.1 c.args.course.now c.is_model.ensures t.2)

pub group_by_object-requires-clause-apart : goal.group_by_object-requires-clause-apart
group_by_object-requires-clause-apart g c = let t = c.requires.taken in events_apart c.args.model.now c.args.plan t.0 t.1 c.args.course.now c.is_model.ensures t.2

pub overflow_add-course : goal.overflow_add-course
overflow_add-course g c = let t = c.requires.taken in let small = taken_window c.args.model.now c.args.plan t.0 t.1 c.args.course.now c.is_model.ensures t.2 in omega arith

pub run_window-requires-clause-can : goal.run_window-requires-clause-can
run_window-requires-clause-can g c κs within =
    let t = c.requires.taken in
    let events = c.as_slice.result.now in
    let groups = c.as_slice-2.result.now in
    let moved = subst (IsPermutation c.args.course.now.events.items) (sym c.as_slice.ensures.value) c.in_ok-groups.ensures.same in
    let grouped = subst (AreGroups (length c.args.model.now.objects) events) (sym c.as_slice-2.ensures)
    (subst (λ es. AreGroups (length c.args.model.now.objects) es c.in_ok-groups.groups) (sym c.as_slice.ensures.value) (subst (λ os. AreGroups (length os) c.group_by_object.new.events.items c.in_ok-groups.groups) c.objects.ensures c.in_ok-groups.ensures.groups)) in
    can_run c.args.model.now c.args.plan t.0 t.1 c.args.course.now c.is_model.ensures t.2 events groups moved grouped c.requires.few

pub run_window-requires-clause-ready : goal.run_window-requires-clause-ready
run_window-requires-clause-ready g c κs within = subst (λ ws. All (λ w. IsReady w) ws) (sym c.as_mut_slice.ensures.value) c.requires.taken.2.ready

pub returns : goal.returns
returns g c =
    let course = c.args.course.now in
    let events = c.as_slice.result.now in
    let groups = c.as_slice-2.result.now in
    let workers = c.run_window.new.workers in
    let moved = subst (IsPermutation course.events.items) (sym c.as_slice.ensures.value) c.in_ok-groups.ensures.same in
    let grouped = subst (AreGroups (length c.args.model.now.objects) events) (sym c.as_slice-2.ensures)
    (subst (λ es. AreGroups (length c.args.model.now.objects) es c.in_ok-groups.groups) (sym c.as_slice.ensures.value) (subst (λ os. AreGroups (length os) c.group_by_object.new.events.items c.in_ok-groups.groups) c.objects.ensures c.in_ok-groups.ensures.groups)) in
    let kept = subst (λ ws. AreEach KeepsPass ws workers) c.as_mut_slice.ensures.value c.run_window.ensures.passes in
    record {
      ran = on_ok c.run_window.result c.run_window.ensures.done (λ done setup history t.
          was_run c.args.model.now c.args.plan setup history course c.is_model.ensures t events groups moved
          (can_run c.args.model.now c.args.plan setup history course c.is_model.ensures t events groups moved grouped c.requires.few) c.requires.few _ (refl, refl, refl, refl) workers
          (with_items_is course.workers workers (let n = kept.count in let o = course.workers.ok.0 in omega arith)) kept (sym c.as_slice.ensures.value) done);
    }
