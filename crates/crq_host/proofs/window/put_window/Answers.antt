use Rattle.std.proofs.Common.{◌≡◌, ℕ, arith, slice_get, Some, refl, sym, subst}
use Rattle.std.proofs.lemmas.List.{with_items_is}
use Rattle.crq_host.specs.declared.worker.Worker.{Worker}
use Rattle.crq_host.specs.Courses.{all_due}
use Rattle.crq_host.specs.Phases.{PutsEnd}
use Rattle.crq_host.specs.Workers.{IsDue, AreKept}
use Rattle.crq_host.proofs.Runnings.{put_short, put_between}
use Rattle.crq_host.proofs.window.put_window.Goals as goal

pub put_all-whole-requires-clause-due : goal.put_all-whole-requires-clause-due
put_all-whole-requires-clause-due g c κs within =
    let history = g.S.EventSet.history c.args.whole in
    let t = c.requires.to_put in
    subst (λ ws. (k : ℕ) (w : Worker _) → slice_get ws k ≡ Some w → IsDue (g.S.EventSet.setup c.args.set.now).workers c.args.plan.span history k w.due.items) (sym c.as_mut_slice.ensures.value)
    (subst (λ n. (k : ℕ) (w : Worker _) → slice_get c.args.course.now.workers.items k ≡ Some w → IsDue n c.args.plan.span history k w.due.items) (sym t.crew.made.callers) t.due)

pub only_memory-requires : goal.only_memory-requires
only_memory-requires g c =
    let setup = g.S.EventSet.setup c.args.set.now in
    let history = g.S.EventSet.history c.args.whole in
    let now = g.S.EventSet.history c.put_all-whole.result.0 in
    let put = subst (λ ws. PutsEnd setup (all_due ws) history now c.put_all-whole.result.1) c.as_mut_slice.ensures.value c.put_all-whole.ensures.put in
    let d = subst (PutsEnd setup (all_due c.args.course.now.workers.items) history now) c.in-Err.is put in
    put_short c.args.model.now c.args.plan setup history now d.0 c.args.course.now c.is_model.ensures c.requires.to_put d.1 d.2 d.3 c.in-Err.short d.4

pub returns-in-Ok-clause-put : goal.returns-in-Ok-clause-put
returns-in-Ok-clause-put g c =
    let setup = g.S.EventSet.setup c.args.set.now in
    let history = g.S.EventSet.history c.args.whole in
    let now = g.S.EventSet.history c.put_all-whole.result.0 in
    let old = c.args.course.now.workers in
    let new = c.put_all-whole.new.workers in
    let put = subst (λ ws. PutsEnd setup (all_due ws) history now c.put_all-whole.result.1) c.as_mut_slice.ensures.value c.put_all-whole.ensures.put in
    let d = subst (PutsEnd setup (all_due old.items) history now) c.in-Ok.is put in
    let kept = subst (λ ws. AreKept ws new) c.as_mut_slice.ensures.value c.put_all-whole.ensures.kept in
    put_between c.args.model.now c.args.plan setup history now d.0 c.args.course.now c.is_model.ensures c.requires.to_put d.1 _ d.2 refl
    (subst (AreKept old.items) (sym (with_items_is old new (let n = kept.count in let o = old.ok.0 in omega arith))) kept)
