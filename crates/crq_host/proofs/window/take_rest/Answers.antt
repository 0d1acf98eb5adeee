use Rattle.std.proofs.Common.{◌≡◌, ◌+◌, ◌∙◌, refl, arith, ap, subst, All, None}
use Rattle.std.specs.Prelude.{OnOk}
use Rattle.std.proofs.lemmas.List.{with_items_is}
use Rattle.crq_host.specs.declared.worker.Worker.{Worker}
use Rattle.crq_host.specs.Phases.{DrainEnds, Drains}
use Rattle.crq_host.specs.Workers.{AreTakenBy}
use Rattle.crq_host.proofs.Takings.{first_window, first_short, all_taken_now}
use Rattle.crq_host.proofs.window.take_rest.Goals as goal

pub overflow_add-window : goal.overflow_add-window
overflow_add-window g c = let small = first_window c.args.model.now c.args.plan (g.S.EventSet.setup c.args.set.now) (g.S.EventSet.history c.args.whole) c.args.course.now c.args.first c.requires.first in omega arith

pub only_memory-requires : goal.only_memory-requires
only_memory-requires g c =
    let setup = g.S.EventSet.setup c.args.set.now in
    let history = g.S.EventSet.history c.args.whole in
    let d = subst (DrainEnds setup c.edge-limit.result history (g.S.EventSet.history c.drain-whole.result.0)) c.in-Err.is c.drain-whole.ensures.drained in
    first_short c.args.model.now c.args.plan setup history c.args.course.now c.args.first c.requires.first c.in-Err.short d.2

pub returns-in-Ok-clause-taken : goal.returns-in-Ok-clause-taken
returns-in-Ok-clause-taken g c =
    let setup = g.S.EventSet.setup c.args.set.now in
    let history = g.S.EventSet.history c.args.whole in
    let workers = c.drain-whole.new.workers in
    let d = subst (DrainEnds setup c.edge-limit.result history (g.S.EventSet.history c.drain-whole.result.0)) c.in_default.is c.drain-whole.ensures.drained in
    let drains = subst (λ n. Drains n history d.0) (c.edge-limit.ensures ∙ ap (λ l. c.args.first.time + l) c.lookahead.ensures) d.2 in
    let taken = subst (λ ws. AreTakenBy ws workers d.0) c.as_mut_slice.ensures.value (c.drain-whole.ensures.taken d.0 d.1.extends) in
    let fine = subst (λ r. OnOk r (All (λ (w : Worker _). w.short ≡ None) workers)) c.in_default.is c.drain-whole.ensures.fine in
    all_taken_now c.args.model.now c.args.plan setup history c.args.course.now c.args.first c.requires.first (g.S.EventSet.history c.drain-whole.result.0) d.0 workers _ c.collect.new.self
    c.is_model.ensures d.1 drains taken fine c.in-Ok.ensures refl
    (with_items_is c.args.course.now.workers workers (let n = taken.count in let o = c.args.course.now.workers.ok.0 in omega arith))
