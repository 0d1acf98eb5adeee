use Rattle.std.proofs.Common.{◌≡◌, ◌<◌, ◌∙◌, ap, sym, refl, length, set, slice_get, get_or, Some, None, arith}
use Rattle.std.specs.Prelude.{option_map}
use Rattle.std.proofs.lemmas.Option.{slice_get_within}
use Rattle.crq_host.proofs.Places.{set_here}
use Rattle.crq_host.proofs.Crews.{lowering_none, lowering_more, lowered_views, lowers_pass, lowers_number}
use Rattle.crq_host.proofs.crew.lower_all.Goals as goal
use Rattle.crq_host.proofs.crew.lower_all.Goals.{in-Some, in_default}

pub loop-worker-init : goal.loop-worker-init
loop-worker-init g c = record { of = c.requires.of; lowering = lowering_none _ _ _ _ c.requires.lifted }

pub lower-requires-clause-pass : goal.lower-requires-clause-pass
lower-requires-clause-pass g c =
    let lt : c.loop-worker.worker-index < length c.loop-worker.workers = omega arith in
    lowers_pass _ _ _ _ _ c.loop-worker.worker-index c.in-Some.pass c.worker-item.result c.loop-worker.invariant.lowering lt c.requires.passes (sym c.in-Some.ensures.value)

pub lower-requires-clause-empty : goal.lower-requires-clause-empty
lower-requires-clause-empty g c =
    let lt : c.loop-worker.worker-index < length c.loop-worker.workers = omega arith in
    let inv = c.loop-worker.invariant.lowering in
    let number = lowers_number _ _ _ _ _ c.loop-worker.worker-index c.in-Some.pass c.worker-item.result inv lt c.requires.numbers (sym c.in-Some.ensures.value) in
    ap (λ i. slice_get (g.S.EventSet.places c.loop-worker.passes) i) number ∙ inv.empty c.loop-worker.worker-index (omega arith) (omega arith)

pub loop-worker-preserved : goal.loop-worker-preserved
loop-worker-preserved g c =
    let inv = c.loop-worker.invariant.lowering in
    let places = g.S.EventSet.places in
    let view = g.S.EventSet.view in
    let n = c.loop-worker.worker-index in
    let lt : n < length c.loop-worker.workers = omega arith in
    let many : length c.loop-worker.workers ≡ length c.args.workers.now = omega arith in
    elim c.match-take.branch [
      | in-Some w ↦ (let had = sym w.in-Some.ensures.value in
          let number = lowers_number _ _ _ _ _ n w.in-Some.pass c.worker-item.result inv lt c.requires.numbers had in
          record {
            of = rw w.passes-is w.lower.ensures.of;
            lowering = lowering_more _ _ _ _ _ _ _ _ c.worker-item.result inv lt many
                (ap places w.passes-is ∙ w.lower.ensures.lowered ∙ ap (λ i. set (places c.loop-worker.passes) i (Some (view w.in-Some.pass))) number ∙ ap (λ o. set (places c.loop-worker.passes) n (option_map view o)) (sym had))
                c.take.ensures.after refl;
          })
      | in_default w ↦ (let none : (get_or c.loop-worker.workers n c.worker-item.result).pass ≡ None = sym w.in_default.ensures.value in
          record {
            of = rw w.passes-is c.loop-worker.invariant.of;
            lowering = lowering_more _ _ _ _ _ _ _ _ c.worker-item.result inv lt many
                (ap places w.passes-is ∙ sym (set_here (places c.loop-worker.passes) n None (inv.empty n (omega arith) (omega arith))) ∙ ap (λ o. set (places c.loop-worker.passes) n (option_map view o)) (sym none))
                c.take.ensures.after refl;
          })
    ]

pub returns-clause-places : goal.returns-clause-places
returns-clause-places g c = lowered_views _ _ _ _ _ c.loop-worker.worker-index c.loop-worker.invariant.lowering (omega arith)

pub returns-clause-idle : goal.returns-clause-idle
returns-clause-idle g c = λ k w at. c.loop-worker.invariant.lowering.idle k w (let h = slice_get_within c.loop-worker.workers k w at in omega arith) at
