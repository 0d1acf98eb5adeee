use Rattle.std.proofs.Common.{◌≡◌, ◌∙◌, ap, sym, refl, slice_get, arith}
use Rattle.std.proofs.lemmas.Option.{slice_get_within}
use Rattle.crq_host.proofs.Crews.{lifting_none, lifting_more, lifted_views}
use Rattle.crq_host.proofs.crew.lift_all.Goals as goal

pub loop-worker-init : goal.loop-worker-init
loop-worker-init g c = record { of = c.requires.of; number = refl; lifting = lifting_none _ _ _ _ }

pub lift-requires-clause-there : goal.lift-requires-clause-there
lift-requires-clause-there g c =
    let v = c.requires.there c.loop-worker.worker-index (omega arith) in
    (v.0, ap (λ i. slice_get (g.S.EventSet.places c.loop-worker.passes) i) c.loop-worker.invariant.number ∙ c.loop-worker.invariant.lifting.left c.loop-worker.worker-index (omega arith) ∙ v.1)

pub loop-worker-preserved : goal.loop-worker-preserved
loop-worker-preserved g c =
    let inv = c.loop-worker.invariant in
    let at : c.loop-worker.number ≡ c.loop-worker.worker-index = inv.number in
    let was = sym (ap (λ i. slice_get (g.S.EventSet.places c.loop-worker.passes) i) at) ∙ c.lift.ensures.was in
    let is = rw at at c.lift.ensures.lifted in
    record {
      of = c.lift.ensures.rest;
      number = omega arith;
      lifting = lifting_more _ _ _ _ _ _ _ _ c.lift.result _ c.worker-item.result inv.lifting (omega arith) (omega arith) was is c.lift.ensures.of refl refl;
    }

pub returns-clause-lifted : goal.returns-clause-lifted
returns-clause-lifted g c =
    let inv = c.loop-worker.invariant in
    record {
      count = inv.lifting.wide ∙ c.requires.count;
      empty = (λ k lt. inv.lifting.gone k (omega arith));
    }

pub returns-clause-passes : goal.returns-clause-passes
returns-clause-passes g c = λ k w at. c.loop-worker.invariant.lifting.passes k w (let h = slice_get_within c.loop-worker.workers k w at in omega arith) at

pub returns-clause-views : goal.returns-clause-views
returns-clause-views g c = lifted_views _ _ _ _ _ _ c.loop-worker.worker-index c.loop-worker.invariant.lifting (omega arith) (let n = c.requires.count in omega arith)
