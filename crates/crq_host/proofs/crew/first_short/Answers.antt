use Rattle.std.proofs.Common.{◌∙◌, inl, inr, sym, ap, arith}
use Rattle.std.proofs.lemmas.Bool.{cases_eq}
use Rattle.crq_host.specs.declared.worker.Worker.{Worker}
use Rattle.crq_host.proofs.Crews.{short_at, shorts_within}
use Rattle.crq_host.proofs.crew.first_short.Goals as goal

pub loop-worker-preserved : goal.loop-worker-preserved
loop-worker-preserved g c = λ k short lt at. elim (cases_eq k c.loop-worker.worker-index) [
  | inl e ↦ short_at c.args.workers.now c.loop-worker.worker-index k c.worker-item.result short c.loop-worker-test.true e at ∙ sym (ap (λ (w : Worker _). w.short) c.worker-item.is) ∙ c.in_default.is
  | inr e ↦ c.loop-worker.invariant k short (omega arith) at
]

pub returns : goal.returns
returns g c = λ k short at. c.loop-worker.invariant k short (let lt = shorts_within c.args.workers.now k short at in omega arith) at
