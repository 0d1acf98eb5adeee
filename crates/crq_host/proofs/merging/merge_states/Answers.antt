use Rattle.std.proofs.Common.{◌∙◌, ap, subst}
use Rattle.crq_host.specs.Shares.{AreSet}
use Rattle.crq_host.specs.declared.worker.Worker.{Worker}
use Rattle.crq_host.proofs.MergeLaws.{set_more}
use Rattle.crq_host.proofs.merging.merge_states.Goals as goal

pub loop-worker-preserved : goal.loop-worker-preserved
loop-worker-preserved g c =
    set_more c.args.workers.now c.loop-worker.worker-index c.worker-item.result _ _ _ c.loop-worker-test.true c.loop-worker.invariant
    (subst (λ xs. AreSet xs c.loop-worker.states.items c.set_states.new.states.items) (c.as_slice.ensures.value ∙ ap (λ (w : Worker _). w.changed.items) c.worker-item.is) c.set_states.ensures)
