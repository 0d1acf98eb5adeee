use Rattle.std.proofs.Common.{ap, refl, ◌∙◌}
use Rattle.crq_host.specs.declared.worker.Worker.{Worker}
use Rattle.crq_host.proofs.Drivings.{first_due, counts_begin}
use Rattle.crq_host.proofs.course.Course.begin.Goals as goal

pub returns : goal.returns
returns g c = record {
  begins = first_due c.args.model.now c.args.workers c.args.starts.items c.in_ok-workers.workers.items _ c.index_mut.result.now _ c.requires.some c.in_ok-workers.ensures.count c.in_ok-workers.ensures.blank
      (ap (λ (w : Worker _). w.taken.items) c.index_mut.ensures.value) refl refl (counts_begin _ _ _ _ _ (c.len-pending.ensures ∙ c.args.starts.ok.0) c.in_ok-states.ensures c.new.ensures.items);
}
