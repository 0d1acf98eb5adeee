use Rattle.std.proofs.Common.{subst, ap, ◌∙◌}
use Rattle.std.proofs.lemmas.List.Elements.{All-more}
use Rattle.crq_sim.specs.declared.model.Object.{Object}
use Rattle.crq_reader.specs.Canonical.{names_in, object_data, IsTicks}
use Rattle.crq_reader.proofs.TextLaws.{viewed_more}
use Rattle.crq_reader.proofs.text.objects_value.Goals as goal

pub loop-object-preserved : goal.loop-object-preserved
loop-object-preserved c = record {
  seen =
      viewed_more (object_data (names_in c.args.objects.now)) c.args.objects.now c.loop-object.object-index c.loop-object.values.items c.push.new.self.items c.in_ok-value.value c.object-item.result c.in_ok-push.ensures.items
      c.loop-object-test.true (c.in_ok-value.ensures.value ∙ ap (object_data (names_in c.args.objects.now)) c.object-item.is) c.loop-object.invariant.seen;
  ticks =
      All-more (λ (o : Object). IsTicks o.behaviour) c.args.objects.now c.loop-object.object-index c.object-item.result c.loop-object-test.true c.loop-object.invariant.ticks
      (subst (λ (o : Object). IsTicks o.behaviour) c.object-item.is c.in_ok-value.ensures.ticks);
}
