use Rattle.std.proofs.Common.{◌≡◌, take, map}
use Rattle.std.specs.List.{All}
use Rattle.serde_json.specs.View.{view}
use Rattle.crq_sim.specs.declared.model.Object.{Object}
use Rattle.crq_reader.specs.Canonical.{names_in, object_data, IsTicks}
use Rattle.crq_reader.proofs.text.objects_value.Given as goal

abbrev pub invariant-loop-object : goal.invariant-loop-object
invariant-loop-object l = record {
  seen : map view l.values.items ≡ map (object_data (names_in l.objects)) (take l.object-index l.objects);
  ticks : All (λ (o : Object). IsTicks o.behaviour) (take l.object-index l.objects);
}
