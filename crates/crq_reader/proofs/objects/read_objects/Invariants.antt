use Rattle.std.proofs.Common.{◌≡◌, length, drop, map}
use Rattle.serde_json.specs.View.{view}
use Rattle.crq_reader.specs.Drafts.{header_seen}
use Rattle.crq_reader.specs.Language.{each, next_named, named_objects}
use Rattle.crq_reader.proofs.objects.read_objects.Given as goal

abbrev pub invariant-loop-value : goal.invariant-loop-value
invariant-loop-value l = record {
  read : length l.drafts ≡ l.value-index;
  rest : each (next_named (header_seen l.header)) l.drafts (map view (drop l.value-index l.values)) ≡ named_objects (header_seen l.header);
}
