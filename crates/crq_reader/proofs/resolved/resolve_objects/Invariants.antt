use Rattle.std.proofs.Common.{◌≡◌, length, drop, map}
use Rattle.crq_reader.specs.Drafts.{named_seen}
use Rattle.crq_reader.specs.Language.{each, next_object, names_of, objects_of}
use Rattle.crq_reader.proofs.resolved.resolve_objects.Given as goal

abbrev pub invariant-loop-draft : goal.invariant-loop-draft
invariant-loop-draft l = record {
  read : length l.objects.items ≡ l.draft-index;
  rest : each (next_object (names_of l.drafts)) l.objects.items (map named_seen (drop l.draft-index l.draft-items)) ≡ objects_of l.drafts;
}
