use Rattle.std.proofs.Common.{◌≡◌, drop, map}
use Rattle.std.specs.List.{filter_map}
use Rattle.serde_json.specs.Find.{as_str}
use Rattle.serde_json.specs.View.{view}
use Rattle.crq_reader.specs.Language.{each, known, known_all, names_of}
use Rattle.crq_reader.specs.declared.member.Member.TheVariants.{Targets}
use Rattle.crq_reader.proofs.resolved.numbers.Given as goal

abbrev pub invariant-loop-value : goal.invariant-loop-value
invariant-loop-value l =
    each (λ _ t. known Targets (names_of l.drafts) t) l.numbers.items (filter_map as_str (map view (drop l.value-index l.names))) ≡ known_all (names_of l.drafts) (filter_map as_str (map view l.names))
