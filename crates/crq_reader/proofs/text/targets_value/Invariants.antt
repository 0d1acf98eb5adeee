use Rattle.std.proofs.Common.{◌≡◌, take, map}
use Rattle.serde_json.specs.View.{view}
use Rattle.crq_reader.specs.Canonical.{names_in, name_at}
use Rattle.crq_reader.proofs.text.targets_value.Given as goal

abbrev pub invariant-loop-number : goal.invariant-loop-number
invariant-loop-number l = map view l.names.items ≡ map (name_at (names_in l.objects)) (take l.number-index l.number-items)
