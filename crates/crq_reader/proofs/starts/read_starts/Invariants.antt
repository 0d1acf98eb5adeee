use Rattle.std.proofs.Common.{◌≡◌, length, drop, map}
use Rattle.serde_json.specs.View.{view}
use Rattle.crq_reader.specs.Drafts.{header_seen}
use Rattle.crq_reader.specs.Language.{each, next_start, names_of, starts_of}
use Rattle.crq_reader.proofs.starts.read_starts.Given as goal

abbrev pub invariant-loop-value : goal.invariant-loop-value
invariant-loop-value l = record {
  read : length l.starts.items ≡ l.value-index;
  rest : each (next_start (names_of l.drafts)) l.starts.items (map view (drop l.value-index l.values)) ≡ starts_of (header_seen l.header) (names_of l.drafts);
}
