use Rattle.std.proofs.Common.{map, arith}
use Rattle.std.specs.List.{filter_map}
use Rattle.serde_json.specs.Find.{as_str}
use Rattle.serde_json.specs.View.{view}
use Rattle.crq_reader.specs.Language.{names_of}
use Rattle.crq_reader.proofs.ReadLaws.{length-known_all}
use Rattle.crq_reader.proofs.resolved.targets.Goals as goal

pub from_vec-requires-clause-some : goal.from_vec-requires-clause-some
from_vec-requires-clause-some c =
    let texts = filter_map as_str (map view c.args.names.now) in
    omega (arith, c.in_ok-numbers.numbers.ok.0, length-known_all (names_of c.args.drafts.now) texts c.in_ok-numbers.numbers.items c.in_ok-numbers.ensures.ok)

pub from_vec-requires-clause-few : goal.from_vec-requires-clause-few
from_vec-requires-clause-few c =
    let texts = filter_map as_str (map view c.args.names.now) in
    omega (arith, c.in_ok-numbers.numbers.ok.0, length-known_all (names_of c.args.drafts.now) texts c.in_ok-numbers.numbers.items c.in_ok-numbers.ensures.ok)
