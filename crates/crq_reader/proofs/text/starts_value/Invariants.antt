use Rattle.std.proofs.Common.{◌≡◌, ◌<◌, ◌^◌, take, map}
use Rattle.std.specs.List.{All}
use Rattle.serde_json.specs.View.{view}
use Rattle.crq_sim.specs.declared.model.Start.{Start}
use Rattle.crq_reader.specs.Canonical.{names_in, start_data}
use Rattle.crq_reader.proofs.text.starts_value.Given as goal

abbrev pub invariant-loop-start : goal.invariant-loop-start
invariant-loop-start l = record {
  seen : map view l.values.items ≡ map (start_data (names_in l.objects)) (take l.start-index l.starts);
  ticks : All (λ (s : Start). s.time < 2 ^ 32) (take l.start-index l.starts);
}
