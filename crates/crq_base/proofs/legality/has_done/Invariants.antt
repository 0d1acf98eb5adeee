use Rattle.std.proofs.Common.{take}
use Rattle.std.specs.List.{filter_map, Contains}
use Rattle.crq_base.specs.Faults.{event_of}
use Rattle.crq_base.proofs.legality.has_done.Given as goal

abbrev pub invariant-loop-entry : goal.invariant-loop-entry
invariant-loop-entry l = Contains (filter_map (event_of l.deed) (take l.entry-index l.history)) l.event → ⊥
