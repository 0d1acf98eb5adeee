-- An event list in a heap, whose greatest element is the least event.
use Rattle.std.specs.Prelude.{List, [], map}
use Rattle.std.specs.declared.cmp.Reverse.{Reverse}
use Rattle.std.specs.declared.cmp.Ordering.{Ordering}
use Rattle.crq_base.specs.declared.event.Event.{Event}
use Rattle.crq_base.specs.Keys.{event_cmp}
use Rattle.crq_sim.specs.EventLists.{with_events}

-- the order of events the other way round
abbrev pub reverse_cmp : Reverse Event → Reverse Event → Ordering
reverse_cmp a b = event_cmp b.0 a.0

-- the events of a heap, each put at its place
abbrev pub listed : List (Reverse Event) → List Event
listed items = with_events (map (λ (item : Reverse Event). item.0) items) []
