-- Events in order of their objects, and each object's events in order of their keys.
use Rattle.std.specs.Prelude.{Bool, List}
use Rattle.std.specs.List.{IsDistinct}
use Rattle.std.specs.List.Sorted.{IsSorted}
use Rattle.std.specs.Ordering.{nat_cmp, ordering_then, is_eq}
use Rattle.std.specs.declared.cmp.Ordering.{Ordering}
use Rattle.crq_base.specs.declared.event.Event.{Event}
use Rattle.crq_base.specs.Keys.{event_cmp}

-- by the object at which they happen, and then by the order of events
abbrev pub object_cmp : Event → Event → Ordering
object_cmp a b = ordering_then (nat_cmp a.dst b.dst) (event_cmp a b)

abbrev pub IsArranged : List Event → Type 0
IsArranged = IsSorted object_cmp

-- whether two events have all fields the same
abbrev pub are_alike : Event → Event → Bool
are_alike e f = is_eq (event_cmp e f)

abbrev pub AreDistinct : List Event → Type 0
AreDistinct = IsDistinct are_alike
