-- The order of events.
use Rattle.std.specs.Prelude.{◌≡◌, true}
use Rattle.std.specs.Ordering.{nat_cmp, ordering_then, is_lt}
use Rattle.std.specs.declared.cmp.Ordering.{Ordering}
use Rattle.crq_base.specs.declared.event.Event.{Event}

-- the order of keys: by time, then by source, then by the source's number
abbrev pub key_cmp : Event → Event → Ordering
key_cmp a b = ordering_then (ordering_then (nat_cmp a.time b.time) (nat_cmp a.src b.src)) (nat_cmp a.seq b.seq)

-- what decides between events of one key
abbrev pub tie_cmp : Event → Event → Ordering
tie_cmp a b = ordering_then (nat_cmp a.dst b.dst) (nat_cmp a.load b.load)

-- the order of events: time, source, number, and then what decides a tie
abbrev pub event_cmp : Event → Event → Ordering
event_cmp a b = ordering_then (nat_cmp a.time b.time) (ordering_then (nat_cmp a.src b.src) (ordering_then (nat_cmp a.seq b.seq) (tie_cmp a b)))

-- an event is before another one in this order
abbrev pub IsBefore : Event → Event → Type 0
IsBefore a b = is_lt (event_cmp a b) ≡ true
