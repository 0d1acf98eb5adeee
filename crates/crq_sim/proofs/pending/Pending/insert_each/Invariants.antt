use Rattle.std.proofs.Common.{◌≡◌, drop}
use Rattle.crq_sim.specs.EventLists.{with_events}
use Rattle.crq_sim.proofs.pending.Pending.insert_each.Given as goal

abbrev pub invariant-loop-event : goal.invariant-loop-event
invariant-loop-event l = with_events (drop l.event-index l.events) l.self ≡ with_events l.events l.initial.self
