use Rattle.std.proofs.Common.{drop}
use Rattle.crq_host.proofs.RunLaws.{Running}
use Rattle.crq_host.proofs.running.run_events.Given as goal

abbrev pub invariant-loop-event : goal.invariant-loop-event
invariant-loop-event g l = Running l.model l.events (drop l.event-index l.events) l.fn.running l.running l.fn.worker l.worker
