use Rattle.std.proofs.Common.{◌≤◌, ◌-◌, length, take}
use Rattle.crq_io.specs.Told.{Appends}
use Rattle.crq_io.proofs.sink.write_whole.Given as goal

abbrev pub invariant-loop-sent : goal.invariant-loop-sent
invariant-loop-sent g l =
    (l.sent ≤ length l.bytes) × Appends (g.S.Sink.written l.fn.sink) (g.S.Sink.written l.sink) (take l.sent l.bytes) × (g.S.Sink.faults l.fn.sink ≤ g.S.Sink.faults l.sink)

abbrev pub decreases-loop-sent : goal.decreases-loop-sent
decreases-loop-sent g l = length l.bytes - l.sent
