use Rattle.std.proofs.Common.{length, ◌-◌}
use Rattle.crq_host.specs.Shares.{Begun}
use Rattle.crq_host.proofs.RunLaws.{Sharing}
use Rattle.crq_host.proofs.running.run_share.Given as goal

abbrev pub invariant-loop-at : goal.invariant-loop-at
invariant-loop-at g l = (let b : Begun = record { model = l.model; states = l.states; events = l.events; groups = l.groups } in Sharing b l.count l.number l.at l.fn.worker l.worker)

abbrev pub decreases-loop-at : goal.decreases-loop-at
decreases-loop-at g l = length l.groups - l.at
