use Rattle.std.proofs.Common.{take}
use Rattle.crq_host.specs.Shares.{AreSet}
use Rattle.crq_host.proofs.merging.set_states.Given as goal

abbrev pub invariant-loop-change : goal.invariant-loop-change
invariant-loop-change l = AreSet (take l.change-index l.changed) l.fn.states.items l.states.items
