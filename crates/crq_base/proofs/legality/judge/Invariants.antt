use Rattle.std.proofs.Common.{take}
use Rattle.crq_base.specs.Histories.{IsLegal}
use Rattle.crq_base.proofs.legality.judge.Given as goal

abbrev pub invariant-loop-index : goal.invariant-loop-index
invariant-loop-index l = IsLegal (take l.index l.history)
