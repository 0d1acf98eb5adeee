use Rattle.std.proofs.Common.{take}
use Rattle.crq_base.proofs.Leasts.{IsLeastOf}
use Rattle.crq_base.proofs.legality.least_left.Given as goal

abbrev pub invariant-loop-entry : goal.invariant-loop-entry
invariant-loop-entry l = IsLeastOf (take l.entry-index l.front) l.history l.bound l.least
