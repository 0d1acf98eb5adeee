use Rattle.std.proofs.Common.{◌∙◌, sym}
use Rattle.crq_sim.proofs.HeapLemmas.{listed_popped}
use Rattle.crq_sim.proofs.pending.Pending.pop_first.Goals as goal

pub returns : goal.returns
returns c = sym c.self.view_is ∙ listed_popped _ _ _ c.in_ok-item.ensures.permutation (c.in_ok-item.ensures.below_top c.self.invariant)
