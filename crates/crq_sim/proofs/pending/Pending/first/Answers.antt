use Rattle.std.proofs.Common.{refl, arith}
use Rattle.crq_sim.proofs.HeapLemmas.{listed_top}
use Rattle.crq_sim.proofs.pending.Pending.first.Goals as goal

pub returns : goal.returns
returns c =
    let some = c.in_ok-item.ensures.variant.0 refl in
    let many = c.self.inside.events.data.ok.0 in
    listed_top c.in_ok-item.item.now _ c.args.self.now (omega arith) c.in_ok-item.ensures.lookup (c.in_ok-item.ensures.greatest c.self.invariant) c.self.view_is
