use Rattle.std.proofs.Common.{◌≡◌}
use Rattle.crq_host.proofs.Crews.{Lifting}
use Rattle.crq_host.proofs.crew.lift_all.Given as goal

abbrev pub invariant-loop-worker : goal.invariant-loop-worker
invariant-loop-worker g l =
    let places = g.S.EventSet.places in
    record {
      of : g.S.EventSet.are_of l.set l.passes;
      number : l.number ≡ l.worker-index;
      lifting : Lifting g.S.EventSet.view (g.S.EventSet.is_of l.set) (places l.fn.passes) (places l.passes) l.fn.workers l.workers l.worker-index;
    }
