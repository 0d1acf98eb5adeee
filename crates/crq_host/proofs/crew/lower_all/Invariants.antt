use Rattle.crq_host.proofs.Crews.{Lowering}
use Rattle.crq_host.proofs.crew.lower_all.Given as goal

abbrev pub invariant-loop-worker : goal.invariant-loop-worker
invariant-loop-worker g l =
    record {
      of : g.S.EventSet.are_of l.set l.passes;
      lowering : Lowering g.S.EventSet.view (g.S.EventSet.is_of l.set) (g.S.EventSet.places l.passes) l.fn.workers l.workers l.worker-index;
    }
