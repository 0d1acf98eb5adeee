use Rattle.crq_host.proofs.Puts.{Putting}
use Rattle.crq_host.proofs.putting.put_due.Given as goal

abbrev pub invariant-loop-event : goal.invariant-loop-event
invariant-loop-event g l =
    record {
      of : g.S.EventSet.is_of l.set l.pass;
      putting : Putting (g.S.EventSet.view l.fn.pass) (g.S.EventSet.view l.pass) l.due l.event-index;
    }
