use Rattle.crq_host.proofs.Takes.{Taking}
use Rattle.crq_host.proofs.taking.take_below.Given as goal

abbrev pub invariant-loop : goal.invariant-loop
invariant-loop g l =
    record {
      next : (goal.iterator-loop g).can_next l.iterator';
      finite : (goal.iterator-loop g).is_finite l.iterator';
      of : g.S.EventSet.is_of l.set l.pass;
      taking : Taking l.limit (g.S.EventSet.view l.fn.pass) (g.S.EventSet.view l.pass) l.fn.taken.items l.taken.items;
    }
