use Rattle.crq_host.specs.Courses.{IsBetween}
use Rattle.crq_host.proofs.window.run_windows.Given as goal

abbrev pub invariant-loop : goal.invariant-loop
invariant-loop g l =
    record {
      next : (goal.iterator-loop g).can_next l.iterator';
      finite : (goal.iterator-loop g).is_finite l.iterator';
      whole : g.S.EventSet.is_whole l.set l.whole;
      between : IsBetween l.model l.plan (g.S.EventSet.setup l.set) (g.S.EventSet.history l.whole) l.course;
    }
