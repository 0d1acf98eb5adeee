use Rattle.std.proofs.Common.{◌≡◌, ◌++◌, take}
use Rattle.crq_host.specs.Courses.{all_taken}
use Rattle.crq_host.proofs.course.add_taken.Given as goal

abbrev pub invariant-loop-worker : goal.invariant-loop-worker
invariant-loop-worker g l = l.events.items ≡ l.fn.events.items ++ all_taken (take l.worker-index l.workers)
