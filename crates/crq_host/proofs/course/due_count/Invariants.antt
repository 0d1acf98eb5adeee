use Rattle.std.proofs.Common.{◌≡◌, length, take}
use Rattle.crq_host.specs.Courses.{all_due}
use Rattle.crq_host.proofs.course.due_count.Given as goal

abbrev pub invariant-loop-worker : goal.invariant-loop-worker
invariant-loop-worker g l = l.count ≡ length (all_due (take l.worker-index l.workers))
