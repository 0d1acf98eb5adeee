use Rattle.std.proofs.Common.{◌≡◌, length, All}
use Rattle.crq_host.specs.Courses.{IsBlank}
use Rattle.crq_host.specs.declared.worker.Worker.{Worker}
use Rattle.crq_host.proofs.course.blank_workers.Given as goal

abbrev pub invariant-loop-number : goal.invariant-loop-number
invariant-loop-number g l =
    record {
      many : length l.workers.items ≡ l._number;
      blank : All (λ (w : Worker _). IsBlank w) l.workers.items;
    }
