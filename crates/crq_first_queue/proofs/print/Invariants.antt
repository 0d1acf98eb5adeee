use Rattle.std.proofs.Common.{[]}
use Rattle.crq_first_queue.specs.Deeds.{Did}
use Rattle.crq_first_queue.proofs.print.Given as goal

abbrev pub invariant-loop : goal.invariant-loop
invariant-loop g l = Did l.calendar.table l.fn.pass l.pass []
