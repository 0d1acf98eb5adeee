use Rattle.crq_rows.specs.Passes.{caller, IsPassOf}
use Rattle.crq_list.specs.Cutting.{IsCutting}
use Rattle.crq_hold.proofs.tests.stopping.cut.Given as goal

abbrev pub invariant-loop : goal.invariant-loop
invariant-loop l = IsPassOf l.queue.table l.pass × IsCutting 0 l.queue.table l.control l.op (caller l.queue.table l.pass)
