use Rattle.std.proofs.Common.{◌≡◌, None}
use Rattle.crq_rows.specs.Passes.{caller, IsPassOf}
use Rattle.crq_list.specs.Taking.{IsTaking}
use Rattle.crq_hold.proofs.tests.stopping.mark.Given as goal

abbrev pub invariant-loop : goal.invariant-loop
invariant-loop l = IsPassOf l.queue.table l.pass × IsTaking 0 l.queue.table l.control l.op (caller l.queue.table l.pass) × (l.pass.debts.cut ≡ None)
