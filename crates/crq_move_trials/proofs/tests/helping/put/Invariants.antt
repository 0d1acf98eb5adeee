use Rattle.crq_rows.specs.Passes.{IsPassOf}
use Rattle.crq_list.specs.Operations.{IsUnderWay}
use Rattle.crq_list.specs.Inserting.{the_insertion}
use Rattle.crq_move_trials.proofs.tests.helping.put.Given as goal

abbrev pub invariant-loop : goal.invariant-loop
invariant-loop l = IsPassOf l.table l.pass × IsUnderWay the_insertion l.table (l.op, l.pass)
