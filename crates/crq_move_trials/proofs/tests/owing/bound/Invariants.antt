use Rattle.std.specs.Prelude.{◌≡◌, None}
use Rattle.crq_rows.specs.Passes.{IsPassOf}
use Rattle.crq_list.specs.Operations.{IsUnderWay}
use Rattle.crq_move.specs.Binding.{the_binding}
use Rattle.crq_move_trials.proofs.tests.owing.bound.Given as goal

abbrev pub invariant-loop : goal.invariant-loop
invariant-loop l = IsPassOf l.table l.pass × IsUnderWay the_binding l.table (l.op, l.pass) × (l.pass.debts.second_cut ≡ None)
