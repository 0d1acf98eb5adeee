use Rattle.crq_move_trials.specs.Looking.{IsLooker, HasCome}
use Rattle.crq_move_trials.proofs.tests.moved.walk.Given as goal

abbrev pub invariant-loop : goal.invariant-loop
invariant-loop l = IsLooker l.table l.pass × HasCome l.table l.row l.pass
