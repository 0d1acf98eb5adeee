use Rattle.crq_move_trials.specs.Looking.{IsLooker}
use Rattle.crq_move_trials.proofs.tests.moved.are_emptied.Given as goal

abbrev pub invariant-loop-list : goal.invariant-loop-list
invariant-loop-list l = IsLooker l.table l.pass
