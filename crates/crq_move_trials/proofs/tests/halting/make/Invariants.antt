use Rattle.crq_move_trials.specs.Moving.{MayHelp}
use Rattle.crq_move_trials.proofs.tests.halting.make.Given as goal

abbrev pub invariant-loop : goal.invariant-loop
invariant-loop l = MayHelp l.table l.helper
