use Rattle.crq_printer.proofs.StepsRead.{AreRead}
use Rattle.crq_printer.proofs.reading.read_steps.Given as goal

abbrev pub invariant-loop-taken : goal.invariant-loop-taken
invariant-loop-taken l = AreRead l.number l.taken l.text l.rest l.steps.items
