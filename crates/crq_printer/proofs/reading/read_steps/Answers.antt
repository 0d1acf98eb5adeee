use Rattle.crq_printer.proofs.StepsRead.{step_read}
use Rattle.crq_printer.proofs.reading.read_steps.Goals as goal

pub loop-taken-preserved : goal.loop-taken-preserved
loop-taken-preserved c =
    rw (c.push.ensures.items, c.if-is_err.ensures.negation) (step_read c.args.number c.loop-taken.taken c.args.text.now c.loop-taken.rest.now c.in-Some.behind.now c.loop-taken.steps.items c.in-Some.step c.loop-taken.invariant c.in-Some.ensures.step c.in-Some.ensures.parts)
