use Rattle.std.proofs.Common.{arith}
use Rattle.crq_printer.proofs.StepLines.{line_pushed}
use Rattle.crq_printer.proofs.lines.push_steps.Goals as goal

pub loop-step-preserved : goal.loop-step-preserved
loop-step-preserved c =
    line_pushed _ _ _ c.write_step-start.new.line c.args.steps.now c.loop-step.step-index _ _ c.loop-step-test.true (omega arith) c.loop-step.invariant c.write_step-start.ensures.written c.in_ok-extend_from_slice.ensures.items
