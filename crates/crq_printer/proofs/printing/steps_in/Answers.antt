use Rattle.std.proofs.Common.{◌≡◌, ap, ◌∙◌, arith}
use Rattle.std.proofs.lemmas.List.{take_all}
use Rattle.crq_printer.specs.Texts.{steps_in}
use Rattle.crq_printer.proofs.printing.steps_in.Goals as goal

pub returns : goal.returns
returns c =
    let whole : c.loop-trace.total ≡ steps_in c.args.traces.now = c.loop-trace.invariant.1 ∙ ap steps_in (take_all c.loop-trace.trace-index c.args.traces.now c.loop-trace-test.false) in
    (omega arith, whole)
