use Rattle.std.proofs.Common.{take}
use Rattle.crq_printer.specs.Fields.{Lacks}
use Rattle.crq_printer.proofs.fields.read_field.Given as goal

abbrev pub invariant-loop-at : goal.invariant-loop-at
invariant-loop-at l = Lacks l.after (take l.at l.text)
