use Rattle.crq_printer.proofs.NumberLaws.{IsRead}
use Rattle.crq_printer.proofs.fields.number_of.Given as goal

abbrev pub invariant-loop-digit : goal.invariant-loop-digit
invariant-loop-digit l = IsRead l.digits l.digit-index l.number
