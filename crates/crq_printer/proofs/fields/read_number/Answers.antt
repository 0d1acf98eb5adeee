use Rattle.std.proofs.Common.{arith}
use Rattle.crq_printer.proofs.FieldLaws.{number_refused, number_large, if_none}
use Rattle.crq_printer.proofs.fields.read_number.Goals as goal

pub returns-in_err-number-clause-none : goal.returns-in_err-number-clause-none
returns-in_err-number-clause-none c = let a = c.in_ok-digits.ensures.parts in let b = c.in_ok-digits.ensures.first in let d = c.in_err-number.ensures.none in if_none _ _ (number_refused c.args.after c.args.most c.args.text.now c.in_ok-digits.digits.now c.in_ok-digits.rest.now (omega arith) (omega arith) c.in_ok-digits.ensures.parts c.in_ok-digits.ensures.first c.in_err-number.ensures.none)

pub returns-then-number-most-clause-none : goal.returns-then-number-most-clause-none
returns-then-number-most-clause-none c = number_large c.args.after c.args.most c.in_ok-number.number c.args.text.now c.in_ok-digits.digits.now c.in_ok-digits.rest.now (omega arith) (omega arith) c.if-number-most.true c.in_ok-digits.ensures.parts c.in_ok-number.ensures.number
