use Rattle.std.proofs.Common.{arith, rules}
use Rattle.crq_printer.proofs.FieldLaws.{if_none}
use Rattle.crq_printer.proofs.NumberLaws.{digit_read, all_read, none_other, none_large}
use Rattle.crq_printer.proofs.fields.number_of.Goals as goal

pub returns-then-not-is_ascii_digit-clause-none : goal.returns-then-not-is_ascii_digit-clause-none
returns-then-not-is_ascii_digit-clause-none c =
    none_other c.args.digits.now c.loop-digit.digit-index c.loop-digit-test.true
    (λ range. let other = c.if-not-is_ascii_digit.ensures.cases in omega (arith, other, range.0, range.1))

pub returns-in_err-checked_mul-clause-none : goal.returns-in_err-checked_mul-clause-none
returns-in_err-checked_mul-clause-none c =
    if_none _ _ (none_large c.args.digits.now c.loop-digit.digit-index c.loop-digit.number c.loop-digit-test.true c.if-not-is_ascii_digit.ensures.cases c.loop-digit.invariant (omega (arith, c.in_err-checked_mul.ensures)))

pub returns-in_err-number-clause-none : goal.returns-in_err-number-clause-none
returns-in_err-number-clause-none c =
    if_none _ _ (none_large c.args.digits.now c.loop-digit.digit-index c.loop-digit.number c.loop-digit-test.true c.if-not-is_ascii_digit.ensures.cases c.loop-digit.invariant (omega (arith, c.in_err-number.ensures, c.in_ok-checked_mul.ensures)))

pub loop-digit-preserved : goal.loop-digit-preserved
loop-digit-preserved c =
    digit_read c.args.digits.now c.loop-digit.digit-index c.loop-digit.number c.loop-digit-test.true c.if-not-is_ascii_digit.ensures.cases c.loop-digit.invariant c.in_ok-number.number
    (omega (arith, c.in_ok-number.ensures, c.in_ok-checked_mul.ensures)) (omega (arith, c.in_ok-number.ensures))

pub returns-clause-number : goal.returns-clause-number
returns-clause-number c = all_read c.args.digits.now c.loop-digit.digit-index c.loop-digit.number c.loop-digit-test.false c.loop-digit.invariant (search rules) (search rules)
