use Rattle.std.proofs.Common.{ℕ, arith, length-set}
use Rattle.crq_printer.proofs.Numerals.{numeral_short}
use Rattle.crq_printer.proofs.lines.write_field.Goals as goal

pub write_digits-requires : goal.write_digits-requires
write_digits-requires c = (omega (arith, numeral_short c.args.number (omega arith)), omega (arith, length-set {A = ℕ}))

pub returns-clause-start : goal.returns-clause-start
returns-clause-start c = omega (arith, numeral_short c.args.number (omega arith))
