use Rattle.std.proofs.Common.{◌≡◌, ℕ, ◌<◌, false, eqb, sym, ◌∙◌, arith, rules}
use Rattle.std.proofs.lemmas.Bool.Decides.{nat_tests}
use Rattle.crq_printer.proofs.NumberLaws.{none_empty, none_zero}
use Rattle.crq_printer.proofs.fields.may_begin.Goals as goal

several : (n : ℕ) → 0 < n → eqb n 1 ≡ false → 1 < n
several n some other = grind (arith, nat_tests)

pub returns-in-None-clause-none : goal.returns-in-None-clause-none
returns-in-None-clause-none c = λ _. none_empty c.args.digits.now (let h = c.in-None.ensures in search rules)

pub returns-in-Some-eq48-clause-none : goal.returns-in-Some-eq48-clause-none
returns-in-Some-eq48-clause-none c =
    let first = c.in-Some-eq48.ensures.item.3 in
    λ other. none_zero c.args.digits.now (several _ first.0 other) (sym (first.1 0) ∙ c.in-Some-eq48.field-0-test)
