use Rattle.std.proofs.Common.{sym, ◌∙◌, arith}
use Rattle.crq_printer.proofs.FieldLaws.{same_number}
use Rattle.crq_printer.proofs.fields.skip_number.Goals as goal

pub returns-then-found-number-clause-none : goal.returns-then-found-number-clause-none
returns-then-found-number-clause-none c =
    λ back e. c.if-found-number.true (same_number c.args.after c.in_ok-found.found c.args.number c.in_ok-found.rest.now back (omega arith) (omega (arith, c.in_ok-found.ensures.most)) (omega arith) (sym c.in_ok-found.ensures.parts ∙ e)).0
