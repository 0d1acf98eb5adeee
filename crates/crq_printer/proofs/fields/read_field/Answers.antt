use Rattle.crq_printer.proofs.FieldLaws.{Lacks-more, none_found}
use Rattle.crq_printer.proofs.fields.read_field.Goals as goal

pub loop-at-preserved : goal.loop-at-preserved
loop-at-preserved c = Lacks-more c.args.after c.args.text.now c.loop-at.at c.loop-at-test.true c.loop-at.invariant c.if-byte-after.false

pub returns-clause-none : goal.returns-clause-none
returns-clause-none c = none_found c.args.after c.args.text.now c.loop-at.at c.loop-at-test.false c.loop-at.invariant
