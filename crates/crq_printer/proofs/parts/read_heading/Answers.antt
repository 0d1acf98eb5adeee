use Rattle.std.proofs.Common.{arith}
use Rattle.crq_printer.specs.Parts.{NoHeading}
use Rattle.crq_printer.proofs.FieldLaws.{if_none}
use Rattle.crq_printer.proofs.HeadingFields.{behind_kind, behind_name, object_read, number_read, name_read, kind_read}
use Rattle.crq_printer.proofs.parts.read_heading.Goals as goal

pub returns-in_err-name-clause-none : goal.returns-in_err-name-clause-none
returns-in_err-name-clause-none c =
    if_none _ (NoHeading c.args.number c.args.text.now) (λ name kind count back is few e.
    let object = object_read c.args.number (omega arith) name is kind count back c.args.text.now c.in_ok-text.text.now c.in_ok-text.ensures.parts e in
    let number = number_read c.args.number (omega arith) name is kind count back c.in_ok-text.text.now c.in_ok-text-2.text.now (rw c.from.ensures at c.in_ok-text-2.ensures.parts) object in
    c.in_err-name.ensures.none name (behind_name kind count back) is number)

pub returns-in_err-behaviour-clause-none : goal.returns-in_err-behaviour-clause-none
returns-in_err-behaviour-clause-none c =
    if_none _ (NoHeading c.args.number c.args.text.now) (λ name kind count back is few e.
    let object = object_read c.args.number (omega arith) name is kind count back c.args.text.now c.in_ok-text.text.now c.in_ok-text.ensures.parts e in
    let number = number_read c.args.number (omega arith) name is kind count back c.in_ok-text.text.now c.in_ok-text-2.text.now (rw c.from.ensures at c.in_ok-text-2.ensures.parts) object in
    let names = (name_read c.args.number (omega arith) name is kind count back c.in_ok-text-2.text.now c.in_ok-name.text.now c.in_ok-name.name.now c.in_ok-name.ensures.name c.in_ok-name.ensures.parts number).1 in
    c.in_err-behaviour.ensures.none kind (behind_kind count back) names)

pub returns-in_err-count-clause-none : goal.returns-in_err-count-clause-none
returns-in_err-count-clause-none c =
    if_none _ (NoHeading c.args.number c.args.text.now) (λ name kind count back is few e.
    let object = object_read c.args.number (omega arith) name is kind count back c.args.text.now c.in_ok-text.text.now c.in_ok-text.ensures.parts e in
    let number = number_read c.args.number (omega arith) name is kind count back c.in_ok-text.text.now c.in_ok-text-2.text.now (rw c.from.ensures at c.in_ok-text-2.ensures.parts) object in
    let names = (name_read c.args.number (omega arith) name is kind count back c.in_ok-text-2.text.now c.in_ok-name.text.now c.in_ok-name.name.now c.in_ok-name.ensures.name c.in_ok-name.ensures.parts number).1 in
    let kinds = kind_read c.args.number (omega arith) name is kind count back c.in_ok-name.text.now c.in_ok-behaviour.text.now c.in_ok-behaviour.behaviour c.in_ok-behaviour.ensures.parts names in
    c.in_err-count.ensures.none count back (omega arith) kinds)
