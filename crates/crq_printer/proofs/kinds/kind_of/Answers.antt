use Rattle.std.proofs.Common.{sym, subst}
use Rattle.std.specs.Str.{IsAscii}
use Rattle.std.proofs.lemmas.Str.{IsUtf8-from_ascii}
use Rattle.crq_printer.proofs.FieldLaws.{kind_ascii}
use Rattle.crq_printer.proofs.kinds.kind_of.Goals as goal

pub returns-in-Err-clause-none : goal.returns-in-Err-clause-none
returns-in-Err-clause-none c = λ k e. c.in-Err.ensures.cases.0 (IsUtf8-from_ascii c.args.word.now (subst IsAscii (sym e) (kind_ascii k)))
