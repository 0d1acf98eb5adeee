use Rattle.std.proofs.Common.{sym, ◌∙◌, ap, arith}
use Rattle.std.proofs.lemmas.Bool.{false≢true}
use Rattle.std.proofs.lemmas.Str.{IsUtf8-from_ascii}
use Rattle.crq_sim.specs.Names.{is_name}
use Rattle.crq_printer.proofs.FieldLaws.{same_field, name_lacks, name_ascii}
use Rattle.crq_printer.proofs.parts.read_name.Goals as goal

pub returns-then-not-is_name-clause-none : goal.returns-then-not-is_name-clause-none
returns-then-not-is_name-clause-none c =
    λ name back is e.
    let same = (same_field 32 c.in_ok-name.name.now name c.in_ok-name.rest.now back c.in_ok-name.ensures.first (name_lacks 32 name (omega arith) is) (sym c.in_ok-name.ensures.parts ∙ e)).0 in
    false≢true (c.if-not-is_name.ensures ∙ ap is_name same ∙ is)

pub returns-in-Err-clause-none : goal.returns-in-Err-clause-none
returns-in-Err-clause-none c =
    λ name back is e. absurd (c.in-Err.ensures.cases.0 (IsUtf8-from_ascii c.in_ok-name.name.now (name_ascii c.in_ok-name.name.now (sym c.if-not-is_name.ensures))))
