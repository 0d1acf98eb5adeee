use Rattle.std.proofs.Common.{sym, ◌∙◌}
use Rattle.std.proofs.lemmas.Bool.{false≢true}
use Rattle.crq_printer.proofs.FieldLaws.{same_field}
use Rattle.crq_printer.proofs.fields.skip_word.Goals as goal

pub returns-then-not-are_same-clause-none : goal.returns-then-not-are_same-clause-none
returns-then-not-are_same-clause-none c =
    λ back e. false≢true (c.if-not-are_same.ensures.1 (same_field c.args.after c.in_ok-found.found.now c.args.word.now c.in_ok-found.rest.now back c.in_ok-found.ensures.first c.requires (sym c.in_ok-found.ensures.parts ∙ e)).0)
