use Rattle.std.proofs.Common.{inr, sym, ap, ◌∙◌, Err}
use Rattle.std.proofs.lemmas.Bool.{iff_false}
use Rattle.std.proofs.lemmas.Str.{is_utf8-from_IsUtf8}
use Rattle.crq_reader.specs.Language.{language}
use Rattle.crq_reader.proofs.JsonLaws.{not_json}
use Rattle.crq_reader.proofs.read.json.Goals as goal

pub returns-in-Ok-clause-ok : goal.returns-in-Ok-clause-ok
unfolding language
returns-in-Ok-clause-ok c = rw (is_utf8-from_IsUtf8 c.args.text.now c.in-Ok.ensures.ok.0, c.in-Ok.ensures.ok.1)

pub returns-else-is_memory-clause-err : goal.returns-else-is_memory-clause-err
returns-else-is_memory-clause-err c =
    inr (not_json c.args.text.now (c.in-Err.ensures.err (iff_false c.is_memory.ensures c.if-is_memory.false)) ∙ ap Err (sym c.in_text.ensures))
