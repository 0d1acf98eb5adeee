use Rattle.std.proofs.Common.{◌≡◌, ◌∙◌, sym, ap}
use Rattle.std.specs.Fmt.{decimal}
use Rattle.std.proofs.lemmas.Fmt.{parse-decimal}
use Rattle.crq_top.proofs.Words.{bytes_same, bytes_differ}
use Rattle.crq_top.proofs.forms.plain.Goals as goal

pub returns-then-eq : goal.returns-then-eq
returns-then-eq c = (
  sym (bytes_same c.format.result.now c.args.word.now (sym c.if-eq.ensures)) ∙ c.format.ensures.text,
  λ k lt is. let r = parse-decimal 64 k c.args.word.now c.parse.result lt lt is c.parse.ensures.value.0 in let e = c.in-Ok.is in cc,
)

pub returns-else-eq : goal.returns-else-eq
returns-else-eq c = λ n lt is.
    let r = parse-decimal 64 n c.args.word.now c.parse.result lt lt is c.parse.ensures.value.0 in
    let e = c.in-Ok.is in
    let same : c.in-Ok.value ≡ n = cc in
    bytes_differ c.format.result.now c.args.word.now (sym c.if-eq.ensures) (c.format.ensures.text ∙ ap decimal same ∙ sym is)

pub returns-in-Err : goal.returns-in-Err
returns-in-Err c = λ n lt is. let r = parse-decimal 64 n c.args.word.now c.parse.result lt lt is c.parse.ensures.value.0 in let e = c.in-Err.is in cc
