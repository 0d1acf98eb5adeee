use Rattle.std.proofs.Common.{◌≡◌, ◌+◌, ap, ◌∙◌, arith}
use Rattle.std.proofs.lemmas.Bool.{false≢true}
use Rattle.std.proofs.lemmas.Bool.Decides.{nat_tests}
use Rattle.crq_base.specs.Words.{stamp_word}
use Rattle.crq_rows.proofs.StampWords.{kept_word, tag_word}
use Rattle.crq_rows.proofs.own.is_ripe.Goals as goal

pub returns-in-Kept : goal.returns-in-Kept
returns-in-Kept c = let e : stamp_word c.args.stamp ≡ 0 = ap stamp_word c.in-Kept.is ∙ kept_word in (λ f. absurd (false≢true f), λ r. let a = r.0 in absurd (omega arith))

pub returns-then-epoch-ge2 : goal.returns-then-epoch-ge2
returns-then-epoch-ge2 c = let e : stamp_word c.args.stamp ≡ 1 + c.in-Retired.tag = ap stamp_word c.in-Retired.is ∙ tag_word c.in-Retired.tag in let b = c.if-epoch-ge2.true in
    grind (arith, nat_tests)
