use Rattle.std.proofs.Common.{set, replicate, sym, ap, ◌∙◌, subst}
use Rattle.crq_rule.specs.Places.{Shows}
use Rattle.crq_rule.specs.Opening.{headed}
use Rattle.crq_rule.proofs.Openings.{before_heads}
use Rattle.crq_rule.proofs.opening.words_of.Goals as goal

pub set_heads-requires-clause-words : goal.set_heads-requires-clause-words
set_heads-requires-clause-words c = let s = c.args.start.now in
    let zeros = c.in_ok-words.ensures ∙ ap (λ n. replicate n 0) c.width.ensures in
    let first = c.set_word.ensures ∙ (λ i. set (zeros i) (c.epoch.ensures i) s.first.guard) in
    let second = c.set_word-2.ensures ∙ (λ i. set (first i) (c.control.ensures i) (c.pack.ensures i)) in
    let third = c.set_word-3.ensures ∙ (λ i. set (second i) (c.current.ensures i) (c.pack-2.ensures i)) in
    subst (Shows s.layout (headed s 0)) (sym third) (before_heads s)
