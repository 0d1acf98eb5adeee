use Rattle.std.proofs.Common.{Some, ap, sym, ◌∙◌, arith}
use Rattle.crq_base.proofs.WordLaws.{link_one, link_below}
use Rattle.crq_base.proofs.words.Link.unpack.Goals as goal

pub returns-then-word-ne0-clause-packed : goal.returns-then-word-ne0-clause-packed
returns-then-word-ne0-clause-packed c link h e = let b = link_below link h in absurd (omega arith)

pub returns-clause-packed : goal.returns-clause-packed
returns-clause-packed c link h e = let r = c.from_word.ensures in ap Some (link_one _ link r.0 h (r.1 ∙ sym e))
