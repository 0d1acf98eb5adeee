use Rattle.std.proofs.Common.{Some, ap, sym, subst, ◌∙◌, rules, ◌%◌, arith}
use Rattle.crq_base.specs.Words.{IsControlWord}
use Rattle.crq_base.proofs.WordLaws.{off_zero, control_one, control_below}
use Rattle.crq_base.proofs.words.Control.unpack.Goals as goal
use Rattle.crq_base.proofs.words.Control.unpack.Goals.{then-not-moving, else-not-moving}

pub returns-then-word-ne0-clause-packed : goal.returns-then-word-ne0-clause-packed
returns-then-word-ne0-clause-packed c control h e = let b = subst IsControlWord e (control_below control h) in let no : IsControlWord c.args.word → ⊥ = search rules in absurd (no b)

pub from_word-requires : goal.from_word-requires
from_word-requires c = record { below = omega arith; steady = λ z. elim c.if-not-moving.branch [ then-not-moving w ↦ off_zero (c.args.word % 512) _ c.if-word-ne0-2.false w.value-is | else-not-moving w ↦ absurd (omega arith) ] }

pub returns-clause-packed : goal.returns-clause-packed
returns-clause-packed c control h e = let r = c.from_word.ensures in ap Some (control_one _ control r.0 h (r.1 ∙ sym e))
