use Rattle.std.proofs.Common.{◌∙◌, arith}
use Rattle.crq_base.proofs.WordLaws.{flag_below, flag_byte}
use Rattle.crq_base.specs.Words.{control_word}
use Rattle.crq_base.proofs.words.Control.pack.Goals as goal

pub returns : goal.returns
unfolding control_word
returns c = let b = c.from-6.ensures ∙ flag_byte c.args.self.moving in let f = flag_below c.args.self.moving in omega arith
