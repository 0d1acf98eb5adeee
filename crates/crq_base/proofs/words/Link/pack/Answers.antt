use Rattle.std.proofs.Common.{arith}
use Rattle.crq_base.specs.Words.{link_word}
use Rattle.crq_base.proofs.words.Link.pack.Goals as goal

pub returns : goal.returns
unfolding link_word
returns c = omega arith
