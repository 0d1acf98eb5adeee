use Rattle.std.proofs.Common.{arith}
use Rattle.crq_base.specs.Words.{pin_word}
use Rattle.crq_base.proofs.words.Pin.pack.Goals as goal

pub returns : goal.returns
unfolding pin_word
returns c = omega arith
