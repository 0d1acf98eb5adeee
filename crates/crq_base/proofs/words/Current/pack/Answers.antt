use Rattle.std.proofs.Common.{arith}
use Rattle.crq_base.specs.Words.{current_word}
use Rattle.crq_base.proofs.words.Current.pack.Goals as goal

pub returns : goal.returns
unfolding current_word
returns c = omega arith
