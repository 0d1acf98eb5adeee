use Rattle.std.proofs.Common.{refl}
use Rattle.crq_base.specs.Words.{stamp_word}
use Rattle.crq_base.proofs.words.Stamp.pack.Goals as goal

pub returns-in-Kept : goal.returns-in-Kept
unfolding stamp_word
returns-in-Kept c = rw c.in-Kept.is refl

pub returns-in-Retired : goal.returns-in-Retired
unfolding stamp_word
returns-in-Retired c = rw c.in-Retired.is refl
