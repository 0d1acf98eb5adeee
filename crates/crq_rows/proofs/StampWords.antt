-- The words of stamps.
use Rattle.std.proofs.Common.{◌≡◌, ◌≢◌, ℕ, ◌+◌, ◌-◌, refl, arith}
use Rattle.crq_base.specs.declared.words.Stamp.TheVariants.{Kept, Retired}
use Rattle.crq_base.specs.Words.{stamp_word}

pub kept_word : stamp_word Kept ≡ 0
unfolding stamp_word
kept_word = refl

pub retired_word : (w : ℕ) → w ≢ 0 → stamp_word (Retired (w - 1)) ≡ w
unfolding stamp_word
retired_word w ne = omega arith

pub tag_word : (t : ℕ) → stamp_word (Retired t) ≡ 1 + t
unfolding stamp_word
tag_word t = refl
