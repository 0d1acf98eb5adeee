-- Buckets. All follows from one law: a bucket isn't after that of a tick just if its first tick isn't after that tick.
use Rattle.std.proofs.Common.{◌≡◌, ℕ, ◌+◌, ◌/◌, ◌^◌, ◌<◌, ◌≤◌, ap, arith, le_refl}
use Rattle.std.proofs.Math.Nat.{le-div_iff_mul-le}
use Rattle.std.proofs.lemmas.Nat.{pow_pos}
use Rattle.crq_rule.specs.Ranks.{Shape, bucket, first_tick}

pub tick_low : (s : Shape) (b t : ℕ) → b ≤ bucket s t → first_tick s b ≤ t
unfolding bucket first_tick
tick_low s b t h = (le-div_iff_mul-le (pow_pos s.shift)).0 h

bucket_high : (s : Shape) (b t : ℕ) → first_tick s b ≤ t → b ≤ bucket s t
unfolding bucket first_tick
bucket_high s b t h = (le-div_iff_mul-le (pow_pos s.shift)).1 h

-- buckets rise with ticks
pub bucket_rises : (s : Shape) (t u : ℕ) → t ≤ u → bucket s t ≤ bucket s u
bucket_rises s t u h = let low = tick_low s (bucket s t) t (le_refl _) in bucket_high s (bucket s t) u (omega arith)

-- the first tick of the next bucket is behind all ticks of this one
pub next_tick : (s : Shape) (t : ℕ) → t < first_tick s (bucket s t + 1)
next_tick s t = let no : ¬ (first_tick s (bucket s t + 1) ≤ t) = λ (l : first_tick s (bucket s t + 1) ≤ t). let r = bucket_high s (bucket s t + 1) t l in omega arith in omega arith

-- buckets of the same width are the same
pub same_bucket : (s u : Shape) (t : ℕ) → s.shift ≡ u.shift → bucket s t ≡ bucket u t
unfolding bucket
same_bucket s u t same = ap (λ z. t / 2 ^ z) same
