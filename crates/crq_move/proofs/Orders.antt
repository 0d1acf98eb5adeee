-- The heads of a table, in the order in which a helper passes them.
use Rattle.std.proofs.Common.{ℕ, ◌+◌, ◌*◌, ◌%◌, ◌^◌, ◌<◌, ◌≤◌, arith}
use Rattle.std.proofs.lemmas.Nat.{xor_lt, pow_pos}
use Rattle.std.proofs.Math.Nat.{mod-lt, pow-le-pow_right}
use Rattle.crq_base.specs.declared.words.Control.{Control}
use Rattle.crq_rule.specs.Places.{IsHead}
use Rattle.crq_rule.specs.Ranks.{Shape, next_of, first_head_of, IsHeadIn, IsOpen}
use Rattle.crq_rule.specs.Helping.{woven, old_head, new_head}

-- the order stays within the heads
pub woven_low : (j log i : ℕ) → i < 2 ^ log → woven j log i < 2 ^ log
woven_low j log i low = xor_lt log i (16 * j % 2 ^ log) low (mod-lt (16 * j) (pow_pos log))

-- a bank has room for the heads of a table
pub banked : (log : ℕ) → log < 2 ^ 4 → 2 ^ log ≤ 32768
banked log low = pow-le-pow_right {n = 2} (omega arith) {i = log} {j = 15} (omega arith)

-- the first head of a table stands at most a bank in
pub first_low : (g : ℕ) → first_head_of g ≤ 32768
first_low g = let b = mod-lt g {m = 2} (omega arith) in omega arith

-- a head of a table is one of the two banks
pub head_low : (g : ℕ) (s : Shape) (q : ℕ) → s.log < 2 ^ 4 → IsHeadIn g s q → IsHead q
head_low g s q low is = let a = banked s.log low in let b = first_low g in let c = is.1 in omega arith

-- what the order comes to is a head of the table
pub woven_in : (g : ℕ) (s : Shape) (j i : ℕ) → i < 2 ^ s.log → IsHeadIn g s (first_head_of g + woven j s.log i)
woven_in g s j i low = let w = woven_low j s.log i low in (omega arith, omega arith)

-- the sum of the two fits
pub head_fits : (g log j i : ℕ) → log < 2 ^ 4 → i < 2 ^ log → first_head_of g + woven j log i < 2 ^ 32
head_fits g log j i bound low = let w = woven_low j log i low in let a = banked log bound in let b = first_low g in omega arith

-- the heads of the new table, and of the one that moves

pub new_in : (x : Control) (j i : ℕ) → i < 2 ^ x.new_log → IsHeadIn (x.generation + 1) (next_of x) (new_head x j i)
new_in x j i low = woven_in (x.generation + 1) (next_of x) j i low

pub old_in : (x : Control) (j i : ℕ) → i < 2 ^ x.log → IsOpen x (old_head x j i)
old_in x j i low = woven_in x.generation (record { log = x.log; shift = x.shift }) j i low
