-- Numerals of 64-bit numbers.
use Rattle.std.proofs.Common.{ℕ, ◌<◌, ◌≤◌, ◌^◌, length, arith}
use Rattle.std.specs.Fmt.{decimal}
use Rattle.std.proofs.lemmas.Fmt.{length-decimal-le}

pub numeral_short : (n : ℕ) → n < 2 ^ 64 → length (decimal n) ≤ 20
numeral_short n small = length-decimal-le 20 n (omega arith) (omega arith) small
