-- Counts of faults, and lists of the calls that are to fail.
use Rattle.std.specs.Prelude.{ℕ, ◌+◌, ◌-◌, ◌≤◌, ◌^◌, min, List, Contains}

-- the next value of a count, which stands still at the end of its type
abbrev pub one_more : ℕ → ℕ
one_more count = min (count + 1) (2 ^ 64 - 1)

-- the count rose, or stands at its last value
abbrev pub Rose : ℕ → ℕ → Type 0
Rose before now = one_more before ≤ now

-- no fault was counted between these two values
abbrev pub NoFault : ℕ → ℕ → Type 0
NoFault before now = Rose before now → ⊥

-- the call of this number is to fail
abbrev pub IsListed : List ℕ → ℕ → Type 0
IsListed numbers number = Contains numbers number
