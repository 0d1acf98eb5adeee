-- The generator SplitMix64 (Steele, Lea and Flood 2014). A state is one number below 2 ^ 64.
use Rattle.std.specs.Prelude.{ℕ, ◌+◌, ◌*◌, ◌/◌, ◌%◌, ◌^◌, bit_xor}

-- the state after a draw
unfoldable pub next_state : ℕ → ℕ
next_state state = (state + 0x9e3779b97f4a7c15) % 2 ^ 64

-- the high bits folded down on the others, and then a product
abbrev pub folded : ℕ → ℕ → ℕ → ℕ
folded z bits factor = bit_xor z (z / 2 ^ bits) * factor % 2 ^ 64

-- what is drawn from a state
unfoldable pub drawn : ℕ → ℕ
drawn state =
    let z = folded (folded ((state + 0x9e3779b97f4a7c15) % 2 ^ 64) 30 0xbf58476d1ce4e5b9) 27 0x94d049bb133111eb in
    bit_xor z (z / 2 ^ 31)
