-- The names of objects.
use Rattle.std.specs.Prelude.{ℕ, Bool, ◌||◌, ◌&&◌, ◌==◌, nat_lt, nat_le, List, length}
use Rattle.std.specs.Char.{is_ascii_alphanumeric}
use Rattle.std.specs.List.{list_all}

-- a letter or digit of ASCII, _, - or .
abbrev pub name_byte : ℕ → Bool
name_byte b = is_ascii_alphanumeric b || b == 95 || b == 45 || b == 46

-- 1 to 32 of them
abbrev pub is_name : List ℕ → Bool
is_name bytes = nat_lt 0 (length bytes) && nat_le (length bytes) 32 && list_all name_byte bytes
