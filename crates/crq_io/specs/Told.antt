-- What devices tell of their bytes.
use Rattle.std.specs.Prelude.{◌≡◌, ℕ, ◌<◌, ◌≤◌, List, ◌++◌, length, Option, Some, None}

-- these bytes are what is told of a name, if anything is told: `None` tells nothing, and `Some None` that there is no file
abbrev pub IsTold : Option (Option (List ℕ)) → List ℕ → Type 0
IsTold None bytes = Unit {0}
IsTold (Some found) bytes = found ≡ Some bytes

-- the bytes were appended, where the sink tells what it holds; else it still doesn't tell
abbrev pub Appends : Option (List ℕ) → Option (List ℕ) → List ℕ → Type 0
Appends None new bytes = new ≡ None
Appends (Some old) new bytes = new ≡ Some (old ++ bytes)

-- so many bytes are a part of the piece, and not nothing of a piece that isn't empty
pub record IsPart (n : ℕ) (piece : List ℕ) : Type 0 where
  pub within : n ≤ length piece
  pub some : 0 < length piece → 0 < n
