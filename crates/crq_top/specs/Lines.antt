-- Lines of output that are no traces.
use Rattle.std.specs.Prelude.{ℕ, List, [], ◌∷◌, ◌++◌, length, codes}
use Rattle.std.specs.Fmt.{decimal}
use Rattle.crq_sim.specs.Models.{ModelData}

-- a newline after one space and the number for each of them
abbrev pub numbers_after : List ℕ → List ℕ
numbers_after [] = 10 ∷ []
numbers_after (n ∷ ns) = 32 ∷ (decimal n ++ numbers_after ns)

-- a fault line: the word, the status and what else it tells
abbrev pub fault_line : List ℕ → List ℕ
fault_line numbers = codes "fault" ++ numbers_after numbers

-- the line of `check`: how many objects and starts a model has, its lookahead and its end
abbrev pub check_line : ModelData → List ℕ
check_line m = codes "model" ++ numbers_after (length m.objects ∷ length m.starts ∷ m.lookahead ∷ m.until ∷ [])
