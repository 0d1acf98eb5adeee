-- Functions that are changed at one place, and lists of pairs without those of one number.
use Rattle.std.specs.Prelude.{ℕ, List, [], ◌∷◌, cond, ◌==◌}

-- f, but a at i
unfoldable pub put : {A : Type 0} → (ℕ → A) → ℕ → A → ℕ → A
put f i a j = cond (j == i) a (f j)

-- without the pairs of r
abbrev pub without : ℕ → List (ℕ × ℕ) → List (ℕ × ℕ)
without r [] = []
without r (x ∷ xs) = cond (x.0 == r) (without r xs) (x ∷ without r xs)
