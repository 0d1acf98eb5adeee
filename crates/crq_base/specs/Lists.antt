-- Elements of lists, by recursion.
use Rattle.std.specs.Prelude.{◌≡◌, ◌⊎◌, List, [], ◌∷◌}

module _ {A : Type 0} where
  -- x is an element of the list
  abbrev pub In : A → List A → Type 0
  In x [] = ⊥
  In x (y ∷ ys) = (x ≡ y) ⊎ In x ys

  -- no element stands there twice
  abbrev pub IsOnce : List A → Type 0
  IsOnce [] = Unit {0}
  IsOnce (x ∷ xs) = (In x xs → ⊥) × IsOnce xs
