-- Lists in which one element is set.
use Rattle.std.proofs.Common.{◌≡◌, ◌≢◌, ℕ, zero, suc, ◌<◌, List, [], ◌∷◌, length, set, Some, refl, ap, arith}
use Rattle.std.specs.Prelude.{slice_get}

module _ {A : Type 0} where
  pub set_set : (xs : List A) (i : ℕ) (a b : A) → set (set xs i a) i b ≡ set xs i b
  set_set [] i a b = refl
  set_set (x ∷ xs) zero a b = refl
  set_set (x ∷ xs) (suc i) a b = ap (λ ys. x ∷ ys) (set_set xs i a b)

  pub get_here : (xs : List A) (i : ℕ) (a : A) → i < length xs → slice_get (set xs i a) i ≡ Some a
  get_here [] i a h = absurd (omega arith)
  get_here (x ∷ xs) zero a h = refl
  get_here (x ∷ xs) (suc i) a h = get_here xs i a (omega arith)

  pub get_else : (xs : List A) (i j : ℕ) (a : A) → j ≢ i → slice_get (set xs i a) j ≡ slice_get xs j
  get_else [] i j a n = refl
  get_else (x ∷ xs) zero zero a n = absurd (n refl)
  get_else (x ∷ xs) zero (suc j) a n = refl
  get_else (x ∷ xs) (suc i) zero a n = refl
  get_else (x ∷ xs) (suc i) (suc j) a n = get_else xs i j a (λ e. n (ap suc e))
