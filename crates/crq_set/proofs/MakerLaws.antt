-- The histories of a maker.
use Rattle.std.proofs.Common.{◌≡◌, suc, ◌-◌, Some, List, [], ◌∷◌, ◌++◌, map, length, ap, subst, arith, slice_get}

module _ {A B : Type 0} (f : A → B) where
  only : (x v : A) → slice_get (x ∷ []) 0 ≡ Some v → x ≡ v
  only x v at = cc

  one_more : (w : B) (v : A) (xs : List A) → (front : List B) × (map f xs ≡ front ++ f v ∷ []) → (front : List B) × (w ∷ map f xs ≡ front ++ f v ∷ [])
  one_more w v xs rest = (w ∷ rest.0, ap (λ zs. w ∷ zs) rest.1)

  -- the last of a list, seen by f
  pub last_seen : (xs : List A) (v : A) → slice_get xs (length xs - 1) ≡ Some v → (front : List B) × (map f xs ≡ front ++ f v ∷ [])
  last_seen [] v at = absurd (cc)
  last_seen (x ∷ []) v at = ([], ap (λ y. f y ∷ []) (only x v at))
  last_seen (x ∷ y ∷ ys) v at =
      let place : length (x ∷ y ∷ ys) - 1 ≡ suc (length (y ∷ ys) - 1) = omega arith in
      one_more (f x) v (y ∷ ys) (last_seen (y ∷ ys) v (subst (λ n. slice_get (x ∷ y ∷ ys) n ≡ Some v) place at))
