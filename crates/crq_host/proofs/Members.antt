-- Lists that have each element once.
use Rattle.std.proofs.Common.{◌≡◌, ◌≤◌, List, [], ◌∷◌, ◌++◌, length, refl, arith, ap, sym, subst, inl, inr}
use Rattle.std.proofs.lemmas.List.{length-append}
use Rattle.crq_base.specs.Lists.{In, IsOnce}
use Rattle.crq_base.proofs.Elements.{in_left, in_right, in_cases}

module _ {A : Type 0} where
  -- an element with what stands before and after it
  record Standing (x : A) (xs : List A) : Type 0 where
    front : List A
    back : List A
    parts : xs ≡ front ++ x ∷ back

  standing : (x : A) (xs : List A) → In x xs → Standing x xs
  standing x [] at = absurd at
  standing x (y ∷ ys) (inl same) = record { front = []; back = ys; parts = ap (λ z. z ∷ ys) (sym same) }
  standing x (y ∷ ys) (inr later) = let s = standing x ys later in record { front = y ∷ s.front; back = s.back; parts = ap (λ zs. y ∷ zs) s.parts }

  -- different elements of a list are no more than it has
  pub fits : (xs ys : List A) → IsOnce xs → ((x : A) → In x xs → In x ys) → length xs ≤ length ys
  fits [] ys once within = omega arith
  fits (x ∷ xs) ys once within =
      let s = standing x ys (within x (inl refl)) in
      let rest : List A = s.front ++ s.back in
      let few = fits xs rest once.1 (λ y at.
      elim (in_cases y s.front (x ∷ s.back) (subst (λ zs. In y zs) s.parts (within y (inr at)))) [
        | inl front ↦ in_left y s.front s.back front
        | inr (inl same) ↦ absurd (once.0 (subst (λ z. In z xs) same at))
        | inr (inr back) ↦ in_right y s.front s.back back
      ]) in
      let a = length-append s.front s.back in
      let b = length-append s.front (x ∷ s.back) in
      let c = ap length s.parts in
      omega arith

  -- two lists of different elements with the same ones are equally long
  pub as_many : (xs ys : List A) → IsOnce xs → IsOnce ys → ((x : A) → In x xs → In x ys) → ((x : A) → In x ys → In x xs) → length xs ≡ length ys
  as_many xs ys once_xs once_ys there back = let a = fits xs ys once_xs there in let b = fits ys xs once_ys back in omega arith

  -- two lists of different elements without one in common
  pub once_join : (xs ys : List A) → IsOnce xs → IsOnce ys → ((x : A) → In x xs → In x ys → ⊥) → IsOnce (xs ++ ys)
  once_join [] ys once_xs once_ys apart = once_ys
  once_join (x ∷ xs) ys once_xs once_ys apart = (
    λ at. elim (in_cases x xs ys at) [
      | inl here ↦ once_xs.0 here
      | inr there ↦ apart x (inl refl) there
    ],
    once_join xs ys once_xs.1 once_ys (λ y at. apart y (inr at)),
  )
