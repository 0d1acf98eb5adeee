-- Bytes appended piece by piece.
use Rattle.std.proofs.Common.{◌≡◌, ℕ, zero, suc, ◌+◌, List, [], ◌∷◌, ◌++◌, take, drop, Option, Some, None, refl, ap, ◌∙◌, subst, append_assoc, zero-add, suc-add}
use Rattle.crq_io.specs.Told.{Appends}

-- a longer first part is the first part and what follows it
pub take-plus : {X : Type 0} (n m : ℕ) (xs : List X) → take (n + m) xs ≡ take n xs ++ take m (drop n xs)
take-plus zero m xs = rw zero-add refl
take-plus (suc n) zero [] = rw suc-add refl
take-plus (suc n) (suc m) [] = rw suc-add refl
take-plus (suc n) m (x ∷ xs) = rw suc-add (ap (λ ys. x ∷ ys) (take-plus n m xs))

-- what is appended in two steps
pub appends_twice : (old mid new : Option (List ℕ)) (a b : List ℕ) → Appends old mid a → Appends mid new b → Appends old new (a ++ b)
appends_twice None mid new a b h k = subst (λ m. Appends m new b) h k
appends_twice (Some xs) mid new a b h k = (let n : new ≡ Some ((xs ++ a) ++ b) = subst (λ m. Appends m new b) h k in n ∙ ap Some (append_assoc xs a b))
