-- Elements of lists, one by one.
use Rattle.std.proofs.Common.{zero, suc, ◌⊎◌, inl, inr, List, [], ◌∷◌, ◌++◌, sym, arith}
use Rattle.std.specs.List.{Contains}
use Rattle.crq_base.specs.Lists.{In}

pub in_left : {X : Type 0} (x : X) (xs ys : List X) → In x xs → In x (xs ++ ys)
in_left x [] ys h = absurd h
in_left x (z ∷ xs) ys (inl h) = inl h
in_left x (z ∷ xs) ys (inr h) = inr (in_left x xs ys h)

pub in_right : {X : Type 0} (x : X) (xs ys : List X) → In x ys → In x (xs ++ ys)
in_right x [] ys h = h
in_right x (z ∷ xs) ys h = inr (in_right x xs ys h)

pub in_cases : {X : Type 0} (x : X) (xs ys : List X) → In x (xs ++ ys) → In x xs ⊎ In x ys
in_cases x [] ys h = inr h
in_cases x (z ∷ xs) ys (inl h) = inl (inl h)
in_cases x (z ∷ xs) ys (inr h) = elim (in_cases x xs ys h) [ inl a ↦ inl (inr a) | inr b ↦ inr b ]

-- between the two forms of membership
pub contains_in : {X : Type 0} (x : X) (xs : List X) → Contains xs x → In x xs
contains_in x [] (k, lt, e) = absurd (omega arith)
contains_in x (y ∷ xs) (zero, lt, e) = inl (sym e)
contains_in x (y ∷ xs) (suc k, lt, e) = inr (contains_in x xs (k, omega arith, e))

pub in_contains : {X : Type 0} (x : X) (xs : List X) → In x xs → Contains xs x
in_contains x [] h = absurd h
in_contains x (y ∷ xs) (inl h) = (0, omega arith, sym h)
in_contains x (y ∷ xs) (inr h) = let r = in_contains x xs h in (suc r.0, (let k = r.1 in omega arith), r.2)
