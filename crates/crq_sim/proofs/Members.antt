-- The members of a list, one by one.
use Rattle.std.proofs.Common.{◌≡◌, ◌⊎◌, ℕ, zero, suc, ◌<◌, List, [], ◌∷◌, length, get_or, Contains, arith, inl, inr}

pub none_in : {X : Type 0} (x : X) → Contains [] x → ⊥
none_in x h = (let lt : h.0 < 0 = h.1 in omega arith)

in_head : {X : Type 0} (y x : X) (xs : List X) → y ≡ x → Contains (y ∷ xs) x
in_head y x xs same = (0, omega arith, same)

in_tail : {X : Type 0} (y x : X) (xs : List X) → Contains xs x → Contains (y ∷ xs) x
in_tail y x xs h = (suc h.0, (let lt : h.0 < length xs = h.1 in omega arith), h.2)

pub into_cons : {X : Type 0} (y x : X) (xs : List X) → (y ≡ x) ⊎ Contains xs x → Contains (y ∷ xs) x
into_cons y x xs (inl same) = in_head y x xs same
into_cons y x xs (inr at) = in_tail y x xs at

from_place : {X : Type 0} (y x : X) (xs : List X) (k : ℕ) → k < length (y ∷ xs) → get_or (y ∷ xs) k x ≡ x → (y ≡ x) ⊎ Contains xs x
from_place y x xs zero lt is = inl is
from_place y x xs (suc k) lt is = inr (k, omega arith, is)

pub from_cons : {X : Type 0} (y x : X) (xs : List X) → Contains (y ∷ xs) x → (y ≡ x) ⊎ Contains xs x
from_cons y x xs h = from_place y x xs h.0 h.1 h.2
