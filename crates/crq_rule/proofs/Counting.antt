-- The home rows in hand are no more than there are home rows.
use Rattle.std.proofs.Common.{◌≡◌, ◌≢◌, ⊎_elim, inl, inr, ℕ, zero, suc, ◌+◌, ◌<◌, ◌≤◌, List, [], ◌∷◌, length, cond, eqb, sym, refl, ◌∙◌, subst, arith, eq-eqb, ne_eqb}
use mathlib.Core.Logic.{dite}
use native.Mathlib.Decide.{ℕ_discrete}
use Rattle.crq_base.specs.Lists.{In, IsOnce}
use Rattle.crq_rule.specs.Rule.{rows_from}

-- without x
drop_all : ℕ → List ℕ → List ℕ
drop_all x [] = []
drop_all x (y ∷ ys) = cond (eqb y x) (drop_all x ys) (y ∷ drop_all x ys)

in_rest : (x y : ℕ) (xs : List ℕ) → In y (drop_all x xs) → In y xs × (y ≢ x)
unfolding drop_all
in_rest x y [] i = absurd i
in_rest x y (z ∷ zs) i = dite (ℕ_discrete z x)
    (λ e. let r = in_rest x y zs (subst (λ b. In y (cond b (drop_all x zs) (z ∷ drop_all x zs))) (eq-eqb z x e) i) in (inr r.0, r.1))
    (λ ne. ⊎_elim (λ (e : y ≡ z). (inl e, λ q. ne (sym e ∙ q))) (λ t. let r = in_rest x y zs t in (inr r.0, r.1)) (subst (λ b. In y (cond b (drop_all x zs) (z ∷ drop_all x zs))) (ne_eqb z x ne) i))

once_rest : (x : ℕ) (xs : List ℕ) → IsOnce xs → IsOnce (drop_all x xs)
unfolding drop_all
once_rest x [] once = tt
once_rest x (y ∷ ys) once = dite (ℕ_discrete y x)
    (λ e. subst (λ b. IsOnce (cond b (drop_all x ys) (y ∷ drop_all x ys))) (sym (eq-eqb y x e)) (once_rest x ys once.1))
    (λ ne. subst (λ b. IsOnce (cond b (drop_all x ys) (y ∷ drop_all x ys))) (sym (ne_eqb y x ne)) ((λ i. once.0 (in_rest x y ys i).0), once_rest x ys once.1))

all_rest : (x : ℕ) (xs : List ℕ) → (In x xs → ⊥) → length xs ≤ length (drop_all x xs)
unfolding drop_all
all_rest x [] none = omega arith
all_rest x (y ∷ ys) none = let r = all_rest x ys (λ i. none (inr i)) in
    subst (λ b. length (y ∷ ys) ≤ length (cond b (drop_all x ys) (y ∷ drop_all x ys))) (sym (ne_eqb y x (λ e. none (inl (sym e))))) (omega arith)

one_less : (x : ℕ) (xs : List ℕ) → IsOnce xs → length xs ≤ length (drop_all x xs) + 1
unfolding drop_all
one_less x [] once = omega arith
one_less x (y ∷ ys) once = dite (ℕ_discrete y x)
    (λ e. subst (λ b. length (y ∷ ys) ≤ length (cond b (drop_all x ys) (y ∷ drop_all x ys)) + 1) (sym (eq-eqb y x e)) (let r = all_rest x ys (λ i. once.0 (subst (λ z. In z ys) (sym e) i)) in omega arith))
    (λ ne. subst (λ b. length (y ∷ ys) ≤ length (cond b (drop_all x ys) (y ∷ drop_all x ys)) + 1) (sym (ne_eqb y x ne)) (let r = one_less x ys once.1 in omega arith))

-- different numbers above a, and up to a + h, are at most h
pub fits : (a h : ℕ) (xs : List ℕ) → IsOnce xs → ((x : ℕ) → In x xs → (a < x) × (x ≤ a + h)) → length xs ≤ h
fits a zero [] once all = omega arith
fits a zero (x ∷ xs) once all = let b = all x (inl refl) in let lo = b.0 in let hi = b.1 in absurd (omega arith)
fits a (suc h) xs once all = let top : ℕ = a + suc h in
    let r = fits a h (drop_all top xs) (once_rest top xs once) (λ x i. let s = in_rest top x xs i in let b = all x s.0 in let lo = b.0 in let hi = b.1 in let ne = s.1 in (lo, omega arith)) in
    let l = one_less top xs once in omega arith

-- different numbers that are all in a list are no more than its length
pub within_list : (xs ys : List ℕ) → IsOnce xs → ((x : ℕ) → In x xs → In x ys) → length xs ≤ length ys
within_list [] [] once all = omega arith
within_list (x ∷ xs) [] once all = absurd (all x (inl refl))
within_list xs (y ∷ ys) once all =
    let r = within_list (drop_all y xs) ys (once_rest y xs once) (λ x i. let s = in_rest y x xs i in ⊎_elim (λ e. absurd (s.1 e)) (λ t. t) (all x s.0)) in
    let l = one_less y xs once in omega arith

-- the home rows of a caller, in order
pub rows_in : (a n r : ℕ) → In r (rows_from a n) → (a < r) × (r ≤ a + n)
rows_in a zero r i = absurd i
rows_in a (suc n) r i = ⊎_elim (λ (e : r ≡ a + 1). (omega arith, omega arith)) (λ t. let h = rows_in (a + 1) n r t in let lo = h.0 in let hi = h.1 in (omega arith, omega arith)) i

pub in_rows : (a n r : ℕ) → a < r → r ≤ a + n → In r (rows_from a n)
in_rows a zero r lo hi = absurd (omega arith)
in_rows a (suc n) r lo hi = dite (ℕ_discrete r (a + 1)) inl (λ ne. inr (in_rows (a + 1) n r (omega arith) (omega arith)))

pub rows_once : (a n : ℕ) → IsOnce (rows_from a n)
rows_once a zero = tt
rows_once a (suc n) = ((λ i. let h = (rows_in (a + 1) n (a + 1) i).0 in omega arith), rows_once (a + 1) n)

pub rows_long : (a n : ℕ) → length (rows_from a n) ≡ n
rows_long a zero = refl
rows_long a (suc n) = let r = rows_long (a + 1) n in omega arith
