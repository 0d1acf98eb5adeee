-- A function changed at one place, and members of a list.
use Rattle.std.proofs.Common.{◌≡◌, ◌≢◌, ◌⊎◌, ⊎_elim, inl, inr, ℕ, List, [], ◌∷◌, ◌++◌, cond, sym, refl, ap, ◌∙◌, eq-eqb, ne_eqb, subst}
use mathlib.Core.Logic.{dite}
use native.Mathlib.Decide.{ℕ_discrete}
use Rattle.crq_base.specs.Lists.{In, IsOnce}
use Rattle.crq_rule.specs.Lists.{put, without}

module _ {A : Type 0} where
  pub put_here : (f : ℕ → A) (i : ℕ) (a : A) → put f i a i ≡ a
  unfolding put
  put_here f i a = ap (λ b. cond b a (f i)) (eq-eqb i i refl)

  pub put_else : (f : ℕ → A) (i : ℕ) (a : A) (j : ℕ) → j ≢ i → put f i a j ≡ f j
  unfolding put
  put_else f i a j ne = ap (λ b. cond b a (f j)) (ne_eqb j i ne)

  -- a fact of each place, where it holds of the new value and stays at the others
  pub put_all : (f : ℕ → A) (i : ℕ) (a : A) (P : ℕ → A → Type 0) → P i a → ((j : ℕ) → j ≢ i → P j (f j)) → (j : ℕ) → P j (put f i a j)
  put_all f i a P new old j = dite (ℕ_discrete j i)
      (λ e. subst (λ k. P k (put f i a k)) (sym e) (subst (P i) (sym (put_here f i a)) new))
      (λ ne. subst (P j) (sym (put_else f i a j ne)) (old j ne))

  -- what is the same of the new value as of the old one stays
  pub put_through : {B : Type 0} (h : A → B) (f : ℕ → A) (i : ℕ) (a : A) (j : ℕ) → (j ≡ i → h a ≡ h (f i)) → h (put f i a j) ≡ h (f j)
  put_through h f i a j same = dite (ℕ_discrete j i)
      (λ e. ap h (ap (put f i a) e ∙ put_here f i a) ∙ (same e ∙ ap (λ k. h (f k)) (sym e)))
      (λ ne. ap h (put_else f i a j ne))

  pub in_snoc : (xs : List A) (a b : A) → In b (xs ++ a ∷ []) → In b xs ⊎ (b ≡ a)
  in_snoc [] a b h = ⊎_elim inr (λ n. absurd n) h
  in_snoc (x ∷ xs) a b h = ⊎_elim (λ e. inl (inl e)) (λ t. ⊎_elim (λ i. inl (inr i)) inr (in_snoc xs a b t)) h

  pub snoc_in : (xs : List A) (a b : A) → In b xs ⊎ (b ≡ a) → In b (xs ++ a ∷ [])
  snoc_in [] a b h = ⊎_elim (λ n. absurd n) inl h
  snoc_in (x ∷ xs) a b h = ⊎_elim (λ i. ⊎_elim inl (λ t. inr (snoc_in xs a b (inl t))) i) (λ e. inr (snoc_in xs a b (inr e))) h

  pub once_snoc : (xs : List A) (a : A) → IsOnce xs → (In a xs → ⊥) → IsOnce (xs ++ a ∷ [])
  once_snoc [] a once new = (λ n. n, tt)
  once_snoc (x ∷ xs) a once new = (λ h. ⊎_elim once.0 (λ e. new (inl (sym e))) (in_snoc xs a x h), once_snoc xs a once.1 (λ i. new (inr i)))

-- what is left without the pairs of r
pub in_without : (r : ℕ) (xs : List (ℕ × ℕ)) (x : ℕ × ℕ) → In x (without r xs) → In x xs × (x.0 ≢ r)
in_without r [] x h = absurd h
in_without r (y ∷ ys) x h = dite (ℕ_discrete y.0 r)
    (λ e. let t = in_without r ys x (subst (λ b. In x (cond b (without r ys) (y ∷ without r ys))) (eq-eqb y.0 r e) h) in (inr t.0, t.1))
    (λ ne. ⊎_elim (λ (e : x ≡ y). (inl e, λ z. ne (sym (ap (λ (p : ℕ × ℕ). p.0) e) ∙ z))) (λ i. let t = in_without r ys x i in (inr t.0, t.1))
    (subst (λ b. In x (cond b (without r ys) (y ∷ without r ys))) (ne_eqb y.0 r ne) h))
