-- Words that fit a form, place by place.
use Rattle.std.proofs.Common.{◌≡◌, ◌≤◌, ◌<◌, ◌+◌, ℕ, List, [], ◌∷◌, map, string_bytes, length, drop, get_or, subst, sym, refl, inl, inr, ◌∙◌, Global, arith}
use Rattle.std.proofs.lemmas.List.{drop_all, drop_more}
use Rattle.std.specs.Prelude.{String}
use Rattle.crq_top.specs.declared.forms.Parameter.{Parameter}
use Rattle.crq_top.specs.Commands.{AllFit, Fits, IsProblemOf, Problem, missing, unfit, extra}

-- what is wrong with the words from a place on is what is wrong with all, where the words before it fit
pub record Reached (most : ℕ) (ps : List Parameter) (ws : List (String Global)) (i : ℕ) : Type 0 where
  pub wrong : (x : Problem) → IsProblemOf most (drop i ps) (map string_bytes (drop i ws)) x → IsProblemOf most ps (map string_bytes ws) x
  pub right : AllFit most (drop i ps) (map string_bytes (drop i ws)) → AllFit most ps (map string_bytes ws)
  pub within : i ≤ length ws

module _ (most : ℕ) (ps : List Parameter) (ws : List (String Global)) (i : ℕ) (p : Parameter) (w : String Global) where
  -- the words from a place on, where there is a parameter and a word
  here : (P : List Parameter → List (List ℕ) → Type 0) → i < length ps → i < length ws → p ≡ get_or ps i p → w ≡ get_or ws i w
      → P (p ∷ drop (i + 1) ps) (string_bytes w ∷ map string_bytes (drop (i + 1) ws)) → P (drop i ps) (map string_bytes (drop i ws))
  here P lp lw ip iw h =
      let qs : p ∷ drop (i + 1) ps ≡ drop i ps = (λ t. ip t ∷ drop (i + 1) ps) ∙ sym (drop_more ps i p lp) in
      let vs : w ∷ drop (i + 1) ws ≡ drop i ws = (λ t. iw t ∷ drop (i + 1) ws) ∙ sym (drop_more ws i w lw) in
      subst (λ v. P (drop i ps) (map string_bytes v)) vs (subst (λ q. P q (string_bytes w ∷ map string_bytes (drop (i + 1) ws))) qs h)

  pub reached_next : Reached most ps ws i → i < length ps → i < length ws → p ≡ get_or ps i p → w ≡ get_or ws i w → Fits most p (string_bytes w) → Reached most ps ws (i + 1)
  reached_next r lp lw ip iw fit = record {
    wrong = λ x k. r.wrong x (here (λ q v. IsProblemOf most q v x) lp lw ip iw (inr (fit, k)));
    right = λ k. r.right (here (AllFit most) lp lw ip iw (fit, k));
    within = omega arith;
  }

  pub unfit_here : Reached most ps ws i → i < length ps → i < length ws → p ≡ get_or ps i p → w ≡ get_or ws i w → (Fits most p (string_bytes w) → ⊥) → IsProblemOf most ps (map string_bytes ws) (unfit p (string_bytes w))
  unfit_here r lp lw ip iw bad = r.wrong (unfit p (string_bytes w)) (here (λ q v. IsProblemOf most q v (unfit p (string_bytes w))) lp lw ip iw (inl (bad, refl)))

pub missing_here : (most : ℕ) (ps : List Parameter) (ws : List (String Global)) (i : ℕ) (p : Parameter) → Reached most ps ws i → i < length ps → length ws ≤ i → p ≡ get_or ps i p → IsProblemOf most ps (map string_bytes ws) (missing p)
missing_here most ps ws i p r lp lw ip =
    let qs : p ∷ drop (i + 1) ps ≡ drop i ps = (λ t. ip t ∷ drop (i + 1) ps) ∙ sym (drop_more ps i p lp) in
    let vs : [] ≡ drop i ws = sym (drop_all i ws lw) in
    r.wrong (missing p) (subst (λ v. IsProblemOf most (drop i ps) (map string_bytes v) (missing p)) vs (subst (λ q. IsProblemOf most q [] (missing p)) qs refl))

pub all_fit : (most : ℕ) (ps : List Parameter) (ws : List (String Global)) (i : ℕ) → Reached most ps ws i → length ps ≤ i → length ws ≤ i → AllFit most ps (map string_bytes ws)
all_fit most ps ws i r lp lw =
    let qs : [] ≡ drop i ps = sym (drop_all i ps lp) in
    let vs : [] ≡ drop i ws = sym (drop_all i ws lw) in
    r.right (subst (λ v. AllFit most (drop i ps) (map string_bytes v)) vs (subst (λ q. AllFit most q []) qs tt))

pub extra_here : (most : ℕ) (ps : List Parameter) (ws : List (String Global)) (i : ℕ) (w : String Global) → Reached most ps ws i → length ps ≤ i → i < length ws → w ≡ get_or ws i w → IsProblemOf most ps (map string_bytes ws) (extra (string_bytes w))
extra_here most ps ws i w r lp lw iw =
    let qs : [] ≡ drop i ps = sym (drop_all i ps lp) in
    let vs : w ∷ drop (i + 1) ws ≡ drop i ws = (λ t. iw t ∷ drop (i + 1) ws) ∙ sym (drop_more ws i w lw) in
    r.wrong (extra (string_bytes w)) (subst (λ v. IsProblemOf most (drop i ps) (map string_bytes v) (extra (string_bytes w))) vs (subst (λ q. IsProblemOf most q (string_bytes w ∷ map string_bytes (drop (i + 1) ws)) (extra (string_bytes w))) qs refl))
