-- Names and the numbers of their objects.
use Rattle.std.proofs.Common.{◌≡◌, ℕ, ◌+◌, ◌<◌, ◌≤◌, List, [], ◌∷◌, ◌++◌, length, Bool, true, false, cond, Option, Some, None, inl, inr, refl, sym, ap, ap₂, ◌∙◌, arith}
use Rattle.std.specs.Borrow.{Bor}
use Rattle.std.specs.Option.{option_or}
use Rattle.std.specs.List.{position_from}
use Rattle.std.specs.Str.{bytes_eq}
use Rattle.std.specs.Ordering.{nat_cmp}
use Rattle.std.specs.Cmp.Lexicographic.{slice_cmp}
use Rattle.std.specs.BTreeMap.{BTreeMap, UpdatesBy}
use Rattle.std.proofs.lemmas.Bool.{cases_Bool, false_from_ne_true, both_ways}
use Rattle.std.proofs.lemmas.Slice.Eq.{bytes_eq-Decides}
use Rattle.std.proofs.lemmas.Map.Text.{btree_map_updates_str}
use Rattle.crq_reader.specs.Language.{number_of}
use Rattle.crq_reader.specs.Drafts.{Finds}

position_from_push : (t : List ℕ → Bool) (i : ℕ) (xs : List (List ℕ)) (x : List ℕ) → position_from t i (xs ++ x ∷ []) ≡ option_or (position_from t i xs) (cond (t x) (Some (i + length xs)) None)
position_from_push t i [] x =
    let same : i ≡ i + 0 = omega arith in
    ap (λ n. cond (t x) (Some n) None) same
position_from_push t i (y ∷ ys) x =
    let more : i + 1 + length ys ≡ i + length (y ∷ ys) = omega arith in
    let later = position_from_push t (i + 1) ys x ∙ ap (λ n. option_or (position_from t (i + 1) ys) (cond (t x) (Some n) None)) more in
    elim (t y) as (λ b. cond b (Some i) (position_from t (i + 1) (ys ++ x ∷ [])) ≡ option_or (cond b (Some i) (position_from t (i + 1) ys)) (cond (t x) (Some (i + length (y ∷ ys))) None))
    [ true ↦ refl | false ↦ later ]

same_bytes : (a b : List ℕ) → bytes_eq a b ≡ bytes_eq b a
same_bytes a b =
    elim (cases_Bool (bytes_eq a b)) [
      | inl e ↦ e ∙ sym ((bytes_eq-Decides b a).1 (sym ((bytes_eq-Decides a b).0 e)))
      | inr e ↦ e ∙ sym (false_from_ne_true _ (λ t. both_ways _ e ((bytes_eq-Decides a b).1 (sym ((bytes_eq-Decides b a).0 t)))))
    ]

or_none : (o : Option ℕ) → option_or o None ≡ o
or_none None = refl
or_none (Some n) = refl

-- a new name is found at the end, and the others where they were
number_of_push : (names : List (List ℕ)) (new name : List ℕ) → number_of names new ≡ None → cond (bytes_eq new name) (Some (1 + length names)) (number_of names name) ≡ number_of (names ++ new ∷ []) name
number_of_push names new name fresh =
    elim (cases_Bool (bytes_eq new name)) [
      | inl e ↦
          let is = (bytes_eq-Decides new name).0 e in
          rw (e, position_from_push (bytes_eq name) 1 names new, same_bytes name new, e, ← is, fresh)
      | inr e ↦ rw (e, position_from_push (bytes_eq name) 1 names new, same_bytes name new, e) (sym (or_none _))
    ]

pub finds_push : (old new : BTreeMap (Bor (List ℕ)) ℕ) (key : Bor (List ℕ)) (n : ℕ) (names : List (List ℕ)) → n ≡ length names + 1 → Finds old names → number_of names key.now ≡ None
    → UpdatesBy (λ x y. slice_cmp nat_cmp x.now y.now) (λ k. slice_cmp nat_cmp key.now k.now) old new (Some n) → Finds new (names ++ key.now ∷ [])
finds_push old new key n names is finds fresh updates name =
    let next : n ≡ 1 + length names = omega arith in
    btree_map_updates_str key.now old new (Some n) updates name
    ∙ ap₂ (λ m o. cond (bytes_eq key.now name) (Some m) o) next (finds name)
    ∙ number_of_push names key.now name fresh

pub number_of_range : (t : List ℕ → Bool) (i : ℕ) (xs : List (List ℕ)) (n : ℕ) → position_from t i xs ≡ Some n → (i ≤ n) × (n < i + length xs)
number_of_range t i [] n e = absurd (cc)
number_of_range t i (x ∷ xs) n e =
    elim (cases_Bool (t x)) [
      | inl yes_ ↦
          let here : Some i ≡ Some n = rw yes_ at e in
          let is : i ≡ n = cc in
          (omega arith, omega arith)
      | inr no_ ↦
          let later : position_from t (i + 1) xs ≡ Some n = rw no_ at e in
          let h = number_of_range t (i + 1) xs n later in
          (omega arith, omega arith)
    ]
