-- Steps in order, one after another.
use Rattle.std.proofs.Common.{◌≡◌, ℕ, ◌+◌, ◌<◌, ◌≤◌, List, [], ◌∷◌, ◌++◌, length, get_or, drop, map, Bool, true, false, if◌then◌else◌, Option, Some, None, ok_or, Result, Ok, Err, refl, sym, ap, ◌∙◌, subst, arith, append_assoc, append-nil, length-append}
use Rattle.std.specs.List.{AllZip, filter_map, cons_option}
use Rattle.std.proofs.lemmas.List.{drop_more, drop_all, map-append}
use Rattle.crq_reader.specs.Language.{and_then, each, told, Flaw}
use Rattle.crq_reader.specs.declared.fault.ModelFault.{ModelFault}

-- ---- what an Ok tells

pub and_then_ok : {A B F : Type 0} (r : Result A F) (f : A → Result B F) (b : B) → and_then r f ≡ Ok b → (a : A) × (r ≡ Ok a) × (f a ≡ Ok b)
and_then_ok (Ok a) f b e = (a, refl, e)
and_then_ok (Err x) f b e = absurd (cc)

pub ok_if : {A F : Type 0} (t : Bool) (n m : A) (x : F) → (if t then Ok n else Err x) ≡ Ok m → (t ≡ true) × (n ≡ m)
ok_if true n m x e = (refl, cc)
ok_if false n m x e = absurd (cc)

pub err_if : {A F : Type 0} (t : Bool) (r : Result A F) (m : A) (x : F) → (if t then Err x else r) ≡ Ok m → (t ≡ false) × (r ≡ Ok m)
err_if true r m x e = absurd (cc)
err_if false r m x e = (refl, e)

pub told_ok : {A : Type 0} (p : Flaw → ModelFault) (r : Result A Flaw) (a : A) → told p r ≡ Ok a → r ≡ Ok a
told_ok p (Ok b) a e = cc
told_ok p (Err f) a e = absurd (cc)

pub ok_or_ok : {A F : Type 0} (o : Option A) (x : F) (a : A) → ok_or o x ≡ Ok a → o ≡ Some a
ok_or_ok None x a e = absurd (cc)
ok_or_ok (Some b) x a e = cc

-- ---- one element after another, as a loop takes them

module _ {A B F X : Type 0} (step : List B → A → Result B F) (f : X → A) (done : List B) (xs : List X) (i : ℕ) where
  at_next : (x : X) → i < length xs → x ≡ get_or xs i x → each step done (map f (drop i xs)) ≡ and_then (step done (f x)) (λ y. each step (done ++ y ∷ []) (map f (drop (i + 1) xs)))
  unfolding each
  at_next x lt is =
      ap (λ ys. each step done (map f ys)) (drop_more xs i x lt)
      ∙ ap (λ z. and_then (step done (f z)) (λ y. each step (done ++ y ∷ []) (map f (drop (i + 1) xs)))) (sym is)

  pub each_next : (x : X) (y : B) → i < length xs → x ≡ get_or xs i x → step done (f x) ≡ Ok y → each step (done ++ y ∷ []) (map f (drop (i + 1) xs)) ≡ each step done (map f (drop i xs))
  each_next x y lt is e = sym (at_next x lt is ∙ ap (λ r. and_then r (λ z. each step (done ++ z ∷ []) (map f (drop (i + 1) xs)))) e)

  pub each_fault : (x : X) (y : F) → i < length xs → x ≡ get_or xs i x → step done (f x) ≡ Err y → each step done (map f (drop i xs)) ≡ Err y
  each_fault x y lt is e = at_next x lt is ∙ ap (λ r. and_then r (λ z. each step (done ++ z ∷ []) (map f (drop (i + 1) xs)))) e

  pub each_end : length xs ≤ i → each step done (map f (drop i xs)) ≡ Ok done
  unfolding each
  each_end le = ap (λ ys. each step done (map f ys)) (drop_all i xs le)

-- ---- what holds of all that came out

module _ {A B F : Type 0} (step : List B → A → Result B F) where
  pub each_keeps : (P : List B → Type 0) → ((done : List B) (a : A) (b : B) → P done → step done a ≡ Ok b → P (done ++ b ∷ []))
      → (done : List B) (xs : List A) (ys : List B) → P done → each step done xs ≡ Ok ys → P ys
  unfolding each
  each_keeps P keep done [] ys p e = let is : done ≡ ys = cc in subst P is p
  each_keeps P keep done (x ∷ xs) ys p e =
      let made = and_then_ok (step done x) (λ y. each step (done ++ y ∷ []) xs) ys e in
      each_keeps P keep (done ++ made.0 ∷ []) xs ys (keep done x made.0 p made.1) made.2

  pub each_zip : (R : A → B → Type 0) → ((done : List B) (a : A) (b : B) → step done a ≡ Ok b → R a b)
      → (done : List B) (xs : List A) (ys : List B) → each step done xs ≡ Ok ys → (zs : List B) × (ys ≡ done ++ zs) × AllZip R xs zs
  unfolding each
  each_zip R tie done [] ys e = ([], cc (append-nil done), tt)
  each_zip R tie done (x ∷ xs) ys e =
      let made = and_then_ok (step done x) (λ y. each step (done ++ y ∷ []) xs) ys e in
      let later = each_zip R tie (done ++ made.0 ∷ []) xs ys made.2 in
      (made.0 ∷ later.0, later.1 ∙ append_assoc done (made.0 ∷ []) later.0, (tie done x made.0 made.1, later.2))

-- ---- as many come out as go in

pub length-each : {A B F : Type 0} (step : List B → A → Result B F) (done : List B) (xs : List A) (ys : List B) → each step done xs ≡ Ok ys → length ys ≡ length done + length xs
unfolding each
length-each step done [] ys e = let is : done ≡ ys = cc in omega (arith, ap length is)
length-each step done (x ∷ xs) ys e =
    let made = and_then_ok (step done x) (λ y. each step (done ++ y ∷ []) xs) ys e in
    omega (arith, length-each step (done ++ made.0 ∷ []) xs ys made.2, length-append done (made.0 ∷ []))

-- ---- all steps made

module _ {A B F X : Type 0} (step : List B → A → Result B F) (f : X → A) (g : X → B) where
  all_from : (before rest : List X) → ((b : List X) (x : X) (r : List X) → b ++ x ∷ r ≡ before ++ rest → step (map g b) (f x) ≡ Ok (g x)) → each step (map g before) (map f rest) ≡ Ok (map g (before ++ rest))
  unfolding each
  all_from before [] h = ap (λ xs. Ok (map g xs)) (sym (append-nil before))
  all_from before (x ∷ xs) h =
      let joined = append_assoc before (x ∷ []) xs in
      ap (λ r. and_then r (λ y. each step (map g before ++ y ∷ []) (map f xs))) (h before x xs refl)
      ∙ ap (λ ys. each step ys (map f xs)) (sym (map-append g before (x ∷ [])))
      ∙ all_from (before ++ x ∷ []) xs (λ b y r e. h b y r (e ∙ joined))
      ∙ ap (λ ys. Ok (map g ys)) joined

  pub each_all : (xs : List X) → ((b : List X) (x : X) (r : List X) → b ++ x ∷ r ≡ xs → step (map g b) (f x) ≡ Ok (g x)) → each step [] (map f xs) ≡ Ok (map g xs)
  each_all xs h = all_from [] xs h

-- ---- the same where elements are passed over

module _ {A B F X D : Type 0} (step : List B → A → Result B F) (h : D → Option A) (f : X → D) (done : List B) (xs : List X) (i : ℕ) where
  abbrev kept_from : ℕ → List A
  kept_from k = filter_map h (map f (drop k xs))

  passed : (x : X) (o : Option A) → i < length xs → x ≡ get_or xs i x → h (f x) ≡ o → each step done (kept_from i) ≡ each step done (cons_option o (kept_from (i + 1)))
  passed x o lt is e =
      ap (λ ys. each step done (filter_map h (map f ys))) (drop_more xs i x lt) ∙ ap (λ y. each step done (cons_option (h (f y)) (kept_from (i + 1)))) (sym is)
      ∙ ap (λ r. each step done (cons_option r (kept_from (i + 1)))) e

  pub kept_next : (x : X) (a : A) (y : B) → i < length xs → x ≡ get_or xs i x → h (f x) ≡ Some a → step done a ≡ Ok y → each step (done ++ y ∷ []) (kept_from (i + 1)) ≡ each step done (kept_from i)
  unfolding each
  kept_next x a y lt is some e = sym (passed x (Some a) lt is some ∙ ap (λ r. and_then r (λ z. each step (done ++ z ∷ []) (kept_from (i + 1)))) e)

  pub kept_fault : (x : X) (a : A) (y : F) → i < length xs → x ≡ get_or xs i x → h (f x) ≡ Some a → step done a ≡ Err y → each step done (kept_from i) ≡ Err y
  unfolding each
  kept_fault x a y lt is some e = passed x (Some a) lt is some ∙ ap (λ r. and_then r (λ z. each step (done ++ z ∷ []) (kept_from (i + 1)))) e

  pub not_kept : (x : X) → i < length xs → x ≡ get_or xs i x → h (f x) ≡ None → each step done (kept_from (i + 1)) ≡ each step done (kept_from i)
  not_kept x lt is none = sym (passed x None lt is none)

  pub kept_end : length xs ≤ i → each step done (kept_from i) ≡ Ok done
  unfolding each
  kept_end le = ap (λ ys. each step done (filter_map h (map f ys))) (drop_all i xs le)
