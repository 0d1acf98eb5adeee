-- Elements of lists.
use Rattle.std.proofs.Common.{◌≡◌, ℕ, zero, suc, ◌<◌, ◌⊎◌, inl, inr, Bool, true, false, cond, Option, Some, None, List, [], ◌∷◌, ◌++◌, take, slice_get, refl, sym, ap, ◌∙◌, subst, arith}
use Rattle.std.specs.List.{filter, filter_map, cons_option}
use Rattle.crq_base.specs.Lists.{In}

-- an element stands somewhere
pub in_split : {X : Type 0} (x : X) (xs : List X) → In x xs → (front : List X) × (back : List X) × (xs ≡ front ++ x ∷ back)
in_split x [] h = absurd h
in_split x (y ∷ xs) (inl h) = ([], xs, ap (λ z. z ∷ xs) (sym h))
in_split x (y ∷ xs) (inr h) = let r = in_split x xs h in (y ∷ r.0, r.1, ap (λ zs. y ∷ zs) r.2)

pub in_at : {X : Type 0} (x : X) (xs : List X) → In x xs → (k : ℕ) × (slice_get xs k ≡ Some x)
in_at x [] h = absurd h
in_at x (y ∷ xs) (inl h) = (0, ap Some (sym h))
in_at x (y ∷ xs) (inr h) = let r = in_at x xs h in (suc r.0, r.1)

pub at_in : {X : Type 0} (x : X) (xs : List X) (k : ℕ) → slice_get xs k ≡ Some x → In x xs
at_in x [] k h = absurd (cc)
at_in x (y ∷ xs) zero h = inl (let e : y ≡ x = cc in sym e)
at_in x (y ∷ xs) (suc k) h = inr (at_in x xs k h)

bool_cases : (b : Bool) → (b ≡ true) ⊎ (b ≡ false)
bool_cases true = inl refl
bool_cases false = inr refl

pub filter_kept : {X : Type 0} (p : X → Bool) (x : X) (xs : List X) → p x ≡ true → filter p (x ∷ xs) ≡ x ∷ filter p xs
filter_kept p x xs h i = cond (h i) (x ∷ filter p xs) (filter p xs)

pub filter_left : {X : Type 0} (p : X → Bool) (x : X) (xs : List X) → p x ≡ false → filter p (x ∷ xs) ≡ filter p xs
filter_left p x xs h i = cond (h i) (x ∷ filter p xs) (filter p xs)

-- an element that passes is in the filtered list, and one of that is in the list
pub in_filter : {X : Type 0} (p : X → Bool) (x : X) (xs : List X) → p x ≡ true → In x xs → In x (filter p xs)
in_filter p x [] passes h = absurd h
in_filter p x (y ∷ xs) passes (inl e) = subst (In x) (sym (filter_kept p y xs (ap p (sym e) ∙ passes))) (inl e)
in_filter p x (y ∷ xs) passes (inr h) = elim (bool_cases (p y)) [
  | inl b ↦ subst (In x) (sym (filter_kept p y xs b)) (inr (in_filter p x xs passes h))
  | inr b ↦ subst (In x) (sym (filter_left p y xs b)) (in_filter p x xs passes h)
]

pub filter_in : {X : Type 0} (p : X → Bool) (x : X) (xs : List X) → In x (filter p xs) → In x xs
filter_in p x [] h = h
filter_in p x (y ∷ xs) h = elim (bool_cases (p y)) [
  | inl b ↦ (let k : In x (y ∷ filter p xs) = subst (In x) (filter_kept p y xs b) h in elim k [ inl e ↦ inl e | inr r ↦ inr (filter_in p x xs r) ])
  | inr b ↦ inr (filter_in p x xs (subst (In x) (filter_left p y xs b) h))
]

no_append : {X : Type 0} (front post : List X) (x : X) → [] ≡ front ++ x ∷ post → ⊥
no_append [] post x h = cc
no_append (y ∷ front) post x h = cc

-- where the filtered list is cut, so is the list
abbrev SplitsAt : {X : Type 0} → (X → Bool) → List X → List X → X → Type 0
SplitsAt {X} p xs pre x = (a : List X) × (b : List X) × (xs ≡ a ++ x ∷ b) × (filter p a ≡ pre)

split_kept : {X : Type 0} (p : X → Bool) (y : X) (xs pre : List X) (x : X) (post : List X) → p y ≡ true → y ∷ filter p xs ≡ pre ++ x ∷ post
    → ((front : List X) → filter p xs ≡ front ++ x ∷ post → SplitsAt p xs front x) → SplitsAt p (y ∷ xs) pre x
split_kept p y xs [] x post kept h ih = let heads : y ≡ x = cc in ([], xs, ap (λ z. z ∷ xs) heads, refl)
split_kept p y xs (z ∷ pre) x post kept h ih =
    let heads : y ≡ z = cc in
    let rest : filter p xs ≡ pre ++ x ∷ post = cc in
    let r = ih pre rest in
    (y ∷ r.0, r.1, ap (λ zs. y ∷ zs) r.2, filter_kept p y r.0 kept ∙ ap (λ zs. y ∷ zs) r.3 ∙ ap (λ w. w ∷ pre) heads)

pub filter_split : {X : Type 0} (p : X → Bool) (xs pre : List X) (x : X) (post : List X) → filter p xs ≡ pre ++ x ∷ post → SplitsAt p xs pre x
filter_split p [] pre x post h = absurd (no_append pre post x h)
filter_split p (y ∷ xs) pre x post h =
    elim (bool_cases (p y)) [
      | inl b ↦ split_kept p y xs pre x post b (sym (filter_kept p y xs b) ∙ h) (λ front k. filter_split p xs front x post k)
      | inr b ↦ (let r = filter_split p xs pre x post (sym (filter_left p y xs b) ∙ h) in (y ∷ r.0, r.1, ap (λ zs. y ∷ zs) r.2, filter_left p y r.0 b ∙ r.3))
    ]

-- what the mapped list has comes from an element
pub in_filter_map : {X Y : Type 0} (f : X → Option Y) (y : Y) (xs : List X) → In y (filter_map f xs) → (x : X) × In x xs × (f x ≡ Some y)
in_filter_map f y [] h = absurd h
in_filter_map {X = X} {Y = Y} f y (x ∷ xs) h = from (f x) refl h (in_filter_map f y xs)
  where
    from : (o : Option Y) → f x ≡ o → In y (cons_option o (filter_map f xs)) → (In y (filter_map f xs) → (z : X) × In z xs × (f z ≡ Some y)) → (z : X) × In z (x ∷ xs) × (f z ≡ Some y)
    from None e h later = let r = later h in (r.0, inr r.1, r.2)
    from (Some z) e (inl h) later = (x, inl refl, e ∙ ap Some (sym h))
    from (Some z) e (inr h) later = let r = later h in (r.0, inr r.1, r.2)

pub filter_map_in : {X Y : Type 0} (f : X → Option Y) (y : Y) (x : X) (xs : List X) → In x xs → f x ≡ Some y → In y (filter_map f xs)
filter_map_in f y x [] h e = absurd h
filter_map_in f y x (z ∷ xs) (inl h) e = subst (λ o. In y (cons_option o (filter_map f xs))) (sym (ap f (sym h) ∙ e)) (inl refl)
filter_map_in {Y = Y} f y x (z ∷ xs) (inr h) e = into (f z) (filter_map_in f y x xs h e)
  where
    into : (o : Option Y) → In y (filter_map f xs) → In y (cons_option o (filter_map f xs))
    into None h = h
    into (Some w) h = inr h

-- an element of the first ones stands before their end
pub in_take : {X : Type 0} (x : X) (xs : List X) (n : ℕ) → In x (take n xs) → (k : ℕ) × (k < n) × (slice_get xs k ≡ Some x)
in_take x [] zero h = absurd h
in_take x [] (suc n) h = absurd h
in_take x (y ∷ xs) zero h = absurd h
in_take x (y ∷ xs) (suc n) (inl h) = (0, omega arith, ap Some (sym h))
in_take x (y ∷ xs) (suc n) (inr h) = let r = in_take x xs n h in (suc r.0, (let k = r.1 in omega arith), r.2)
