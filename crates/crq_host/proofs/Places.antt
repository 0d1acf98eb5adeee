-- Lists of places, by index.
use Rattle.std.proofs.Common.{◌≡◌, ◌≢◌, ℕ, zero, suc, ◌<◌, List, [], ◌∷◌, length, map, set, slice_get, get_or, Some, refl, sym, ap, ◌∙◌, arith}

pub get-set_same : {X : Type 0} (xs : List X) (i : ℕ) (x : X) → i < length xs → slice_get (set xs i x) i ≡ Some x
get-set_same [] i x h = absurd (omega arith)
get-set_same (y ∷ xs) zero x h = refl
get-set_same (y ∷ xs) (suc i) x h = get-set_same xs i x (omega arith)

pub get-set_other : {X : Type 0} (xs : List X) (i j : ℕ) (x : X) → j ≢ i → slice_get (set xs i x) j ≡ slice_get xs j
get-set_other [] i j x h = refl
get-set_other (y ∷ xs) zero zero x h = absurd (h refl)
get-set_other (y ∷ xs) zero (suc j) x h = refl
get-set_other (y ∷ xs) (suc i) zero x h = refl
get-set_other (y ∷ xs) (suc i) (suc j) x h = get-set_other xs i j x (λ e. h (let k : suc j ≡ suc i = omega arith in k))

-- a list is determined by its places
pub same_places : {X : Type 0} (xs ys : List X) → length xs ≡ length ys → ((k : ℕ) → k < length xs → slice_get xs k ≡ slice_get ys k) → xs ≡ ys
same_places [] [] e h = refl
same_places [] (y ∷ ys) e h = absurd (omega arith)
same_places (x ∷ xs) [] e h = absurd (omega arith)
same_places (x ∷ xs) (y ∷ ys) e h =
    let first : Some x ≡ Some y = h 0 (omega arith) in
    let heads : x ≡ y = cc in
    let tails : xs ≡ ys = same_places xs ys (omega arith) (λ k lt. h (suc k) (omega arith)) in
    cc

-- what an element is mapped to stays, and so does the list of what all are mapped to
pub map-set_same : {X Y : Type 0} (f : X → Y) (xs : List X) (i : ℕ) (x d : X) → i < length xs → f x ≡ f (get_or xs i d) → map f (set xs i x) ≡ map f xs
map-set_same f [] i x d h e = absurd (omega arith)
map-set_same f (y ∷ xs) zero x d h e = ap (λ z. z ∷ map f xs) e
map-set_same f (y ∷ xs) (suc i) x d h e = ap (λ zs. f y ∷ zs) (map-set_same f xs i x d (omega arith) e)

-- an index below the length has an element
pub element : {X : Type 0} (xs : List X) (j : ℕ) → j < length xs → (x : X) × (slice_get xs j ≡ Some x)
element [] j lt = absurd (omega arith)
element (x ∷ xs) zero lt = (x, refl)
element (x ∷ xs) (suc j) lt = element xs j (omega arith)

pub get-map : {X Y : Type 0} (f : X → Y) (xs : List X) (k : ℕ) (x : X) → slice_get xs k ≡ Some x → slice_get (map f xs) k ≡ Some (f x)
get-map f [] k x e = absurd (cc)
get-map f (y ∷ xs) zero x e = let same : y ≡ x = cc in ap (λ z. Some (f z)) same
get-map f (y ∷ xs) (suc k) x e = get-map f xs k x e

-- where two lists are mapped to one, so are their elements
pub map_places : {X Y : Type 0} (f : X → Y) (xs ys : List X) (k : ℕ) (x y : X) → map f xs ≡ map f ys → slice_get xs k ≡ Some x → slice_get ys k ≡ Some y → f x ≡ f y
map_places f xs ys k x y e a b =
    let p = get-map f xs k x a in
    let q = get-map f ys k y b in
    let r = ap (λ zs. slice_get zs k) e in
    let s : Some (f x) ≡ Some (f y) = sym p ∙ r ∙ q in
    cc

pub set_here : {X : Type 0} (xs : List X) (i : ℕ) (x : X) → slice_get xs i ≡ Some x → set xs i x ≡ xs
set_here [] i x e = refl
set_here (y ∷ xs) zero x e = let same : y ≡ x = cc in ap (λ z. z ∷ xs) (sym same)
set_here (y ∷ xs) (suc i) x e = ap (λ zs. y ∷ zs) (set_here xs i x e)
