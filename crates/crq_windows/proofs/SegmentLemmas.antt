-- The part of a list from one place up to another.
use Rattle.std.proofs.Common.{◌≡◌, ℕ, suc, ◌+◌, ◌-◌, ◌<◌, ◌≤◌, List, [], ◌∷◌, ◌++◌, Bool, true, false, length, take, drop, get_or, All, arith, refl, sym, ap, ◌∙◌, subst}
use Rattle.std.proofs.lemmas.List.{take-append-drop, length-drop, length-take-le, get_or-take, get_or-drop, drop-drop, append-nil}
use Rattle.std.proofs.lemmas.List.Elements.{recursion_from_All, filter-append}
use Rattle.std.specs.List.{AllByRecursion, filter}
use Rattle.crq_base.specs.declared.event.Event.{Event}
use Rattle.crq_base.specs.Keys.{IsBefore}
use Rattle.crq_sim.specs.EventLists.{AreInOrder}

filter_none : {X : Type 0} (p : X → Bool) (xs : List X) → AllByRecursion (λ x. p x ≡ false) xs → filter p xs ≡ []
filter_none p [] h = refl
filter_none p (x ∷ xs) h = rw h.0 (filter_none p xs h.1)

filter_all : {X : Type 0} (p : X → Bool) (xs : List X) → AllByRecursion (λ x. p x ≡ true) xs → filter p xs ≡ xs
filter_all p [] h = refl
filter_all p (x ∷ xs) h = rw h.0 (ap (λ zs. x ∷ zs) (filter_all p xs h.1))

pub get_or-segment : {X : Type 0} (xs : List X) (from n k : ℕ) (d : X) → k < n → get_or (take n (drop from xs)) k d ≡ get_or xs (from + k) d
get_or-segment xs from n k d lt = get_or-take n (drop from xs) k d lt ∙ get_or-drop from xs k d

pub length-segment : {X : Type 0} (xs : List X) (from upto : ℕ) → from ≤ upto → upto ≤ length xs → length (take (upto - from) (drop from xs)) ≡ upto - from
length-segment xs from upto le end = length-take-le (upto - from) (drop from xs) (let l = length-drop from xs in omega arith)

-- the parts of a list by a fact of each place
All-front : {X : Type 0} (P : X → Type 0) (xs : List X) (from : ℕ) → from ≤ length xs → ((k : ℕ) (d : X) → k < from → P (get_or xs k d)) → All P (take from xs)
All-front P xs from le h k d lt =
    let l = length-take-le from xs le in
    subst P (sym (get_or-take from xs k d (omega arith))) (h k d (omega arith))

All-segment : {X : Type 0} (P : X → Type 0) (xs : List X) (from upto : ℕ) → from ≤ upto → upto ≤ length xs
    → ((k : ℕ) (d : X) → from ≤ k → k < upto → P (get_or xs k d)) → All P (take (upto - from) (drop from xs))
All-segment P xs from upto le end h k d lt =
    let l = length-segment xs from upto le end in
    subst P (sym (get_or-segment xs from (upto - from) k d (omega arith))) (h (from + k) d (omega arith) (omega arith))

All-rest : {X : Type 0} (P : X → Type 0) (xs : List X) (upto : ℕ) → ((k : ℕ) (d : X) → upto ≤ k → k < length xs → P (get_or xs k d)) → All P (drop upto xs)
All-rest P xs upto h k d lt =
    let l = length-drop upto xs in
    subst P (sym (get_or-drop upto xs k d)) (h (upto + k) d (omega arith) (omega arith))

split : {X : Type 0} (xs : List X) (from upto : ℕ) → from ≤ upto → take from xs ++ (take (upto - from) (drop from xs) ++ drop upto xs) ≡ xs
split xs from upto le =
    let e : from + (upto - from) ≡ upto = omega arith in
    let rest : drop (upto - from) (drop from xs) ≡ drop upto xs = drop-drop (upto - from) from xs ∙ ap (λ (n : ℕ). drop n xs) e in
    ap (λ zs. take from xs ++ (take (upto - from) (drop from xs) ++ zs)) (sym rest)
    ∙ ap (λ zs. take from xs ++ zs) (take-append-drop (upto - from) (drop from xs)) ∙ take-append-drop from xs

-- what passes stands from one place up to another
pub segment_is_filter : {X : Type 0} (p : X → Bool) (xs : List X) (from upto : ℕ) → from ≤ upto → upto ≤ length xs
    → ((k : ℕ) (d : X) → k < from → p (get_or xs k d) ≡ false)
    → ((k : ℕ) (d : X) → from ≤ k → k < upto → p (get_or xs k d) ≡ true)
    → ((k : ℕ) (d : X) → upto ≤ k → k < length xs → p (get_or xs k d) ≡ false)
    → take (upto - from) (drop from xs) ≡ filter p xs
segment_is_filter p xs from upto le end before here after =
    let front = take from xs in
    let part = take (upto - from) (drop from xs) in
    let rest = drop upto xs in
    let none_front : filter p front ≡ [] = filter_none p front (recursion_from_All _ front (All-front (λ x. p x ≡ false) xs from (omega arith) before)) in
    let all_part : filter p part ≡ part = filter_all p part (recursion_from_All _ part (All-segment (λ x. p x ≡ true) xs from upto le end here)) in
    let none_rest : filter p rest ≡ [] = filter_none p rest (recursion_from_All _ rest (All-rest (λ x. p x ≡ false) xs upto after)) in
    sym (ap (filter p) (sym (split xs from upto le)) ∙ filter-append p front (part ++ rest) ∙ ap (λ zs. zs ++ filter p (part ++ rest)) none_front
    ∙ filter-append p part rest ∙ ap (λ zs. zs ++ filter p rest) all_part ∙ ap (λ zs. part ++ zs) none_rest ∙ append-nil part)

-- events in order by their places
pub in_order : (es : List Event) → ((i j : ℕ) (d : Event) → i < j → j < length es → IsBefore (get_or es i d) (get_or es j d)) → AreInOrder es
in_order [] h = tt
in_order (e ∷ es) h =
    (recursion_from_All (IsBefore e) es (λ k d lt. h 0 (suc k) d (omega arith) (omega arith)), in_order es (λ i j d lt end. h (suc i) (suc j) d (omega arith) (omega arith)))
