-- What a caller last knew of a word, after one step more.
use Rattle.std.proofs.Common.{◌≡◌, ◌≢◌, ℕ, ◌≤◌, ◌==◌, cond, false, List, [], ◌∷◌, ◌++◌, length, drop, Option, Some, None, refl, ap, ◌∙◌, sym, arith, eq-eqb, ne_eqb}
use Rattle.std.proofs.lemmas.List.{drop-append-le, length-append}
use Rattle.crq_rule.specs.declared.view.Made.{Made}
use Rattle.crq_rows.specs.Known.{is_exchange, known_by, rather, last_known}

-- what the step m alone makes known of the word w
abbrev pub made_known : Made → ℕ → Option ℕ
made_known m w = cond (m.word == w) (Some (known_by m)) None

rather_assoc : (a b c : Option ℕ) → rather (rather a b) c ≡ rather a (rather b c)
rather_assoc (Some x) b c = refl
rather_assoc None b c = refl

rather_none : (a : Option ℕ) → rather a None ≡ a
rather_none (Some x) = refl
rather_none None = refl

pub last_known_snoc : (xs : List Made) (m : Made) (w : ℕ) → last_known (xs ++ m ∷ []) w ≡ rather (made_known m w) (last_known xs w)
last_known_snoc [] m w = sym (rather_none (made_known m w))
last_known_snoc (x ∷ xs) m w = ap (λ o. rather o (made_known x w)) (last_known_snoc xs m w) ∙ rather_assoc (made_known m w) (last_known xs w) (made_known x w)

pub drop_snoc : (n : ℕ) (xs : List Made) (m : Made) → n ≤ length xs → drop n (xs ++ m ∷ []) ≡ drop n xs ++ m ∷ []
drop_snoc n xs m h = drop-append-le n xs (m ∷ []) h

-- there are as many steps as before, and one more
pub longer : (n : ℕ) (xs : List Made) (m : Made) → n ≤ length xs → n ≤ length (xs ++ m ∷ [])
longer n xs m h = let more = length-append xs (m ∷ []) in omega arith

known_then : (n : ℕ) (xs : List Made) (m : Made) (w : ℕ) → n ≤ length xs → last_known (drop n (xs ++ m ∷ [])) w ≡ rather (made_known m w) (last_known (drop n xs) w)
known_then n xs m w h = ap (λ ms. last_known ms w) (drop_snoc n xs m h) ∙ last_known_snoc (drop n xs) m w

-- a step on another word leaves what is known
pub known_else : (n : ℕ) (xs : List Made) (m : Made) (w : ℕ) → n ≤ length xs → m.word ≢ w → last_known (drop n (xs ++ m ∷ [])) w ≡ last_known (drop n xs) w
known_else n xs m w h ne = known_then n xs m w h ∙ ap (λ b. rather (cond b (Some (known_by m)) None) (last_known (drop n xs) w)) (ne_eqb m.word w ne)

-- a step on the word makes it known
pub known_here : (n : ℕ) (xs : List Made) (m : Made) (w : ℕ) → n ≤ length xs → m.word ≡ w → last_known (drop n (xs ++ m ∷ [])) w ≡ Some (known_by m)
known_here n xs m w h is = known_then n xs m w h ∙ ap (λ b. rather (cond b (Some (known_by m)) None) (last_known (drop n xs) w)) (eq-eqb m.word w is)

-- a step that is no exchange makes the word known that it found
pub found_known : (n : ℕ) (xs : List Made) (m : Made) (w : ℕ) → n ≤ length xs → m.word ≡ w → is_exchange m.kind ≡ false → last_known (drop n (xs ++ m ∷ [])) w ≡ Some m.found
found_known n xs m w h is loads = known_here n xs m w h is ∙ ap (λ b. Some (cond b (cond (m.found == m.first) m.second m.found) m.found)) loads
