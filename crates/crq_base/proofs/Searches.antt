-- Where a caller's search began.
use Rattle.std.proofs.Common.{◌≡◌, ◌≢◌, ℕ, ◌+◌, ◌<◌, ◌≤◌, Option, Some, None, MatchOption, List, [], ◌∷◌, ◌++◌, length, take, get_or, sym, ap, ◌∙◌, subst, arith}
use Rattle.std.proofs.lemmas.List.{take_more, take_all}
use Rattle.crq_base.specs.declared.entry.Entry.{Entry}
use Rattle.crq_base.specs.declared.entry.Entry.TheVariants.{Begin}
use Rattle.crq_base.specs.Entries.{caller_of}
use Rattle.crq_base.specs.Histories.{own, Began}
use Rattle.crq_base.proofs.HistoryLaws.{own_here, own_other, own_begun, last_one, not_nil, began_now, began_stays}

-- after the first entries of the history: the place of the caller's last entry, where that is a Begin
abbrev pub IsLastBegin : ℕ → List Entry → ℕ → Option ℕ → Type 0
IsLastBegin c h i None = (xs : List Entry) → own c (take i h) ≡ xs ++ Begin c ∷ [] → ⊥
IsLastBegin c h i (Some place) = (place < i) × Began c (take i h) (take place h)

pub last_none : (c : ℕ) (h : List Entry) → IsLastBegin c h 0 None
last_none c h xs e = not_nil xs [] (Begin c) (sym e)

pub last_stays : (c : ℕ) (h : List Entry) (i : ℕ) (d : Entry) (last : Option ℕ) → i < length h → caller_of (get_or h i d) ≢ c → IsLastBegin c h i last → IsLastBegin c h (i + 1) last
last_stays c h i d None lt ne inv = λ xs e. inv xs (sym (own_other c (take i h) (get_or h i d) ne) ∙ (sym (ap (own c) (take_more h i d lt)) ∙ e))
last_stays c h i d (Some place) lt ne inv =
    (omega arith, subst (λ z. Began c z (take place h)) (sym (take_more h i d lt)) (began_stays c (take i h) (take place h) (get_or h i d) ne inv.1))

pub last_begun : (c : ℕ) (h : List Entry) (i : ℕ) (d : Entry) → i < length h → get_or h i d ≡ Begin c → IsLastBegin c h (i + 1) (Some i)
last_begun c h i d lt e = (omega arith, subst (λ z. Began c z (take i h)) (sym (take_more h i d lt ∙ ap (λ x. take i h ++ x ∷ []) e)) (began_now c (take i h)))

pub last_other : (c : ℕ) (h : List Entry) (i : ℕ) (d : Entry) → i < length h → caller_of (get_or h i d) ≡ c → (get_or h i d ≡ Begin c → ⊥) → IsLastBegin c h (i + 1) None
last_other c h i d lt q other xs e =
    other (last_one (own c (take i h)) xs _ _ (sym (own_here c (take i h) (get_or h i d) q) ∙ (sym (ap (own c) (take_more h i d lt)) ∙ e)))

-- what the place says at the end of the history
pub last_told : (c : ℕ) (h : List Entry) (i : ℕ) (last : Option ℕ) → length h ≤ i → i ≤ length h → IsLastBegin c h i last
    → MatchOption last ((front : List Entry) → Began c h front → ⊥) (λ place. (place < length h) × Began c h (take place h))
last_told c h i None le ge inv = λ front b. inv (own c front) (ap (own c) (take_all i h le) ∙ own_begun c h front b)
last_told c h i (Some place) le ge inv =
    (let below = inv.0 in omega arith, subst (λ z. Began c z (take place h)) (take_all i h le) inv.1)
