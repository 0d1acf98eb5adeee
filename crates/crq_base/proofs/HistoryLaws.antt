-- Histories that grow.
use Rattle.std.proofs.Common.{◌≡◌, ◌≢◌, ℕ, cond, List, [], ◌∷◌, ◌++◌, refl, sym, ap, ◌∙◌, subst, append_assoc, append-nil, eqb, eq-eqb, ne_eqb}
use Rattle.std.proofs.lemmas.List.Elements.{filter-append, filter_map-append}
use Rattle.crq_base.specs.declared.entry.Entry.{Entry}
use Rattle.crq_base.specs.declared.entry.Entry.TheVariants.{Begin}
use Rattle.crq_base.specs.Entries.{caller_of}
use Rattle.crq_base.specs.Histories.{put_of, settled_of, taken_of, puts, settleds, outs, own, Began, MayFollow, IsLegalAfter, IsLegal}

pub puts-append : (h g : List Entry) → puts (h ++ g) ≡ puts h ++ puts g
puts-append h g = filter_map-append put_of h g

pub settleds-append : (h g : List Entry) → settleds (h ++ g) ≡ settleds h ++ settleds g
settleds-append h g = filter_map-append settled_of h g

pub outs-append : (h g : List Entry) → outs (h ++ g) ≡ outs h ++ outs g
outs-append h g = filter_map-append taken_of h g

pub own-append : (c : ℕ) (h g : List Entry) → own c (h ++ g) ≡ own c h ++ own c g
own-append c h g = filter-append (λ x. eqb (caller_of x) c) h g

-- the own entries of the caller who adds an entry
pub own_here : (c : ℕ) (h : List Entry) (e : Entry) → caller_of e ≡ c → own c (h ++ e ∷ []) ≡ own c h ++ e ∷ []
own_here c h e q = own-append c h (e ∷ []) ∙ (λ i. own c h ++ cond (eq-eqb (caller_of e) c q i) (e ∷ []) [])

-- and of any other caller
pub own_other : (c : ℕ) (h : List Entry) (e : Entry) → caller_of e ≢ c → own c (h ++ e ∷ []) ≡ own c h
own_other c h e q = own-append c h (e ∷ []) ∙ ((λ i. own c h ++ cond (ne_eqb (caller_of e) c q i) (e ∷ []) []) ∙ append-nil (own c h))

-- a caller that has just begun
pub began_now : (c : ℕ) (h : List Entry) → Began c (h ++ Begin c ∷ []) h
began_now c h = record { back = []; parts = refl; last = refl }

-- another caller's entry leaves a search as it was begun
pub began_stays : (c : ℕ) (h front : List Entry) (e : Entry) → caller_of e ≢ c → Began c h front → Began c (h ++ e ∷ []) front
began_stays c h front e q b = record {
  back = b.back ++ e ∷ [];
  parts = ap (λ z. z ++ e ∷ []) b.parts ∙ append_assoc front (Begin c ∷ b.back) (e ∷ []);
  last = own_other c b.back e q ∙ b.last;
}

-- two pieces are legal one after the other just where the whole is
pub legal_append : (h xs ys : List Entry) → IsLegalAfter h xs → IsLegalAfter (h ++ xs) ys → IsLegalAfter h (xs ++ ys)
legal_append h [] ys l m = subst (λ z. IsLegalAfter z ys) (append-nil h) m
legal_append h (x ∷ xs) ys l m = (l.0, legal_append (h ++ x ∷ []) xs ys l.1 (subst (λ z. IsLegalAfter z ys) (sym (append_assoc h (x ∷ []) xs)) m))

pub legal_front : (h xs ys : List Entry) → IsLegalAfter h (xs ++ ys) → IsLegalAfter h xs
legal_front h [] ys l = tt
legal_front h (x ∷ xs) ys l = (l.0, legal_front (h ++ x ∷ []) xs ys l.1)

pub legal_back : (h xs ys : List Entry) → IsLegalAfter h (xs ++ ys) → IsLegalAfter (h ++ xs) ys
legal_back h [] ys l = subst (λ z. IsLegalAfter z ys) (sym (append-nil h)) l
legal_back h (x ∷ xs) ys l = subst (λ z. IsLegalAfter z ys) (append_assoc h (x ∷ []) xs) (legal_back (h ++ x ∷ []) xs ys l.1)

-- a legal history and one more entry
pub legal_more : (h : List Entry) (e : Entry) → IsLegal h → MayFollow h e → IsLegal (h ++ e ∷ [])
legal_more h e l m = legal_append [] h (e ∷ []) l (m, tt)

pub more_legal : (h : List Entry) (e : Entry) → IsLegal (h ++ e ∷ []) → MayFollow h e
more_legal h e l = let r = legal_back [] h (e ∷ []) l in r.0

pub not_nil : (xs ys : List Entry) (y : Entry) → xs ++ y ∷ ys ≡ [] → ⊥
not_nil [] ys y e = cc
not_nil (x ∷ xs) ys y e = cc

own_begin : (c : ℕ) (front back : List Entry) → own c (front ++ Begin c ∷ back) ≡ own c front ++ Begin c ∷ own c back
own_begin c front back = own-append c front (Begin c ∷ back) ∙ (λ i. own c front ++ cond (eq-eqb c c refl i) (Begin c ∷ own c back) (own c back))

-- nothing of its own follows a caller's last entry
none_later : (c : ℕ) (front back all : List Entry) → all ≡ front ++ Begin c ∷ back → own c all ≡ [] → ⊥
none_later c front back all e n = not_nil (own c front) (own c back) (Begin c) (sym (ap (own c) e ∙ own_begin c front back) ∙ n)

fronts : (c : ℕ) (f g s t : List Entry) → own c s ≡ [] → own c t ≡ [] → f ++ Begin c ∷ s ≡ g ++ Begin c ∷ t → f ≡ g
fronts c [] [] s t m n e = refl
fronts c [] (y ∷ g) s t m n e = let rest : s ≡ g ++ Begin c ∷ t = cc in absurd (none_later c g t s rest m)
fronts c (x ∷ f) [] s t m n e = let rest : t ≡ f ++ Begin c ∷ s = cc in absurd (none_later c f s t rest n)
fronts c (x ∷ f) (y ∷ g) s t m n e =
    let heads : x ≡ y = cc in let rest : f ++ Begin c ∷ s ≡ g ++ Begin c ∷ t = cc in
    λ i. heads i ∷ fronts c f g s t m n rest i

-- where a search began is one place
pub began_one : (c : ℕ) (h f g : List Entry) → Began c h f → Began c h g → f ≡ g
began_one c h f g a b = fronts c f g a.back b.back a.last b.last (sym a.parts ∙ b.parts)

-- the last of the caller's own entries is the one at which its search began
pub own_begun : (c : ℕ) (h front : List Entry) → Began c h front → own c h ≡ own c front ++ Begin c ∷ []
own_begun c h front b = ap (own c) b.parts ∙ (own_begin c front b.back ∙ (λ i. own c front ++ Begin c ∷ b.last i))

pub last_one : (xs ys : List Entry) (x y : Entry) → xs ++ x ∷ [] ≡ ys ++ y ∷ [] → x ≡ y
last_one [] [] x y e = cc
last_one [] (z ∷ ys) x y e = let r : ys ++ y ∷ [] ≡ [] = cc in absurd (not_nil ys [] y r)
last_one (z ∷ xs) [] x y e = let r : xs ++ x ∷ [] ≡ [] = cc in absurd (not_nil xs [] x r)
last_one (z ∷ xs) (w ∷ ys) x y e = let r : xs ++ x ∷ [] ≡ ys ++ y ∷ [] = cc in last_one xs ys x y r

-- a caller whose last entry is not Begin is in no search
pub ended : (c : ℕ) (h front : List Entry) (e : Entry) → caller_of e ≡ c → (e ≡ Begin c → ⊥) → Began c (h ++ e ∷ []) front → ⊥
ended c h front e q other b =
    other (last_one (own c h) (own c front) e (Begin c) (sym (own_here c h e q) ∙ own_begun c (h ++ e ∷ []) front b))
