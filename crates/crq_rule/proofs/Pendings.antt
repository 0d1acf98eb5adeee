-- What is pending, as a list, and histories that grow.
use Rattle.std.proofs.Common.{◌≡◌, ◌⊎◌, ⊎_elim, inl, inr, Bool, true, false, cond, eqb, ◌&&◌, ◌||◌, ℕ, zero, suc, List, [], ◌∷◌, ◌++◌, take, drop, sym, refl, ap, ◌∙◌, subst, append-nil, eq-eqb, arith}
use Rattle.std.proofs.lemmas.Bool.{false≢true, eqb-true}
use Rattle.std.proofs.lemmas.List.{take-append-drop}
use Rattle.std.specs.List.{Contains}
use Rattle.std.proofs.lemmas.List.Elements.{Contains-append_left, Contains-append_right}
use Rattle.crq_base.specs.declared.event.Event.{Event}
use Rattle.crq_base.specs.declared.entry.Entry.{Entry}
use Rattle.crq_base.specs.declared.entry.Entry.TheVariants.{Begin, Put, Settled, Take, Miss, Table}
use Rattle.crq_base.specs.Histories.{puts, outs, IsPending, MayFollow, IsLegal}
use Rattle.crq_base.proofs.HistoryLaws.{puts-append, outs-append}
use Rattle.crq_base.specs.Lists.{In, IsOnce}
use Rattle.crq_base.specs.Refusals.{AreCounted}
use Rattle.crq_rule.specs.ScarceParts.{is_event, has_event, without_taken, pending}
use Rattle.crq_rule.proofs.Puts.{once_snoc}
use Rattle.crq_rule.proofs.HistoryLaws.{by_legal}

-- Tests

pub both : (a b : Bool) → a && b ≡ true → (a ≡ true) × (b ≡ true)
both true b e = (refl, e)
both false b e = absurd (false≢true e)

pub either_of : (a b : Bool) → a || b ≡ true → (a ≡ true) ⊎ (b ≡ true)
either_of true b e = inl refl
either_of false b e = inr e

pub first_of : (a b : Bool) → a ≡ true → a || b ≡ true
first_of a b e = ap (λ t. t || b) e

pub second_of : (a b : Bool) → b ≡ true → a || b ≡ true
second_of true b e = refl
second_of false b e = e

pub and_of : (a b : Bool) → a ≡ true → b ≡ true → a && b ≡ true
and_of a b e f = ap (λ t. t && b) e ∙ f

same_event : (a b : Event) → is_event a b ≡ true → a ≡ b
same_event a b e = let t = both (eqb a.time b.time) _ e in let s = both (eqb a.src b.src) _ t.1 in let n = both (eqb a.seq b.seq) _ s.1 in let d = both (eqb a.dst b.dst) _ n.1 in
    λ i. record { time = eqb-true a.time b.time t.0 i; src = eqb-true a.src b.src s.0 i; seq = eqb-true a.seq b.seq n.0 i; dst = eqb-true a.dst b.dst d.0 i; load = eqb-true a.load b.load d.1 i }

is_itself : (a : Event) → is_event a a ≡ true
is_itself a = and_of _ _ (eq-eqb a.time a.time refl) (and_of _ _ (eq-eqb a.src a.src refl) (and_of _ _ (eq-eqb a.seq a.seq refl) (and_of _ _ (eq-eqb a.dst a.dst refl) (eq-eqb a.load a.load refl))))

nothing : (e : Event) → Contains [] e → ⊥
nothing e h = let k = h.1 in absurd (omega arith)

pub in_contains : (xs : List Event) (e : Event) → In e xs → Contains xs e
in_contains [] e i = absurd i
in_contains (x ∷ xs) e i = ⊎_elim (λ (q : e ≡ x). (0, omega arith, sym q)) (λ t. Contains-append_right (x ∷ []) xs e (in_contains xs e t)) i

pub contains_in : (xs : List Event) (e : Event) → Contains xs e → In e xs
contains_in [] e h = nothing e h
contains_in (x ∷ xs) e (zero, k, q) = inl (sym q)
contains_in (x ∷ xs) e (suc n, k, q) = inr (contains_in xs e (n, omega arith, q))

has_in : (xs : List Event) (e : Event) → has_event xs e ≡ true → In e xs
has_in [] e h = absurd (false≢true h)
has_in (x ∷ xs) e h = ⊎_elim (λ q. inl (sym (same_event x e q))) (λ t. inr (has_in xs e t)) (either_of (is_event x e) (has_event xs e) h)

in_has : (xs : List Event) (e : Event) → In e xs → has_event xs e ≡ true
in_has [] e i = absurd i
in_has (x ∷ xs) e i = ⊎_elim (λ (q : e ≡ x). first_of (is_event x e) (has_event xs e) (ap (λ z. is_event z e) (sym q) ∙ is_itself e)) (λ t. second_of (is_event x e) (has_event xs e) (in_has xs e t)) i

-- What is left without the taken events

left_in : (taken es : List Event) (e : Event) → In e (without_taken taken es) → In e es × (has_event taken e ≡ false)
left_in taken [] e i = absurd i
left_in taken (x ∷ es) e i = go (has_event taken x) refl (λ t. let r = left_in taken es e t in (inr r.0, r.1)) i
  where
    go : (b : Bool) → has_event taken x ≡ b → (In e (without_taken taken es) → In e (x ∷ es) × (has_event taken e ≡ false)) → In e (cond b (without_taken taken es) (x ∷ without_taken taken es)) → In e (x ∷ es) × (has_event taken e ≡ false)
    go true q rest i = rest i
    go false q rest i = ⊎_elim (λ (s : e ≡ x). (inl s, ap (has_event taken) s ∙ q)) rest i

in_left : (taken es : List Event) (e : Event) → In e es → has_event taken e ≡ false → In e (without_taken taken es)
in_left taken [] e i none = i
in_left taken (x ∷ es) e i none = go (has_event taken x) refl (λ t. in_left taken es e t none)
  where
    go : (b : Bool) → has_event taken x ≡ b → (In e es → In e (without_taken taken es)) → In e (cond b (without_taken taken es) (x ∷ without_taken taken es))
    go true q rest = ⊎_elim (λ (s : e ≡ x). absurd (false≢true (sym none ∙ (ap (has_event taken) s ∙ q)))) rest i
    go false q rest = ⊎_elim (λ (s : e ≡ x). inl s) (λ t. inr (rest t)) i

left_once : (taken es : List Event) → IsOnce es → IsOnce (without_taken taken es)
left_once taken [] once = tt
left_once taken (x ∷ es) once = go (has_event taken x) (left_once taken es once.1)
  where
    go : (b : Bool) → IsOnce (without_taken taken es) → IsOnce (cond b (without_taken taken es) (x ∷ without_taken taken es))
    go true rest = rest
    go false rest = ((λ i. once.0 (left_in taken es x i).0), rest)

true_or : (b : Bool) → (b ≡ true → ⊥) → b ≡ false
true_or true none = absurd (none refl)
true_or false none = refl

pub in_pending : (h : List Entry) (e : Event) → In e (pending h) → IsPending h e
unfolding pending
in_pending h e i = let r = left_in (outs h) (puts h) e i in record { put = in_contains (puts h) e r.0; kept = λ o. false≢true (sym r.1 ∙ in_has (outs h) e (contains_in (outs h) e o)) }

pub pending_in : (h : List Entry) (e : Event) → IsPending h e → In e (pending h)
unfolding pending
pending_in h e p = in_left (outs h) (puts h) e (contains_in (puts h) e p.put) (true_or (has_event (outs h) e) (λ t. p.kept (in_contains (outs h) e (has_in (outs h) e t))))

put_once : (h : List Entry) (x : Entry) → IsOnce (puts h) → MayFollow h x → IsOnce (puts (h ++ x ∷ []))
put_once h (Put k e) once may = subst IsOnce (sym (puts-append h (Put k e ∷ []))) (once_snoc (puts h) e once (λ i. may (in_contains (puts h) e i)))
put_once h (Begin k) once may = subst IsOnce (sym (puts-append h (Begin k ∷ []) ∙ append-nil (puts h))) once
put_once h (Settled k e) once may = subst IsOnce (sym (puts-append h (Settled k e ∷ []) ∙ append-nil (puts h))) once
put_once h (Take k e) once may = subst IsOnce (sym (puts-append h (Take k e ∷ []) ∙ append-nil (puts h))) once
put_once h (Miss k l) once may = subst IsOnce (sym (puts-append h (Miss k l ∷ []) ∙ append-nil (puts h))) once
put_once h (Table k l s) once may = subst IsOnce (sym (puts-append h (Table k l s ∷ []) ∙ append-nil (puts h))) once

-- the events that are pending are different
pub pending_once : (h : List Entry) → IsLegal h → IsOnce (pending h)
unfolding pending
pending_once h legal = left_once (outs h) (puts h) (by_legal (λ h. IsOnce (puts h)) put_once [] h legal tt)

-- an event is put once: not before a place of the history and after it, too
once_apart : (xs ys : List Event) (e : Event) → IsOnce (xs ++ ys) → In e xs → In e ys → ⊥
once_apart [] ys e once i k = i
once_apart (x ∷ xs) ys e once i k = ⊎_elim (λ (q : e ≡ x). once.0 (subst (λ z. In z (xs ++ ys)) q (in_later xs ys e k))) (λ t. once_apart xs ys e once.1 t k) i
  where
    in_later : (xs ys : List Event) (e : Event) → In e ys → In e (xs ++ ys)
    in_later [] ys e i = i
    in_later (x ∷ xs) ys e i = inr (in_later xs ys e i)

pub puts_apart : (m : ℕ) (h : List Entry) (e : Event) → IsLegal h → Contains (puts (take m h)) e → Contains (puts (drop m h)) e → ⊥
puts_apart m h e legal early late = once_apart (puts (take m h)) (puts (drop m h)) e
    (subst IsOnce (puts-append (take m h) (drop m h)) (subst (λ h. IsOnce (puts h)) (sym (take-append-drop m h)) (by_legal (λ h. IsOnce (puts h)) put_once [] h legal tt)))
    (contains_in (puts (take m h)) e early) (contains_in (puts (drop m h)) e late)

-- Histories that grow

in_middle : (xs : List Entry) (x : Entry) (ys : List Entry) → In x (xs ++ x ∷ ys)
in_middle [] x ys = inl refl
in_middle (y ∷ xs) x ys = inr (in_middle xs x ys)

-- an entry of a history that grew stood there before, or is one of the new ones
pub split_entry : (h more front back : List Entry) (x : Entry) → h ++ more ≡ front ++ x ∷ back → ((rest : List Entry) × (h ≡ front ++ x ∷ rest)) ⊎ In x more
split_entry [] more front back x e = inr (subst (In x) (sym e) (in_middle front x back))
split_entry (y ∷ h) more [] back x e = let same : y ≡ x = cc in inl (h, ap (λ z. z ∷ h) same)
split_entry (y ∷ h) more (z ∷ front) back x e = let first : y ≡ z = cc in let tail : h ++ more ≡ front ++ x ∷ back = cc in
    ⊎_elim (λ t. inl (t.0, λ i. first i ∷ t.1 i)) inr (split_entry h more front back x tail)

-- what was counted still is after entries that aren't a Begin of the caller
pub counted_grown : (h more : List Entry) (k : ℕ) (es : List Event) → (In (Begin k) more → ⊥) → AreCounted h k es → AreCounted (h ++ more) k es
counted_grown h more k es none old = record {
  once = old.once;
  put = λ e i. subst (λ z. Contains z e) (sym (puts-append h more)) (Contains-append_left (puts h) (puts more) e (old.put e i));
  kept = λ e front back i parts out. ⊎_elim (λ t. old.kept e front t.0 i t.1 out) none (split_entry h more front back (Begin k) parts);
}

-- and the events that are pending are counted
pub pending_counted : (h : List Entry) (k : ℕ) → IsLegal h → AreCounted h k (pending h)
pending_counted h k legal = record {
  once = pending_once h legal;
  put = λ e i. (in_pending h e i).put;
  kept = λ e front back i parts out. (in_pending h e i).kept (subst (λ z. Contains (outs z) e) (sym parts) (subst (λ z. Contains z e) (sym (outs-append front (Begin k ∷ back))) (Contains-append_left (outs front) (outs (Begin k ∷ back)) e out)));
}

-- no events are counted always
pub none_counted : (h : List Entry) (k : ℕ) → AreCounted h k []
none_counted h k = record { once = tt; put = λ e i. absurd i; kept = λ e front back i. absurd i }
