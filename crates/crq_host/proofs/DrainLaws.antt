-- What takes up to a limit take.
use Rattle.std.proofs.Common.{◌≡◌, ℕ, ◌<◌, inl, inr, List, [], ◌∷◌, ◌++◌, refl, sym, ap, ◌∙◌, subst, append_assoc, eqb, arith}
use Rattle.std.specs.List.{Contains}
use Rattle.std.proofs.lemmas.List.Elements.{Contains-append_left, Contains-append_right, Contains-append_cases}
use Rattle.crq_base.specs.declared.event.Event.{Event}
use Rattle.crq_base.specs.declared.entry.Entry.{Entry}
use Rattle.crq_base.specs.declared.entry.Entry.TheVariants.{Begin, Put, Settled, Take, Miss, Table}
use Rattle.crq_base.specs.Entries.{caller_of}
use Rattle.crq_base.specs.Histories.{puts, settleds, outs, own, IsPending, Began, MayFollow, IsLegalAfter}
use Rattle.crq_base.specs.Lists.{In, IsOnce}
use Rattle.crq_base.proofs.HistoryLaws.{settleds-append, outs-append, own-append, legal_back, not_nil}
use Rattle.crq_base.proofs.Elements.{contains_in}
use Rattle.crq_host.specs.Phases.{Drains}
use Rattle.crq_host.specs.Workers.{AllAre, IsTaking, EndsMissed}
use Rattle.crq_host.proofs.Elements.{filter_split}
use Rattle.crq_host.proofs.Pendings.{pending_back, takings_put_none}

-- what is taken was pending before, and is below the limit
abbrev WasBelow : ℕ → List Entry → Event → Type 0
WasBelow limit h e = IsPending h e × (e.time < limit)

was_back : (limit : ℕ) (h : List Entry) (x : Entry) (e : Event) → puts (x ∷ []) ≡ [] → WasBelow limit (h ++ x ∷ []) e → WasBelow limit h e
was_back limit h x e none w = (pending_back h (x ∷ []) e none w.0, w.1)

pub takes_pending : (limit : ℕ) (h xs : List Entry) → AllAre (IsTaking limit) xs → IsLegalAfter h xs → (e : Event) → In e (outs xs) → IsPending h e × (e.time < limit)
takes_pending limit h [] all legal e at = absurd at
takes_pending limit h (Begin c ∷ xs) all legal e at = was_back limit h (Begin c) e refl (takes_pending limit (h ++ Begin c ∷ []) xs (λ x i. all x (inr i)) legal.1 e at)
takes_pending limit h (Miss c l ∷ xs) all legal e at = was_back limit h (Miss c l) e refl (takes_pending limit (h ++ Miss c l ∷ []) xs (λ x i. all x (inr i)) legal.1 e at)
takes_pending limit h (Put c f ∷ xs) all legal e at = absurd (all (Put c f) (inl refl))
takes_pending limit h (Settled c f ∷ xs) all legal e at = absurd (all (Settled c f) (inl refl))
takes_pending limit h (Table c l s ∷ xs) all legal e at = absurd (all (Table c l s) (inl refl))
takes_pending limit h (Take c f ∷ xs) all legal e (inl same) = subst (WasBelow limit h) (sym same) (record { put = legal.0.0; kept = legal.0.1 }, all (Take c f) (inl refl))
takes_pending limit h (Take c f ∷ xs) all legal e (inr at) = was_back limit h (Take c f) e refl (takes_pending limit (h ++ Take c f ∷ []) xs (λ x i. all x (inr i)) legal.1 e at)

pub takes_once : (limit : ℕ) (h xs : List Entry) → AllAre (IsTaking limit) xs → IsLegalAfter h xs → IsOnce (outs xs)
takes_once limit h [] all legal = tt
takes_once limit h (Begin c ∷ xs) all legal = takes_once limit (h ++ Begin c ∷ []) xs (λ x i. all x (inr i)) legal.1
takes_once limit h (Miss c l ∷ xs) all legal = takes_once limit (h ++ Miss c l ∷ []) xs (λ x i. all x (inr i)) legal.1
takes_once limit h (Put c e ∷ xs) all legal = absurd (all (Put c e) (inl refl))
takes_once limit h (Settled c e ∷ xs) all legal = absurd (all (Settled c e) (inl refl))
takes_once limit h (Table c l s ∷ xs) all legal = absurd (all (Table c l s) (inl refl))
takes_once limit h (Take c e ∷ xs) all legal =
    let later : In e (outs xs) → WasBelow limit (h ++ Take c e ∷ []) e = takes_pending limit (h ++ Take c e ∷ []) xs (λ x i. all x (inr i)) legal.1 e in
    ((λ again. (later again).0.kept (subst (λ es. Contains es e) (sym (outs-append h (Take c e ∷ []))) (Contains-append_right (outs h) (e ∷ []) e (0, omega arith, refl)))), takes_once limit (h ++ Take c e ∷ []) xs (λ x i. all x (inr i)) legal.1)

nil_right : (xs ys : List Entry) → xs ++ ys ≡ [] → ys ≡ []
nil_right [] ys h = h
nil_right (x ∷ xs) ys h = absurd (cc)

-- a Begin with no later entry of its caller stands behind all that came before the caller's entries
pub begin_after : (c : ℕ) (h a front back : List Entry) → h ++ a ≡ front ++ Begin c ∷ back → own c back ≡ [] → (own c a ≡ [] → ⊥) → (rest : List Entry) × (front ≡ h ++ rest)
begin_after c [] a front back e none some = (front, refl)
begin_after c (x ∷ h) a [] back e none some =
    let tails : h ++ a ≡ back = cc in
    absurd (some (nil_right (own c h) (own c a) (sym (own-append c h a) ∙ ap (own c) tails ∙ none)))
begin_after c (x ∷ h) a (y ∷ front) back e none some =
    let both : (h ++ a ≡ front ++ Begin c ∷ back) = cc in
    let heads : x ≡ y = cc in
    let r = begin_after c h a front back both none some in
    (r.0, ap (λ zs. y ∷ zs) r.1 ∙ ap (λ z. z ∷ (h ++ r.0)) (sym heads))

-- what was settled before the caller's entries was so before its search began
pub settled_before : (c : ℕ) (h a front : List Entry) (e : Event) → Began c (h ++ a) front → (own c a ≡ [] → ⊥) → Contains (settleds h) e → Contains (settleds front) e
settled_before c h a front e b some at =
    let after = begin_after c h a front b.back b.parts b.last some in
    subst (λ es. Contains es e) (sym (ap settleds after.1 ∙ settleds-append h after.0)) (Contains-append_left (settleds h) (settleds after.0) e at)

-- where a caller missed in the end, each event below the limit that was settled and pending before is taken
pub all_taken : (limit c : ℕ) (h xs : List Entry) → IsLegalAfter h xs → EndsMissed c limit (own c xs)
    → (e : Event) → Contains (settleds h) e → (Contains (outs h) e → ⊥) → e.time < limit → Contains (outs xs) e
all_taken limit c h xs legal mine e settled pending below =
    let ends : own c xs ≡ (mine.0 ++ Begin c ∷ []) ++ (Miss c limit ∷ []) = mine.1 ∙ sym (append_assoc mine.0 (Begin c ∷ []) (Miss c limit ∷ [])) in
    let s = filter_split (λ y. eqb (caller_of y) c) xs (mine.0 ++ Begin c ∷ []) (Miss c limit) [] ends in
    let rest = legal_back h s.0 (Miss c limit ∷ s.1) (subst (IsLegalAfter h) s.2 legal) in
    let may : MayFollow (h ++ s.0) (Miss c limit) = rest.0 in
    let some : (own c s.0 ≡ [] → ⊥) = λ none. not_nil mine.0 [] (Begin c) (sym s.3 ∙ none) in
    let out : Contains (outs h ++ outs s.0) e = subst (λ es. Contains es e) (outs-append h s.0) (may.2 e (settled_before c h s.0 may.0 e may.1 some settled) below) in
    elim (Contains-append_cases (outs h) (outs s.0) e out) [
      | inl was ↦ absurd (pending was)
      | inr now ↦ subst (λ es. Contains es e) (sym (ap outs s.2 ∙ outs-append s.0 (Miss c limit ∷ s.1))) (Contains-append_left (outs s.0) (outs (Miss c limit ∷ s.1)) e now)
    ]

-- what takes of several callers did, of whom one missed in the end
pub drains : (limit c : ℕ) (h xs : List Entry) → AllAre (IsTaking limit) xs → IsLegalAfter h xs → ((e : Event) → Contains (puts h) e → Contains (settleds h) e) → EndsMissed c limit (own c xs) → Drains limit h xs
drains limit c h xs all legal settled mine = record {
  puts_none = takings_put_none limit xs all;
  once = takes_once limit h xs all legal;
  just = (λ e. ((λ at. takes_pending limit h xs all legal e (contains_in e (outs xs) at)), (λ w. all_taken limit c h xs legal mine e (settled e w.0.put) w.0.kept w.1)));
}
