-- Events that are kept in an ordered set.
use Rattle.std.proofs.Common.{◌≡◌, ◌⊎◌, ⊎_elim, inl, inr, List, [], ◌∷◌, false, refl, ap, ◌∙◌, subst}
use Rattle.std.proofs.lemmas.Cmp.{tied_itself}
use Rattle.std.proofs.lemmas.List.Elements.{All-contains}
use Rattle.std.specs.declared.cmp.Ordering.{Ordering}
use Rattle.std.specs.declared.cmp.Ordering.TheVariants.{Less, Equal, Greater}
use Rattle.std.specs.List.{All}
use Rattle.std.specs.Ordering.{nat_cmp, ordering_then, ordering_reverse, match_ordering, is_lt}
use Rattle.std.specs.BTreeMap.Range.{IsLtBy}
use Rattle.std.specs.BTreeSet.{insert_key}
use Rattle.crq_base.specs.declared.event.Event.{Event}
use Rattle.crq_base.specs.Keys.{event_cmp, key_cmp, tie_cmp}
use Rattle.crq_base.specs.Lists.{In}
use Rattle.crq_base.specs.Histories.{IsEarlier}
use Rattle.crq_base.proofs.Elements.{in_contains}
use Rattle.crq_base.proofs.KeyOrder.{event_total, same_event}

-- what is in the set with one more event
in_one_more : (o : Ordering) (e f x : Event) (xs ys : List Event) → (In f ys → (f ≡ e) ⊎ In f xs)
    → In f (match_ordering o (e ∷ x ∷ xs) (x ∷ xs) (x ∷ ys)) → (f ≡ e) ⊎ In f (x ∷ xs)
in_one_more Less e f x xs ys more h = h
in_one_more Equal e f x xs ys more h = inr h
in_one_more Greater e f x xs ys more h = ⊎_elim (λ s. inr (inl s)) (λ r. ⊎_elim inl (λ k. inr (inr k)) (more r)) h

pub in_inserted : (e f : Event) (events : List Event) → In f (insert_key event_cmp events e) → (f ≡ e) ⊎ In f events
in_inserted e f [] h = h
in_inserted e f (x ∷ xs) h = in_one_more (event_cmp e x) e f x xs (insert_key event_cmp xs e) (in_inserted e f xs) h

in_still : (o : Ordering) (e f x : Event) (xs ys : List Event) → (In f xs → In f ys)
    → In f (x ∷ xs) → In f (match_ordering o (e ∷ x ∷ xs) (x ∷ xs) (x ∷ ys))
in_still Less e f x xs ys more h = inr h
in_still Equal e f x xs ys more h = h
in_still Greater e f x xs ys more h = ⊎_elim inl (λ k. inr (more k)) h

pub inserted_old : (e f : Event) (events : List Event) → In f events → In f (insert_key event_cmp events e)
inserted_old e f [] h = absurd h
inserted_old e f (x ∷ xs) h = in_still (event_cmp e x) e f x xs (insert_key event_cmp xs e) (inserted_old e f xs) h

in_now : (o : Ordering) (e x : Event) (xs ys : List Event) → (o ≡ Equal → e ≡ x) → In e ys → In e (match_ordering o (e ∷ x ∷ xs) (x ∷ xs) (x ∷ ys))
in_now Less e x xs ys same more = inl refl
in_now Equal e x xs ys same more = inl (same refl)
in_now Greater e x xs ys same more = inr more

pub inserted_new : (e : Event) (events : List Event) → In e (insert_key event_cmp events e)
inserted_new e [] = inl refl
inserted_new e (x ∷ xs) = in_now (event_cmp e x) e x xs (insert_key event_cmp xs e) (same_event e x) (inserted_new e xs)

-- what holds of each element of a list
pub in_all : {A : Type 0} (P : A → Type 0) (xs : List A) (x : A) → All P xs → In x xs → P x
in_all P xs x all h = All-contains P xs x all (in_contains x xs h)

-- the first event isn't among the later ones
pub first_once : (e : Event) (events : List Event) → All (IsLtBy event_cmp e) events → In e events → ⊥
first_once e events all h = (let less : event_cmp e e ≡ Less = in_all (IsLtBy event_cmp e) events e all h in let tie : event_cmp e e ≡ Equal = tied_itself event_total e in cc)

-- an event that isn't before another one doesn't have a lesser key either
not_earlier : (t s n tie : Ordering) → (ordering_then t (ordering_then s (ordering_then n tie)) ≡ Less → ⊥) → is_lt (ordering_then (ordering_then t s) n) ≡ false
not_earlier Less s n tie h = absurd (h refl)
not_earlier Greater s n tie h = refl
not_earlier Equal Less n tie h = absurd (h refl)
not_earlier Equal Greater n tie h = refl
not_earlier Equal Equal Less tie h = absurd (h refl)
not_earlier Equal Equal Greater tie h = refl
not_earlier Equal Equal Equal tie h = refl

-- no event of the list has a lesser key than its first one
pub first_least : (e f : Event) (events : List Event) → All (IsLtBy event_cmp e) events → In f (e ∷ events) → IsEarlier f e → ⊥
first_least e f events all here early =
    let not : is_lt (key_cmp f e) ≡ false = not_earlier (nat_cmp f.time e.time) (nat_cmp f.src e.src) (nat_cmp f.seq e.seq) (tie_cmp f e) (not_less here) in
    cc
  where
    not_less : In f (e ∷ events) → event_cmp f e ≡ Less → ⊥
    not_less (inl same) less = (let tie : event_cmp e e ≡ Equal = tied_itself event_total e in let less' : event_cmp e e ≡ Less = subst (λ (x : Event). event_cmp x e ≡ Less) same less in cc)
    not_less (inr later) less =
        let after : event_cmp e f ≡ Less = in_all (IsLtBy event_cmp e) events f all later in
        let turned : event_cmp f e ≡ Greater = event_total.antisymm f e ∙ ap ordering_reverse after in
        cc
