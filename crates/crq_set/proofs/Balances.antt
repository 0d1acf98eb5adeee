-- How the events that were put, settled, taken and pending change together.
use Rattle.std.proofs.Common.{◌≡◌, ⊎_elim, inl, inr, List, [], ◌∷◌, ◌++◌, refl, sym, subst}
use Rattle.std.specs.List.{All, Contains}
use Rattle.std.specs.BTreeMap.Range.{IsLtBy}
use Rattle.std.specs.BTreeSet.{insert_key}
use Rattle.std.proofs.lemmas.List.Elements.{Contains-append_left, Contains-push, Contains-push_cases}
use Rattle.crq_base.specs.declared.event.Event.{Event}
use Rattle.crq_base.specs.Keys.{event_cmp}
use Rattle.crq_base.specs.Lists.{In}
use Rattle.crq_set.specs.Plain.{IsBalanced}
use Rattle.crq_set.proofs.EventSets.{in_inserted, inserted_old, inserted_new, first_once}

-- one more event that the list has
still : (xs : List Event) (e f : Event) → Contains xs f → Contains (xs ++ e ∷ []) f
still xs e f h = Contains-append_left xs (e ∷ []) f h

now : (xs : List Event) (e f : Event) → f ≡ e → Contains (xs ++ e ∷ []) f
now xs e f same = subst (Contains (xs ++ e ∷ [])) (sym same) (Contains-push xs e)

-- nothing yet
pub balanced_none : IsBalanced [] [] [] []
balanced_none = record {
  settles = λ e h. h;
  settled_put = λ e h. h;
  taken_put = λ e h. h;
  pending_put = λ e h. absurd h;
  apart = λ e h k. h;
  each = λ e h. inr h;
}

-- an event is put and settled
pub balanced_put : (put settled taken pending : List Event) (e : Event) → IsBalanced put settled taken pending → (Contains put e → ⊥)
    → IsBalanced (put ++ e ∷ []) (settled ++ e ∷ []) taken (insert_key event_cmp pending e)
balanced_put put settled taken pending e b new = record {
  settles = λ f h. ⊎_elim (λ k. still settled e f (b.settles f k)) (λ same. now settled e f (sym same)) (Contains-push_cases put e f h);
  settled_put = λ f h. ⊎_elim (λ k. still put e f (b.settled_put f k)) (λ same. now put e f (sym same)) (Contains-push_cases settled e f h);
  taken_put = λ f h. still put e f (b.taken_put f h);
  pending_put = λ f h. ⊎_elim (now put e f) (λ k. still put e f (b.pending_put f k)) (in_inserted e f pending h);
  apart = λ f h k. ⊎_elim (λ same. new (b.taken_put e (subst (Contains taken) same k))) (λ old. b.apart f old k) (in_inserted e f pending h);
  each = λ f h. ⊎_elim (λ k. ⊎_elim (λ old. inl (inserted_old e f pending old)) inr (b.each f k))
      (λ same. inl (subst (λ (x : Event). In x (insert_key event_cmp pending e)) same (inserted_new e pending)))
      (Contains-push_cases put e f h);
}

-- the first pending event is taken
pub balanced_take : (put settled taken pending : List Event) (e : Event) → IsBalanced put settled taken (e ∷ pending) → All (IsLtBy event_cmp e) pending
    → IsBalanced put settled (taken ++ e ∷ []) pending
balanced_take put settled taken pending e b least = record {
  settles = b.settles;
  settled_put = b.settled_put;
  taken_put = λ f h. ⊎_elim (b.taken_put f) (λ same. subst (Contains put) same (b.pending_put e (inl refl))) (Contains-push_cases taken e f h);
  pending_put = λ f h. b.pending_put f (inr h);
  apart = λ f h k. ⊎_elim (b.apart f (inr h)) (λ same. first_once e pending least (subst (λ (x : Event). In x pending) (sym same) h)) (Contains-push_cases taken e f k);
  each = λ f h. ⊎_elim (λ p. ⊎_elim (λ same. inr (now taken e f same)) inl p) (λ k. inr (still taken e f k)) (b.each f h);
}
