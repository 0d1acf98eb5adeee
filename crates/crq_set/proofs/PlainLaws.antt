-- A plain set's history and pending events, call by call.
use Rattle.std.proofs.Common.{◌≡◌, ◌⊎◌, ⊎_elim, inl, inr, ℕ, zero, suc, ◌<◌, ◌≤◌, Some, List, [], ◌∷◌, ◌++◌, length, take, drop, refl, sym, ap, ◌∙◌, subst, append_assoc, append-nil, arith, slice_get}
use Rattle.std.specs.List.{All, AllByRecursion, Contains}
use Rattle.std.specs.BTreeMap.Range.{IsLtBy}
use Rattle.std.specs.BTreeSet.{insert_key}
use Rattle.std.proofs.lemmas.List.{length-append, take_all, drop_all, take-append-drop, drop-append-le}
use Rattle.std.proofs.lemmas.List.Elements.{Contains-push}
use Rattle.crq_base.specs.declared.event.Event.{Event}
use Rattle.crq_base.specs.declared.entry.Entry.{Entry}
use Rattle.crq_base.specs.declared.entry.Entry.TheVariants.{Begin, Put, Settled, Take, Miss, Table}
use Rattle.crq_base.specs.Entries.{caller_of}
use Rattle.crq_base.specs.Histories.{puts, settleds, outs, own, NoneEarlier, NoneBelow}
use Rattle.crq_base.specs.Keys.{event_cmp}
use Rattle.crq_base.specs.Lists.{In}
use Rattle.crq_base.proofs.HistoryLaws.{puts-append, settleds-append, outs-append, began_now, legal_more}
use Rattle.crq_base.proofs.Elements.{in_cases}
use Rattle.crq_set.specs.Views.{PassView, MayPut}
use Rattle.crq_set.specs.Gathered.{StandsIn, Gathers, Deals}
use Rattle.crq_set.specs.Plain.{IsBalanced, IsKept, IsInOrder, plain_view, plain_setup}
use Rattle.crq_set.proofs.EventSets.{in_all, first_least}
use Rattle.crq_set.proofs.Balances.{balanced_none, balanced_put, balanced_take}

-- an entry of which a list of events knows nothing
same_puts : (h : List Entry) (x : Entry) → puts (x ∷ []) ≡ [] → puts (h ++ x ∷ []) ≡ puts h
same_puts h x none = puts-append h (x ∷ []) ∙ (ap (λ z. puts h ++ z) none ∙ append-nil (puts h))

same_settleds : (h : List Entry) (x : Entry) → settleds (x ∷ []) ≡ [] → settleds (h ++ x ∷ []) ≡ settleds h
same_settleds h x none = settleds-append h (x ∷ []) ∙ (ap (λ z. settleds h ++ z) none ∙ append-nil (settleds h))

same_outs : (h : List Entry) (x : Entry) → outs (x ∷ []) ≡ [] → outs (h ++ x ∷ []) ≡ outs h
same_outs h x none = outs-append h (x ∷ []) ∙ (ap (λ z. outs h ++ z) none ∙ append-nil (outs h))

-- what was put, settled and taken reads otherwise
balanced_as : (p q s t o u pending : List Event) → q ≡ p → t ≡ s → u ≡ o → IsBalanced p s o pending → IsBalanced q t u pending
balanced_as p q s t o u pending a b c old = subst (λ z. IsBalanced z t u pending) (sym a) (subst (λ z. IsBalanced p z u pending) (sym b) (subst (λ z. IsBalanced p s z pending) (sym c) old))

-- nothing yet
pub kept_none : IsKept [] []
kept_none = record { legal = tt; balanced = balanced_none }

-- a call begins
kept_begun : (h : List Entry) (pending : List Event) → IsKept h pending → IsKept (h ++ Begin 0 ∷ []) pending
kept_begun h pending k = record {
  legal = legal_more h (Begin 0) k.legal tt;
  balanced = balanced_as _ _ _ _ _ _ pending (same_puts h (Begin 0) refl) (same_settleds h (Begin 0) refl) (same_outs h (Begin 0) refl) k.balanced;
}

-- an event is put and settled
pub kept_put : (h : List Entry) (pending : List Event) (e : Event) → IsKept h pending → (Contains (puts h) e → ⊥)
    → IsKept ((h ++ Put 0 e ∷ []) ++ Settled 0 e ∷ []) (insert_key event_cmp pending e)
kept_put h pending e k new =
    let h1 : List Entry = h ++ Put 0 e ∷ [] in
    let unsettled : (Contains (settleds h1) e → ⊥) = λ z. new (k.balanced.settled_put e (subst (λ (xs : List Event). Contains xs e) (same_settleds h (Put 0 e) refl) z)) in
    let put : puts (h1 ++ Settled 0 e ∷ []) ≡ puts h ++ e ∷ [] = same_puts h1 (Settled 0 e) refl ∙ puts-append h (Put 0 e ∷ []) in
    let settled : settleds (h1 ++ Settled 0 e ∷ []) ≡ settleds h ++ e ∷ [] = settleds-append h1 (Settled 0 e ∷ []) ∙ ap (λ xs. xs ++ e ∷ []) (same_settleds h (Put 0 e) refl) in
    let taken : outs (h1 ++ Settled 0 e ∷ []) ≡ outs h = same_outs h1 (Settled 0 e) refl ∙ same_outs h (Put 0 e) refl in
    record {
      legal = legal_more h1 (Settled 0 e) (legal_more h (Put 0 e) k.legal new) (Contains-push h (Put 0 e), unsettled);
      balanced = balanced_as _ _ _ _ _ _ (insert_key event_cmp pending e) put settled taken (balanced_put (puts h) (settleds h) (outs h) pending e k.balanced new);
    }

-- a call that has just begun takes the first pending event
pub kept_take : (h : List Entry) (pending : List Event) (e : Event) → IsKept h (e ∷ pending) → All (IsLtBy event_cmp e) pending
    → IsKept ((h ++ Begin 0 ∷ []) ++ Take 0 e ∷ []) pending
kept_take h pending e old least =
    let h1 : List Entry = h ++ Begin 0 ∷ [] in
    let k : IsKept h1 (e ∷ pending) = kept_begun h (e ∷ pending) old in
    let none : NoneEarlier h h1 e = λ f settled kept early. ⊎_elim (λ p. first_least e f pending least p early)
    (λ out. kept (subst (λ (xs : List Event). Contains xs f) (sym (same_outs h (Begin 0) refl)) out)) (old.balanced.each f (old.balanced.settled_put f settled)) in
    record {
      legal = legal_more h1 (Take 0 e) k.legal (k.balanced.pending_put e (inl refl), k.balanced.apart e (inl refl), (h, began_now 0 h, none));
      balanced = balanced_as _ _ _ _ _ _ pending (same_puts h1 (Take 0 e) refl) (same_settleds h1 (Take 0 e) refl) (outs-append h1 (Take 0 e ∷ []))
          (balanced_take (puts h1) (settleds h1) (outs h1) pending e k.balanced least);
    }

-- a call that has just begun finds nothing below the limit
pub kept_miss : (h : List Entry) (pending : List Event) (limit : ℕ) → IsKept h pending → All (λ (f : Event). limit ≤ f.time) pending
    → IsKept ((h ++ Begin 0 ∷ []) ++ Miss 0 limit ∷ []) pending
kept_miss h pending limit old above =
    let h1 : List Entry = h ++ Begin 0 ∷ [] in
    let k : IsKept h1 pending = kept_begun h pending old in
    let high : (f : Event) → In f pending → f.time < limit → ⊥ = λ f p below. (let at : limit ≤ f.time = in_all (λ (x : Event). limit ≤ x.time) pending f above p in omega arith) in
    let none : NoneBelow h h1 limit = λ f settled below. ⊎_elim (λ p. absurd (high f p below))
    (λ out. subst (λ (xs : List Event). Contains xs f) (sym (same_outs h (Begin 0) refl)) out) (old.balanced.each f (old.balanced.settled_put f settled)) in
    record {
      legal = legal_more h1 (Miss 0 limit) k.legal (h, began_now 0 h, none);
      balanced = balanced_as _ _ _ _ _ _ pending (same_puts h1 (Miss 0 limit) refl) (same_settleds h1 (Miss 0 limit) refl) (same_outs h1 (Miss 0 limit) refl) k.balanced;
    }

-- each entry is the one caller's
abbrev pub AreMine : List Entry → Type 0
AreMine entries = AllByRecursion (λ (entry : Entry). caller_of entry ≡ 0) entries

mine_more : (xs ys : List Entry) → AreMine xs → AreMine ys → AreMine (xs ++ ys)
mine_more [] ys h k = k
mine_more (x ∷ xs) ys h k = (h.0, mine_more xs ys h.1 k)

-- a call adds its entries
in_order : (h more : List Entry) (p q : List Event) (dealt : ℕ) → IsInOrder h p dealt → IsKept (h ++ more) q → AreMine more → IsInOrder (h ++ more) q dealt
in_order h more p q dealt old k mine = record {
  kept = k;
  within = (let w : dealt ≤ length h = old.within in omega (arith, length-append h more));
  mine = subst AreMine (sym (drop-append-le dealt h more old.within)) (mine_more (drop dealt h) more old.mine mine);
}

two : (h : List Entry) (x y : Entry) → (h ++ x ∷ []) ++ y ∷ [] ≡ h ++ (x ∷ y ∷ [])
two h x y = append_assoc h (x ∷ []) (y ∷ [])

three : (h : List Entry) (x y z : Entry) → ((h ++ x ∷ []) ++ y ∷ []) ++ z ∷ [] ≡ h ++ (x ∷ y ∷ z ∷ [])
three h x y z = append_assoc (h ++ x ∷ []) (y ∷ []) (z ∷ []) ∙ append_assoc h (x ∷ []) (y ∷ z ∷ [])

pub order_put : (h : List Entry) (pending : List Event) (dealt : ℕ) (e : Event) → IsInOrder h pending dealt → (Contains (puts h) e → ⊥)
    → IsInOrder (((h ++ Begin 0 ∷ []) ++ Put 0 e ∷ []) ++ Settled 0 e ∷ []) (insert_key event_cmp pending e) dealt
order_put h pending dealt e old new =
    let q : List Event = insert_key event_cmp pending e in
    let first : (Contains (puts (h ++ Begin 0 ∷ [])) e → ⊥) = λ z. new (subst (λ (xs : List Event). Contains xs e) (same_puts h (Begin 0) refl) z) in
    let k = kept_put (h ++ Begin 0 ∷ []) pending e (kept_begun h pending old.kept) first in
    let join = three h (Begin 0) (Put 0 e) (Settled 0 e) in
    subst (λ (xs : List Entry). IsInOrder xs q dealt) (sym join)
    (in_order h (Begin 0 ∷ Put 0 e ∷ Settled 0 e ∷ []) pending q dealt old (subst (λ (xs : List Entry). IsKept xs q) join k) (refl, (refl, (refl, tt))))

pub order_take : (h : List Entry) (before pending : List Event) (dealt : ℕ) (e : Event) → before ≡ e ∷ pending → All (IsLtBy event_cmp e) pending → IsInOrder h before dealt
    → IsInOrder ((h ++ Begin 0 ∷ []) ++ Take 0 e ∷ []) pending dealt
order_take h before pending dealt e first least old =
    let k = kept_take h pending e (subst (IsKept h) first old.kept) least in
    let join = two h (Begin 0) (Take 0 e) in
    subst (λ (xs : List Entry). IsInOrder xs pending dealt) (sym join)
    (in_order h (Begin 0 ∷ Take 0 e ∷ []) before pending dealt old (subst (λ (xs : List Entry). IsKept xs pending) join k) (refl, (refl, tt)))

pub order_miss : (h : List Entry) (pending : List Event) (dealt limit : ℕ) → All (λ (f : Event). limit ≤ f.time) pending → IsInOrder h pending dealt
    → IsInOrder ((h ++ Begin 0 ∷ []) ++ Miss 0 limit ∷ []) pending dealt
order_miss h pending dealt limit above old =
    let k = kept_miss h pending limit old.kept above in
    let join = two h (Begin 0) (Miss 0 limit) in
    subst (λ (xs : List Entry). IsInOrder xs pending dealt) (sym join)
    (in_order h (Begin 0 ∷ Miss 0 limit ∷ []) pending pending dealt old (subst (λ (xs : List Entry). IsKept xs pending) join k) (refl, (refl, tt)))

-- the entry by which an event was put
put_entry : (h : List Entry) (e : Event) → Contains (puts h) e → (k : ℕ) × In (Put k e) h
put_entry [] e h = (let below = h.1 in absurd (omega arith))
put_entry (Put k f ∷ h) e c = ⊎_elim (λ same. (k, inl (ap (Put k) (sym same)))) (λ rest. (let r = put_entry h e rest in (r.0, inr r.1))) (head f (puts h) e c)
  where
    head : (f : Event) (xs : List Event) (e : Event) → Contains (f ∷ xs) e → (f ≡ e) ⊎ Contains xs e
    head f xs e (zero, below, same) = inl same
    head f xs e (suc n, below, same) = inr (n, omega arith, same)
put_entry (Begin k ∷ h) e c = (let r = put_entry h e c in (r.0, inr r.1))
put_entry (Settled k f ∷ h) e c = (let r = put_entry h e c in (r.0, inr r.1))
put_entry (Take k f ∷ h) e c = (let r = put_entry h e c in (r.0, inr r.1))
put_entry (Miss k limit ∷ h) e c = (let r = put_entry h e c in (r.0, inr r.1))
put_entry (Table k log shift ∷ h) e c = (let r = put_entry h e c in (r.0, inr r.1))

-- an event that the pass may put wasn't put yet
pub fresh_new : (h : List Entry) (dealt span rows : ℕ) (e : Event) → MayPut (plain_setup rows) (plain_view h dealt span) e → Contains (puts h) e → ⊥
fresh_new h dealt span rows e may c =
    let r = put_entry h e c in
    may.1 r.0 e (in_cases (Put r.0 e) (take dealt h) (drop dealt h) (subst (λ (xs : List Entry). In (Put r.0 e) xs) (sym (take-append-drop dealt h)) r.1)) refl refl

-- the passes' one place
only_place : (v w : PassView) (k : ℕ) (P : ℕ → PassView → Type 0) → slice_get (Some v ∷ []) k ≡ Some (Some w) → P 0 v → P k w
only_place v w zero P at h = (let same : v ≡ w = cc in subst (P 0) same h)
only_place v w (suc k) P at h = absurd (cc)

mine_own : (entries : List Entry) → AreMine entries → own 0 entries ≡ entries
mine_own [] h = refl
mine_own (x ∷ xs) h = rw h.0 (ap (λ ys. x ∷ ys) (mine_own xs h.1))

mine_inside : (entries : List Entry) (x : Entry) → AreMine entries → In x entries → caller_of x < 1
mine_inside [] x h i = absurd i
mine_inside (y ∷ ys) x h (inl same) = (let first : caller_of y ≡ 0 = h.0 in let is : caller_of x ≡ caller_of y = ap caller_of same in omega arith)
mine_inside (y ∷ ys) x h (inr later) = mine_inside ys x h.1 later

-- the one pass's entries are what came since
pub plain_gathers : (h : List Entry) (pending : List Event) (dealt span : ℕ) → IsInOrder h pending dealt → Gathers 1 (Some (plain_view h dealt span) ∷ []) h
plain_gathers h pending dealt span o =
    let v : PassView = plain_view h dealt span in
    let stands : StandsIn h (drop dealt h) 0 v = record {
      extends = sym (take-append-drop dealt h);
      own = mine_own (drop dealt h) o.mine;
      refused = record { once = tt; put = λ e z. absurd z; kept = λ e front back z q c. z };
      tables = omega arith;
      settled = omega arith;
    } in
    record {
      legal = o.kept.legal;
      settled = o.kept.balanced.settles;
      since = drop dealt h;
      each = λ k w at. only_place v w k (λ n x. StandsIn h (drop dealt h) n x) at stands;
      inside = λ x i. mine_inside (drop dealt h) x o.mine i;
    }

-- all of the history is dealt to the one pass
pub plain_deals : (h : List Entry) (n span : ℕ) → n ≡ length h → Deals 1 h span (Some (plain_view h n span) ∷ [])
plain_deals h n span all = record {
  count = refl;
  each = λ k below. (
    plain_view h n span,
    subst (λ (j : ℕ). slice_get (Some (plain_view h n span) ∷ []) j ≡ Some (Some (plain_view h n span))) (let z : 0 ≡ k = omega arith in z) refl,
    record {
      number = (let z : 0 ≡ k = omega arith in z);
      sources = refl;
      dealt = take_all n h (omega arith);
      own = drop_all n h (omega arith);
      tables = refl;
      settled = refl;
    },
  );
}
