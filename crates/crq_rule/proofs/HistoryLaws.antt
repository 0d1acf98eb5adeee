-- How the part on the history stays where one caller adds entries, and what is pending after them.
use Rattle.std.proofs.Common.{◌≡◌, ◌≢◌, ◌⊎◌, ◌↔◌, ⊎_elim, inl, inr, ℕ, ◌<◌, ◌≤◌, Bool, true, false, Option, Some, None, cond, eqb, List, [], ◌∷◌, ◌++◌, length, sym, refl, ap, ◌∙◌, subst, append_assoc, append-nil, eq-eqb, ne_eqb, arith, le_refl}
use mathlib.Core.Logic.{dite}
use native.Mathlib.Decide.{ℕ_discrete}
use Rattle.std.proofs.lemmas.List.{length-append}
use Rattle.std.specs.List.{Contains}
use Rattle.std.proofs.lemmas.List.Elements.{Contains-append_left, Contains-append_cases, Contains-push}
use Rattle.crq_base.specs.declared.event.Event.{Event}
use Rattle.crq_base.specs.declared.entry.Entry.{Entry}
use Rattle.crq_base.specs.declared.entry.Entry.TheVariants.{Begin, Put, Settled, Take, Miss, Table}
use Rattle.crq_base.specs.Entries.{caller_of as whose}
use Rattle.crq_base.specs.Histories.{put_of, settled_of, puts, settleds, outs, own as own_of, IsPending, Began, MayFollow, IsLegalAfter, IsLegal}
use Rattle.crq_base.proofs.HistoryLaws.{puts-append, settleds-append, outs-append, own-append, legal_append, last_one, began_now}
use Rattle.crq_base.proofs.Deeds.{alone, done_at}
use Rattle.crq_base.specs.Lists.{In}
use Rattle.crq_base.specs.Sources.{owner_of, IsFresh}
use Rattle.crq_rule.specs.declared.view.Deal.{Deal}
use Rattle.crq_rule.specs.Lists.{put}
use Rattle.crq_rule.specs.HistoryParts.{Told, Settling, EndsInBegin}
use Rattle.crq_rule.specs.declared.debts.SettleDebt.{SettleDebt}
use Rattle.std.proofs.lemmas.Option.{same_Some}
use Rattle.crq_rule.proofs.Prefixes.{of_front, of_back, of_both}
use Rattle.crq_rule.proofs.Puts.{put_here, put_else, put_all, snoc_in}

put_begin : (j k : ℕ) (e : Event) → Put j e ≡ Begin k → ⊥
put_begin j k e q = cc

none_debt : (d : SettleDebt) → None ≡ Some d → ⊥
none_debt d e = cc

-- Members

some_some : (x y : Event) → Some x ≡ Some y → x ≡ y
some_some x y e = cc

-- the member of a list of one
pub only : (x y : Event) → Contains (x ∷ []) y → y ≡ x
only x y h = sym (some_some x y (alone (Some x) y h))

-- a member of two lists one after the other
pub in_append : {A : Type 0} → (xs ys : List A) (a : A) → In a (xs ++ ys) → In a xs ⊎ In a ys
in_append [] ys a h = inr h
in_append (x ∷ xs) ys a h = ⊎_elim (λ e. inl (inl e)) (λ t. ⊎_elim (λ i. inl (inr i)) inr (in_append xs ys a t)) h

-- who put an event
put_by : (es : List Entry) (e : Event) → Contains (puts es) e → (k : ℕ) × In (Put k e) es
put_by [] e h = let k = h.1 in absurd (omega arith)
put_by (Put k f ∷ es) e h = ⊎_elim
    (λ (o : Contains (f ∷ []) e). (k, inl (ap (Put k) (only f e o)))) (λ (t : Contains (puts es) e). let r = put_by es e t in (r.0, inr r.1))
    (Contains-append_cases (f ∷ []) (puts es) e h)
put_by (Begin k ∷ es) e h = let r = put_by es e h in (r.0, inr r.1)
put_by (Settled k f ∷ es) e h = let r = put_by es e h in (r.0, inr r.1)
put_by (Take k f ∷ es) e h = let r = put_by es e h in (r.0, inr r.1)
put_by (Miss k l ∷ es) e h = let r = put_by es e h in (r.0, inr r.1)
put_by (Table k l s ∷ es) e h = let r = put_by es e h in (r.0, inr r.1)

later : (b : Bool) (x e : Entry) (xs : List Entry) → In e xs → In e (cond b (x ∷ xs) xs)
later true x e xs i = inr i
later false x e xs i = i

-- a caller's own entries have each of its entries
in_own : (j : ℕ) (es : List Entry) (e : Entry) → whose e ≡ j → In e es → In e (own_of j es)
in_own j [] e is h = h
in_own j (x ∷ es) e is h = ⊎_elim
    (λ (q : e ≡ x). subst (λ b. In e (cond b (x ∷ own_of j es) (own_of j es))) (sym (eq-eqb (whose x) j (ap whose (sym q) ∙ is))) (inl q))
    (λ t. later (eqb (whose x) j) x e (own_of j es) (in_own j es e is t)) h

-- entries of the caller j alone are all its own, and no other caller's
all_own : (j : ℕ) (es : List Entry) → ((e : Entry) → In e es → whose e ≡ j) → own_of j es ≡ es
all_own j [] h = refl
all_own j (x ∷ es) h = λ i. cond (eq-eqb (whose x) j (h x (inl refl)) i) (x ∷ all_own j es (λ e t. h e (inr t)) i) (all_own j es (λ e t. h e (inr t)) i)

none_own : (j k : ℕ) (es : List Entry) → k ≢ j → ((e : Entry) → In e es → whose e ≡ j) → own_of k es ≡ []
none_own j k [] ne h = refl
none_own j k (x ∷ es) ne h = (λ i. cond (ne_eqb (whose x) k (λ q. ne (sym q ∙ h x (inl refl))) i) (x ∷ own_of k es) (own_of k es)) ∙ none_own j k es ne (λ e t. h e (inr t))

-- Legal histories

-- what each entry keeps holds of a legal history
pub by_legal : (P : List Entry → Type 0) → ((h : List Entry) (x : Entry) → P h → MayFollow h x → P (h ++ x ∷ [])) → (h es : List Entry) → IsLegalAfter h es → P h → P (h ++ es)
by_legal P step h [] l p = subst P (sym (append-nil h)) p
by_legal P step h (x ∷ es) l p = subst P (append_assoc h (x ∷ []) es) (by_legal P step (h ++ x ∷ []) es l.1 (step h x p l.0))

nothing : (e : Event) → Contains [] e → ⊥
nothing e h = let k = h.1 in absurd (omega arith)

put_later : (h : List Entry) (x : Entry) (e : Event) → Contains (puts h) e → Contains (puts (h ++ x ∷ [])) e
put_later h x e i = subst (λ z. Contains z e) (sym (puts-append h (x ∷ []))) (Contains-append_left (puts h) (puts (x ∷ [])) e i)

settled_here : (h : List Entry) (x : Entry) (e : Event) → MayFollow h x → Contains (settleds (x ∷ [])) e → Contains (puts h) e
settled_here h (Settled k f) e may i = let p = may.0 in subst (Contains (puts h)) (sym (only f e i)) (done_at put_of h p.0 (Put k f) f p.1 (ap put_of p.2))
settled_here h (Begin k) e may i = absurd (nothing e i)
settled_here h (Put k f) e may i = absurd (nothing e i)
settled_here h (Take k f) e may i = absurd (nothing e i)
settled_here h (Miss k f) e may i = absurd (nothing e i)
settled_here h (Table k l s) e may i = absurd (nothing e i)

taken_here : (h : List Entry) (x : Entry) (e : Event) → MayFollow h x → Contains (outs (x ∷ [])) e → Contains (puts h) e
taken_here h (Take k f) e may i = subst (Contains (puts h)) (sym (only f e i)) may.0
taken_here h (Begin k) e may i = absurd (nothing e i)
taken_here h (Put k f) e may i = absurd (nothing e i)
taken_here h (Settled k f) e may i = absurd (nothing e i)
taken_here h (Miss k f) e may i = absurd (nothing e i)
taken_here h (Table k l s) e may i = absurd (nothing e i)

-- what is settled was put
pub settled_put : (h : List Entry) → IsLegal h → (e : Event) → Contains (settleds h) e → Contains (puts h) e
settled_put h l = by_legal (λ h. (e : Event) → Contains (settleds h) e → Contains (puts h) e)
    (λ h x old may e i. put_later h x e (⊎_elim (old e) (settled_here h x e may) (Contains-append_cases (settleds h) (settleds (x ∷ [])) e (subst (λ z. Contains z e) (settleds-append h (x ∷ [])) i))))
    [] h l (λ e n. absurd (nothing e n))

-- what is out was put
pub out_put : (h : List Entry) → IsLegal h → (e : Event) → Contains (outs h) e → Contains (puts h) e
out_put h l = by_legal (λ h. (e : Event) → Contains (outs h) e → Contains (puts h) e)
    (λ h x old may e i. put_later h x e (⊎_elim (old e) (taken_here h x e may) (Contains-append_cases (outs h) (outs (x ∷ [])) e (subst (λ z. Contains z e) (outs-append h (x ∷ [])) i))))
    [] h l (λ e n. absurd (nothing e n))

pub not_out : (n : ℕ) (history : List Entry) (deal : Deal) (own : ℕ → List Entry) (begun : ℕ → ℕ) (e : Event) → Told n history deal own begun → (Contains (puts history) e → ⊥) → Contains (outs history) e → ⊥
not_out n history deal own begun e told new out = new (out_put history told.legal e out)

puts_same : (h : List Entry) (x : Entry) → puts (x ∷ []) ≡ [] → puts (h ++ x ∷ []) ≡ puts h
puts_same h x none = puts-append h (x ∷ []) ∙ (ap (λ z. puts h ++ z) none ∙ append-nil (puts h))

put_some : (k : ℕ) (e : Event) → puts (Put k e ∷ []) ≡ [] → ⊥
put_some k e q = cc

-- Entries of one caller are added

module _ (n : ℕ) (history : List Entry) (deal : Deal) (own : ℕ → List Entry) (begun : ℕ → ℕ) where
  -- the part on the history
  pub told_more : (j : ℕ) (more : List Entry) (begun' : ℕ → ℕ) → j < n → IsLegalAfter history more → ((e : Entry) → In e more → whose e ≡ j)
      → ((k : ℕ) (e : Event) → In (Put k e) more → owner_of n deal.span e.src ≡ k)
      → ((k : ℕ) → k ≢ j → begun' k ≡ begun k) → begun' j ≤ length (history ++ more)
      → (EndsInBegin (own j ++ more) → (front : List Entry) × (length front ≡ begun' j) × Began j (history ++ more) front)
      → Told n history deal own begun → Told n (history ++ more) deal (put own j (own j ++ more)) begun'
  told_more j more begun' b legal mine sourced others low begins old = record {
    legal = legal_append [] history more old.legal legal;
    spans = old.spans;
    since = old.since ++ more;
    extends = ap (λ h. h ++ more) old.extends ∙ append_assoc deal.history old.since more;
    each = put_all own j (own j ++ more) (λ k es. k < n → own_of k (old.since ++ more) ≡ es)
        (λ _. own-append j old.since more ∙ (λ i. old.each j b i ++ all_own j more mine i))
        (λ k ne c. own-append k old.since more ∙ ((λ i. old.each k c i ++ none_own j k more ne mine i) ∙ append-nil (own k)));
    inside = λ e i. ⊎_elim (old.inside e) (λ t. subst (λ k. k < n) (sym (mine e t)) b) (in_append old.since more e i);
    sourced = λ k e i. ⊎_elim (old.sourced k e) (sourced k e) (in_append old.since more (Put k e) i);
    begun_low = λ k c. dite (ℕ_discrete k j) (λ e. subst (λ z. begun' z ≤ length (history ++ more)) (sym e) low)
        (λ ne. let l = old.begun_low k c in let same = others k ne in let wide = length-append history more in omega arith);
    began = put_all own j (own j ++ more) (λ k es. k < n → EndsInBegin es → (front : List Entry) × (length front ≡ begun' k) × Began k (history ++ more) front)
        (λ _. begins)
        (λ k ne c ends. let was = old.began k c ends in (was.0, was.1 ∙ sym (others k ne), longer k ne was.0 was.2));
  }
    where
      longer : (k : ℕ) → k ≢ j → (front : List Entry) → Began k history front → Began k (history ++ more) front
      longer k ne front was = record {
        back = was.back ++ more;
        parts = ap (λ z. z ++ more) was.parts ∙ append_assoc front (Begin k ∷ was.back) more;
        last = own-append k was.back more ∙ (λ i. was.last i ++ none_own j k more ne mine i);
      }

  pub fresh_put : (j : ℕ) (e : Event) → j < n → IsFresh n deal.history (own j) deal.span j e → Told n history deal own begun → Contains (puts history) e → ⊥
  fresh_put j e b fresh told i = let by = put_by history e i in ⊎_elim
      (λ h. fresh.1 by.0 e (inl h) refl refl)
      (λ (h : In (Put by.0 e) told.since). let who : by.0 ≡ j = sym (told.sourced by.0 e h) ∙ fresh.0 in
      fresh.1 j e (inr (subst (In (Put j e)) (told.each j b) (in_own j told.since (Put j e) refl (subst (λ k. In (Put k e) told.since) who h)))) refl refl)
      (in_append deal.history told.since (Put by.0 e) (subst (In (Put by.0 e)) told.extends by.1))

  pub told_put : (j : ℕ) (e : Event) → j < n → IsFresh n deal.history (own j) deal.span j e → Told n history deal own begun → Told n (history ++ Put j e ∷ []) deal (put own j (own j ++ Put j e ∷ [])) begun
  told_put j e b fresh told = told_more j (Put j e ∷ []) begun b (fresh_put j e b fresh told, tt)
      (λ x i. ⊎_elim (λ q. ap whose q) (λ n. absurd n) i)
      (λ k f i. ⊎_elim (λ q. put_source k f q) (λ n. absurd n) i)
      (λ _ _. refl)
      (let low = told.begun_low j b in let wide = length-append history (Put j e ∷ []) in omega arith)
      (λ ends. absurd (put_begin j ends.1 e (last_one (own j) ends.0 (Put j e) (Begin ends.1) ends.2)))
      told
    where
      put_source : (k : ℕ) (f : Event) → Put k f ≡ Put j e → owner_of n deal.span f.src ≡ k
      put_source k f q = let event : f ≡ e = cc in let caller : k ≡ j = cc in ap (λ (z : Event). owner_of n deal.span z.src) event ∙ (fresh.0 ∙ sym caller)

  -- one entry that isn't a put
  pub told_entry : (j : ℕ) (x : Entry) (begun' : ℕ → ℕ) → j < n → MayFollow history x → whose x ≡ j → puts (x ∷ []) ≡ [] → ((k : ℕ) → k ≢ j → begun' k ≡ begun k) → begun' j ≤ length history
      → (EndsInBegin (own j ++ x ∷ []) → (front : List Entry) × (length front ≡ begun' j) × Began j (history ++ x ∷ []) front)
      → Told n history deal own begun → Told n (history ++ x ∷ []) deal (put own j (own j ++ x ∷ [])) begun'
  told_entry j x begun' b may mine none others low begins told = told_more j (x ∷ []) begun' b (may, tt)
      (λ e i. ⊎_elim (λ q. ap whose q ∙ mine) (λ n. absurd n) i)
      (λ k e i. ⊎_elim (λ q. absurd (put_some k e (subst (λ z. puts (z ∷ []) ≡ []) (sym q) none))) (λ n. absurd n) i)
      others (let wide = length-append history (x ∷ []) in omega arith) begins told

  -- one that is neither a put nor a Begin
  pub told_other : (j : ℕ) (x : Entry) → j < n → MayFollow history x → whose x ≡ j → puts (x ∷ []) ≡ [] → ((k : ℕ) → x ≡ Begin k → ⊥)
      → Told n history deal own begun → Told n (history ++ x ∷ []) deal (put own j (own j ++ x ∷ [])) begun
  told_other j x b may mine none other told = told_entry j x begun b may mine none (λ _ _. refl) (told.begun_low j b) (λ ends. absurd (other ends.1 (last_one (own j) ends.0 x (Begin ends.1) ends.2))) told

  pub told_begin : (j : ℕ) → j < n → Told n history deal own begun → Told n (history ++ Begin j ∷ []) deal (put own j (own j ++ Begin j ∷ [])) (put begun j (length history))
  told_begin j b told = told_entry j (Begin j) (put begun j (length history)) b tt refl refl (put_else begun j (length history)) (subst (λ z. z ≤ length history) (sym (put_here begun j (length history))) (le_refl _))
      (λ _. (history, sym (put_here begun j (length history)), began_now j history)) told

pub outs_put : (history : List Entry) (j : ℕ) (e : Event) → outs (history ++ Put j e ∷ []) ≡ outs history
outs_put history j e = outs-append history (Put j e ∷ []) ∙ append-nil (outs history)

puts_put : (history : List Entry) (j : ℕ) (e : Event) → puts (history ++ Put j e ∷ []) ≡ puts history ++ e ∷ []
puts_put history j e = puts-append history (Put j e ∷ [])

pub pending_put : (history : List Entry) (j : ℕ) (e f : Event) → IsPending (history ++ Put j e ∷ []) f → IsPending history f ⊎ (f ≡ e)
pending_put history j e f p = ⊎_elim (λ i. inl (record { put = i; kept = λ o. p.kept (subst (λ z. Contains z f) (sym (outs_put history j e)) o) })) (λ i. inr (only e f i))
    (Contains-append_cases (puts history) (e ∷ []) f (subst (λ z. Contains z f) (puts_put history j e) p.put))

pub put_pending : (history : List Entry) (j : ℕ) (e f : Event) → IsPending history f ⊎ ((f ≡ e) × (Contains (outs history) e → ⊥)) → IsPending (history ++ Put j e ∷ []) f
put_pending history j e f p = record {
  put = subst (λ z. Contains z f) (sym (puts_put history j e)) (⊎_elim
      (λ (p : IsPending history f). Contains-append_left (puts history) (e ∷ []) f p.put)
      (λ q. subst (Contains (puts history ++ e ∷ [])) (sym q.0) (Contains-push (puts history) e)) p);
  kept = λ o. let o' = subst (λ z. Contains z f) (outs_put history j e) o in ⊎_elim (λ (p : IsPending history f). p.kept o') (λ q. q.1 (subst (Contains (outs history)) q.0 o')) p;
}

pub front_of : (history more front back : List Entry) (m : ℕ) → history ++ more ≡ front ++ back → length front ≡ m → m ≤ length history → (rest : List Entry) × (history ≡ front ++ rest)
front_of history more [] back m e is low = (history, refl)
front_of [] more (x ∷ front) back m e is low = absurd (omega arith)
front_of (y ∷ history) more (x ∷ front) back m e is low = let first : y ≡ x = cc in let tail : history ++ more ≡ front ++ back = cc in
    let r = front_of history more front back (length front) tail refl (omega arith) in (r.0, λ i. first i ∷ r.1 i)

-- an entry that is neither a put nor a take
pub pending_same : (history : List Entry) (x : Entry) (e : Event) → puts (x ∷ []) ≡ [] → outs (x ∷ []) ≡ [] → IsPending (history ++ x ∷ []) e ↔ IsPending history e
pending_same history x e none kept = (
  λ p. record { put = subst (λ z. Contains z e) ps p.put; kept = λ o. p.kept (subst (λ z. Contains z e) (sym os) o) },
  λ p. record { put = subst (λ z. Contains z e) (sym ps) p.put; kept = λ o. p.kept (subst (λ z. Contains z e) os o) },
)
  where
    ps : puts (history ++ x ∷ []) ≡ puts history
    ps = puts_same history x none

    os : outs (history ++ x ∷ []) ≡ outs history
    os = outs-append history (x ∷ []) ∙ (ap (λ z. outs history ++ z) kept ∙ append-nil (outs history))

-- what is out stays out
pub out_later : (history : List Entry) (x : Entry) (e : Event) → Contains (outs history) e → Contains (outs (history ++ x ∷ [])) e
out_later history x e o = subst (λ z. Contains z e) (sym (outs-append history (x ∷ []))) (Contains-append_left (outs history) (outs (x ∷ [])) e o)

-- Events that are owed

pub put_in : (k : ℕ) (e : Event) (h : List Entry) → In (Put k e) h → Contains (puts h) e
put_in k e (x ∷ h) i = ⊎_elim
    (λ (same : Put k e ≡ x). of_front put_of (x ∷ []) h e (subst (λ z. Contains (puts (z ∷ [])) e) same (0, omega arith, refl)))
    (λ t. of_back put_of (x ∷ []) h e (put_in k e h t)) i
put_in k e [] i = absurd i

in_left : (xs ys : List Entry) (a : Entry) → In a xs → In a (xs ++ ys)
in_left [] ys a i = absurd i
in_left (x ∷ xs) ys a i = ⊎_elim inl (λ t. inr (in_left xs ys a t)) i

module _ (n : ℕ) (history : List Entry) (settling : ℕ → Option SettleDebt) where
  -- entries are added: each put is settled with them, and none of an event that is owed
  pub settling_more : (more : List Entry) → ((e : Event) → Contains (puts more) e → Contains (settleds (history ++ more)) e) → ((k : ℕ) (d : SettleDebt) → k < n → settling k ≡ Some d → Contains (settleds more) d.event → ⊥)
      → Settling n history settling → Settling n (history ++ more) settling
  settling_more more done none old = record {
    owed = λ k d b is. let o = old.owed k d b is in (in_left history more (Put k d.event) o.0, λ s. ⊎_elim o.1 (none k d b is) (of_both settled_of history more d.event s));
    unsettled = λ e put left. ⊎_elim (λ was. old.unsettled e was (λ s. left (of_front settled_of history more e s))) (λ new. absurd (left (done e new))) (of_both put_of history more e put);
    lone = old.lone;
  }

  -- an event that was never put is put by a caller that owes none, and owed by it
  module _ (j : ℕ) (d : SettleDebt) (b : j < n) (free : settling j ≡ None) (new : Contains (puts history) d.event → ⊥) (old : Settling n history settling) where
    abbrev more : List Entry
    more = Put j d.event ∷ []

    abbrev owing : ℕ → Option SettleDebt
    owing = put settling j (Some d)

    was_settled : (e : Event) → Contains (settleds (history ++ more)) e → Contains (settleds history) e
    was_settled e s = ⊎_elim (λ o. o) (λ n. absurd (nothing e n)) (of_both settled_of history more e s)

    -- what is owed is this event, or was owed
    is_owed : (k : ℕ) (f : SettleDebt) → owing k ≡ Some f → ((k ≡ j) × (d ≡ f)) ⊎ (settling k ≡ Some f)
    is_owed k f = put_all settling j (Some d) (λ k o. o ≡ Some f → ((k ≡ j) × (d ≡ f)) ⊎ (settling k ≡ Some f)) (λ e. inl (refl, same_Some d f e)) (λ _ _ e. inr e) k

    -- another one than what was owed
    other : (k : ℕ) (f g : SettleDebt) → k < n → settling k ≡ Some g → d ≡ f → f.event ≡ g.event → ⊥
    other k f g c owes here same = new (subst (Contains (puts history)) (sym (ap (λ (x : SettleDebt). x.event) here ∙ same)) (put_in k g.event history (old.owed k g c owes).0))

    pub settling_put : (Contains (settleds history) d.event → ⊥) → Settling n (history ++ more) owing
    settling_put loose = record {
      owed = λ k f c is. ⊎_elim
          (λ (h : (k ≡ j) × (d ≡ f)). subst (λ (z : ℕ × SettleDebt). In (Put z.0 z.1.event) (history ++ more) × (Contains (settleds (history ++ more)) z.1.event → ⊥)) (λ i. (sym h.0 i, h.1 i))
          (snoc_in history (Put j d.event) (Put j d.event) (inr refl), λ s. loose (was_settled d.event s)))
          (λ o. let was = old.owed k f c o in (in_left history more (Put k f.event) was.0, λ s. was.1 (was_settled f.event s))) (is_owed k f is);
      unsettled = λ e put left. ⊎_elim
          (λ was. let o = old.unsettled e was (λ s. left (of_front settled_of history more e s)) in
          (o.0, o.1, (o.2.0, put_else settling j (Some d) o.0 (λ same. none_debt o.2.0 (sym free ∙ (ap settling (sym same) ∙ o.2.1))) ∙ o.2.1, o.2.2)))
          (λ here. (j, b, (d, put_here settling j (Some d), sym (only d.event e here)))) (of_both put_of history more e put);
      lone = λ i k f g a c is is' same. ⊎_elim
          (λ (h : (i ≡ j) × (d ≡ f)). ⊎_elim (λ (h' : (k ≡ j) × (d ≡ g)). h.0 ∙ sym h'.0) (λ owes. absurd (other k f g c owes h.1 same)) (is_owed k g is'))
          (λ owes. ⊎_elim (λ (h' : (k ≡ j) × (d ≡ g)). absurd (other i g f a owes h'.1 (sym same))) (λ owes'. old.lone i k f g a c owes owes' same) (is_owed k g is')) (is_owed i f is);
    }
