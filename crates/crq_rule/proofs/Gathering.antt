-- The loads of the spare word at which all callers are dealt something new: the history so far, or other sources.
use Rattle.std.proofs.Common.{◌≡◌, ◌≢◌, ⊎_elim, inl, ℕ, zero, suc, ◌<◌, ◌≤◌, arith, Some, None, cond, List, [], ◌∷◌, ◌++◌, map, get_or, set, sym, refl, ap, ◌∙◌, subst, append-nil, eq-eqb}
use mathlib.Core.Option.{some, some-injective, some-ne-none}
use lib.ListN.{get_elem?}
use lib.Seq.{set-get_or}
use Rattle.atomic_table.specs.Table.{State, Me, keeps, Allows}
use Rattle.atomic_table.proofs.Lists.{at_set}
use Rattle.crq_base.specs.declared.entry.Entry.{Entry}
use Rattle.crq_base.specs.declared.entry.Entry.TheVariants.{Begin, Put}
use Rattle.crq_base.specs.Entries.{caller_of as whose}
use Rattle.crq_base.specs.Histories.{settleds, table_count, raising_count, own as own_of}
use Rattle.crq_base.specs.Lists.{In}
use Rattle.crq_base.specs.Refusals.{AreCounted}
use Rattle.crq_base.proofs.Verdicts.{contains_or}
use Rattle.crq_rule.specs.declared.layout.Start.{Start}
use Rattle.crq_rule.specs.declared.debts.SettleDebt.{SettleDebt}
use Rattle.crq_rule.specs.declared.view.Deal.{Deal}
use Rattle.crq_rule.specs.declared.view.Told.{Told as ViewTold}
use Rattle.crq_rule.specs.declared.view.Caller.{Caller}
use Rattle.crq_rule.specs.declared.view.View.{View}
use Rattle.crq_rule.specs.Core.{Core, caller_of}
use Rattle.crq_rule.specs.HistoryParts.{Told, Numbers}
use Rattle.crq_rule.specs.Invariant.{Inv}
use Rattle.crq_rule.specs.Rule.{IsWords, Carries, Stands}
use Rattle.crq_rule.proofs.Frames.{frame_entry}
use Rattle.crq_rule.specs.Deals.{HasAll, settled_part, dealt_again, Gathered, spanned_part, spans, IsSilent}

none_debt : (d : SettleDebt) → None ≡ Some d → ⊥
none_debt d e = cc

-- A new deal of the core state, which no part of the invariant but the history reads

abbrev redealt : Core → Deal → (ℕ → List Entry) → (ℕ → ViewTold) → Core
redealt c deal own known = record c { deal = deal; own = own; told = known }

redealt_keeps : (c : Core) (deal : Deal) (own : ℕ → List Entry) (known : ℕ → ViewTold) → Told c.start.layout.workers c.history deal own c.begun → Numbers c.start.layout.workers c.history known → Inv c → Inv (redealt c deal own known)
redealt_keeps c deal own known told numbers inv = frame_entry c (redealt c deal own known) inv inv.finds inv.dues inv.steady inv.carriers told numbers inv.settling inv.walkers inv.ahead inv.scarce inv.refusals inv.swept inv.bounds inv.helps inv.unlinked inv.ends

-- entries don't end in a Begin where there are none
no_begin : (front : List Entry) (j : ℕ) → [] ≡ front ++ Begin j ∷ [] → ⊥
no_begin [] j e = cc
no_begin (x ∷ front) j e = cc

module _ (n : ℕ) (history : List Entry) (deal : Deal) (own : ℕ → List Entry) (begun : ℕ → ℕ) where
  -- the history so far is dealt
  told_gathered : Told n history deal own begun → Told n history (record { history = history; span = deal.span }) (λ _. []) begun
  told_gathered told = record {
    legal = told.legal;
    spans = told.spans;
    since = [];
    extends = sym (append-nil history);
    each = λ j b. refl;
    inside = λ e i. absurd i;
    sourced = λ j e i. absurd i;
    begun_low = told.begun_low;
    began = λ j b ends. absurd (no_begin ends.0 ends.1 ends.2);
  }

  -- another span is dealt, where no entry was made since the deal
  told_spanned : (span : ℕ) → 0 < span → (told : Told n history deal own begun) → told.since ≡ [] → Told n history (record { history = deal.history; span = span }) own begun
  told_spanned span some_span told none = record {
    legal = told.legal;
    spans = some_span;
    since = told.since;
    extends = told.extends;
    each = told.each;
    inside = told.inside;
    sourced = λ j e i. absurd (subst (In (Put j e)) none i);
    begun_low = told.begun_low;
    began = told.began;
  }

-- where no caller has made an entry, there is none since the deal
none_since : (n : ℕ) (since : List Entry) → ((e : Entry) → In e since → whose e < n) → ((j : ℕ) → j < n → own_of j since ≡ []) → since ≡ []
none_since n [] inside none = refl
none_since n (e ∷ es) inside none = absurd (filled (subst (λ b. cond b (e ∷ own_of (whose e) es) (own_of (whose e) es) ≡ []) (eq-eqb (whose e) (whose e) refl) (none (whose e) (inside e (inl refl)))))
  where
    filled : e ∷ own_of (whose e) es ≡ [] → ⊥
    filled q = cc

-- A part that was changed as all are, and what it was
mapped_at : (f : Caller → Caller) (ps : List Caller) (k : ℕ) (q : Caller) → get_elem? (map f ps) k ≡ some q → ((p : Caller) × (get_elem? ps k ≡ some p) × (f p ≡ q))
mapped_at f [] k q e = absurd (some-ne-none q (sym e))
mapped_at f (p ∷ ps) zero q e = (p, refl, some-injective (f p) q e)
mapped_at f (p ∷ ps) (suc k) q e = mapped_at f ps k q e

module _ (key : Start) (id : ℕ) (v : View) (all : HasAll key.layout.workers v) (s : State (Unit {0}) View) (h : Stands key s) (at : get_elem? s.views id ≡ some v) where
  -- the seat of all callers, and no other, carries some
  only : (i k : ℕ) (u : View) (q : Caller) → get_elem? s.views i ≡ some u → get_elem? u.parts k ≡ some q → i ≡ id
  only i k u q e f = let old = h.views i k u q e f in let it = all q.number (subst (λ (z : Start). q.number < z.layout.workers) h.words.start old.inside) in
      sym old.mine ∙ (ap h.seat (sym it.3) ∙ (h.views id it.0 v it.1 at it.2).mine)

  -- a new deal of the core state that changes what each caller knows by f
  stands_dealt : (deal : Deal) (own : ℕ → List Entry) (known : ℕ → ViewTold) (f : Caller → Caller) → ((j : ℕ) → f (caller_of h.core j) ≡ caller_of (redealt h.core deal own known) j) → ((p : Caller) → (f p).number ≡ p.number)
      → Told h.core.start.layout.workers h.core.history deal own h.core.begun → Numbers h.core.start.layout.workers h.core.history known
      → Stands key record { words = set s.words 0 (get_or s.words 0 0); homes = s.homes; views = set s.views id (record v { parts = map f v.parts }) }
  stands_dealt deal own known f is same told numbers = let c : Core = h.core in let c' : Core = redealt c deal own known in let w : View = record v { parts = map f v.parts } in record {
    core = c';
    seat = h.seat;
    words = subst (IsWords key c') (sym (set-get_or s.words 0 0)) (record { start = h.words.start; shows = h.words.shows });
    views = λ i k u q e g. ⊎_elim
        (λ (t : (i ≡ id) × (w ≡ u)). let x = mapped_at f v.parts k q (ap (λ (u : View). get_elem? u.parts k) t.1 ∙ g) in let old = h.views id k v x.0 at x.1 in
        subst (λ (z : ℕ × Caller). Carries c' h.seat z.0 z.1) (λ y. (sym t.0 y, x.2 y)) (record {
          inside = subst (λ z. z < c.start.layout.workers) (sym (same x.0)) old.inside;
          mine = ap h.seat (same x.0) ∙ old.mine;
          is = ap f old.is ∙ (is x.0.number ∙ ap (caller_of c') (sym (same x.0)));
        }))
        (λ (t : (i ≢ id) × (get_elem? s.views i ≡ some u)). absurd (t.0 (only i k u q t.1 g)))
        (at_set s.views id i w u e);
    kept = redealt_keeps c deal own known told numbers h.kept;
  }

pub gathers : (key : Start) (slots id : ℕ) (me : Me (Unit {0}) View) → HasAll key.layout.workers me.0 → Allows (Stands key) slots id me 0 (λ n. n) (λ r m. Gathered me.0 m.0 × (m.1 ≡ me.1))
gathers key slots id me all s h _ at _ = let c = h.core in let told = h.kept.told in (
  dealt_again c.history me.0,
  keeps,
  tt,
  stands_dealt key id me.0 all s h at (record { history = c.history; span = c.deal.span }) (λ _. []) (λ _. record { tables = 0; settled = 0 }) (settled_part c.history) (λ j. refl) (λ p. refl)
      (told_gathered c.start.layout.workers c.history c.deal c.own c.begun told) (record { tables = λ _ _. omega arith; raising = λ _ _. omega arith }),
  (
    record {
      history = c.history;
      since = told.since;
      is = refl;
      legal = told.legal;
      settled = λ none e put. ⊎_elim (λ s. s) (λ left. let o = h.kept.settling.unsettled e put left in let it = all o.0 (subst (λ (z : Start). o.0 < z.layout.workers) h.words.start o.1) in let old = h.views id it.0 me.0 it.1 at it.2 in
          absurd (none_debt o.2.0 (sym (none it.0 it.1 it.2) ∙ (ap (λ (p : Caller). p.debts.settle) old.is ∙ (ap c.settling it.3 ∙ o.2.1))))) (contains_or (settleds c.history) e);
      each = λ k p f. let old = h.views id k me.0 p at f in (told.extends ∙ ap (λ (p : Caller). p.deal.history ++ told.since) (sym old.is), told.each p.number old.inside ∙ ap (λ (p : Caller). p.own) (sym old.is));
      counted = λ k p f. let old = h.views id k me.0 p at f in subst (AreCounted c.history p.number) (ap (λ (p : Caller). p.refused) (sym old.is)) (h.kept.refusals.each p.number old.inside);
      tables = λ k p f. let old = h.views id k me.0 p at f in subst (λ (p : Caller). p.told.tables ≤ table_count c.history) (sym old.is) (h.kept.numbers.tables p.number old.inside);
      raising = λ k p f. let old = h.views id k me.0 p at f in subst (λ (p : Caller). p.told.settled ≤ raising_count c.history) (sym old.is) (h.kept.numbers.raising p.number old.inside);
      inside = λ k p e f i. let old = h.views id k me.0 p at f in subst (λ (p : Caller). whose e < p.start.layout.workers) (sym old.is) (told.inside e i);
    },
    refl,
  ),
)

pub respans : (key : Start) (slots id span : ℕ) (me : Me (Unit {0}) View) → 0 < span → HasAll key.layout.workers me.0 → IsSilent me.0 → Allows (Stands key) slots id me 0 (λ n. n) (λ r m. m ≡ (spans span me.0, me.1))
respans key slots id span me some_span all silent s h _ at _ = let c = h.core in let told = h.kept.told in
    let none : told.since ≡ [] = none_since c.start.layout.workers told.since told.inside (λ j b.
    let it = all j (subst (λ (z : Start). j < z.layout.workers) h.words.start b) in let old = h.views id it.0 me.0 it.1 at it.2 in
    told.each j b ∙ (ap c.own (sym it.3) ∙ (ap (λ (p : Caller). p.own) (sym old.is) ∙ silent it.0 it.1 it.2))) in (
      spans span me.0,
      keeps,
      tt,
      stands_dealt key id me.0 all s h at (record { history = c.deal.history; span = span }) c.own c.told (spanned_part span) (λ j. refl) (λ p. refl) (told_spanned c.start.layout.workers c.history c.deal c.own c.begun span some_span told none) h.kept.numbers,
      refl,
    )
