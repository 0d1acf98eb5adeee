-- From a law on core states to what `atomic_table` asks of a step, of a split and of a join.
use Rattle.std.proofs.Common.{◌≡◌, ◌≢◌, ◌⊎◌, ⊎_elim, inl, inr, ℕ, zero, suc, ◌<◌, Bool, true, false, cond, eqb, List, [], ◌∷◌, ◌++◌, length, get_or, set, sym, refl, ap, ◌∙◌, subst, arith, eq-eqb, ne_eqb, length-set}
use mathlib.Core.Option.{some, some-injective, some-ne-none}
use mathlib.Core.Logic.{dite}
use native.Mathlib.Decide.{ℕ_discrete}
use lib.ListN.{get_elem?}
use Rattle.atomic_table.specs.Table.{State, Me, keeps, Allows, Joins, Splits}
use Rattle.atomic_table.proofs.Lists.{at_set}
use Rattle.crq_base.specs.declared.kinds.StepKind.{StepKind}
use Rattle.crq_rule.specs.declared.layout.Start.{Start}
use Rattle.crq_rule.specs.declared.view.Made.{Made}
use Rattle.crq_rule.specs.declared.view.Caller.{Caller}
use Rattle.crq_rule.specs.declared.view.View.{View}
use Rattle.crq_rule.specs.Core.{Core, caller_of}
use Rattle.crq_rule.specs.Kinds.{makes, after_made}
use Rattle.crq_rule.specs.Rule.{IsWords, Carries, Stands, joined, spent, first_of, rest_of, head_view, tail_view, IsFirstApart}
use Rattle.crq_rule.specs.Moves.{Moves, MovesBy, By, FirstTurns}
use Rattle.crq_rule.proofs.Puts.{put_here, put_else}
use Rattle.crq_rule.specs.Steps.{After}
use Rattle.crq_rule.proofs.Frames.{frame_made}
use Rattle.crq_rule.proofs.Keeps.{Kept, step_kept}
use Rattle.crq_rule.proofs.Lawfuls.{lawful}

abbrev St : Type 0
St = State (Unit {0}) View

one_part : (p q : Caller) (k : ℕ) → get_elem? (p ∷ []) k ≡ some q → p ≡ q
one_part p q zero e = some-injective p q e
one_part p q (suc k) e = absurd (some-ne-none q (sym e))

-- the step is added to those that its caller made
kept_made : (c c' : Core) (j : ℕ) (p : Caller) (m : Made) → Kept c c' j p → Kept c (after_made c' j m) j (makes m p)
kept_made c c' j p m kept = let more : List Made = c'.made j ++ m ∷ [] in record {
  start = kept.start;
  mine = ap (makes m) kept.mine ∙ (λ i. record (caller_of c' j) { made = sym (put_here c'.made j more) i });
  others = λ k ne. (λ i. record (caller_of c' k) { made = put_else c'.made j more k ne i }) ∙ kept.others k ne;
  inv = frame_made c' j m kept.inv;
}

pub moves_by : (kind : StepKind) (key : Start) (p : Caller) (w : ℕ) (g : ℕ → ℕ) (f : ℕ → Caller → Caller) (tells : ℕ → Caller → Type 0) → Moves kind key p w g f tells → MovesBy kind key p w g (By f tells)
moves_by kind key p w g f tells moves c ws inv words b is = let t = moves c ws inv words b is in (t.0, t.1, t.2, t.3, (t.4, t.5))

pub moves_flat : (kind : StepKind) (key : Start) (p : Caller) (w : ℕ) (g : ℕ → ℕ) (f : ℕ → Caller → Caller) (tells : ℕ → Caller → Type 0) → MovesBy kind key p w g (By f tells) → Moves kind key p w g f tells
moves_flat kind key p w g f tells moves c ws inv words b is = let t = moves c ws inv words b is in (t.0, t.1, t.2, t.3, t.4.0, t.4.1)

module _ (key : Start) where
  pub carried : (s : St) (h : Stands key s) (id : ℕ) (v : View) (p : Caller) → get_elem? s.views id ≡ some v → v.parts ≡ p ∷ [] → Carries h.core h.seat id p
  carried s h id v p at is = h.views id 0 v p at (subst (λ (ps : List Caller). get_elem? ps 0 ≡ some p) (sym is) refl)

  stands : (s : St) (h : Stands key s) (id : ℕ) (v : View) (p p' : Caller) (c' : Core) (ws : List ℕ) → get_elem? s.views id ≡ some v → v.parts ≡ p ∷ [] → p'.number ≡ p.number
      → IsWords key c' ws → Kept h.core c' p.number p' → Stands key record { words = ws; homes = s.homes; views = set s.views id (record v { parts = p' ∷ [] }) }
  stands s h id v p p' c' ws at is same words kept = let own = carried s h id v p at is in record {
    core = c';
    seat = h.seat;
    words = words;
    views = λ i k u q e f. ⊎_elim
        (λ (t : (i ≡ id) × (record v { parts = p' ∷ [] } ≡ u)).
        let g : get_elem? (p' ∷ []) k ≡ some q = ap (λ (u : View). get_elem? u.parts k) t.1 ∙ f in
        let here : p' ≡ q = one_part p' q k g in
        let n : p'.number < c'.start.layout.workers = subst (λ (z : ℕ × Start). z.0 < z.1.layout.workers) (λ x. (sym same x, sym kept.start x)) own.inside in
        subst (λ (z : ℕ × Caller). Carries c' h.seat z.0 z.1) (λ x. (sym t.0 x, here x)) (record {
          inside = n;
          mine = ap h.seat same ∙ own.mine;
          is = kept.mine ∙ ap (caller_of c') (sym same);
        }))
        (λ (t : (i ≢ id) × (get_elem? s.views i ≡ some u)).
        let old = h.views i k u q t.1 f in
        let ne : q.number ≢ p.number = λ (e : q.number ≡ p.number). t.0 (sym old.mine ∙ (ap h.seat e ∙ own.mine)) in
        record {
          inside = subst (λ (z : Start). q.number < z.layout.workers) (sym kept.start) old.inside;
          mine = old.mine;
          is = old.is ∙ sym (kept.others q.number ne);
        })
        (at_set s.views id i (record v { parts = p' ∷ [] }) u e);
    kept = kept.inv;
  }

  -- a step that is described by m, of the word found
  pub allows : (kind : StepKind) (slots id : ℕ) (me : Me (Unit {0}) View) (p : Caller) (w : ℕ) (g : ℕ → ℕ) (m : ℕ → Made) (R : ℕ → Caller → Caller → Type 0) → me.0.parts ≡ p ∷ [] → MovesBy kind key p w g R
      → Allows (Stands key) slots id me w g (λ r n. FirstTurns (R r) (m r) me.0.parts n.0 × (n.1 ≡ me.1))
  allows kind slots id me p w g m R is moves s h _ at _ =
      let r : ℕ = get_or s.words w 0 in let own = carried s h id me.0 p at is in
      let t = moves h.core s.words h.kept h.words own.inside own.is in
      let c' : Core = After t.0 h.core p.number in let q : Caller = caller_of c' p.number in
      let kept = step_kept t.0 h.core p.number own.inside t.2 h.kept in (
        record me.0 { parts = makes (m r) q ∷ [] },
        keeps,
        tt,
        stands s h id me.0 p (makes (m r) q) (after_made c' p.number (m r)) (set s.words w (g r)) at is refl (record { start = t.3.start; shows = t.3.shows }) (kept_made h.core c' p.number q (m r) kept),
        (subst (λ ps. FirstTurns (R r) (m r) ps (record me.0 { parts = makes (m r) q ∷ [] })) (sym is) (q, t.4, refl, kept.start ∙ ap (λ (p : Caller). p.start) (sym own.is), lawful c' p.number (subst (λ (z : Start). p.number < z.layout.workers) (sym kept.start) own.inside) kept.inv, refl), refl),
      )

-- Joining: the callers of the seat `from` move to `to`

module _ {A : Type 0} where
  at_append : (xs ys : List A) (k : ℕ) (a : A) → get_elem? (xs ++ ys) k ≡ some a → ((i : ℕ) × (get_elem? xs i ≡ some a)) ⊎ ((i : ℕ) × (get_elem? ys i ≡ some a))
  at_append [] ys k a e = inr (k, e)
  at_append (x ∷ xs) ys zero a e = inl (0, e)
  at_append (x ∷ xs) ys (suc k) a e = ⊎_elim (λ t. inl (suc t.0, t.1)) inr (at_append xs ys k a e)

  snoc_at : (l : List A) (a b : A) (j : ℕ) → get_elem? (l ++ a ∷ []) j ≡ some b → ((j < length l) × (get_elem? l j ≡ some b)) ⊎ ((j ≡ length l) × (a ≡ b))
  snoc_at [] a b zero e = inr (refl, some-injective a b e)
  snoc_at [] a b (suc j) e = absurd (some-ne-none b (sym e))
  snoc_at (x ∷ xs) a b zero e = inl (omega arith, e)
  snoc_at (x ∷ xs) a b (suc j) e = ⊎_elim (λ t. let l = t.0 in inl (omega arith, t.1)) (λ t. let l = t.0 in inr (omega arith, t.1)) (snoc_at xs a b j e)

moved : ℕ → ℕ → (ℕ → ℕ) → ℕ → ℕ
moved from to seat c = cond (eqb (seat c) from) to (seat c)

moved_hit : (from to : ℕ) (seat : ℕ → ℕ) (c : ℕ) → seat c ≡ from → moved from to seat c ≡ to
unfolding moved
moved_hit from to seat c e = ap (λ b. cond b to (seat c)) (eq-eqb (seat c) from e)

moved_else : (from to : ℕ) (seat : ℕ → ℕ) (c : ℕ) → seat c ≢ from → moved from to seat c ≡ seat c
unfolding moved
moved_else from to seat c e = ap (λ b. cond b to (seat c)) (ne_eqb (seat c) from e)

carries_moved : (c : Core) (seat seat' : ℕ → ℕ) (i k : ℕ) (q : Caller) → Carries c seat i q → (seat q.number ≡ i → seat' q.number ≡ k) → Carries c seat' k q
carries_moved c seat seat' i k q old to = record { inside = old.inside; mine = to old.mine; is = old.is }

module _ (key : Start) where
  pub joins : (id other : ℕ) (v w : View) → Joins (Stands key) id v other w (joined v w) spent
  joins id other v w s h at apart at' = let seat : ℕ → ℕ = moved other id h.seat in record {
    core = h.core;
    seat = seat;
    words = h.words;
    views = λ i k u q e f. ⊎_elim
        (λ (t : (i ≡ other) × (spent ≡ u)). absurd (some-ne-none q (sym (ap (λ (u : View). get_elem? u.parts k) t.1 ∙ f))))
        (λ (t : (i ≢ other) × (get_elem? (set s.views id (joined v w)) i ≡ some u)). ⊎_elim
        (λ (t' : (i ≡ id) × (joined v w ≡ u)). subst (λ (z : ℕ). Carries h.core seat z q) (sym t'.0) (⊎_elim
        (λ (m : (j : ℕ) × (get_elem? v.parts j ≡ some q)). stays id q (λ e. apart (sym e)) (h.views id m.0 v q at m.1))
        (λ (m : (j : ℕ) × (get_elem? w.parts j ≡ some q)). carries_moved h.core h.seat seat other id q (theirs q m.0 m.1) (moved_hit other id h.seat q.number))
        (at_append v.parts w.parts k q (ap (λ (u : View). get_elem? u.parts k) t'.1 ∙ f))))
        (λ (t' : (i ≢ id) × (get_elem? s.views i ≡ some u)). stays i q t.0 (h.views i k u q t'.1 f))
        (at_set s.views id i (joined v w) u t.1))
        (at_set (set s.views id (joined v w)) other i spent u e);
    kept = h.kept;
  }
    where
      stays : (i : ℕ) (q : Caller) → i ≢ other → Carries h.core h.seat i q → Carries h.core (moved other id h.seat) i q
      stays i q ne old = carries_moved h.core h.seat (moved other id h.seat) i i q old (λ e. moved_else other id h.seat q.number (λ z. ne (sym e ∙ z)) ∙ e)

      theirs : (q : Caller) (k : ℕ) → get_elem? w.parts k ≡ some q → Carries h.core h.seat other q
      theirs q k f = ⊎_elim (λ (t : (other ≡ id) × (joined v w ≡ w)). absurd (apart t.0)) (λ (t : (other ≢ id) × (get_elem? s.views other ≡ some w)). h.views other k w q t.1 f) (at_set s.views id other (joined v w) w at')

-- Splitting: the callers of ps go to the seat n

is_in : ℕ → List Caller → Bool
is_in c [] = false
is_in c (p ∷ ps) = cond (eqb p.number c) true (is_in c ps)

is_in-at : (ps : List Caller) (k : ℕ) (q : Caller) → get_elem? ps k ≡ some q → is_in q.number ps ≡ true
unfolding is_in
is_in-at [] k q e = absurd (some-ne-none q (sym e))
is_in-at (p ∷ ps) zero q e = ap (λ b. cond b true (is_in q.number ps)) (eq-eqb p.number q.number (ap (λ (p : Caller). p.number) (some-injective p q e)))
is_in-at (p ∷ ps) (suc k) q e = either_way (eqb p.number q.number) (is_in q.number ps) (is_in-at ps k q e)
  where
    either_way : (b t : Bool) → t ≡ true → cond b true t ≡ true
    either_way true t h = refl
    either_way false t h = h

-- which part it is
found_in : (c : ℕ) (ps : List Caller) → is_in c ps ≡ true → ((k : ℕ) × (q : Caller) × (get_elem? ps k ≡ some q) × (q.number ≡ c))
unfolding is_in
found_in c [] e = absurd (cc)
found_in c (p ∷ ps) e = dite (ℕ_discrete p.number c) (λ is. (0, p, refl, is))
    (λ ne. let r = found_in c ps (sym (ap (λ b. cond b true (is_in c ps)) (ne_eqb p.number c ne)) ∙ e) in (suc r.0, r.1, r.2, r.3))

sent : List Caller → ℕ → (ℕ → ℕ) → ℕ → ℕ
sent ps n seat c = cond (is_in c ps) n (seat c)

sent_in : (ps : List Caller) (n : ℕ) (seat : ℕ → ℕ) (k : ℕ) (q : Caller) → get_elem? ps k ≡ some q → sent ps n seat q.number ≡ n
unfolding sent
sent_in ps n seat k q at = ap (λ b. cond b n (seat q.number)) (is_in-at ps k q at)

sent_else : (ps : List Caller) (n : ℕ) (seat : ℕ → ℕ) (c : ℕ) → ((k : ℕ) (q : Caller) → get_elem? ps k ≡ some q → q.number ≢ c) → sent ps n seat c ≡ seat c
unfolding sent
sent_else ps n seat c not = go (is_in c ps) refl
  where
    go : (b : Bool) → is_in c ps ≡ b → cond b n (seat c) ≡ seat c
    go true e = let r = found_in c ps e in absurd (not r.0 r.1 r.2 r.3)
    go false e = refl

first_at : (ps : List Caller) (k : ℕ) (q : Caller) → get_elem? (first_of ps) k ≡ some q → (get_elem? (first_of ps) 0 ≡ some q) × (get_elem? ps 0 ≡ some q)
first_at [] k q e = absurd (some-ne-none q (sym e))
first_at (p ∷ ps) zero q e = (e, e)
first_at (p ∷ ps) (suc k) q e = absurd (some-ne-none q (sym e))

rest_at : (ps : List Caller) (k : ℕ) (q : Caller) → get_elem? (rest_of ps) k ≡ some q → get_elem? ps (suc k) ≡ some q
rest_at [] k q e = absurd (some-ne-none q (sym e))
rest_at (p ∷ ps) k q e = e

module _ (key : Start) where
  pub splits : (id : ℕ) (v : View) → IsFirstApart v → Splits (Stands key) id v (head_view v) (tail_view v)
  splits id v away s h at = let n : ℕ = length s.views in let seat : ℕ → ℕ = sent (rest_of v.parts) n h.seat in record {
    core = h.core;
    seat = seat;
    words = h.words;
    views = λ i k u q e f. ⊎_elim
        (λ (t : (i < length (set s.views id (head_view v))) × (get_elem? (set s.views id (head_view v)) i ≡ some u)). ⊎_elim
        (λ (t' : (i ≡ id) × (head_view v ≡ u)).
        let g = first_at v.parts k q (ap (λ (u : View). get_elem? u.parts k) t'.1 ∙ f) in
        subst (λ (z : ℕ). Carries h.core seat z q) (sym t'.0) (carries_moved h.core h.seat seat id id q (h.views id 0 v q at g.1) (λ e. sent_else (rest_of v.parts) n h.seat q.number (λ k p at. away k q p g.0 at) ∙ e)))
        (λ (t' : (i ≢ id) × (get_elem? s.views i ≡ some u)). carries_moved h.core h.seat seat i i q (h.views i k u q t'.1 f) (λ mine. sent_else (rest_of v.parts) n h.seat q.number
        (λ m p m_at e. let p_old = h.views id (suc m) v p at (rest_at v.parts m p m_at) in t'.0 (sym mine ∙ (ap h.seat (sym e) ∙ p_old.mine))) ∙ mine))
        (at_set s.views id i (head_view v) u t.1))
        (λ (t : (i ≡ length (set s.views id (head_view v))) × (tail_view v ≡ u)).
        let g : get_elem? (rest_of v.parts) k ≡ some q = ap (λ (u : View). get_elem? u.parts k) t.1 ∙ f in
        let here : n ≡ i = sym (length-set s.views id (head_view v)) ∙ sym t.0 in
        subst (λ (z : ℕ). Carries h.core seat z q) here (carries_moved h.core h.seat seat id n q (h.views id (suc k) v q at (rest_at v.parts k q g)) (λ _. sent_in (rest_of v.parts) n h.seat k q g)))
        (snoc_at (set s.views id (head_view v)) (tail_view v) u i e);
    kept = h.kept;
  }
