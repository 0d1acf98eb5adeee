-- Callers that rest are woken one after another.
use Rattle.std.proofs.Common.{◌≡◌, ℕ, suc, ◌+◌, ◌-◌, ◌<◌, ◌≤◌, List, [], ◌∷◌, length, set, Some, sym, refl, ap, ◌∙◌, subst, arith, length-set, le_refl}
use Rattle.std.specs.Prelude.{slice_get}
use mathlib.Core.Option.{some, some-injective}
use mathlib.Core.Logic.{dite}
use native.Mathlib.Decide.{ℕ_discrete}
use lib.ListN.{get_elem?}
use Rattle.atomic_table.specs.declared.shared.Seat.{Seat}
use Rattle.crq_rule.specs.declared.pass.Rest.{Rest}
use Rattle.crq_rule.specs.declared.pass.Table.{Table}
use Rattle.crq_rule.specs.declared.pass.Seating.{Seating}
use Rattle.crq_rule.specs.declared.pass.Seating.TheVariants.{Here, Resting}
use Rattle.crq_rule.specs.declared.view.Caller.{Caller}
use Rattle.crq_rule.specs.declared.view.View.{View}
use Rattle.crq_rule.specs.Rule.{head_view, tail_view, first_of, rest_of as parts_after, IsFirstApart}
use Rattle.crq_rows.specs.Waking.{AllRest, pass_of, IsWoken, AllWoken}
use Rattle.crq_rows.proofs.Slots.{get_here, get_else}

-- the callers below n are woken, and the seat carries those from n on
pub record Waking (table : Table) (all : Seat (Unit {0}) View) (places now : List Seating) (seat : Seat (Unit {0}) View) (n : ℕ) : Type 0 where
  pub rest : AllRest table all places
  pub wide : length now ≡ table.start.layout.workers
  pub here : (k : ℕ) → k < n → IsWoken table all places now k
  pub left : (k : ℕ) → n ≤ k → slice_get now k ≡ slice_get places k
  pub seated : seat.table_id ≡ table.inner.shared.table_id
  pub bare : seat.me.1 ≡ []
  pub parts : length seat.me.0.parts + n ≡ table.start.layout.workers
  pub each : (k : ℕ) → get_elem? seat.me.0.parts k ≡ get_elem? all.me.0.parts (n + k)

pub waking_first : (table : Table) (all : Seat (Unit {0}) View) (places : List Seating) → AllRest table all places → Waking table all places places all 0
waking_first table all places r = record {
  rest = r;
  wide = r.wide;
  here = λ k b. absurd (omega arith);
  left = λ k b. refl;
  seated = r.seated;
  bare = r.bare;
  parts = let l = r.parts in omega arith;
  each = λ k. let is : k ≡ 0 + k = omega arith in ap (get_elem? all.me.0.parts) is;
}

-- all callers but the last one are woken
pub waking_end : (table : Table) (all : Seat (Unit {0}) View) (places now : List Seating) (seat : Seat (Unit {0}) View) (n : ℕ) → Waking table all places now seat n → table.start.layout.workers - 1 ≤ n → n ≤ table.start.layout.workers - 1
    → Waking table all places now seat (table.start.layout.workers - 1)
waking_end table all places now seat n d low high = subst (Waking table all places now seat) (omega arith) d

first_one : (ps : List Caller) → 0 < length ps → ((p : Caller) × (rest : List Caller) × (ps ≡ p ∷ rest))
first_one [] b = absurd (omega arith)
first_one (p ∷ ps) b = (p, ps, refl)

none_left : (ps : List Caller) → length ps ≡ 0 → ps ≡ []
none_left [] e = refl
none_left (p ∷ ps) e = absurd (omega arith)

module _ (table : Table) (all : Seat (Unit {0}) View) (places now : List Seating) (seat : Seat (Unit {0}) View) (n : ℕ) (d : Waking table all places now seat n) (b : n < table.start.layout.workers) where
  -- the caller that is next, and those after it
  next_one : (p : Caller) × (ps : List Caller) × (seat.me.0.parts ≡ p ∷ ps)
  next_one = first_one seat.me.0.parts (let l = d.parts in omega arith)

  next_at : get_elem? all.me.0.parts n ≡ some next_one.0
  next_at = let is : n + 0 ≡ n = omega arith in ap (get_elem? all.me.0.parts) (sym is) ∙ (sym (d.each 0) ∙ ap (λ ps. get_elem? ps 0) next_one.2)

  pub waking_rest : (rest : Rest) × (slice_get now n ≡ Some (Resting rest))
  waking_rest = let r = d.rest.each n next_one.0 next_at in (r.1.0, d.left n (le_refl n) ∙ r.1.1)

  pub waking_apart : IsFirstApart seat.me.0
  waking_apart k p q f e is = let parts = next_one.2 in let first : next_one.0 ≡ p = some-injective next_one.0 p (ap (λ ps. get_elem? (first_of ps) 0) (sym parts) ∙ f) in
      let there : get_elem? all.me.0.parts (n + suc k) ≡ some q = sym (d.each (suc k)) ∙ (ap (λ ps. get_elem? ps (suc k)) parts ∙ (ap (λ ps. get_elem? (parts_after ps) k) (sym parts) ∙ e)) in
      let x : p.number ≡ n = ap (λ (p : Caller). p.number) (sym first) ∙ (d.rest.each n next_one.0 next_at).0 in let y : q.number ≡ n + suc k = (d.rest.each (n + suc k) q there).0 in omega arith

  module _ (now' : List Seating) (seat' : Seat (Unit {0}) View) (rest : Rest) (at : slice_get now n ≡ Some (Resting rest)) (is : now' ≡ set now n (Here (pass_of seat' n rest)))
      (same : seat'.table_id ≡ seat.table_id) (me : seat'.me ≡ (record { parts = next_one.0 ∷ [] }, [])) where
    -- the caller n is woken, of the seat that carries it alone
    woken : (k : ℕ) → k < n + 1 → IsWoken table all places now' k
    woken k l = let w = d.wide in dite (ℕ_discrete n k)
        (λ here. subst (IsWoken table all places now') here record {
          alone = seat';
          part = next_one.0;
          rest = rest;
          carried = next_at;
          rested = sym (d.left n (le_refl n)) ∙ at;
          here = ap (λ ps. slice_get ps n) is ∙ get_here now n (Here (pass_of seat' n rest)) (omega arith);
          seated = same ∙ d.seated;
          me = me;
        })
        (λ ne. let h = d.here k (omega arith) in record {
          alone = h.alone;
          part = h.part;
          rest = h.rest;
          carried = h.carried;
          rested = h.rested;
          here = ap (λ ps. slice_get ps k) is ∙ (get_else now n k (Here (pass_of seat' n rest)) (λ e. ne (sym e)) ∙ h.here);
          seated = h.seated;
          me = h.me;
        })

    as_wide : length now' ≡ table.start.layout.workers
    as_wide = ap length is ∙ (length-set now n (Here (pass_of seat' n rest)) ∙ d.wide)

  pub waking_more : (now' : List Seating) (seat' next : Seat (Unit {0}) View) (rest : Rest) → slice_get now n ≡ Some (Resting rest) → now' ≡ set now n (Here (pass_of seat' n rest)) → seat'.table_id ≡ seat.table_id
      → seat'.me ≡ (head_view seat.me.0, seat.me.1) → next.table_id ≡ seat.table_id → next.me ≡ (tail_view seat.me.0, []) → Waking table all places now' next (n + 1)
  waking_more now' seat' next rest at is same me same' me' = let parts = next_one.2 in let after : next.me.0.parts ≡ next_one.1 = ap (λ m. m.0.parts) me' ∙ ap parts_after parts in
      let alone : seat'.me ≡ (record { parts = next_one.0 ∷ [] }, []) = me ∙ (λ i. (record { parts = ap first_of parts i }, d.bare i)) in record {
        rest = d.rest;
        wide = as_wide now' seat' rest at is same alone;
        here = woken now' seat' rest at is same alone;
        left = λ k l. ap (λ ps. slice_get ps k) is ∙ (get_else now n k (Here (pass_of seat' n rest)) (λ e. omega arith) ∙ d.left k (omega arith));
        seated = same' ∙ d.seated;
        bare = ap (λ m. m.1) me';
        parts = let l = d.parts in let x : length seat.me.0.parts ≡ length (next_one.0 ∷ next_one.1) = ap length parts in let y : length next.me.0.parts ≡ length next_one.1 = ap length after in omega arith;
        each = λ k. let is : n + suc k ≡ n + 1 + k = omega arith in ap (λ ps. get_elem? ps k) after ∙ (ap (λ ps. get_elem? ps (suc k)) (sym parts) ∙ (d.each (suc k) ∙ ap (get_elem? all.me.0.parts) is));
      }

  -- the last one is woken
  pub waking_last : (now' : List Seating) (rest : Rest) → n + 1 ≡ table.start.layout.workers → slice_get now n ≡ Some (Resting rest) → now' ≡ set now n (Here (pass_of seat n rest)) → AllWoken table all places now'
  waking_last now' rest last at is = let parts = next_one.2 in let none = none_left next_one.1 (let l = d.parts in let x : length seat.me.0.parts ≡ length (next_one.0 ∷ next_one.1) = ap length parts in omega arith) in
      let alone : seat.me ≡ (record { parts = next_one.0 ∷ [] }, []) = λ i. (record { parts = (parts ∙ ap (λ ps. next_one.0 ∷ ps) none) i }, d.bare i) in record {
        wide = as_wide now' seat rest at is refl alone;
        each = λ k l. woken now' seat rest at is refl alone k (omega arith);
      }
