-- The passes of a new table.
use Rattle.std.proofs.lemmas.Bool.{false≢true}
use Rattle.std.proofs.Common.{◌≡◌, ⊎_elim, inl, ℕ, zero, suc, ◌+◌, ◌*◌, ◌<◌, List, [], ◌∷◌, length, None, Some, sym, refl, ap, ◌∙◌, subst, arith}
use lib.ListN.{get_elem?}
use Rattle.atomic_table.specs.declared.shared.Seat.{Seat}
use Rattle.crq_rule.specs.declared.debts.CutDebt.{CutDebt}
use Rattle.crq_rule.specs.declared.layout.Start.{Start}
use Rattle.crq_rule.specs.declared.view.Caller.{Caller}
use Rattle.crq_rule.specs.declared.view.View.{View}
use Rattle.crq_rule.specs.declared.pass.Pass.{Pass}
use Rattle.crq_rule.specs.declared.pass.Rest.{Rest}
use Rattle.crq_rule.specs.declared.pass.Table.{Table}
use Rattle.crq_rule.specs.declared.pass.Seating.{Seating}
use Rattle.crq_rule.specs.declared.pass.Seating.TheVariants.{Here, Resting}
use Rattle.crq_rule.specs.Rule.{fresh, fresh_from}
use Rattle.crq_rule.specs.Moves.{Lawful}
use Rattle.crq_rule.specs.Opening.{IsFresh, IsOpening, no_debts}
use Rattle.crq_rule.proofs.ScarceLaws.{none_base}
use Rattle.crq_rule.proofs.Counting.{rows_in}
use Rattle.crq_rule.proofs.ListOpening.{no_sight, no_settle, no_copy}
use Rattle.crq_rule.proofs.Openings.{fresh_at, none_control, none_help}
use Rattle.crq_rule.proofs.HolderLaws.{none_some}
use Rattle.crq_rows.specs.Passes.{first_part, IsOwed, IsNew, AreNew}
use Rattle.crq_rows.specs.Waking.{AllRest, pass_of, AllWoken}

no_debt : (d : CutDebt) → None ≡ Some d → ⊥
no_debt d is = cc

-- a caller at the start
pub fresh_lawful : (start : Start) (n : ℕ) → n < start.layout.workers → Lawful (fresh start n)
fresh_lawful start n b = record {
  inside = b;
  epochs = λ e i. absurd i;
  hand = λ r i. rows_in (n * start.layout.home) start.layout.home r i;
  cut = λ x is. absurd (none_some x is);
  tags = λ x t is. absurd (none_some x is);
  ripening = λ r t i. absurd i;
  stands = λ s i. absurd i;
  last = λ s l i. absurd i;
  apart = λ r s _ i. absurd i;
  on = λ s i. absurd i;
  agree = λ s t i. absurd i;
  owed_at = λ d x is. absurd (⊎_elim (no_debt d) (no_debt d) is);
  owed_fits = λ d is. absurd (⊎_elim (no_debt d) (no_debt d) is);
  ordered = λ _. refl;
  owed_now = λ d x _ is. absurd (⊎_elim (no_debt d) (no_debt d) is);
  one_name = λ _. refl;
  copying = λ d is. absurd (no_copy d is);
  owing = λ d is. absurd (no_settle d is);
  scarce = λ b vain. absurd (none_base b vain.0);
  sighted = λ s is. absurd (no_sight s is);
  loaded = λ h n is _. absurd (none_help h is);
  pinned = λ h n is _. absurd (none_help h is);
  permitted = λ x has _. absurd (false≢true has);
  controlled = λ x is. absurd (none_control x is);
  helping = λ h is. absurd (none_help h is);
}

new_pass : (table : Table) (seat : Seat (Unit {0}) View) (n : ℕ) (rest : Rest) → n < table.start.layout.workers → seat.table_id ≡ table.inner.shared.table_id → seat.me ≡ (record { parts = fresh table.start n ∷ [] }, [])
    → IsFresh table.start.layout n rest → IsNew table n (pass_of seat n rest)
new_pass table seat n rest b id me new = let parts : seat.me.0.parts ≡ fresh table.start n ∷ [] = ap (λ m. m.0.parts) me in
    let part : first_part table.start seat.me.0.parts ≡ fresh table.start n = ap (first_part table.start) parts in record {
      is = record {
        sits = record {
          seated = id;
          bare = ap (λ m. m.1) me;
          one = parts ∙ ap (λ p. p ∷ []) (sym part);
          numbered = ap (λ (p : Caller). p.number) part;
          inside = b;
          started = ap (λ (p : Caller). p.start) part;
        };
        lawful = subst Lawful (sym part) (fresh_lawful table.start n b);
        free = new.free ∙ sym (ap (λ (p : Caller). p.hand) part);
        room = new.room;
        debts = let owed : rest.debts ≡ no_debts = new.debts in subst (λ (p : Caller). IsOwed rest.debts p.debts) (sym part) (subst (λ d. IsOwed d no_debts) (sym owed) record { settle = inl refl; copy = refl; names = inl (inl refl) });
      };
      number = refl;
      part = part;
      turns = refl;
    }

same_rest : (r s : Rest) → Some (Resting r) ≡ Some (Resting s) → r ≡ s
same_rest r s e = cc

length_fresh : (s : Start) (j n : ℕ) → length (fresh_from s j n) ≡ n
length_fresh s j zero = refl
length_fresh s j (suc n) = let r = length_fresh s (j + 1) n in omega arith

-- the callers of a new table rest
pub opening_rests : (table : Table) (seat : Seat (Unit {0}) View) (places : List Seating) → IsOpening table.start table seat places → AllRest table seat places
opening_rests table seat places o = let parts : seat.me.0.parts ≡ fresh_from table.start 0 table.start.layout.workers = ap (λ m. m.0.parts) o.me in record {
  wide = o.resting.wide;
  seated = o.seated;
  bare = ap (λ m. m.1) o.me;
  parts = ap length parts ∙ length_fresh table.start 0 table.start.layout.workers;
  each = λ k p at. let f = fresh_at table.start 0 table.start.layout.workers k p (ap (λ ps. get_elem? ps k) (sym parts) ∙ at) in let r = o.resting.each k f.0 in (ap (λ (q : Caller). q.number) f.1 ∙ omega arith, (r.0, r.1));
}

-- and once they are woken, their passes are new
pub woken_new : (table : Table) (seat : Seat (Unit {0}) View) (places now : List Seating) → IsOpening table.start table seat places → AllWoken table seat places now → AreNew table now
woken_new table seat places now o w = let parts : seat.me.0.parts ≡ fresh_from table.start 0 table.start.layout.workers = ap (λ m. m.0.parts) o.me in record {
  wide = w.wide;
  each = λ k b. let h = w.each k b in let f = fresh_at table.start 0 table.start.layout.workers k h.part (ap (λ ps. get_elem? ps k) (sym parts) ∙ h.carried) in let r = o.resting.each k b in let is : 0 + k ≡ k = omega arith in (
    pass_of h.alone k h.rest,
    h.here,
    new_pass table h.alone k h.rest b h.seated (h.me ∙ ap (λ (p : Caller). (record { parts = p ∷ [] }, [])) (f.1 ∙ ap (fresh table.start) is)) (subst (IsFresh table.start.layout k) (same_rest r.0 h.rest (sym r.1 ∙ h.rested)) r.2),
  );
}

pub same_pass : (p q : Pass) → Some (Here p) ≡ Some (Here q) → p ≡ q
same_pass p q e = cc
