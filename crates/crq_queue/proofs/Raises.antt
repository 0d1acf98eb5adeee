-- Raising current, as a part of a take.
use Rattle.std.proofs.Common.{◌≡◌, ◌≢◌, ℕ, ◌+◌, ◌*◌, ◌/◌, ◌^◌, ◌<◌, ◌≤◌, ◌==◌, cond, Bool, true, false, [], ◌∷◌, ◌++◌, drop, Some, Ok, Err, refl, sym, ap, ◌∙◌, subst, arith}
use Rattle.std.proofs.lemmas.List.{append-nil}
use Rattle.std.proofs.lemmas.Nat.{pow_pos}
use Rattle.std.proofs.Math.Nat.{lt-div-mul-add, add-mul}
use Rattle.crq_base.specs.declared.kinds.StepKind.TheVariants.{Raise}
use Rattle.crq_base.specs.declared.words.Control.{Control}
use Rattle.crq_base.specs.declared.words.Current.{Current}
use Rattle.crq_base.specs.Words.{current_word}
use Rattle.crq_rule.specs.declared.pass.Pass.{Pass}
use Rattle.crq_rule.specs.declared.pass.Table.{Table}
use Rattle.crq_rule.specs.declared.view.Made.{Made}
use Rattle.crq_rule.specs.declared.view.Caller.{Caller}
use Rattle.crq_rule.specs.Parts.{IsOn}
use Rattle.crq_rule.specs.Places.{index, current}
use Rattle.crq_rule.specs.Kinds.{makes}
use Rattle.crq_rule.specs.Ranks.{bucket, first_tick}
use Rattle.crq_rule.specs.CurrentKinds.{next_position, raises, MayRaise}
use Rattle.crq_rows.specs.Passes.{caller, IsPassOf, step_made}
use Rattle.crq_rows.specs.Known.{last_known}
use Rattle.crq_current.specs.Positions.{Raised}
use Rattle.crq_queue.specs.declared.runs.Spent.{Spent}
use Rattle.crq_queue.specs.declared.taking.Round.TheVariants.{On}
use Rattle.crq_queue.specs.Runs.{Raising, MayRun}
use Rattle.crq_queue.specs.Stages.{WalkedOut, RaiseEnded, RoundGoesOn}
use Rattle.crq_queue.proofs.RunLaws.{used_up}
use Rattle.crq_queue.proofs.CurrentRuns.{ran_exchange}

abbrev step_of_raise : Table → Control → Current → ℕ → Made
step_of_raise table x y found = step_made Raise (index table.start.layout current) (current_word y) (current_word (next_position x y)) found

-- the next bucket begins later
later_tick : (x : Control) (y : Current) → y.tick < (next_position x y).tick
unfolding bucket first_tick
later_tick x y = let less = lt-div-mul-add {a = y.tick} (pow_pos x.shift) in let sum = add-mul (y.tick / 2 ^ x.shift) 1 (2 ^ x.shift) in omega arith

next_apart : (x : Control) (y : Current) → current_word y ≢ current_word (next_position x y)
unfolding current_word
next_apart x y e = let less = later_tick x y in omega arith

-- one raise more in a row, or none after one that failed
raise_wins : (table : Table) (x : Control) (y : Current) (found most from : ℕ) → (found == current_word y) ≡ true → Raising most from (from + 1) (step_of_raise table x y found ∷ [])
raise_wins table x y found most from is = (
  refl,
  ap (λ (b : Bool). cond {A = ℕ} b (from + 1) 0) is,
  let one : cond {A = ℕ} (found == current_word y) 1 0 ≡ 1 = ap (λ (b : Bool). cond {A = ℕ} b 1 0) is in let none : cond {A = ℕ} (found == current_word y) 0 1 ≡ 0 = ap (λ (b : Bool). cond {A = ℕ} b 0 1) is in omega arith,
)

raise_fails : (table : Table) (x : Control) (y : Current) (found most from : ℕ) → from ≤ most → (found == current_word y) ≡ false → Raising most from 0 (step_of_raise table x y found ∷ [])
raise_fails table x y found most from few is = (
  refl,
  ap (λ (b : Bool). cond {A = ℕ} b (from + 1) 0) is,
  let one : cond {A = ℕ} (found == current_word y) 1 0 ≡ 0 = ap (λ (b : Bool). cond {A = ℕ} b 1 0) is in let none : cond {A = ℕ} (found == current_word y) 0 1 ≡ 1 = ap (λ (b : Bool). cond {A = ℕ} b 0 1) is in
      subst (λ f. cond {A = ℕ} (found == current_word y) 1 0 + 0 + from ≤ most * (f + 0) + 0) (sym none) (omega arith),
)

module _ {table : Table} {x : Control} {y : Current} {a : Pass} (w : WalkedOut table x y a) where
  -- there is a next bucket
  pub may_raise : (next_position x y).tick < 2 ^ 32 → MayRaise x y (caller table a)
  may_raise room = record { sight = w.sight; walks = (w.walked.3.0, w.walked.3.1, w.walked.3.2, w.walked.3.3); room = room }

  pub raise_late : {t : Spent} {n budget : ℕ} (from : ℕ) → IsPassOf table a → (next_position x y).tick < 2 ^ 32 → a.turns ≤ budget → budget ≤ a.turns → last_known (drop n (caller table a).made) (index table.start.layout current) ≡ Some (current_word y) → RaiseEnded table n budget x from a a (Err t)
  raise_late from of room within used known = (refl, used_up of within used (record { control = x; current = y; may = may_raise room; known = known }))

  module _ {b : Pass} {won : Bool} (r : Raised table a b x y won) where
    raised_part : (t : Bool) → won ≡ t → caller table b ≡ makes (step_of_raise table x y r.found) (cond t (raises (caller table a)) (caller table a))
    raised_part t is = r.part ∙ ap (λ z. makes (step_of_raise table x y r.found) (cond z (raises (caller table a)) (caller table a))) is

    -- all but the walk stays
    module _ (guard : (caller table b).guard ≡ (caller table a).guard) (cut : (caller table b).cut ≡ (caller table a).cut) (found : (caller table b).found ≡ (caller table a).found) (settle : (caller table b).debts.settle ≡ (caller table a).debts.settle)
        (sight : (caller table b).sight ≡ (caller table a).sight) (own : (caller table b).own ≡ (caller table a).own) (deal : (caller table b).deal ≡ (caller table a).deal) (told : (caller table b).told ≡ (caller table a).told) (made : (caller table b).made ≡ (caller table a).made ++ step_of_raise table x y r.found ∷ []) where
      raise_goes_on : {n budget from to : ℕ} → MayRun table n budget a → a.turns < budget → last_known (drop n (caller table a).made) (index table.start.layout current) ≡ Some (current_word y) → Raising (2 ^ x.log) from to (step_of_raise table x y r.found ∷ []) → to ≤ 2 ^ x.log → RoundGoesOn table n budget x from to a b
      raise_goes_on may room known steps few = let turns = r.turns in let low = may.low in record {
        ran = ran_exchange (step_of_raise table x y r.found) [] may room r.is (ap (λ (p : Pass). p.number) r.same) (ap (λ (p : Pass). p.debts.copy) r.same) (ap (λ (p : Pass). p.debts.second_cut) r.same) r.turns refl (λ _. (known, next_apart x y)) steps made deal told (own ∙ sym (append-nil (caller table a).own));
        keeps = record {
          inside = record { on = subst IsOn (sym guard) w.inside.on; uncut = cut ∙ w.inside.uncut; control = ap (λ f. f.control) found ∙ w.inside.control };
          debts = ap (λ (p : Pass). p.debts) r.same;
          event = record { run = ap (λ (p : Pass). p.debts.settle) r.same; known = settle };
        };
        few = few;
        more = omega arith;
        sees = (y, sight ∙ w.sight, tt);
      }

    module _ {n budget from : ℕ} (may : MayRun table n budget a) (room : a.turns < budget) (known : last_known (drop n (caller table a).made) (index table.start.layout current) ≡ Some (current_word y)) (few : from < 2 ^ x.log) where
      pub raise_done : won ≡ true → RaiseEnded table n budget x from a b (Ok (On (from + 1)))
      raise_done is = let part = raised_part true is in raise_goes_on (ap (λ (p : Caller). p.guard) part) (ap (λ (p : Caller). p.cut) part) (ap (λ (p : Caller). p.found) part) (ap (λ (p : Caller). p.debts.settle) part)
          (ap (λ (p : Caller). p.sight) part) (ap (λ (p : Caller). p.own) part) (ap (λ (p : Caller). p.deal) part) (ap (λ (p : Caller). p.told) part) (ap (λ (p : Caller). p.made) part) may room known (raise_wins table x y r.found (2 ^ x.log) from (r.won_is ∙ is)) (omega arith)

      pub raise_failed : won ≡ false → RaiseEnded table n budget x from a b (Ok (On 0))
      raise_failed is = let part = raised_part false is in raise_goes_on (ap (λ (p : Caller). p.guard) part) (ap (λ (p : Caller). p.cut) part) (ap (λ (p : Caller). p.found) part) (ap (λ (p : Caller). p.debts.settle) part)
          (ap (λ (p : Caller). p.sight) part) (ap (λ (p : Caller). p.own) part) (ap (λ (p : Caller). p.deal) part) (ap (λ (p : Caller). p.told) part) (ap (λ (p : Caller). p.made) part) may room known (raise_fails table x y r.found (2 ^ x.log) from (omega arith) (r.won_is ∙ is)) (omega arith)
