-- Single steps on current as parts of a call.
use Rattle.std.proofs.Common.{◌≡◌, ℕ, ◌<◌, ◌≤◌, cond, Bool, true, List, [], ◌∷◌, ◌++◌, length, drop, Some, refl, sym, ap, ◌∙◌, subst, arith}
use Rattle.std.proofs.lemmas.List.{append-nil, length-append}
use Rattle.crq_base.specs.declared.entry.Entry.{Entry}
use Rattle.crq_base.specs.declared.kinds.StepKind.TheVariants.{CurrentLoad}
use Rattle.crq_base.specs.declared.words.Current.{Current}
use Rattle.crq_base.specs.Words.{current_word}
use Rattle.crq_rule.specs.declared.debts.Debts.{Debts}
use Rattle.crq_rule.specs.declared.pass.Pass.{Pass}
use Rattle.crq_rule.specs.declared.pass.Table.{Table}
use Rattle.crq_rule.specs.declared.view.Made.{Made}
use Rattle.crq_rule.specs.declared.view.Caller.{Caller}
use Rattle.crq_rule.specs.Places.{index, current}
use Rattle.crq_rule.specs.CurrentKinds.{loads_current}
use Rattle.crq_rows.specs.Passes.{caller, IsPassOf, load_made, counted}
use Rattle.crq_rows.specs.Known.{is_exchange, last_known, Expects}
use Rattle.crq_rows.proofs.Knowing.{found_known}
use Rattle.crq_current.specs.Positions.{Viewed}
use Rattle.crq_queue.specs.Wholes.{IsResting}
use Rattle.crq_queue.specs.Runs.{RanAs, RanUnraised, ToldMore, MayRun, current_known}
use Rattle.crq_queue.proofs.RunLaws.{load_both, told_same}

-- One exchange

pub ran_exchange : {Makes : List Made → Type 0} {table : Table} {n budget : ℕ} {old new : Pass} (m : Made) (entries : List Entry) → MayRun table n budget old → old.turns < budget → IsPassOf table new → new.number ≡ old.number → new.debts.copy ≡ old.debts.copy → new.debts.second_cut ≡ old.debts.second_cut
    → new.turns ≡ counted old.turns → is_exchange m.kind ≡ true → Expects n (caller table old).made m → Makes (m ∷ []) → (caller table new).made ≡ (caller table old).made ++ m ∷ [] → (caller table new).deal ≡ (caller table old).deal → (caller table new).told ≡ (caller table old).told
    → (caller table new).own ≡ (caller table old).own ++ entries → RanAs Makes table n budget old new entries
ran_exchange {Makes} {table} {n} {budget} {old} {new} m entries may room is number copy second_cut turns swaps expects makes made deal told own = let low = may.low in record {
  is = is;
  number = number;
  deal = deal;
  own = own;
  told = told_same told;
  copy = copy;
  second_cut = second_cut;
  since = m ∷ [];
  made = made;
  fair = (expects, tt);
  turns = let one : cond {A = ℕ} (is_exchange m.kind) 1 0 ≡ 1 = ap (λ (b : Bool). cond {A = ℕ} b 1 0) swaps in omega arith;
  makes = makes;
  within = omega arith;
  counted = let k = may.counted in let more = ap length made in let by = length-append (caller table old).made (m ∷ []) in omega arith;
}

-- what loads of current tell
told_loaded : (walks : Bool) (y : Current) (p : Caller) → ToldMore p (loads_current walks y p)
told_loaded walks y p = record { tables = omega arith; settled = omega arith }

-- A load

module _ {table : Table} {old new : Pass} {walks : Bool} {y : Current} (v : Viewed table old new walks y) where
  abbrev pub view_made : Made
  view_made = load_made CurrentLoad (index table.start.layout current) (current_word y)

  view_both : {n budget : ℕ} → MayRun table n budget old → (ran : RanUnraised table n budget 0 old new []) × (ran.since ≡ view_made ∷ [])
  view_both may = load_both view_made [] may v.is (ap (λ (p : Pass). p.number) v.same) (ap (λ (p : Pass). p.debts.copy) v.same) (ap (λ (p : Pass). p.debts.second_cut) v.same) (ap (λ (p : Pass). p.turns) v.same) refl
      (omega arith, refl) (ap (λ (p : Caller). p.made) v.part) (ap (λ (p : Caller). p.deal) v.part) (subst (ToldMore (caller table old)) (sym v.part) (record { tables = (told_loaded walks y (caller table old)).tables; settled = (told_loaded walks y (caller table old)).settled }))
      (ap (λ (p : Caller). p.own) v.part ∙ sym (append-nil (caller table old).own))

  pub view_ran : {n budget : ℕ} → MayRun table n budget old → RanUnraised table n budget 0 old new []
  view_ran may = (view_both may).0

  pub view_rests : IsResting table old → IsResting table new
  view_rests r = let debts = ap (λ (p : Pass). p.debts) v.same in record {
    is = v.is;
    guard = ap (λ (p : Caller). p.guard) v.part ∙ r.guard;
    cut = ap (λ (p : Caller). p.cut) v.part ∙ r.cut;
    settle = ap (λ (p : Caller). p.debts.settle) v.part ∙ (r.settle ∙ sym (ap (λ (d : Debts). d.settle) debts));
    copy = ap (λ (d : Debts). d.copy) debts ∙ r.copy;
    second_cut = ap (λ (d : Debts). d.second_cut) debts ∙ r.second_cut;
  }

  pub view_known : {n : ℕ} → n ≤ length (caller table old).made → last_known (drop n (caller table new).made) (index table.start.layout current) ≡ Some (current_word y)
  view_known {n} counted = ap (λ ms. last_known (drop n ms) (index table.start.layout current)) (ap (λ (p : Caller). p.made) v.part) ∙ found_known n (caller table old).made view_made (index table.start.layout current) counted refl refl

  -- after it current is known to be there
  pub viewed_known : {n budget : ℕ} (may : MayRun table n budget old) → current_known (view_ran may).since ≡ Some (current_word y)
  unfolding view_ran
  viewed_known may = ap current_known (view_both may).1
