-- Whole takes, each made of stages.
use Rattle.std.proofs.Common.{◌≡◌, ◌⊎◌, ⊎_elim, inl, inr, ℕ, ◌+◌, ◌*◌, ◌^◌, ◌<◌, ◌≤◌, List, [], ◌∷◌, ◌++◌, length, Option, Some, None, Result, Ok, Err, refl, sym, ap, ◌∙◌, subst, arith}
use Rattle.std.proofs.lemmas.List.{append-nil, append_assoc}
use Rattle.std.proofs.Math.Nat.{mul-add, mul-one}
use Rattle.crq_base.specs.declared.answers.Refusal.{Refusal}
use Rattle.crq_base.specs.declared.answers.Refusal.TheVariants.{Again, Held, Rows, Epochs}
use Rattle.crq_base.specs.declared.answers.Route.{Route}
use Rattle.crq_base.specs.declared.answers.Route.TheVariants.{Bucket as ByBucket, Search as BySearch}
use Rattle.crq_base.specs.declared.answers.TakeEnd.{TakeEnd}
use Rattle.crq_base.specs.declared.answers.TakeEnd.TheVariants.{Taken, Missed}
use Rattle.crq_base.specs.declared.entry.Entry.{Entry}
use Rattle.crq_base.specs.declared.entry.Entry.TheVariants.{Begin, Take, Miss}
use Rattle.crq_base.specs.declared.event.Event.{Event}
use Rattle.crq_base.specs.declared.words.Control.{Control}
use Rattle.crq_rule.specs.declared.debts.Debts.{Debts}
use Rattle.crq_rule.specs.declared.pass.Pass.{Pass}
use Rattle.crq_rule.specs.declared.pass.Table.{Table}
use Rattle.crq_rule.specs.declared.view.Made.{Made}
use Rattle.crq_rule.specs.HistoryParts.{EndsInBegin}
use Rattle.crq_rule.specs.ListKinds.{cut_debt}
use Rattle.crq_rows.specs.Passes.{caller, IsPassOf}
use Rattle.crq_list.specs.declared.cut.CutOp.{CutOp}
use Rattle.crq_list.specs.declared.parts.Place.{Place}
use Rattle.crq_queue.specs.declared.runs.Spent.{Spent}
use Rattle.crq_queue.specs.declared.taking.Caught.{Caught}
use Rattle.crq_queue.specs.Runs.{RanAs, Ran, RanRaising, Unraised, Raising, KeepsOwed, MayRun, IsInside, ticks_of, on_current, failures_of, raises_after, raises_in_row, current_known}
use Rattle.crq_queue.specs.Parts.{Entered, Left, CutNeeds, MarksBy}
use Rattle.crq_queue.specs.Stages.{CallBegun, CutsDebt, CutFinished, EventTaken, CatchNeeds, IsFinished, RanTaking}
use Rattle.crq_queue.specs.Calls.{Call, call, steps_before, OwesNothing, IsShort, FewRaises, TakeOn, CutOwed, IsFoundBy, TakeAnswers, settles}
use Rattle.crq_queue.proofs.RunLaws.{ran_calm, calm_raising, raising_join, used_on, ticks_append, won_append, failures_append, row_append, calm_won, calm_row, apart_raises, known_after, known_before, since_raising, since_as_raising, since_as_calm}
use Rattle.crq_queue.proofs.CallSteps.{IsAtWork, may_go, goes_inside, comes_to_rest}
use Rattle.crq_queue.proofs.CallEnds.{may_begun, begun_found, went_on}

-- The raises of a take are few

few_raises : (most row : ℕ) (xs ys : List Made) → row ≤ most → Unraised 0 xs → Raising most 0 row ys → (ticks_of (xs ++ ys) ≤ 3) × FewRaises most (xs ++ ys)
few_raises most row xs ys few calm raising = (
  let t = ticks_append xs ys in let u = calm.0 in let v = raising.0 in omega arith,
  let w = won_append xs ys in let none = calm_won xs calm.1 in let bound = raising.2 in
      let all : most * (1 + failures_of (xs ++ ys)) ≡ most + (most * failures_of xs + most * failures_of ys) = mul-add most 1 (failures_of (xs ++ ys)) ∙ (λ i. mul-one most i + (ap (λ z. most * z) (failures_append xs ys) ∙ mul-add most (failures_of xs) (failures_of ys)) i) in omega arith,
)

-- How an event was found is still so after steps that aren't on current

marks_on : {Makes : List Made → Type 0} {table : Table} {n k budget : ℕ} {x : Control} {place : Place} {e : Event} {mid new : Pass} → RanAs Makes table k budget mid new [] → MarksBy n table x place e mid → MarksBy n table x place e new
marks_on {Makes} {table} {n} {k} {budget} {x} {place} {e} {mid} ran m = record {
  before = m.before;
  op = m.op;
  place_is = m.place_is;
  at = m.at;
  ready = m.ready;
  number = ran.number ∙ m.number;
  own = ran.own ∙ (append-nil (caller table mid).own ∙ m.own);
  mark = m.mark;
  rest = m.rest ++ ran.since;
  kind = m.kind;
  made = ran.made ∙ (ap (λ ms. ms ++ ran.since) m.made ∙ append_assoc (caller table m.before).made (m.mark ∷ m.rest) ran.since);
}

still_in_row : (xs ms ys : List Made) → on_current xs ≡ 0 → on_current ys ≡ 0 → raises_in_row (xs ++ (ms ++ ys)) ≡ raises_in_row ms
still_in_row xs ms ys before after = row_append 0 xs (ms ++ ys) ∙ (ap (λ r. raises_after r (ms ++ ys)) (calm_row 0 xs (apart_raises xs before)) ∙ (row_append 0 ms ys ∙ calm_row (raises_after 0 ms) ys (apart_raises ys after)))

found_on : {table : Table} (n : ℕ) {k budget : ℕ} (x : Control) (e : Event) {mid new : Pass} (xs ms since : List Made) (route : Route) (ran : Ran table k budget mid new []) → on_current xs ≡ 0 → since ≡ xs ++ (ms ++ ran.since) → IsFoundBy n table x e ms mid route → IsFoundBy n table x e since new route
found_on n x e xs ms since (ByBucket tick) ran before is f = record { current = f.current; is = f.is; at = f.at; last = ap current_known is ∙ known_before xs (ms ++ ran.since) _ (known_after ms ran.since _ f.last ran.makes.1); up_to = f.up_to; marks = marks_on ran f.marks }
found_on n x e xs ms since (BySearch raises) ran before is f = record { row = f.row ∙ sym (ap raises_in_row is ∙ still_in_row xs ms ran.since before ran.makes.1); all = f.all; marks = marks_on ran f.marks }

-- What a take is to answer, when it is about to turn its guard off

-- since its Begin these entries were added, and so many raises were made in a row in the end
abbrev pub TakenSo : Call → Pass → Control → Pass → List Entry → Type 0
TakenSo c b x pass es = RanTaking c.table (steps_before c) c.budget x b pass es × ((y : Control) × IsAtWork c.table y pass)

abbrev pub Ends : (c : Call) → Pass → Control → ℕ → Pass → Result TakeEnd Refusal → Type 0
Ends c b x limit pass (Ok (Taken e route)) = (r : TakenSo c b x pass (Take c.old.number e ∷ [])) × (e.time < limit) × IsFoundBy (steps_before c) c.table x e r.0.ran.since pass route × (OwesNothing pass ⊎ CutOwed c x e pass)
Ends c b x limit pass (Ok Missed) = TakenSo c b x pass (Miss c.old.number limit ∷ []) × OwesNothing pass
Ends c b x limit pass (Err (Again turns)) = TakenSo c b x pass [] × OwesNothing pass × (turns ≡ c.budget) × IsShort c (λ n table. CatchNeeds n table limit) pass
Ends c b x limit pass (Err (Held holder)) = ⊥
Ends c b x limit pass (Err Rows) = ⊥
Ends c b x limit pass (Err Epochs) = ⊥

-- what the pass owed where the cut of its row ended
cut_left : (c : Call) (x : Control) (e : Event) (row : ℕ) (d f : Pass) (result : Result (Unit {0}) Spent) → f.debts.settle ≡ None → d.debts.cut ≡ Some (cut_debt x row e) → IsFinished c.table (steps_before c) c.budget d f result → OwesNothing f ⊎ CutOwed c x e f
cut_left c x e row d f (Ok u) settled owes done = inl (settled, done)
cut_left c x e row d f (Err s) settled owes done = inr (record { row = row; settled = settled; owes = done.0 ∙ owes; short = subst (λ owed. IsShort c (λ n table. CutNeeds n table owed) f) (sym done.0) done.1 })

module _ {table : Table} {budget : ℕ} {b : Pass} {x : Control} (old : Pass) (low : budget < 4294967296) (begun : CallBegun (call table budget old) b x) where
  module _ {c : Pass} (enter : (n budget : ℕ) → MayRun table n budget b → Entered table n budget b c) where
    entered : Entered table (length (caller table old).made) budget b c
    entered = enter (length (caller table old).made) budget (may_begun old low begun)

    may_entered : MayRun table (length (caller table old).made) budget c
    may_entered = may_go (may_begun old low begun) entered.ran

    pub take_within : c.turns ≤ budget
    take_within = entered.ran.within

    pub take_inside : IsAtWork table x c
    take_inside = goes_inside begun.rests (begun_found old low begun) entered

    pub take_began : EndsInBegin (caller table c).own
    take_began = ((caller table old).own ++ settles old, old.number, entered.ran.own ∙ (append-nil (caller table b).own ∙ (begun.ran.own ∙ sym (append_assoc (caller table old).own (settles old) (Begin old.number ∷ [])))))

    pub take_free : c.debts.cut ≡ None
    take_free = ap (λ (d : Debts). d.cut) entered.keeps.debts ∙ begun.free.1

    take_settled : c.debts.settle ≡ None
    take_settled = ap (λ (d : Debts). d.settle) entered.keeps.debts ∙ begun.free.0

    still_numbered : c.number ≡ old.number
    still_numbered = entered.ran.number ∙ begun.ran.number

    abbrev most : ℕ
    most = 2 ^ x.log

    -- a stage of the take, after the guard was turned on
    stage_taking : {d : Pass} (es : ℕ → List Entry) (r : RanTaking table (length (caller table old).made) budget x c d (es c.number)) → (q : RanTaking table (length (caller table old).made) budget x b d (es old.number)) × (q.ran.since ≡ entered.ran.since ++ r.ran.since)
    stage_taking {d} es r = let first = calm_raising most 0 (ran_calm entered.ran) in
        subst (λ j. (q : RanTaking table (length (caller table old).made) budget x b d (es j)) × (q.ran.since ≡ entered.ran.since ++ r.ran.since)) still_numbered
        (record { row = r.row; few = r.few; ran = raising_join most 0 0 r.row first r.ran }, since_raising most 0 0 r.row first r.ran ∙ ap (λ ms. ms ++ r.ran.since) (since_as_raising most 0 (ran_calm entered.ran) ∙ since_as_calm entered.ran))

    works_owed : {d : Pass} → IsPassOf table d → IsInside table x d → KeepsOwed table c d → d.debts.copy ≡ c.debts.copy → d.debts.second_cut ≡ c.debts.second_cut → IsAtWork table x d
    works_owed is inside owed copy second_cut = let w = take_inside in record { is = is; inside = inside; settle = owed.known ∙ (w.settle ∙ sym owed.run); copy = copy ∙ w.copy; second_cut = second_cut ∙ w.second_cut }

    module _ (limit : ℕ) (d : Pass) (answer : Option Caught) (catch : (n : ℕ) → MayRun table n budget c → EventTaken table n budget x limit c d (Ok answer)) where
      caught_so : {end : Option Caught} → answer ≡ end → EventTaken table (length (caller table old).made) budget x limit c d (Ok end)
      caught_so at = subst (λ z. EventTaken table (length (caller table old).made) budget x limit c d (Ok z)) at (catch (length (caller table old).made) may_entered)

      pub take_owes : {t : Caught} {k : CutOp} → answer ≡ Some t → k ≡ t.cut → IsAtWork table x d × (d.turns ≤ budget) × ((n : ℕ) × (y : Control) × CutsDebt n table y k d)
      take_owes at same = let t = caught_so at in (
        works_owed t.0.ran.is t.1.inside t.1.event t.0.ran.copy t.0.ran.second_cut,
        t.0.ran.within,
        (length (caller table old).made, x, subst (λ z. CutsDebt (length (caller table old).made) table x z d) (sym same) t.1.owed.cuts),
      )

      pub take_done : {t : Caught} {k : CutOp} {f : Pass} {cut : Result (Unit {0}) Spent} → answer ≡ Some t → k ≡ t.cut → ((n : ℕ) (y : Control) → MayRun table n budget d → CutsDebt n table y k d → CutFinished table n budget y d f cut)
          → Ends (call table budget old) b x limit f (Ok (Taken t.event t.route))
      take_done {t} {k} {f} {cut} at same finish = let n = length (caller table old).made in let q = caught_so at in let w = (take_owes at same).0 in
          let done = finish n x (may_go may_entered q.0.ran) (subst (λ z. CutsDebt n table x z d) (sym same) q.1.owed.cuts) in
          let s = stage_taking (λ j. Take j t.event ∷ []) q.0 in let last = calm_raising most s.0.row (ran_calm done.ran) in let both = raising_join most 0 s.0.row s.0.row s.0.ran last in
          let since : both.since ≡ entered.ran.since ++ (q.0.ran.since ++ done.ran.since) = since_raising most 0 s.0.row s.0.row s.0.ran last ∙ ((λ i. s.1 i ++ (since_as_raising most s.0.row (ran_calm done.ran) ∙ since_as_calm done.ran) i) ∙ append_assoc entered.ran.since q.0.ran.since done.ran.since) in (
            (
              record { row = s.0.row; few = s.0.few; ran = both },
              (x, record { is = done.ran.is; inside = done.inside; settle = done.event.known ∙ (w.settle ∙ sym done.event.run); copy = done.ran.copy ∙ w.copy; second_cut = done.ran.second_cut ∙ w.second_cut }),
            ),
            q.1.below,
            found_on n x t.event entered.ran.since q.0.ran.since both.since t.route done.ran entered.ran.makes.1 since q.2,
            cut_left (call table budget old) x t.event q.1.owed.row d f cut (done.event.run ∙ (q.1.event.run ∙ take_settled)) q.1.owed.owes done.finished,
          )

      pub take_missed : answer ≡ None → Ends (call table budget old) b x limit d (Ok Missed)
      take_missed at = let t = caught_so at in let w = take_inside in (
        (
          (stage_taking (λ j. Miss j limit ∷ []) t.0).0,
          (t.1.inside.0, record { is = t.0.ran.is; inside = t.1.inside.1; settle = t.1.event.known ∙ (w.settle ∙ sym t.1.event.run); copy = t.0.ran.copy ∙ w.copy; second_cut = t.0.ran.second_cut ∙ w.second_cut }),
        ),
        (t.1.event.run ∙ take_settled, ap (λ (d : Debts). d.cut) t.1.debts ∙ take_free),
      )

    pub take_late : (limit : ℕ) (d : Pass) {s : Spent} → ((n : ℕ) → MayRun table n budget c → EventTaken table n budget x limit c d (Err s)) → Ends (call table budget old) b x limit d (Err (Again budget))
    take_late limit d catch = let t = catch (length (caller table old).made) may_entered in (
      ((stage_taking (λ j. []) t.0).0, (x, works_owed t.0.ran.is t.1.inside t.1.event t.0.ran.copy t.0.ran.second_cut)),
      (t.1.event.run ∙ take_settled, ap (λ (d : Debts). d.cut) t.1.debts ∙ take_free),
      refl,
      t.2,
    )

  module _ (limit : ℕ) (pass : Pass) where
    pub ends_at_work : (end : Result TakeEnd Refusal) → Ends (call table budget old) b x limit pass end → (y : Control) × IsAtWork table y pass
    ends_at_work (Ok (Taken e route)) t = t.0.1
    ends_at_work (Ok Missed) t = t.0.1
    ends_at_work (Err (Again turns)) t = t.0.1
    ends_at_work (Err (Held holder)) t = absurd t
    ends_at_work (Err Rows) t = absurd t
    ends_at_work (Err Epochs) t = absurd t

    module _ {new : Pass} (leave : (n budget : ℕ) → MayRun table n budget pass → Left table n budget pass new) where
      -- its guard is off
      left : {es : List Entry} → RanTaking table (length (caller table old).made) budget x b pass es → Left table (length (caller table old).made) budget pass new
      left r = leave (length (caller table old).made) budget (may_go (may_begun old low begun) r.ran)

      abbrev left_ran : {es : List Entry} (r : RanTaking table (length (caller table old).made) budget x b pass es) → RanRaising table (length (caller table old).made) budget (2 ^ x.log) 0 r.row b new (es ++ [])
      left_ran r = raising_join (2 ^ x.log) 0 r.row r.row r.ran (calm_raising (2 ^ x.log) r.row (ran_calm (left r).ran))

      left_since : {es : List Entry} (r : RanTaking table (length (caller table old).made) budget x b pass es) → (left_ran r).since ≡ [] ++ (r.ran.since ++ (left r).ran.since)
      left_since r = since_raising (2 ^ x.log) 0 r.row r.row r.ran (calm_raising (2 ^ x.log) r.row (ran_calm (left r).ran)) ∙ ap (λ ms. r.ran.since ++ ms) (since_as_raising (2 ^ x.log) r.row (ran_calm (left r).ran) ∙ since_as_calm (left r).ran)

      abbrev left_on : {y : Control} {es : List Entry} (r : RanTaking table (length (caller table old).made) budget x b pass es) → IsAtWork table y pass → TakeOn (call table budget old) new (es ++ [])
      left_on r w = went_on old low begun {Whole = λ ms. (ticks_of ms ≤ 3) × FewRaises (2 ^ x.log) ms} (λ xs ys p q. few_raises (2 ^ x.log) r.row xs ys r.few p q) (λ ms whole. whole) (left_ran r) (comes_to_rest w (left r))

      still_nothing : Left table (length (caller table old).made) budget pass new → OwesNothing pass → OwesNothing new
      still_nothing l none = (ap (λ (d : Debts). d.settle) l.keeps.debts ∙ none.0, ap (λ (d : Debts). d.cut) l.keeps.debts ∙ none.1)

      still_cut : {e : Event} → Left table (length (caller table old).made) budget pass new → CutOwed (call table budget old) x e pass → CutOwed (call table budget old) x e new
      still_cut l o = let same = ap (λ (d : Debts). d.cut) l.keeps.debts in record {
        row = o.row;
        settled = ap (λ (d : Debts). d.settle) l.keeps.debts ∙ o.settled;
        owes = same ∙ o.owes;
        short = subst (λ owed. IsShort (call table budget old) (λ n table. CutNeeds n table owed) new) (sym same) (used_on o.short l.ran l.turns);
      }

      pub take_answered : (end : Result TakeEnd Refusal) → Ends (call table budget old) b x limit pass end → TakeAnswers (call table budget old) limit new end
      take_answered (Ok (Taken e route)) t = let l = left t.0.0 in (left_on t.0.0 t.0.1.1, t.1, found_on (length (caller table old).made) x e [] t.0.0.ran.since (left_ran t.0.0).since route l.ran refl (left_since t.0.0) t.2, ⊎_elim (λ none. inl (still_nothing l none)) (λ owed. inr (still_cut l owed)) t.3)
      take_answered (Ok Missed) t = (left_on t.0.0 t.0.1.1, still_nothing (left t.0.0) t.1)
      take_answered (Err (Again turns)) t = let l = left t.0.0 in inr (record { again = ap Again t.2; on = left_on t.0.0 t.0.1.1; nothing = still_nothing l t.1; short = used_on t.3 l.ran l.turns })
      take_answered (Err (Held holder)) t = absurd t
      take_answered (Err Rows) t = absurd t
      take_answered (Err Epochs) t = absurd t

  -- the same of what a match gave
  pub ends_so : (limit : ℕ) (pass pass' : Pass) (end end' : Result TakeEnd Refusal) → pass' ≡ pass → end' ≡ end → Ends (call table budget old) b x limit pass end → Ends (call table budget old) b x limit pass' end'
  ends_so limit pass pass' end end' p q t = subst (λ (z : Pass × Result TakeEnd Refusal). Ends (call table budget old) b x limit z.0 z.1) (λ i. (sym p i, sym q i)) t
