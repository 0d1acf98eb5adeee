-- A take as a stage: round after round, and then the search.
use Rattle.std.proofs.Common.{◌≡◌, ℕ, ◌^◌, ◌<◌, ◌≤◌, [], ◌∷◌, ◌++◌, Option, Some, None, Result, Ok, Err, inl, refl, sym, ap, ◌∙◌, subst, arith}
use Rattle.std.proofs.lemmas.List.{append-nil}
use Rattle.std.proofs.lemmas.Nat.{pow_pos}
use Rattle.crq_base.specs.declared.entry.Entry.TheVariants.{Take, Miss}
use Rattle.crq_base.specs.declared.event.Event.{Event}
use Rattle.crq_base.specs.declared.answers.Route.{Route}
use Rattle.crq_base.specs.declared.answers.Route.TheVariants.{Bucket as ByBucket, Search as BySearch}
use Rattle.crq_base.specs.declared.kinds.StepKind.TheVariants.{Miss as MissKind}
use Rattle.crq_base.specs.declared.words.Control.{Control}
use Rattle.crq_rule.specs.declared.debts.Debts.{Debts}
use Rattle.crq_rule.specs.declared.pass.Pass.{Pass}
use Rattle.crq_rule.specs.declared.pass.Table.{Table}
use Rattle.crq_rule.specs.HistoryParts.{EndsInBegin}
use Rattle.crq_rule.specs.ListKinds.{MayMiss, misses}
use Rattle.crq_rows.specs.Passes.{caller, IsPassOf}
use Rattle.crq_list.specs.declared.cut.CutOp.{CutOp}
use Rattle.crq_list.specs.declared.parts.Place.TheVariants.{Search as InSearch}
use Rattle.crq_list.specs.Taking.{SeesPlace}
use Rattle.crq_list.specs.Swaps.{Controlled}
use Rattle.crq_queue.specs.declared.runs.Spent.{Spent}
use Rattle.crq_queue.specs.declared.taking.Round.{Round}
use Rattle.crq_queue.specs.declared.taking.Round.TheVariants.{Marked, Missed, On}
use Rattle.crq_queue.specs.declared.taking.Caught.{Caught}
use Rattle.crq_queue.specs.Runs.{RanRaising, MayRun, current_known}
use Rattle.crq_queue.specs.Parts.{MarksBy}
use Rattle.crq_queue.specs.Calls.{InBucket, IsFoundBy}
use Rattle.crq_queue.specs.Stages.{TakesOn, EventMarked, RoundEnded, TakeMissed, SearchEnded, RanTaking, EventTaken}
use Rattle.crq_queue.proofs.RunLaws.{ran_none, ran_calm, calm_raising, raising_join, owed_none, owed_trans, used_for, since_raising, since_as_raising, known_before}
use Rattle.crq_queue.proofs.CallSteps.{may_go, miss_ran}
use Rattle.crq_queue.proofs.Takings.{IsReady, takes_trans, missed_after}

-- what holds before each round, after so many raises in a row
pub record IsCatching (table : Table) (budget : ℕ) (x : Control) (raises : ℕ) (start pass : Pass) : Type 0 where
  pub ready : IsReady table x pass
  pub few : raises < 2 ^ x.log
  pub within : pass.turns ≤ budget
  pub keeps : TakesOn table x start pass
  pub ran : (n : ℕ) → MayRun table n budget start → RanRaising table n budget (2 ^ x.log) 0 raises start pass []

pub catching_begins : {table : Table} {budget : ℕ} {x : Control} {pass : Pass} → IsReady table x pass → pass.turns ≤ budget → IsCatching table budget x 0 pass pass
catching_begins {table} {budget} {x} {pass} r within = let some = pow_pos x.log in record {
  ready = r;
  few = omega arith;
  within = within;
  keeps = record { inside = r.inside; debts = refl; event = owed_none table pass };
  ran = λ n may. calm_raising (2 ^ x.log) 0 (ran_calm (ran_none r.of may));
}

-- what a mark leaves is left by the whole stage
marked_since : {table : Table} {n : ℕ} {x : Control} {limit : ℕ} {e : Event} {c : CutOp} {start a b : Pass} → TakesOn table x start a → EventMarked n table x limit e c a b → EventMarked n table x limit e c start b
marked_since k m = record { inside = m.inside; event = owed_trans k.event m.event; below = m.below; owed = m.owed }

missed_since : {table : Table} {x : Control} {start a b : Pass} → TakesOn table x start a → TakeMissed table a b → TakeMissed table start b
missed_since k m = record { inside = m.inside; debts = m.debts ∙ k.debts; event = owed_trans k.event m.event }

module _ {table : Table} {budget : ℕ} {x : Control} {raises : ℕ} {start a : Pass} (g : IsCatching table budget x raises start a) where
  -- the stage may go on after this pass
  pub catching_may : {n : ℕ} → MayRun table n budget start → MayRun table n budget a
  catching_may {n} may = may_go may (g.ran n may)

  module _ (limit : ℕ) (b : Pass) where
    pub catch_marked : (e : Event) (tick : ℕ) (c : CutOp) → ((n : ℕ) → MayRun table n budget a → RoundEnded table n budget x limit raises a b (Ok (Marked e tick c))) → {n : ℕ} → MayRun table n budget start → EventTaken table n budget x limit start b (Ok (Some (record { event = e; route = ByBucket tick; cut = c })))
    catch_marked e tick c round {n} may = let r = g.ran n may in let t = round n (catching_may may) in let few = g.few in
        let last = calm_raising (2 ^ x.log) raises t.0 in let both : RanRaising table n budget (2 ^ x.log) 0 raises start b (Take a.number e ∷ []) = raising_join (2 ^ x.log) 0 raises raises r last in
        let since : both.since ≡ r.since ++ t.0.since = since_raising (2 ^ x.log) 0 raises raises r last ∙ ap (λ ms. r.since ++ ms) (since_as_raising (2 ^ x.log) raises t.0) in
        numbered r.number both (marked_since g.keeps t.1) (record { current = t.2.current; is = t.2.is; at = t.2.at; last = ap current_known since ∙ known_before r.since t.0.since _ t.2.last; up_to = t.2.up_to; marks = t.2.marks })
      where
        numbered : a.number ≡ start.number → (ran : RanRaising table n budget (2 ^ x.log) 0 raises start b (Take a.number e ∷ [])) → EventMarked n table x limit e c start b → InBucket n table x e ran.since tick b
            → EventTaken table n budget x limit start b (Ok (Some (record { event = e; route = ByBucket tick; cut = c })))
        numbered same ran marked found = let few = g.few in subst (λ j. (r : RanTaking table n budget x start b (Take j e ∷ [])) × EventMarked n table x limit e c start b × InBucket n table x e r.ran.since tick b) same (record { row = raises; few = omega arith; ran = ran }, marked, found)

    pub catch_may_miss : ((n : ℕ) → MayRun table n budget a → RoundEnded table n budget x limit raises a b (Ok Missed)) → {n : ℕ} → MayRun table n budget start → IsPassOf table b × MayMiss limit (caller table b)
    catch_may_miss round {n} may = let t = round n (catching_may may) in (t.0.is, t.2)

    pub catch_missed : {d : Pass} {z : Control} → ((n : ℕ) → MayRun table n budget a → RoundEnded table n budget x limit raises a b (Ok Missed)) → Controlled MissKind table b d (misses limit) z → {n : ℕ} → MayRun table n budget start → EventTaken table n budget x limit start d (Ok None)
    catch_missed {d} {z} round c {n} may = let r = g.ran n may in let t = round n (catching_may may) in let few = g.few in
        let both = raising_join (2 ^ x.log) 0 raises raises r (calm_raising (2 ^ x.log) raises t.0) in let miss = miss_ran c t.0.is (may_go may both) in (
          record { row = raises; few = omega arith; ran = subst (λ j. RanRaising table n budget (2 ^ x.log) 0 raises start d (Miss j limit ∷ [])) both.number (raising_join (2 ^ x.log) 0 raises raises both (calm_raising (2 ^ x.log) raises (ran_calm miss))) },
          missed_after c (takes_trans g.keeps t.1),
        )

    pub catch_late : {s : Spent} (s' : Spent) → ((n : ℕ) → MayRun table n budget a → RoundEnded table n budget x limit raises a b (Err s')) → {n : ℕ} → MayRun table n budget start → EventTaken table n budget x limit start b (Err s)
    catch_late s' round {n} may = let r = g.ran n may in let t = round n (catching_may may) in let few = g.few in
        (record { row = raises; few = omega arith; ran = raising_join (2 ^ x.log) 0 raises raises r (calm_raising (2 ^ x.log) raises t.0) }, takes_trans g.keeps t.1, t.2)

    -- the take goes on
    module _ (to : ℕ) (round : (n : ℕ) → MayRun table n budget a → RoundEnded table n budget x limit raises a b (Ok (On to))) where
      on_began : {n : ℕ} → MayRun table n budget start → IsReady table x b
      on_began {n} may = let t = round n (catching_may may) in record {
        of = t.ran.is;
        inside = t.keeps.inside;
        began = subst EndsInBegin (sym (t.ran.own ∙ append-nil (caller table a).own)) g.ready.began;
        free = ap (λ (d : Debts). d.cut) t.keeps.debts ∙ g.ready.free;
        one = ap (λ (d : Debts). d.second_cut) t.keeps.debts ∙ g.ready.one;
      }

      pub catching_on : {n : ℕ} → MayRun table n budget start → to < 2 ^ x.log → IsCatching table budget x to start b × (a.turns < b.turns)
      catching_on {n} may few = let t = round n (catching_may may) in (
        record {
          ready = on_began may;
          few = few;
          within = t.ran.within;
          keeps = takes_trans g.keeps t.keeps;
          ran = λ n may. raising_join (2 ^ x.log) 0 raises to (g.ran n may) (round n (catching_may may)).ran;
        },
        t.more,
      )

      pub may_search : {n : ℕ} → MayRun table n budget start → IsReady table x b × SeesPlace x InSearch (caller table b) × (b.turns ≤ budget) × (to ≤ 2 ^ x.log)
      may_search {n} may = let t = round n (catching_may may) in (on_began may, t.sees, t.ran.within, t.few)

      searched : (c : Pass) (result : Result (Option Caught) Spent) {n : ℕ} → MayRun table n budget start → to ≡ 2 ^ x.log → SearchEnded table n budget x limit to b c result → EventTaken table n budget x limit start c result
      searched c (Ok (Some t)) {n} may all s = let q = round n (catching_may may) in let r = raising_join (2 ^ x.log) 0 raises to (g.ran n may) q.ran in let both = raising_join (2 ^ x.log) 0 to to r (calm_raising (2 ^ x.log) to (ran_calm s.0)) in
          numbered t s.3 r.number both (marked_since (takes_trans g.keeps q.keeps) s.1) s.2
        where
          found : (t : Caught) → t.route ≡ BySearch to → (ran : RanRaising table n budget (2 ^ x.log) 0 to start c (Take start.number t.event ∷ [])) → MarksBy n table x InSearch t.event c → IsFoundBy n table x t.event ran.since c t.route
          found t route ran marks = subst (λ (r : Route). IsFoundBy n table x t.event ran.since c r) (sym route) (record { row = sym ran.makes.1; all = all; marks = marks })

          numbered : (t : Caught) → t.route ≡ BySearch to → b.number ≡ start.number → RanRaising table n budget (2 ^ x.log) 0 to start c (Take b.number t.event ∷ []) → EventMarked n table x limit t.event t.cut start c → MarksBy n table x InSearch t.event c → EventTaken table n budget x limit start c (Ok (Some t))
          numbered t route same ran marked marks = let ran' = subst (λ j. RanRaising table n budget (2 ^ x.log) 0 to start c (Take j t.event ∷ [])) same ran in (record { row = to; few = omega arith; ran = ran' }, marked, found t route ran' marks)
      searched c (Ok None) {n} may all s = let q = round n (catching_may may) in let r = raising_join (2 ^ x.log) 0 raises to (g.ran n may) q.ran in
          (record { row = to; few = omega arith; ran = subst (λ j. RanRaising table n budget (2 ^ x.log) 0 to start c (Miss j limit ∷ [])) r.number (raising_join (2 ^ x.log) 0 to to r (calm_raising (2 ^ x.log) to (ran_calm s.0))) }, missed_since (takes_trans g.keeps q.keeps) s.1)
      searched c (Err s') {n} may all s = let q = round n (catching_may may) in let r = raising_join (2 ^ x.log) 0 raises to (g.ran n may) q.ran in
          (record { row = to; few = omega arith; ran = raising_join (2 ^ x.log) 0 to to r (calm_raising (2 ^ x.log) to (ran_calm s.0)) }, takes_trans (takes_trans g.keeps q.keeps) s.1, used_for (λ p needs. inl needs) s.2)

      pub catch_searched : (c : Pass) (result : Result (Option Caught) Spent) → ((n : ℕ) → MayRun table n budget b → SearchEnded table n budget x limit to b c result) → to ≡ 2 ^ x.log → {n : ℕ} → MayRun table n budget start → EventTaken table n budget x limit start c result
      catch_searched c result search all {n} may = searched c result may all (search n (may_go (catching_may may) (round n (catching_may may)).ran))

-- what a round answered
pub round_so : (table : Table) (budget : ℕ) (x : Control) (limit raises : ℕ) (a b : Pass) (end : Round) {told : Round} → told ≡ end → ((n : ℕ) → MayRun table n budget a → RoundEnded table n budget x limit raises a b (Ok told)) → (n : ℕ) → MayRun table n budget a → RoundEnded table n budget x limit raises a b (Ok end)
round_so table budget x limit raises a b end is round n may = subst (λ z. RoundEnded table n budget x limit raises a b (Ok z)) is (round n may)
