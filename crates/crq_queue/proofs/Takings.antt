-- Takes in a bucket and in a search, as stages of a call.
use Rattle.std.proofs.Common.{◌≡◌, inl, inr, ℕ, ◌/◌, ◌^◌, ◌<◌, ◌≤◌, true, false, [], ◌∷◌, ◌++◌, length, drop, Some, None, Result, Ok, Err, refl, sym, ap, ◌∙◌, subst, arith}
use Rattle.std.proofs.lemmas.List.{append-nil}
use Rattle.crq_base.specs.declared.entry.Entry.TheVariants.{Take, Miss}
use Rattle.crq_base.specs.declared.event.Event.{Event}
use Rattle.crq_base.specs.declared.answers.Route.TheVariants.{Search as BySearch}
use Rattle.crq_base.specs.declared.kinds.StepKind.TheVariants.{Miss as MissKind}
use Rattle.crq_base.specs.declared.words.Control.{Control}
use Rattle.crq_base.specs.declared.words.Current.{Current}
use Rattle.crq_base.specs.Words.{current_word}
use Rattle.crq_rule.specs.declared.debts.Debts.{Debts}
use Rattle.crq_rule.specs.declared.layout.Start.{Start}
use Rattle.crq_rule.specs.declared.pass.Pass.{Pass}
use Rattle.crq_rule.specs.declared.pass.Table.{Table}
use Rattle.crq_rule.specs.declared.view.Caller.{Caller}
use Rattle.crq_rule.specs.Parts.{IsOn}
use Rattle.crq_rule.specs.Places.{index, current}
use Rattle.crq_rule.specs.Ranks.{bucket, shape_of}
use Rattle.crq_rule.specs.HistoryParts.{EndsInBegin}
use Rattle.crq_rule.specs.ListKinds.{MayMiss, misses, cut_debt}
use Rattle.crq_rule.specs.CurrentKinds.{MayView, table_seen}
use Rattle.crq_rows.specs.Passes.{caller, IsPassOf}
use Rattle.crq_rows.specs.Known.{last_known}
use Rattle.crq_list.specs.declared.cut.CutOp.{CutOp}
use Rattle.crq_list.specs.declared.take.TakeOp.{TakeOp}
use Rattle.crq_list.specs.declared.take.TakeState.TheVariants.{Load as LoadHead}
use Rattle.crq_list.specs.declared.take.MarkEnd.{MarkEnd}
use Rattle.crq_list.specs.declared.take.MarkEnd.TheVariants.{Marked as RowMarked, Beyond, Nothing, Lost, Frozen}
use Rattle.crq_list.specs.declared.parts.Place.{Place}
use Rattle.crq_list.specs.declared.parts.Place.TheVariants.{Bucket, Search}
use Rattle.crq_list.specs.Taking.{IsTaking, SeesPlace, head_at}
use Rattle.crq_list.specs.Swaps.{Controlled}
use Rattle.crq_current.specs.Positions.{Viewed}
use Rattle.crq_queue.specs.declared.runs.Spent.{Spent}
use Rattle.crq_queue.specs.declared.taking.Round.{Round}
use Rattle.crq_queue.specs.declared.taking.Round.TheVariants.{Marked, Missed, On}
use Rattle.crq_queue.specs.Runs.{Ran, RanUnraised, KeepsOwed, MayRun, IsInside, current_known}
use Rattle.crq_queue.specs.Parts.{TakeRan, TakeKeeps, RaiseNeeds, IsUsedUp}
use Rattle.crq_queue.specs.Calls.{InBucket}
use Rattle.crq_queue.specs.Stages.{TakesOn, EventMarked, WalkedOut, RaiseEnded, RoundEnded, TakeMissed, SearchEnded}
use Rattle.crq_queue.proofs.RunLaws.{ran_none, ran_calm, ran_trans, calm_trans, calm_raising, raising_join, owed_kept, owed_none, owed_trans, used_for, since_calm, since_as_calm, known_after}
use Rattle.crq_queue.proofs.CallSteps.{may_go, miss_inside, miss_keeps, miss_ran}
use Rattle.crq_queue.proofs.CallOps.{may_take}
use Rattle.crq_queue.proofs.CurrentRuns.{view_ran, view_known, viewed_known}

-- a take that has made no step
abbrev pub take_of : Control → Place → ℕ → TakeOp
take_of x place limit = record { found = x; place = place; head = head_at x place; limit = limit; best = None; state = LoadHead }

takes_none : (table : Table) (x : Control) (pass : Pass) → IsInside table x pass → TakesOn table x pass pass
takes_none table x pass inside = record { inside = inside; debts = refl; event = owed_none table pass }

pub takes_trans : {table : Table} {x y : Control} {a b c : Pass} → TakesOn table x a b → TakesOn table y b c → TakesOn table y a c
takes_trans p q = record { inside = q.inside; debts = q.debts ∙ p.debts; event = owed_trans p.event q.event }

takes_kept : {table : Table} {n : ℕ} {x : Control} {a b : Pass} → TakeKeeps table n x a b → TakesOn table x a b
takes_kept k = record { inside = k.inside; debts = k.debts; event = owed_kept k.event }

-- the Miss of a take that goes on
pub missed_after : {table : Table} {x z : Control} {limit : ℕ} {start b d : Pass} → Controlled MissKind table b d (misses limit) z → TakesOn table x start b → TakeMissed table start d
missed_after {table} {x} {z} c k = record { inside = (z, miss_inside c k.inside); debts = ap (λ (p : Pass). p.debts) c.same ∙ k.debts; event = owed_trans k.event (owed_kept (miss_keeps c)) }

-- One take

-- what is told of a take of this operation
abbrev pub Says : Table → ℕ → TakeOp → Pass → Pass → Result MarkEnd Spent → Type 0
Says table budget op a b end = (n : ℕ) (z : Control) → IsTaking n table z op (caller table a) → TakeRan table n budget z op a b end

pub says_so : (table : Table) (budget : ℕ) (op : TakeOp) (a b : Pass) (end : MarkEnd) {told : MarkEnd} → told ≡ end → Says table budget op a b (Ok told) → Says table budget op a b (Ok end)
says_so table budget op a b end is says = subst (λ z. Says table budget op a b (Ok z)) is says

-- the bucket of a tick, as a shift gives it
pub in_its_bucket : {x : Control} (y : Current) {op : TakeOp} {limit : ℕ} → op ≡ take_of x (Bucket (y.tick / 2 ^ x.shift)) limit → op ≡ take_of x (Bucket (bucket (shape_of x) y.tick)) limit
unfolding bucket
in_its_bucket y is = is

-- a take that may begin
pub record MayTake (table : Table) (x : Control) (place : Place) (limit : ℕ) (a : Pass) (op : TakeOp) : Type 0 where
  pub of : IsPassOf table a
  pub inside : IsInside table x a
  pub began : EndsInBegin (caller table a).own
  pub free : a.debts.cut ≡ None
  pub one : a.debts.second_cut ≡ None
  pub sees : SeesPlace x place (caller table a)
  pub is : op ≡ take_of x place limit

module _ {table : Table} {x : Control} {place : Place} {limit : ℕ} {a : Pass} {op : TakeOp} (t : MayTake table x place limit a op) where
  pub begins_take : {n : ℕ} → n ≤ length (caller table a).made → IsTaking n table x op (caller table a)
  begins_take counted = may_take t.of t.inside op place limit counted t.began t.free t.one t.sees t.is

  pub take_told : (budget : ℕ) (b : Pass) (end : Result MarkEnd Spent) → Says table budget op a b end → (n : ℕ) → n ≤ length (caller table a).made → TakeRan table n budget x (take_of x place limit) a b end
  take_told budget b end take n counted = subst (λ op. TakeRan table n budget x op a b end) t.is (take n x (begins_take counted))

-- What a mark leaves, after other steps of the take
marked_after : {table : Table} {n budget : ℕ} {x : Control} (place : Place) {limit : ℕ} {start a b : Pass} (r : ℕ) {e : Event} {c : CutOp} → KeepsOwed table start a → a.debts.second_cut ≡ None → TakeRan table n budget x (take_of x place limit) a b (Ok (RowMarked r e c)) → EventMarked n table x limit e c start b
marked_after {table} {n} {budget} {x} place {limit} {start} {a} {b} r {e} {c} kept one t = record {
  inside = t.1;
  event = owed_trans kept (owed_kept t.2);
  below = t.3;
  owed = record { row = r; owes = t.4; cuts = (t.5, (cut_debt x r e, t.4, t.6), t.0.second_cut ∙ one) };
}

-- A round

-- the guard is on, and the take has begun
pub record IsReady (table : Table) (x : Control) (a : Pass) : Type 0 where
  pub of : IsPassOf table a
  pub inside : IsInside table x a
  pub began : EndsInBegin (caller table a).own
  pub free : a.debts.cut ≡ None
  pub one : a.debts.second_cut ≡ None

pub may_view : {table : Table} {x : Control} {a : Pass} → table.start.moves ≡ false → IsReady table x a → MayView (caller table a).own (caller table a).found.control true
may_view {table} {x} {a} still r = (r.began, (x, r.inside.control, (r.of.lawful.controlled x r.inside.control).1 (ap (λ (s : Start). s.moves) r.of.sits.started ∙ still)))

module _ {table : Table} {x : Control} {a v : Pass} {y : Current} (r : IsReady table x a) (view : Viewed table a v true y) where
  seen_now : (caller table v).sight ≡ Some (record { table = x; current = y })
  seen_now = ap (λ (p : Caller). p.sight) view.part ∙ ap (λ o. table_seen o y) r.inside.control

  view_inside : IsInside table x v
  view_inside = record { on = subst (λ (p : Caller). IsOn p.guard) (sym view.part) r.inside.on; uncut = ap (λ (p : Caller). p.cut) view.part ∙ r.inside.uncut; control = ap (λ (p : Caller). p.found.control) view.part ∙ r.inside.control }

  view_began : EndsInBegin (caller table v).own
  view_began = subst EndsInBegin (sym (ap (λ (p : Caller). p.own) view.part)) r.began

  pub view_free : v.debts.cut ≡ None
  view_free = ap (λ (p : Pass). p.debts.cut) view.same ∙ r.free

  view_one : v.debts.second_cut ≡ None
  view_one = ap (λ (p : Pass). p.debts.second_cut) view.same ∙ r.one

  view_keeps : TakesOn table x a v
  view_keeps = record { inside = view_inside; debts = ap (λ (p : Pass). p.debts) view.same; event = record { run = ap (λ (p : Pass). p.debts.settle) view.same; known = ap (λ (p : Caller). p.debts.settle) view.part } }

  -- current isn't below the limit
  pub round_over : {budget : ℕ} (limit from : ℕ) {n : ℕ} → limit ≤ y.tick → MayRun table n budget a → RoundEnded table n budget x limit from a v (Ok Missed)
  round_over limit from over may = (view_ran view may, view_keeps, record { began = view_began; sight = record { table = x; current = y }; sees = seen_now; nothing = inl over })

  pub round_takes : {op : TakeOp} {limit : ℕ} → op ≡ take_of x (Bucket (bucket (shape_of x) y.tick)) limit → MayTake table x (Bucket (bucket (shape_of x) y.tick)) limit v op
  round_takes is = record { of = view.is; inside = view_inside; began = view_began; free = view_free; one = view_one; sees = (y, seen_now, refl); is = is }

module _ {table : Table} {budget : ℕ} {x : Control} {a v : Pass} {y : Current} {op : TakeOp} {limit n : ℕ} (r : IsReady table x a) (view : Viewed table a v true y) (is : op ≡ take_of x (Bucket (bucket (shape_of x) y.tick)) limit) (b : Pass) (may : MayRun table n budget a) where
  round_told : (end : Result MarkEnd Spent) → Says table budget op v b end → TakeRan table n budget x (take_of x (Bucket (bucket (shape_of x) y.tick)) limit) v b end
  round_told end take = take_told (round_takes r view is) budget b end take n (view_ran view may).counted

  round_ran : Ran table n budget v b [] → RanUnraised table n budget 0 a b []
  round_ran t = calm_trans (view_ran view may) (ran_calm t)

  round_kept : TakeKeeps table n x v b → TakesOn table x a b
  round_kept k = takes_trans (view_keeps r view) (takes_kept k)

  pub round_marked : (from row : ℕ) (e : Event) (c : CutOp) → Says table budget op v b (Ok (RowMarked row e c)) → RoundEnded table n budget x limit from a b (Ok (Marked e y.tick c))
  round_marked from row e c take = let one = view_ran view may in let t = round_told (Ok (RowMarked row e c)) take in let both : RanUnraised table n budget 0 a b (Take v.number e ∷ []) = calm_trans one (ran_calm t.0) in
      let since : both.since ≡ one.since ++ t.0.since = since_calm one (ran_calm t.0) ∙ ap (λ ms. one.since ++ ms) (since_as_calm t.0) in
      numbered one.number both (marked_after (Bucket (bucket (shape_of x) y.tick)) row (view_keeps r view).event (view_one r view) t) (record {
        current = y;
        is = view.is_current;
        at = refl;
        last = ap current_known since ∙ known_after one.since t.0.since (current_word y) (viewed_known view may) t.0.makes.1;
        up_to = t.7;
        marks = t.8;
      })
    where
      numbered : v.number ≡ a.number → (ran : RanUnraised table n budget 0 a b (Take v.number e ∷ [])) → EventMarked n table x limit e c a b → InBucket n table x e ran.since y.tick b → RoundEnded table n budget x limit from a b (Ok (Marked e y.tick c))
      numbered same ran marked found = subst (λ j. (ran : RanUnraised table n budget 0 a b (Take j e ∷ [])) × EventMarked n table x limit e c a b × InBucket n table x e ran.since y.tick b) same (ran, marked, found)

  pub round_beyond : (from : ℕ) (e : Event) → Says table budget op v b (Ok (Beyond e)) → RoundEnded table n budget x limit from a b (Ok Missed)
  round_beyond from e take = let t = round_told (Ok (Beyond e)) take in (round_ran t.0, round_kept t.1, t.2)

  pub round_lost : {from : ℕ} → from < 2 ^ x.log → Says table budget op v b (Ok Lost) → RoundEnded table n budget x limit from a b (Ok (On from))
  round_lost {from} few take = let t = round_told (Ok Lost) take in let same = ap (λ (p : Pass). p.turns) view.same in let more = t.3 in record {
    ran = calm_raising (2 ^ x.log) from (round_ran t.0);
    keeps = round_kept t.1;
    few = omega arith;
    more = omega arith;
    sees = (y, t.1.sight ∙ seen_now r view, tt);
  }

  pub round_late : {s' : Spent} (from : ℕ) (s : Spent) → Says table budget op v b (Err s) → RoundEnded table n budget x limit from a b (Err s')
  round_late from s take = let t = round_told (Err s) take in (round_ran t.0, round_kept t.1, used_for (λ p needs. inl needs) t.2)

  pub round_unfrozen : Says table budget op v b (Ok Frozen) → ⊥
  round_unfrozen take = round_told (Ok Frozen) take

  -- the bucket is empty, and current is to be raised
  module _ (take : Says table budget op v b (Ok Nothing)) where
    pub walked_out : WalkedOut table x y b
    walked_out = let t = round_told (Ok Nothing) take in record {
      inside = t.1.inside;
      began = subst EndsInBegin (sym (t.0.own ∙ append-nil (caller table v).own)) (view_began r view);
      is_control = (r.of.lawful.controlled x r.inside.control).0;
      sight = t.1.sight ∙ seen_now r view;
      walked = t.2;
    }

    pub nothing_within : IsPassOf table b × (b.turns ≤ budget)
    nothing_within = let t = round_told (Ok Nothing) take in (t.0.is, t.0.within)

    then_raised : (c : Pass) (from : ℕ) (result : Result Round Spent) → RaiseEnded table n budget x from b c result → RoundEnded table n budget x limit from a c result
    then_raised c from (Ok (Marked e tick cut)) q = absurd q
    then_raised c from (Ok Missed) q = let t = round_told (Ok Nothing) take in subst (λ z. RoundEnded table n budget x limit from a z (Ok Missed)) (sym q.0) (round_ran t.0, round_kept t.1, subst (λ z. MayMiss limit (caller table z)) q.0 (q.1 limit))
    then_raised c from (Ok (On to)) q = let t = round_told (Ok Nothing) take in let same = ap (λ (p : Pass). p.turns) view.same in let turns = t.0.turns in let more = q.more in record {
      ran = raising_join (2 ^ x.log) from from to (calm_raising (2 ^ x.log) from (round_ran t.0)) q.ran;
      keeps = takes_trans (round_kept t.1) q.keeps;
      few = q.few;
      more = omega arith;
      sees = q.sees;
    }
    then_raised c from (Err s) q = let t = round_told (Ok Nothing) take in subst (λ z. RoundEnded table n budget x limit from a z (Err s)) (sym q.0) (round_ran t.0, round_kept t.1, used_for (λ p needs. inr needs) (subst (IsUsedUp table n budget (RaiseNeeds n table)) q.0 q.1))

    pub round_raised : (c : Pass) (from : ℕ) (result : Result Round Spent) → ((n : ℕ) → MayRun table n budget b → last_known (drop n (caller table b).made) (index table.start.layout current) ≡ Some (current_word y) → RaiseEnded table n budget x from b c result)
        → RoundEnded table n budget x limit from a c result
    round_raised c from result raise = let one = view_ran view may in let t = round_told (Ok Nothing) take in then_raised c from result (raise n (may_go (may_go may one) t.0) (t.1.known ∙ view_known view may.counted))

-- A search

-- what holds whenever a take of all lists begins
pub record IsSearching (table : Table) (budget : ℕ) (x : Control) (start pass : Pass) : Type 0 where
  pub of : IsPassOf table pass
  pub began : EndsInBegin (caller table pass).own
  pub free : pass.debts.cut ≡ None
  pub one : pass.debts.second_cut ≡ None
  pub sees : SeesPlace x Search (caller table pass)
  pub within : pass.turns ≤ budget
  pub keeps : TakesOn table x start pass
  pub ran : (n : ℕ) → MayRun table n budget start → Ran table n budget start pass []

pub search_begins : {table : Table} {budget : ℕ} {x : Control} {pass : Pass} → IsPassOf table pass → IsInside table x pass → EndsInBegin (caller table pass).own → pass.debts.cut ≡ None → pass.debts.second_cut ≡ None → SeesPlace x Search (caller table pass) → pass.turns ≤ budget → IsSearching table budget x pass pass
search_begins {table} {budget} {x} {pass} of inside began free one sees within = record { of = of; began = began; free = free; one = one; sees = sees; within = within; keeps = takes_none table x pass inside; ran = λ n may. ran_none of may }

module _ {table : Table} {budget : ℕ} {x : Control} {start a : Pass} {op : TakeOp} {limit : ℕ} (s : IsSearching table budget x start a) (is : op ≡ take_of x Search limit) where
  search_take : MayTake table x Search limit a op
  search_take = record { of = s.of; inside = s.keeps.inside; began = s.began; free = s.free; one = s.one; sees = s.sees; is = is }

  pub search_takes : {n : ℕ} → n ≤ length (caller table a).made → IsTaking n table x op (caller table a)
  search_takes counted = begins_take search_take counted

  search_told : (b : Pass) (end : Result MarkEnd Spent) → Says table budget op a b end → (n : ℕ) → n ≤ length (caller table a).made → TakeRan table n budget x (take_of x Search limit) a b end
  search_told b end take n counted = take_told search_take budget b end take n counted

  pub search_marked : (b : Pass) (raises row : ℕ) (e : Event) (c : CutOp) → Says table budget op a b (Ok (RowMarked row e c)) → {n : ℕ} → MayRun table n budget start → SearchEnded table n budget x limit raises start b (Ok (Some (record { event = e; route = BySearch raises; cut = c })))
  search_marked b raises row e c take {n} may = let ran = s.ran n may in let t = search_told b (Ok (RowMarked row e c)) take n ran.counted in
      (subst (λ j. Ran table n budget start b (Take j e ∷ [])) ran.number (ran_trans ran t.0), marked_after Search row s.keeps.event s.one t, t.8, refl)

  pub search_lost : (b : Pass) → Says table budget op a b (Ok Lost) → IsSearching table budget x start b × (a.turns < b.turns)
  search_lost b take = let t = search_told b (Ok Lost) take 0 (omega arith) in (
    record {
      of = t.0.is;
      began = subst EndsInBegin (sym (t.0.own ∙ append-nil (caller table a).own)) s.began;
      free = ap (λ (d : Debts). d.cut) t.1.debts ∙ s.free;
      one = ap (λ (d : Debts). d.second_cut) t.1.debts ∙ s.one;
      sees = (s.sees.0, t.1.sight ∙ s.sees.1, tt);
      within = t.0.within;
      keeps = takes_trans s.keeps (takes_kept t.1);
      ran = λ n may. let ran = s.ran n may in ran_trans ran (search_told b (Ok Lost) take n ran.counted).0;
    },
    t.3,
  )

  -- nothing below the limit was found
  search_nothing : (b : Pass) (n : ℕ) (end : MarkEnd) → ((r : ℕ) (e : Event) (c : CutOp) → end ≡ RowMarked r e c → ⊥) → (end ≡ Lost → ⊥) → TakeRan table n budget x (take_of x Search limit) a b (Ok end) → Ran table n budget a b [] × TakesOn table x a b × MayMiss limit (caller table b)
  search_nothing b n (RowMarked r e c) marked lost t = absurd (marked r e c refl)
  search_nothing b n (Beyond e) marked lost t = (t.0, takes_kept t.1, t.2)
  search_nothing b n Nothing marked lost t = (t.0, takes_kept t.1, t.2 limit)
  search_nothing b n Lost marked lost t = absurd (lost refl)
  search_nothing b n Frozen marked lost t = absurd t

  module _ (b : Pass) (end : MarkEnd) (not_marked : (r : ℕ) (e : Event) (c : CutOp) → end ≡ RowMarked r e c → ⊥) (not_lost : end ≡ Lost → ⊥) (take : Says table budget op a b (Ok end)) where
    pub search_may_miss : IsPassOf table b × MayMiss limit (caller table b)
    search_may_miss = let t = search_nothing b 0 end not_marked not_lost (search_told b (Ok end) take 0 (omega arith)) in (t.0.is, t.2)

    pub search_missed : (raises : ℕ) {d : Pass} {z : Control} → Controlled MissKind table b d (misses limit) z → {n : ℕ} → MayRun table n budget start → SearchEnded table n budget x limit raises start d (Ok None)
    search_missed raises {d} {z} c {n} may = let ran = s.ran n may in let t = search_nothing b n end not_marked not_lost (search_told b (Ok end) take n ran.counted) in let both = ran_trans ran t.0 in (
      subst (λ j. Ran table n budget start d (Miss j limit ∷ [])) both.number (ran_trans both (miss_ran c t.0.is (may_go may both))),
      missed_after c (takes_trans s.keeps t.1),
    )

  pub search_late : (b : Pass) (raises : ℕ) (t : Spent) {t' : Spent} → Says table budget op a b (Err t) → {n : ℕ} → MayRun table n budget start → SearchEnded table n budget x limit raises start b (Err t')
  search_late b raises t take {n} may = let ran = s.ran n may in let q = search_told b (Err t) take n ran.counted in (ran_trans ran q.0, takes_trans s.keeps (takes_kept q.1), q.2)
