-- Settling an event that is owed, by a load of current or by an exchange of it.
use Rattle.std.proofs.Common.{◌≡◌, ◌≢◌, inl, ℕ, ◌+◌, ◌-◌, ◌^◌, ◌<◌, ◌≤◌, cond, Bool, true, false, List, [], ◌∷◌, ◌++◌, length, drop, Option, Some, None, Result, Ok, Err, inr, refl, sym, ap, ◌∙◌, subst, arith}
use Rattle.std.specs.Prelude.{nat_lt}
use Rattle.std.specs.Option.{is_some}
use Rattle.std.proofs.lemmas.Bool.{false≢true}
use Rattle.std.proofs.lemmas.List.{append-nil}
use Rattle.crq_base.specs.declared.entry.Entry.{Entry}
use Rattle.crq_base.specs.declared.entry.Entry.TheVariants.{Settled}
use Rattle.crq_base.specs.declared.kinds.StepKind.TheVariants.{SettleLoad, Settle}
use Rattle.crq_base.specs.declared.words.Current.{Current}
use Rattle.crq_base.specs.Words.{IsCurrent, current_word}
use Rattle.crq_rule.specs.declared.debts.SettleDebt.{SettleDebt}
use Rattle.crq_rule.specs.declared.debts.Debts.{Debts}
use Rattle.crq_rule.specs.declared.pass.Pass.{Pass}
use Rattle.crq_rule.specs.declared.pass.Table.{Table}
use Rattle.crq_rule.specs.declared.view.Made.{Made}
use Rattle.crq_rule.specs.declared.view.Caller.{Caller}
use Rattle.crq_rule.specs.Places.{index, current}
use Rattle.crq_rule.specs.Kinds.{makes}
use Rattle.crq_rule.specs.CurrentKinds.{loads_current, settles as settles_now, settles_back, permit_after, owed_position, MaySettle}
use Rattle.crq_rows.specs.Passes.{caller, load_made, step_made, counted}
use Rattle.crq_rows.specs.Known.{last_known}
use Rattle.crq_rows.proofs.Knowing.{found_known}
use Rattle.crq_current.specs.Positions.{ViewedOwed, SettledBack}
use Rattle.crq_queue.specs.declared.runs.Spent.{Spent}
use Rattle.crq_queue.specs.Wholes.{IsResting}
use Rattle.crq_queue.specs.Runs.{RanUnraised, ToldMore, MayRun}
use Rattle.crq_queue.specs.Parts.{CutNeeds, IsUsedUp}
use Rattle.crq_queue.specs.Calls.{settles, settled_entries}
use Rattle.crq_queue.specs.Stages.{EventSettled, FinishAnswers, EventFinished, DebtCut, SettlingAnswers, DebtsSettled}
use Rattle.crq_queue.proofs.RunLaws.{ran_none, ran_calm, calm_trans, ran_load, told_same, used_up}
use Rattle.crq_queue.proofs.CallSteps.{may_go}
use Rattle.crq_queue.proofs.CurrentRuns.{ran_exchange}

-- a pass that settles the event d, after rounds in which current was found and lost again
pub record IsSettling (table : Table) (budget : ℕ) (d : SettleDebt) (start pass : Pass) : Type 0 where
  pub rests : IsResting table pass
  pub owes : pass.debts.settle ≡ Some d
  pub cut : pass.debts.cut ≡ start.debts.cut
  pub within : pass.turns ≤ budget
  pub ran : (n : ℕ) → MayRun table n budget start → RanUnraised table n budget 0 start pass []

pub settling_begins : {table : Table} {budget : ℕ} {d : SettleDebt} {pass : Pass} → IsResting table pass → pass.debts.settle ≡ Some d → pass.turns ≤ budget → IsSettling table budget d pass pass
settling_begins r owes within = record { rests = r; owes = owes; cut = refl; within = within; ran = λ n may. ran_calm (ran_none r.is may) }

-- the permit of a caller that owes an event stays
permit_stays : (y : Current) → permit_after y true ≡ true
permit_stays y = go (nat_lt y.epoch (2 ^ 32 - 64))
  where
    go : (b : Bool) → cond b true true ≡ true
    go true = refl
    go false = refl

-- current under the next epoch is another word
words_apart : (d : SettleDebt) (y : Current) → IsCurrent y → current_word y ≢ current_word (owed_position d y)
unfolding current_word
words_apart d y is e = let low = is.tick in omega arith

module _ {table : Table} {budget : ℕ} {d : SettleDebt} {start a : Pass} (s : IsSettling table budget d start a) where
  pub known_owed : (caller table a).debts.settle ≡ Some d
  known_owed = s.rests.settle ∙ s.owes

  pub owed_shift : d.shift < 2 ^ 5
  owed_shift = (s.rests.is.lawful.owing d known_owed).1

abbrev step_of_settle : Table → SettleDebt → Current → ℕ → Made
step_of_settle table d y found = step_made Settle (index table.start.layout current) (current_word y) (current_word (owed_position d y)) found

abbrev step_of_load : Table → Current → Made
step_of_load table y = load_made SettleLoad (index table.start.layout current) (current_word y)

module _ {table : Table} {budget : ℕ} {d : SettleDebt} {start a b : Pass} {y : Current} (s : IsSettling table budget d start a) where
  module _ {ahead : Bool} (v : ViewedOwed table a b d y ahead) where
    -- what the caller knows after the load
    after_load : (t : Bool) → ahead ≡ t → caller table b ≡ makes (step_of_load table y) (cond t (settles_now d (caller table a)) (loads_current false y (caller table a)))
    after_load t is = v.part ∙ ap (λ z. makes (step_of_load table y) (cond z (settles_now d (caller table a)) (loads_current false y (caller table a)))) (sym v.ahead_is ∙ is)

    debts_after : (t : Bool) → ahead ≡ t → b.debts ≡ cond t (record a.debts { settle = None }) a.debts
    debts_after t is = v.debts ∙ ap (λ z. cond z (record a.debts { settle = None }) a.debts) is

    load_ran : (entries : List Entry) → b.debts.copy ≡ a.debts.copy → b.debts.second_cut ≡ a.debts.second_cut → (caller table b).made ≡ (caller table a).made ++ (step_of_load table y) ∷ [] → (caller table b).deal ≡ (caller table a).deal → ToldMore (caller table a) (caller table b)
        → (caller table b).own ≡ (caller table a).own ++ entries → {n : ℕ} → MayRun table n budget start → RanUnraised table n budget 0 start b entries
    load_ran entries copy second_cut made deal told own {n} may = let r = s.ran n may in
        calm_trans r (ran_load (step_of_load table y) entries (may_go may r) v.is (ap (λ (p : Pass). p.number) v.same) copy second_cut (ap (λ (p : Pass). p.turns) v.same) refl (omega arith, refl) made deal told own)

    -- the load settled the event
    module _ (is : ahead ≡ true) where
      part_ahead : caller table b ≡ makes (step_of_load table y) (settles_now d (caller table a))
      part_ahead = after_load true is

      pub settled_ahead : {u : Unit {0}} {n : ℕ} → MayRun table n budget start → EventSettled table n budget d start b (Ok u)
      settled_ahead {u} {n} may = let debts = debts_after true is in let part = part_ahead in record {
        rests = record {
          is = v.is;
          guard = ap (λ (p : Caller). p.guard) part ∙ s.rests.guard;
          cut = ap (λ (p : Caller). p.cut) part ∙ s.rests.cut;
          settle = ap (λ (p : Caller). p.debts.settle) part ∙ sym (ap (λ (z : Debts). z.settle) debts);
          copy = ap (λ (z : Debts). z.copy) debts ∙ s.rests.copy;
          second_cut = ap (λ (z : Debts). z.second_cut) debts ∙ s.rests.second_cut;
        };
        cut = ap (λ (z : Debts). z.cut) debts ∙ s.cut;
        answers = (
          load_ran (Settled start.number d.event ∷ []) (ap (λ (z : Debts). z.copy) debts) (ap (λ (z : Debts). z.second_cut) debts) (ap (λ (p : Caller). p.made) part) (ap (λ (p : Caller). p.deal) part) (told_same (ap (λ (p : Caller). p.told) part))
              (ap (λ (p : Caller). p.own) part ∙ ap (λ j. (caller table a).own ++ Settled j d.event ∷ []) (s.rests.is.sits.numbered ∙ (s.ran n may).number)) may,
          ap (λ (z : Debts). z.settle) debts,
        );
      }

    -- the load found current beyond it, and an exchange is needed
    module _ (is : ahead ≡ false) where
      part_behind : caller table b ≡ makes (step_of_load table y) (loads_current false y (caller table a))
      part_behind = after_load false is

      pub settling_loaded : IsSettling table budget d start b
      settling_loaded = let debts = debts_after false is in let part = part_behind in record {
        rests = record {
          is = v.is;
          guard = ap (λ (p : Caller). p.guard) part ∙ s.rests.guard;
          cut = ap (λ (p : Caller). p.cut) part ∙ s.rests.cut;
          settle = ap (λ (p : Caller). p.debts.settle) part ∙ (s.rests.settle ∙ sym (ap (λ (z : Debts). z.settle) debts));
          copy = ap (λ (z : Debts). z.copy) debts ∙ s.rests.copy;
          second_cut = ap (λ (z : Debts). z.second_cut) debts ∙ s.rests.second_cut;
        };
        owes = ap (λ (z : Debts). z.settle) debts ∙ s.owes;
        cut = ap (λ (z : Debts). z.cut) debts ∙ s.cut;
        within = let w = s.within in let t = ap (λ (p : Pass). p.turns) v.same in omega arith;
        ran = λ n may. load_ran [] (ap (λ (z : Debts). z.copy) debts) (ap (λ (z : Debts). z.second_cut) debts) (ap (λ (p : Caller). p.made) part) (ap (λ (p : Caller). p.deal) part)
            (subst (ToldMore (caller table a)) (sym part) (record { tables = omega arith; settled = omega arith })) (ap (λ (p : Caller). p.own) part ∙ sym (append-nil (caller table a).own)) may;
      }

      pub may_settle : MaySettle d y (caller table b)
      may_settle = let part = part_behind in let law = s.rests.is.lawful.owing d (known_owed s) in record {
        owes = ap (λ (p : Caller). p.debts.settle) part ∙ known_owed s;
        behind = sym v.ahead_is ∙ is;
        time = law.0.time;
        permit = ap (λ (p : Caller). p.permit) part ∙ (ap (permit_after y) law.2 ∙ permit_stays y);
      }

      -- an epoch is left
      pub room_left : y.epoch + 1 < 2 ^ 32
      room_left = v.is.lawful.permitted y may_settle.permit (ap (λ (p : Caller). p.found.current) part_behind)

      known_at : {n : ℕ} → n ≤ length (caller table a).made → last_known (drop n (caller table b).made) (index table.start.layout current) ≡ Some (current_word y)
      known_at {n} counted = ap (λ ms. last_known (drop n ms) (index table.start.layout current)) (ap (λ (p : Caller). p.made) part_behind) ∙ found_known n (caller table a).made (step_of_load table y) (index table.start.layout current) counted refl refl

      pub settling_late : {t : Spent} → budget ≤ b.turns → {n : ℕ} → MayRun table n budget start → EventSettled table n budget d start b (Err t)
      settling_late used {n} may = let g = settling_loaded in record {
        rests = g.rests;
        cut = g.cut;
        answers = (g.ran n may, g.owes, used_up v.is g.within used (record { current = y; may = may_settle; known = known_at (s.ran n may).counted }));
      }

      module _ {c : Pass} {won : Bool} (back : SettledBack table b c d y won) (room : b.turns < budget) where
        back_part : (t : Bool) → won ≡ t → caller table c ≡ makes (step_of_settle table d y back.found) (cond t (settles_back d (caller table b)) (caller table b))
        back_part t is = back.part ∙ ap (λ z. makes (step_of_settle table d y back.found) (cond z (settles_back d (caller table b)) (caller table b))) is

        back_debts : (t : Bool) → won ≡ t → c.debts ≡ cond t (record b.debts { settle = None }) b.debts
        back_debts t is = back.debts ∙ ap (λ z. cond z (record b.debts { settle = None }) b.debts) is

        back_ran : (entries : List Entry) → c.debts.copy ≡ b.debts.copy → c.debts.second_cut ≡ b.debts.second_cut → (caller table c).made ≡ (caller table b).made ++ (step_of_settle table d y back.found) ∷ [] → (caller table c).deal ≡ (caller table b).deal → (caller table c).told ≡ (caller table b).told
            → (caller table c).own ≡ (caller table b).own ++ entries → {n : ℕ} → MayRun table n budget start → RanUnraised table n budget 0 start c entries
        back_ran entries copy second_cut made deal told own {n} may = let r = settling_loaded.ran n may in
            calm_trans r (ran_exchange (step_of_settle table d y back.found) entries (may_go may r) room back.is (ap (λ (p : Pass). p.number) back.same) copy second_cut back.turns refl (λ _. (known_at (s.ran n may).counted, words_apart d y v.is_current)) (omega arith, refl) made deal told own)

        pub settled_back_done : {u : Unit {0}} {n : ℕ} → won ≡ true → MayRun table n budget start → EventSettled table n budget d start c (Ok u)
        settled_back_done {u} {n} hit may = let debts = back_debts true hit in let part = back_part true hit in let g = settling_loaded in record {
          rests = record {
            is = back.is;
            guard = ap (λ (p : Caller). p.guard) part ∙ g.rests.guard;
            cut = ap (λ (p : Caller). p.cut) part ∙ g.rests.cut;
            settle = ap (λ (p : Caller). p.debts.settle) part ∙ sym (ap (λ (z : Debts). z.settle) debts);
            copy = ap (λ (z : Debts). z.copy) debts ∙ g.rests.copy;
            second_cut = ap (λ (z : Debts). z.second_cut) debts ∙ g.rests.second_cut;
          };
          cut = ap (λ (z : Debts). z.cut) debts ∙ g.cut;
          answers = (
            back_ran (Settled start.number d.event ∷ []) (ap (λ (z : Debts). z.copy) debts) (ap (λ (z : Debts). z.second_cut) debts) (ap (λ (p : Caller). p.made) part) (ap (λ (p : Caller). p.deal) part) (ap (λ (p : Caller). p.told) part)
                (ap (λ (p : Caller). p.own) part ∙ ap (λ j. (caller table b).own ++ Settled j d.event ∷ []) (g.rests.is.sits.numbered ∙ (g.ran n may).number)) may,
            ap (λ (z : Debts). z.settle) debts,
          );
        }

        -- another pass changed current meanwhile
        pub settling_lost : budget < 4294967296 → won ≡ false → IsSettling table budget d start c × (c.turns ≡ b.turns + 1)
        settling_lost low lost = let debts = back_debts false lost in let part = back_part false lost in let g = settling_loaded in let t = back.turns in (
          record {
            rests = record {
              is = back.is;
              guard = ap (λ (p : Caller). p.guard) part ∙ g.rests.guard;
              cut = ap (λ (p : Caller). p.cut) part ∙ g.rests.cut;
              settle = ap (λ (p : Caller). p.debts.settle) part ∙ (g.rests.settle ∙ sym (ap (λ (z : Debts). z.settle) debts));
              copy = ap (λ (z : Debts). z.copy) debts ∙ g.rests.copy;
              second_cut = ap (λ (z : Debts). z.second_cut) debts ∙ g.rests.second_cut;
            };
            owes = ap (λ (z : Debts). z.settle) debts ∙ g.owes;
            cut = ap (λ (z : Debts). z.cut) debts ∙ g.cut;
            within = omega arith;
            ran = λ n may. back_ran [] (ap (λ (z : Debts). z.copy) debts) (ap (λ (z : Debts). z.second_cut) debts) (ap (λ (p : Caller). p.made) part) (ap (λ (p : Caller). p.deal) part) (ap (λ (p : Caller). p.told) part)
                (ap (λ (p : Caller). p.own) part ∙ sym (append-nil (caller table b).own)) may;
          },
          omega arith,
        )

-- What is owed, one after the other

-- nothing is settled where no event is owed, and else just that
settles_none : (pass : Pass) → pass.debts.settle ≡ None → settles pass ≡ []
settles_none pass is = ap (settled_entries pass.number) is

settles_one : (pass : Pass) (d : SettleDebt) → pass.debts.settle ≡ Some d → settles pass ≡ Settled pass.number d.event ∷ []
settles_one pass d is = ap (settled_entries pass.number) is

none_some : {A : Type 0} {a : A} (o : Option A) → o ≡ Some a → o ≡ None → ⊥
none_some o some none = go (sym some ∙ none)
  where
    go : {A : Type 0} {a : A} → Some a ≡ None → ⊥
    go e = cc

module _ {table : Table} {budget : ℕ} {old : Pass} (r : IsResting table old) where
  pub nothing_finished : {u : Unit {0}} → old.debts.settle ≡ None → {n : ℕ} → MayRun table n budget old → EventFinished table n budget old old (Ok u)
  nothing_finished none {n} may = record { rests = r; cut = refl; idle = λ _. refl; answers = (subst (RanUnraised table n budget 0 old old) (sym (settles_none old none)) (ran_calm (ran_none r.is may)), none) }

  module _ {new : Pass} {d : SettleDebt} (is : old.debts.settle ≡ Some d) where
    finish_answers : {n : ℕ} (result : Result (Unit {0}) Spent) → EventSettled table n budget d old new result → FinishAnswers table n budget old new result
    finish_answers {n} (Ok u) s = (subst (RanUnraised table n budget 0 old new) (sym (settles_one old d is)) s.answers.0, s.answers.1)
    finish_answers {n} (Err t) s = record { debt = d; owed = is; ran = s.answers.0; still = s.answers.1; cut = s.cut; short = s.answers.2 }

    pub event_finished : {n : ℕ} (result : Result (Unit {0}) Spent) → EventSettled table n budget d old new result → EventFinished table n budget old new result
    event_finished result s = record { rests = s.rests; cut = s.cut; idle = λ none. absurd (none_some old.debts.settle is none); answers = finish_answers result s }

module _ {table : Table} {n budget : ℕ} {old mid : Pass} where
  pub stopped_at_event : {s t : Spent} → EventFinished table n budget old mid (Err s) → DebtsSettled table n budget old mid (Err t)
  stopped_at_event f = record { rests = f.rests; idle = λ nothing. f.idle nothing.0; answers = inl f.answers }

  module _ {u : Unit {0}} (f : EventFinished table n budget old mid (Ok u)) where
    pub nothing_left : {v : Unit {0}} → mid.debts.cut ≡ None → DebtsSettled table n budget old mid (Ok v)
    nothing_left none = record { rests = f.rests; idle = λ nothing. f.idle nothing.0; answers = (f.answers.0, (f.answers.1, none)) }

    is_none_none : {A : Type 0} (o : Option A) → is_some o ≡ false → o ≡ None
    is_none_none None e = refl
    is_none_none (Some a) e = absurd (false≢true (sym e))

    pub none_left : {v : Unit {0}} → is_some mid.debts.cut ≡ false → DebtsSettled table n budget old mid (Ok v)
    none_left none = nothing_left (is_none_none mid.debts.cut none)

    some_none : {A : Type 0} (o : Option A) → is_some o ≡ true → o ≡ None → ⊥
    some_none o some none = false≢true (sym (ap is_some none) ∙ some)

    module _ {new : Pass} (some : is_some mid.debts.cut ≡ true) where
      cut_answers : (result : Result (Unit {0}) Spent) → DebtCut table n budget mid new result → SettlingAnswers table n budget old new result
      cut_answers (Ok v) c = (subst (RanUnraised table n budget 0 old new) (append-nil (settles old)) (calm_trans f.answers.0 (ran_calm c.ran)), (c.settle ∙ f.answers.1, c.finished))
      cut_answers (Err t) c = inr (record {
        ran = subst (RanUnraised table n budget 0 old new) (append-nil (settles old)) (calm_trans f.answers.0 (ran_calm c.ran));
        settled = c.settle ∙ f.answers.1;
        owes = c.finished.0 ∙ f.cut;
        short = subst (λ owed. IsUsedUp table n budget (CutNeeds n table owed) new) f.cut c.finished.1;
      })

      pub cut_after : (result : Result (Unit {0}) Spent) → DebtCut table n budget mid new result → DebtsSettled table n budget old new result
      cut_after result c = record { rests = c.rests; idle = λ nothing. absurd (some_none mid.debts.cut some (f.cut ∙ nothing.1)); answers = cut_answers result c }
