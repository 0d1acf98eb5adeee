-- How calls begin, and puts and settlements as wholes, each made of stages.
use Rattle.std.proofs.Common.{◌≡◌, ◌⊎◌, ⊎_elim, inl, inr, ℕ, ◌-◌, ◌^◌, ◌<◌, ◌≤◌, cond, Bool, true, false, List, [], ◌∷◌, ◌++◌, length, Option, Some, None, Result, Ok, Err, refl, ap, ◌∙◌, subst, arith, lt-ltb}
use Rattle.std.proofs.lemmas.List.{append_assoc}
use Rattle.crq_base.specs.declared.answers.Refusal.{Refusal}
use Rattle.crq_base.specs.declared.answers.Refusal.TheVariants.{Again, Held, Rows, Epochs}
use Rattle.crq_base.specs.declared.answers.PutEnd.TheVariants.{Settled as IsSettled, Owed}
use Rattle.crq_base.specs.declared.entry.Entry.{Entry}
use Rattle.crq_base.specs.declared.entry.Entry.TheVariants.{Begin, Put, Settled}
use Rattle.crq_base.specs.declared.event.Event.{Event}
use Rattle.crq_base.specs.declared.kinds.StepKind.TheVariants.{Begin as BeginKind}
use Rattle.crq_base.specs.declared.words.Control.{Control}
use Rattle.crq_base.specs.declared.words.Current.{Current}
use Rattle.crq_base.specs.Lists.{In}
use Rattle.crq_base.specs.Sources.{IsFresh}
use Rattle.crq_rule.specs.declared.debts.Debts.{Debts}
use Rattle.crq_rule.specs.declared.debts.SettleDebt.{SettleDebt}
use Rattle.crq_rule.specs.declared.layout.Start.{Start}
use Rattle.crq_rule.specs.declared.pass.Pass.{Pass}
use Rattle.crq_rule.specs.declared.pass.Table.{Table}
use Rattle.crq_rule.specs.declared.view.Made.{Made}
use Rattle.crq_rule.specs.declared.view.Caller.{Caller}
use Rattle.crq_rule.specs.declared.view.Found.{Found}
use Rattle.crq_rule.specs.Ranks.{shape_of}
use Rattle.crq_rule.specs.ListKinds.{begins, owed_event}
use Rattle.crq_rule.specs.CurrentKinds.{permit_after}
use Rattle.crq_rows.specs.Passes.{caller}
use Rattle.crq_list.specs.Swaps.{Controlled}
use Rattle.crq_current.specs.Positions.{Viewed}
use Rattle.crq_queue.specs.declared.runs.Spent.{Spent}
use Rattle.crq_queue.specs.Wholes.{IsResting}
use Rattle.crq_queue.specs.Runs.{RanAs, RanUnraised, Unraised, MayRun, ticks_of}
use Rattle.crq_queue.specs.Parts.{SettleNeeds, IsUsedUp}
use Rattle.crq_queue.specs.Stages.{CallBegun, DebtsSettled, StopsAtEvent, StopsAtCut, EventInserted, EventSettled, RowAnswers, RowFound, anew}
use Rattle.crq_queue.specs.Calls.{call, CalledAs, OwesNothing, settles, settled_entries, StoppedAtEvent, StoppedAtCut, StoppedSettling, WentOnAs, PutOn, RowSought, NoEpoch, PutWants, PutAnswers, SettleAnswers}
use Rattle.crq_queue.proofs.RunLaws.{ran_join, ran_calm, calm_join, calm_trans, ticks_append, raises_append, used_for}
use Rattle.crq_queue.proofs.CallSteps.{may_go, may_anew, called_as, called, begin_rests, begin_found, begin_ran}
use Rattle.crq_queue.proofs.CallStages.{fresh_on}
use Rattle.crq_queue.proofs.CurrentRuns.{view_ran, view_rests}

-- What was added leaves an event fresh where none of it is a put

abbrev pub NoPuts : List Entry → Type 0
NoPuts es = (i : ℕ) (f : Event) → In (Put i f) es → ⊥

in_append : (x : Entry) (xs ys : List Entry) → In x (xs ++ ys) → In x xs ⊎ In x ys
in_append x [] ys i = inr i
in_append x (z ∷ xs) ys (inl is) = inl (inl is)
in_append x (z ∷ xs) ys (inr i) = ⊎_elim (λ a. inl (inr a)) inr (in_append x xs ys i)

pub no_puts_append : (xs ys : List Entry) → NoPuts xs → NoPuts ys → NoPuts (xs ++ ys)
no_puts_append xs ys p q i f a = ⊎_elim (p i f) (q i f) (in_append (Put i f) xs ys a)

pub no_puts_nil : NoPuts []
no_puts_nil i f a = a

pub no_puts_begin : (k : ℕ) → NoPuts (Begin k ∷ [])
no_puts_begin k i f (inl is) = absurd (not_begin is)
  where
    not_begin : {i k : ℕ} {f : Event} → Put i f ≡ Begin k → ⊥
    not_begin is = cc
no_puts_begin k i f (inr a) = a

pub no_puts_settled : (k : ℕ) (o : Option SettleDebt) → NoPuts (settled_entries k o)
no_puts_settled k None i f a = a
no_puts_settled k (Some d) i f (inl is) = absurd (not_settled is)
  where
    not_settled : {i k : ℕ} {e f : Event} → Put i f ≡ Settled k e → ⊥
    not_settled is = cc
no_puts_settled k (Some d) i f (inr a) = a

pub fresh_more : (w span j : ℕ) (history own es : List Entry) (e : Event) → NoPuts es → IsFresh w history own span j e → IsFresh w history (own ++ es) span j e
fresh_more w span j history own es e none fresh = (fresh.0, λ i f seen. fresh.1 i f (⊎_elim inl (λ a. ⊎_elim inr (λ is. absurd (none i f is)) (in_append (Put i f) own es a)) seen))

-- How a call begins

module _ {table : Table} {budget : ℕ} {a : Pass} {result : Result (Unit {0}) Spent} (old : Pass) (low : budget < 4294967296) (settle : (n : ℕ) → MayRun table n budget (anew old) → DebtsSettled table n budget (anew old) a result) where
  -- what was owed is finished, or the budget is used up
  pub first_settled : DebtsSettled table (length (caller table old).made) budget (anew old) a result
  first_settled = settle (length (caller table old).made) (may_anew table old low)

-- it stopped
module _ {table : Table} {budget : ℕ} {a : Pass} (old : Pass) (rests : IsResting table a) where
  stops_at_event : StopsAtEvent table (length (caller table old).made) budget (anew old) a → StoppedAtEvent (call table budget old) a
  stops_at_event s = record { debt = s.debt; owed = s.owed; called = called (omega arith) s.ran rests; still = s.still; cut = s.cut; short = s.short }

  stops_at_cut : StopsAtCut table (length (caller table old).made) budget (anew old) a → StoppedAtCut (call table budget old) a
  stops_at_cut s = record { called = called (omega arith) s.ran rests; settled = s.settled; owes = s.owes; short = s.short }

pub begin_stopped : {table : Table} {budget : ℕ} {a : Pass} {s : Spent} (old : Pass) → budget < 4294967296 → ((n : ℕ) → MayRun table n budget (anew old) → DebtsSettled table n budget (anew old) a (Err s)) → StoppedSettling (call table budget old) a (Again budget)
begin_stopped old low settle = let s = first_settled old low settle in record { again = refl; stopped = ⊎_elim (λ e. inl (stops_at_event old s.rests e)) (λ e. inr (stops_at_cut old s.rests e)) s.answers }

-- it finished what was owed
module _ {table : Table} {budget : ℕ} {a : Pass} {u : Unit {0}} (old : Pass) (low : budget < 4294967296) (settle : (n : ℕ) → MayRun table n budget (anew old) → DebtsSettled table n budget (anew old) a (Ok u)) where
  pub settled_all : SettleAnswers (call table budget old) a (Ok u)
  settled_all = let s = first_settled old low settle in (called (omega arith) s.answers.0 s.rests, s.answers.1)

  -- it made its Begin
  pub begin_done : {b : Pass} {x : Control} → Controlled BeginKind table a b begins x → CallBegun (call table budget old) b x
  begin_done {b} {x} begin = let s = first_settled old low settle in let same = ap (λ (p : Pass). p.debts) begin.same in record {
    settled = a;
    settling = settled_all.0;
    nothing = s.answers.1;
    begin = begin;
    ran = subst (λ j. RanUnraised table (length (caller table old).made) budget 0 (anew old) b (settles old ++ (Begin j ∷ []))) s.answers.0.number (calm_trans s.answers.0 (ran_calm (begin_ran begin s.rests.is (may_go (may_anew table old low) s.answers.0))));
    rests = begin_rests begin s.rests;
    free = (ap (λ (d : Debts). d.settle) same ∙ s.answers.1.0, ap (λ (d : Debts). d.cut) same ∙ s.answers.1.1);
  }

-- How it goes on

module _ {table : Table} {budget : ℕ} {b : Pass} {x : Control} (old : Pass) (low : budget < 4294967296) (begun : CallBegun (call table budget old) b x) where
  pub may_begun : MayRun table (length (caller table old).made) budget b
  may_begun = may_go (may_anew table old low) begun.ran

  pub begun_found : (caller table b).found.control ≡ Some x
  begun_found = begin_found begun.begin

  -- it rests again, with these entries
  abbrev pub went_on : {Raises : Control → List Made → Type 0} {Makes Whole : List Made → Type 0} {new : Pass} {es : List Entry} → ((xs ys : List Made) → Unraised 0 xs → Makes ys → Whole (xs ++ ys)) → ((ms : List Made) → Whole ms → (ticks_of ms ≤ 3) × Raises x ms)
      → RanAs Makes table (length (caller table old).made) budget b new es → IsResting table new → WentOnAs Raises (call table budget old) new es
  went_on {Raises} {Makes} {Whole} {new} {es} join whole ran rests = let both : RanAs Whole table (length (caller table old).made) budget (anew old) new ((settles old ++ (Begin old.number ∷ [])) ++ es) = ran_join join begun.ran ran in let few = whole both.since both.makes in record {
    settled = begun.settled;
    settling = begun.settling;
    nothing = begun.nothing;
    begun = b;
    control = x;
    begin = begun.begin;
    follows = (ran.since, ran.made);
    called = subst (CalledAs (Raises x) (call table budget old) new) (append_assoc (settles old) (Begin old.number ∷ []) es) (called_as both rests few.0 few.1);
  }

  -- as a put does
  abbrev pub put_on : {most : ℕ} {new : Pass} {es : List Entry} → most ≤ 3 → RanUnraised table (length (caller table old).made) budget most b new es → IsResting table new → PutOn (call table budget old) new es
  put_on {most} few ran rests = went_on {Whole = Unraised most} (λ xs ys a b. (let t = ticks_append xs ys in let s = a.0 in let u = b.0 in omega arith, let t = raises_append xs ys in let s = a.1 in let u = b.1 in omega arith)) (λ ms u. (let t = u.0 in omega arith, u.1)) ran rests

-- A put

permits_low : (y : Current) (permit : Bool) → y.epoch < 2 ^ 32 - 64 → permit_after y permit ≡ true
permits_low y permit room = ap (λ b. cond b true permit) (lt-ltb y.epoch (2 ^ 32 - 64) room)

module _ {table : Table} {budget : ℕ} {b v : Pass} {x : Control} {y : Current} (old : Pass) (low : budget < 4294967296) (begun : CallBegun (call table budget old) b x) (view : Viewed table b v false y) where
  viewed_ran : RanUnraised table (length (caller table old).made) budget 0 b v []
  viewed_ran = view_ran view (may_begun old low begun)

  pub viewed_rests : IsResting table v
  viewed_rests = view_rests view begun.rests

  viewed_nothing : OwesNothing v
  viewed_nothing = let same = ap (λ (p : Pass). p.debts) view.same in (ap (λ (d : Debts). d.settle) same ∙ begun.free.0, ap (λ (d : Debts). d.cut) same ∙ begun.free.1)

  pub viewed_found : (caller table v).found.control ≡ Some x
  viewed_found = ap (λ (p : Caller). p.found.control) view.part ∙ begun_found old low begun

  pub viewed_may : MayRun table (length (caller table old).made) budget v
  viewed_may = may_go (may_begun old low begun) viewed_ran

  pub viewed_within : v.turns ≤ budget
  viewed_within = viewed_ran.within

  -- the epoch has no room left
  no_epoch : 2 ^ 32 - 64 ≤ y.epoch → NoEpoch table b v
  no_epoch high = record {
    current = y;
    is = view.is_current;
    high = high;
    load = ap (λ (p : Caller). p.made) view.part;
    told = let is = ap (λ (p : Caller). p.told.settled) view.part in let start = ap (λ (s : Start). s.first.epoch) begun.rests.is.sits.started in omega arith;
  }

  pub put_without_epoch : (e : Event) → 2 ^ 32 - 64 ≤ y.epoch → PutAnswers (call table budget old) e v (Err Epochs)
  put_without_epoch e high = inr (record { on = put_on old low begun (omega arith) viewed_ran viewed_rests; nothing = viewed_nothing; wants = no_epoch high })

  module _ (room : y.epoch < 2 ^ 32 - 64) where
    viewed_permit : (caller table v).permit ≡ true
    viewed_permit = ap (λ (p : Caller). p.permit) view.part ∙ permits_low y (caller table b).permit room

    row_sought : RowSought table b v
    row_sought = record { current = y; is = view.is_current; low = room; load = ap (λ (p : Caller). p.made) view.part }

    -- why a row was refused is why the put is
    put_wants : (c : Pass) (e : Event) (refusal : Refusal) → RowAnswers table (length (caller table old).made) budget v c (Err refusal) → PutWants (call table budget old) e b c refusal
    put_wants c e (Again turns) r = (r.0, used_for (λ p needs. inl needs) r.1)
    put_wants c e (Held holder) r = (v, row_sought, r)
    put_wants c e Rows r = (v, row_sought, r.0, r.1)
    put_wants c e Epochs r = absurd r

    module _ {c : Pass} where
      pub put_refused : (e : Event) (refusal : Refusal) → ((n : ℕ) → MayRun table n budget v → RowFound table n budget v c (Err refusal)) → PutAnswers (call table budget old) e c (Err refusal)
      put_refused e refusal find = let f = find (length (caller table old).made) viewed_may in inr (record {
        on = put_on old low begun (omega arith) (calm_join {k = 0} {l = 3} viewed_ran (ran_calm f.ran)) f.rests;
        nothing = (ap (λ (d : Debts). d.settle) f.debts ∙ viewed_nothing.0, ap (λ (d : Debts). d.cut) f.debts ∙ viewed_nothing.1);
        wants = put_wants c e refusal f.answers;
      })

      module _ {row : ℕ} (find : (n : ℕ) → MayRun table n budget v → RowFound table n budget v c (Ok row)) where
        pub row_found : RowFound table (length (caller table old).made) budget v c (Ok row)
        row_found = find (length (caller table old).made) viewed_may

        row_ran : RanUnraised table (length (caller table old).made) budget 3 b c []
        row_ran = calm_join {k = 0} {l = 3} viewed_ran (ran_calm row_found.ran)

        pub still_found : (caller table c).found.control ≡ Some x
        still_found = ap (λ (f : Found). f.control) row_found.found ∙ viewed_found

        pub still_permit : (caller table c).permit ≡ true
        still_permit = row_found.event.permit ∙ viewed_permit

        pub still_nothing : OwesNothing c
        still_nothing = (ap (λ (d : Debts). d.settle) row_found.debts ∙ viewed_nothing.0, ap (λ (d : Debts). d.cut) row_found.debts ∙ viewed_nothing.1)

        pub still_fresh : (e : Event) → IsFresh table.start.layout.workers (caller table old).deal.history (caller table old).own (caller table old).deal.span old.number e
            → IsFresh table.start.layout.workers (caller table c).deal.history (caller table c).own (caller table c).deal.span c.number e
        still_fresh e fresh = let w : ℕ = table.start.layout.workers in let p : Caller = caller table old in let r = calm_join {k = 0} {l = 3} begun.ran row_ran in let es : List Entry = (settles old ++ (Begin old.number ∷ [])) ++ [] in
            let none : NoPuts es = no_puts_append (settles old ++ (Begin old.number ∷ [])) [] (no_puts_append (settles old) (Begin old.number ∷ []) (no_puts_settled old.number old.debts.settle) (no_puts_begin old.number)) no_puts_nil in
            fresh_on w e p.deal (caller table c).deal (p.own ++ es) (caller table c).own old.number c.number r.deal r.own r.number (fresh_more w p.deal.span old.number p.deal.history p.own es e none fresh)

        row_may : MayRun table (length (caller table old).made) budget c
        row_may = may_go viewed_may row_found.ran

        still_number : c.number ≡ old.number
        still_number = row_found.ran.number ∙ (viewed_ran.number ∙ begun.ran.number)

        pub put_late : {s : Spent} (e : Event) (d : Pass) → ((n : ℕ) → MayRun table n budget c → EventInserted table n budget x e c d (Err s)) → PutAnswers (call table budget old) e d (Err (Again budget))
        put_late e d insert = let i = insert (length (caller table old).made) row_may in inr (record {
          on = put_on old low begun (omega arith) (calm_join {k = 3} {l = 0} row_ran (ran_calm i.0)) i.1;
          nothing = (ap (λ (d : Debts). d.settle) i.2 ∙ still_nothing.0, ap (λ (d : Debts). d.cut) i.2 ∙ still_nothing.1);
          wants = (refl, used_for (λ p needs. inr needs) i.3);
        })

        module _ {u : Unit {0}} (e : Event) (d : Pass) (insert : (n : ℕ) → MayRun table n budget c → EventInserted table n budget x e c d (Ok u)) where
          pub event_put : EventInserted table (length (caller table old).made) budget x e c d (Ok u)
          event_put = insert (length (caller table old).made) row_may

          put_ran : RanUnraised table (length (caller table old).made) budget 3 b d (Put old.number e ∷ [])
          put_ran = subst (λ j. RanUnraised table (length (caller table old).made) budget 3 b d (Put j e ∷ [])) still_number (calm_join {k = 3} {l = 0} row_ran (ran_calm event_put.0))

          put_may : MayRun table (length (caller table old).made) budget d
          put_may = may_go row_may event_put.0

          put_number : d.number ≡ old.number
          put_number = event_put.0.number ∙ still_number

          module _ {f : Pass} (debt : SettleDebt) (is : debt ≡ owed_event x.generation (shape_of x) e) where
            pub put_settled : {w : Unit {0}} → ((n : ℕ) → MayRun table n budget d → EventSettled table n budget debt d f (Ok w)) → PutAnswers (call table budget old) e f (Ok IsSettled)
            put_settled settle = let s = settle (length (caller table old).made) put_may in (
              put_on old low begun (omega arith) (subst (λ (z : ℕ × Event). RanUnraised table (length (caller table old).made) budget 3 b f (Put old.number e ∷ Settled z.0 z.1 ∷ [])) (λ i. (put_number i, ap (λ (d : SettleDebt). d.event) is i)) (calm_join {k = 3} {l = 0} put_ran s.answers.0)) s.rests,
              (s.answers.1, s.cut ∙ (event_put.3 ∙ still_nothing.1)),
            )

            pub put_owed : {t : Spent} → ((n : ℕ) → MayRun table n budget d → EventSettled table n budget debt d f (Err t)) → PutAnswers (call table budget old) e f (Ok Owed)
            put_owed settle = let s = settle (length (caller table old).made) put_may in (
              put_on old low begun (omega arith) (calm_join {k = 3} {l = 0} put_ran s.answers.0) s.rests,
              record { owes = s.answers.1 ∙ ap Some is; cut = s.cut ∙ (event_put.3 ∙ still_nothing.1); short = subst (λ debt. IsUsedUp table (length (caller table old).made) budget (SettleNeeds (length (caller table old).made) table debt) f) is s.answers.2 },
            )
