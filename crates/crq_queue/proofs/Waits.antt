-- What several tries of a call make together.
use Rattle.std.proofs.Common.{◌≡◌, ◌⊎◌, ⊎_elim, inl, inr, ℕ, ◌+◌, ◌-◌, ◌^◌, ◌≤◌, List, [], ◌∷◌, ◌++◌, Option, Some, None, Result, Ok, Err, refl, sym, ap, ◌∙◌, subst}
use Rattle.std.proofs.lemmas.List.{append_assoc, append-nil}
use Rattle.std.specs.Prelude.{is_some, false}
use Rattle.crq_base.specs.declared.event.Event.{Event}
use Rattle.crq_base.specs.declared.entry.Entry.{Entry}
use Rattle.crq_base.specs.declared.entry.Entry.TheVariants.{Begin, Put, Settled, Take, Miss}
use Rattle.crq_base.specs.declared.words.Control.{Control}
use Rattle.crq_base.specs.declared.answers.PutEnd.{PutEnd}
use Rattle.crq_base.specs.declared.answers.PutEnd.TheVariants.{Settled as IsSettled, Owed}
use Rattle.crq_base.specs.declared.answers.TakeEnd.{TakeEnd}
use Rattle.crq_base.specs.declared.answers.TakeEnd.TheVariants.{Taken, Missed}
use Rattle.crq_base.specs.declared.answers.Refusal.{Refusal}
use Rattle.crq_base.specs.declared.answers.Refusal.TheVariants.{Again, Held, Rows, Epochs}
use Rattle.crq_base.specs.declared.answers.Short.{Short}
use Rattle.crq_base.specs.declared.answers.Short.TheVariants.{Rows as NoRows, Epochs as NoEpochs, Memory}
use Rattle.crq_base.specs.Lists.{In}
use Rattle.crq_base.specs.Sources.{IsFresh}
use Rattle.crq_base.proofs.Elements.{in_left, in_cases}
use Rattle.crq_rule.specs.declared.debts.SettleDebt.{SettleDebt}
use Rattle.crq_rule.specs.declared.pass.Pass.{Pass}
use Rattle.crq_rule.specs.declared.pass.Table.{Table}
use Rattle.crq_rule.specs.declared.view.Caller.{Caller}
use Rattle.crq_rule.specs.declared.view.Made.{Made}
use Rattle.crq_rows.specs.Passes.{caller}
use Rattle.crq_rows.specs.Recovering.{CountsRows}
use Rattle.crq_set.specs.Answers.{AreBegins}
use Rattle.crq_queue.specs.Wholes.{IsResting}
use Rattle.crq_queue.specs.Calls.{call, CalledAs, WentOnAs, OwesNothing, StoppedAtEvent, StoppedAtCut, StoppedSettling, settled_entries, settles}
use Rattle.crq_queue.specs.Waits.{short_of, try_budget, Tried, PutTries, TakeTries, SettleTries, PutTried, TakeTried, SettleTried, Adds, AddsBegun, PutAdded, PutLeft, TakeAdded}
use Rattle.crq_queue.specs.Waits.Tried.{tried_last, tried_again}
use Rattle.crq_queue.proofs.CallStages.{fresh_on}
use Rattle.crq_queue.proofs.RunLaws.{told_same, told_trans}

-- Entries that were added

pub begins_snoc : (k : ℕ) (entries : List Entry) → AreBegins k entries → AreBegins k (entries ++ Begin k ∷ [])
begins_snoc k [] are = (refl, tt)
begins_snoc k (entry ∷ entries) are = (are.0, begins_snoc k entries are.1)

-- what is added where nothing is owed, and where the same event is owed
pub settles_none : (pass : Pass) → pass.debts.settle ≡ None → settles pass ≡ []
settles_none pass none = ap (λ d. settled_entries pass.number d) none

settles_same : (a b : Pass) → b.number ≡ a.number → b.debts.settle ≡ a.debts.settle → settles b ≡ settles a
settles_same a b number settle = λ i. settled_entries (number i) (settle i)

adds_none : {table : Table} {pass : Pass} → IsResting table pass → Adds table pass pass []
adds_none {table} {pass} rests = record { rests = rests; number = refl; deal = refl; own = sym (append-nil (caller table pass).own); told = told_same refl }

adds_all : {table : Table} {a b c : Pass} {entries more : List Entry} → Adds table a b entries → Adds table b c more → Adds table a c (entries ++ more)
adds_all {table} {a} {b} {c} {entries} {more} first then = record {
  rests = then.rests;
  number = then.number ∙ first.number;
  deal = then.deal ∙ first.deal;
  own = then.own ∙ (ap (λ es. es ++ more) first.own ∙ append_assoc (caller table a).own entries more);
  told = told_trans first.told then.told;
}

adds_called : {table : Table} {budget : ℕ} {b c : Pass} {more : List Entry} (Raises : List Made → Type 0) → CalledAs Raises (call table budget b) c more → Adds table b c more
adds_called Raises called = record { rests = called.rests; number = called.number; deal = called.deal; own = called.own; told = called.told }

-- Tries that were refused for a while added these entries: the Settled of the event that was owed, unless that is still to be added, and then Begins
pub record HasBegun (table : Table) (old now : Pass) : Type 0 where
  pub entries : List Entry
  pub begins : List Entry
  pub are : AreBegins old.number begins
  pub adds : Adds table old now entries
  pub line : entries ++ settles now ≡ settles old ++ begins

begun_none : {table : Table} {pass : Pass} → IsResting table pass → HasBegun table pass pass
begun_none {table} {pass} rests = record { entries = []; begins = []; are = tt; adds = adds_none rests; line = sym (append-nil (settles pass)) }

module _ {table : Table} {a b : Pass} (begun : HasBegun table a b) where
  -- what a call adds that went on to its Begin
  begun_line : (more : ℕ → List Entry) → begun.entries ++ (settles b ++ (Begin b.number ∷ more b.number)) ≡ settles a ++ (begun.begins ++ (Begin a.number ∷ more a.number))
  begun_line more = let then : List Entry = Begin b.number ∷ more b.number in
      sym (append_assoc begun.entries (settles b) then) ∙ (ap (λ es. es ++ then) begun.line ∙ (append_assoc (settles a) begun.begins then ∙ ap (λ k. settles a ++ (begun.begins ++ (Begin k ∷ more k))) begun.adds.number))

module _ {table : Table} {budget : ℕ} {a b c : Pass} (begun : HasBegun table a b) where
  -- a call that stopped at the event added nothing, and one that stopped at the dead row the Settled of the event
  begun_event : StoppedAtEvent (call table budget b) c → HasBegun table a c
  begun_event s = record {
    entries = begun.entries;
    begins = begun.begins;
    are = begun.are;
    adds = subst (λ es. Adds table a c es) (append-nil begun.entries) (adds_all begun.adds (adds_called _ s.called));
    line = ap (λ es. begun.entries ++ es) (settles_same b c s.called.number (s.still ∙ sym s.owed)) ∙ begun.line;
  }

  begun_cut : StoppedAtCut (call table budget b) c → HasBegun table a c
  begun_cut s = let more : List Entry = begun.entries ++ settles b in record {
    entries = more;
    begins = begun.begins;
    are = begun.are;
    adds = adds_all begun.adds (adds_called _ s.called);
    line = ap (λ es. more ++ es) (settles_none c s.settled) ∙ (append-nil more ∙ begun.line);
  }

  begun_stopped : (refusal : Refusal) → StoppedSettling (call table budget b) c refusal → HasBegun table a c
  begun_stopped refusal s = ⊎_elim begun_event begun_cut s.stopped

  begun_then : (more : ℕ → List Entry) {Raises : Control → List Made → Type 0} → WentOnAs Raises (call table budget b) c (more b.number) → AddsBegun table a c (more a.number)
  begun_then more on = (begun.begins, begun.are, subst (λ es. Adds table a c es) (begun_line begun more) (adds_all begun.adds (adds_called _ on.called)))

  begun_on : {Raises : Control → List Made → Type 0} → WentOnAs Raises (call table budget b) c [] → OwesNothing c → HasBegun table a c
  begun_on on nothing = let more : List Entry = begun.entries ++ (settles b ++ Begin b.number ∷ []) in record {
    entries = more;
    begins = begun.begins ++ Begin a.number ∷ [];
    are = begins_snoc a.number begun.begins begun.are;
    adds = adds_all begun.adds (adds_called _ on.called);
    line = ap (λ es. more ++ es) (settles_none c nothing.0) ∙ (append-nil more ∙ begun_line begun (λ k. []));
  }

-- Tries that go on

-- tries that were all refused for a while led from the one pass to the other
pub record IsTrying {A : Type 0} (Answers : Pass → Pass → Result A Refusal → Type 0) (table : Table) (old now : Pass) : Type 0 where
  pub begun : HasBegun table old now
  pub onto : (new : Pass) (answer : Result A Refusal) → Tried Answers now new answer → Tried Answers old new answer

module _ {A : Type 0} (Answers : Pass → Pass → Result A Refusal → Type 0) {table : Table} where
  pub trying_none : {pass : Pass} → IsResting table pass → IsTrying Answers table pass pass
  trying_none rests = record { begun = begun_none rests; onto = λ new answer tried. tried }

  trying_on : {old now new : Pass} → IsTrying Answers table old now → HasBegun table old new → (refusal : Refusal) → short_of refusal ≡ None → Answers now new (Err refusal) → IsTrying Answers table old new
  trying_on {old} {now} {new} trying begun refusal passing answers = record { begun = begun; onto = λ end answer tried. trying.onto end answer (tried_again now new end refusal answer passing answers tried) }

  tried_to : {old now new : Pass} (answer : Result A Refusal) → IsTrying Answers table old now → Answers now new answer → Tried Answers old new answer
  tried_to {old} {now} {new} answer trying answers = trying.onto new answer (tried_last now new answer answers)

-- what settling and Begins add is no Put
module _ (i : ℕ) (f : Event) where
  no_settled_put : (k : ℕ) (d : Option SettleDebt) → In (Put i f) (settled_entries k d) → ⊥
  no_settled_put k None there = there
  no_settled_put k (Some d) there = ⊎_elim (λ is. absurd (cc)) (λ more. more) there

  no_begun_put : (k : ℕ) (begins : List Entry) → AreBegins k begins → In (Put i f) begins → ⊥
  no_begun_put k [] are there = there
  no_begun_put k (entry ∷ begins) are there = ⊎_elim (λ is. absurd (let begin = are.0 in cc)) (no_begun_put k begins are.1) there

  no_put : {table : Table} {old now : Pass} (begun : HasBegun table old now) → In (Put i f) begun.entries → ⊥
  no_put {table} {old} {now} begun there = ⊎_elim (no_settled_put old.number old.debts.settle) (no_begun_put old.number begun.begins begun.are)
      (in_cases (Put i f) (settles old) begun.begins (subst (In (Put i f)) begun.line (in_left (Put i f) begun.entries (settles now) there)))

-- so an event stays fresh over them
fresh_over : (w span j : ℕ) (history own more : List Entry) (e : Event) → ((i : ℕ) (f : Event) → In (Put i f) more → ⊥) → IsFresh w history own span j e → IsFresh w history (own ++ more) span j e
fresh_over w span j history own more e none fresh = (fresh.0, λ i f seen. fresh.1 i f (⊎_elim inl (λ there. inr (⊎_elim (λ before. before) (λ in_more. absurd (none i f in_more)) (in_cases (Put i f) own more there))) seen))

pub still_fresh : (table : Table) (old now : Pass) (e : Event) → HasBegun table old now
    → IsFresh table.start.layout.workers (caller table old).deal.history (caller table old).own (caller table old).deal.span old.number e
    → IsFresh table.start.layout.workers (caller table now).deal.history (caller table now).own (caller table now).deal.span now.number e
still_fresh table old now e begun fresh = let w : ℕ = table.start.layout.workers in let p : Caller = caller table old in let q : Caller = caller table now in
    fresh_on w e p.deal q.deal (p.own ++ begun.entries) q.own old.number now.number begun.adds.deal begun.adds.own begun.adds.number
    (fresh_over w p.deal.span old.number p.deal.history p.own begun.entries e (λ i f. no_put i f begun) fresh)

-- none that is short is none
pub none_after : (refusal : Refusal) (result : Option Short) → result ≡ short_of refusal → is_some result ≡ false → short_of refusal ≡ None
none_after refusal None is none = sym is
none_after refusal (Some short) is none = absurd (cc)

-- A put

module _ {table : Table} {old now new : Pass} (e : Event) (trying : IsTrying (PutTries table e) table old now) where
  pub put_again : (refusal : Refusal) → short_of refusal ≡ None → PutTries table e now new (Err refusal) → IsTrying (PutTries table e) table old new
  put_again refusal passing answers = trying_on (PutTries table e) trying (⊎_elim (begun_stopped trying.begun refusal) (λ r. begun_on trying.begun r.on r.nothing) answers) refusal passing answers

  put_tried : (end : PutEnd) → PutTries table e now new (Ok end) → PutTried table e old new (Ok tt)
  put_tried end answers = record { answer = Ok end; tries = tried_to (PutTries table e) (Ok end) trying answers; becomes = tt }

  pub put_ended : (end : PutEnd) → PutTries table e now new (Ok end) → PutTried table e old new (Ok tt) × PutLeft table e old new (Ok tt) × IsResting table new
  put_ended IsSettled answers = (put_tried IsSettled answers, inl (begun_then trying.begun (λ k. Put k e ∷ Settled k e ∷ []) answers.0, answers.1), answers.0.called.rests)
  put_ended Owed answers = (put_tried Owed answers, inr (begun_then trying.begun (λ k. Put k e ∷ []) answers.0, (_, answers.1.owes, refl, answers.1.cut)), answers.0.called.rests)

  pub put_short : (refusal : Refusal) (short : Short) → short_of refusal ≡ Some short → PutTries table e now new (Err refusal) → PutTried table e old new (Err short) × PutLeft table e old new (Err short) × IsResting table new
  put_short (Again turns) short is answers = absurd (cc)
  put_short (Held holder) short is answers = absurd (cc)
  put_short Rows NoRows is answers = ⊎_elim (λ s. absurd (let again = s.again in cc))
      (λ r. (record { answer = Err Rows; tries = tried_to (PutTries table e) (Err Rows) trying answers; becomes = is }, ((begun_then trying.begun (λ k. []) r.on, r.wants.3), r.nothing), r.on.called.rests)) answers
  put_short Rows NoEpochs is answers = absurd (cc)
  put_short Rows Memory is answers = absurd (cc)
  put_short Epochs NoEpochs is answers = ⊎_elim (λ s. absurd (let again = s.again in cc))
      (λ r. (record { answer = Err Epochs; tries = tried_to (PutTries table e) (Err Epochs) trying answers; becomes = is }, ((begun_then trying.begun (λ k. []) r.on, r.wants.told), r.nothing), r.on.called.rests)) answers
  put_short Epochs NoRows is answers = absurd (cc)
  put_short Epochs Memory is answers = absurd (cc)

-- A take

module _ {table : Table} {old now new : Pass} (limit : ℕ) (trying : IsTrying (TakeTries table limit) table old now) where
  pub take_again : (refusal : Refusal) → short_of refusal ≡ None → TakeTries table limit now new (Err refusal) → IsTrying (TakeTries table limit) table old new
  take_again refusal passing answers = trying_on (TakeTries table limit) trying (⊎_elim (begun_stopped trying.begun refusal) (λ r. begun_on trying.begun r.on r.nothing) answers) refusal passing answers

  -- no refusal of a take is the end
  pub take_short : (refusal : Refusal) (short : Short) → short_of refusal ≡ Some short → TakeTries table limit now new (Err refusal) → ⊥
  take_short refusal short is answers = ⊎_elim (λ s. let again = ap short_of s.again in absurd (cc)) (λ r. let again = ap short_of r.again in absurd (cc)) answers

  take_tried : (end : TakeEnd) → TakeTries table limit now new (Ok end) → TakeTried table limit old new (Ok end)
  take_tried end answers = record { answer = Ok end; tries = tried_to (TakeTries table limit) (Ok end) trying answers; becomes = refl }

  -- what a take ended with: at most the cut of a dead row is still owed
  pub take_ended : (end : TakeEnd) → TakeTries table limit now new (Ok end) → TakeTried table limit old new (Ok end) × TakeAdded table limit old new (Ok end) × IsResting table new × (new.debts.settle ≡ None)
  take_ended (Taken e route) answers = (take_tried (Taken e route) answers, (begun_then trying.begun (λ k. Take k e ∷ []) answers.0, answers.1), answers.0.called.rests, ⊎_elim (λ nothing. nothing.0) (λ owed. owed.settled) answers.3)
  take_ended Missed answers = (take_tried Missed answers, begun_then trying.begun (λ k. Miss k limit ∷ []) answers.0, answers.0.called.rests, answers.1.0)

-- Settling

-- tries to settle that were all refused for a while led from the one pass to the other: the event that was owed is settled, or is still owed
pub record IsSettling (table : Table) (old now : Pass) : Type 0 where
  pub begun : HasBegun table old now
  pub none : begun.begins ≡ []
  pub idle : OwesNothing old → OwesNothing now × ((caller table now) ≡ (caller table old))
  pub onto : (new : Pass) (answer : Result (Unit {0}) Refusal) → Tried (SettleTries table) now new answer → Tried (SettleTries table) old new answer

pub settling_none : {table : Table} {pass : Pass} → IsResting table pass → IsSettling table pass pass
unfolding begun_none
settling_none rests = record { begun = begun_none rests; none = refl; idle = λ nothing. (nothing, refl); onto = λ new answer tried. tried }

module _ {table : Table} {budget : ℕ} {now new : Pass} where
  -- a try that stops at what is owed owes something
  stopped_owes : (refusal : Refusal) → StoppedSettling (call table budget now) new refusal → OwesNothing now → ⊥
  stopped_owes refusal s nothing = ⊎_elim (λ at. let owed = at.owed in let none = nothing.0 in absurd (cc)) (λ at. let owes = at.short.needs.owes in let none = nothing.1 in absurd (cc)) s.stopped

module _ {table : Table} {old now new : Pass} (settling : IsSettling table old now) where
  settle_stopped : StoppedAtEvent (call table try_budget now) new ⊎ StoppedAtCut (call table try_budget now) new → (b : HasBegun table old new) × (b.begins ≡ [])
  unfolding begun_event begun_cut
  settle_stopped (inl s) = (begun_event settling.begun s, settling.none)
  settle_stopped (inr s) = (begun_cut settling.begun s, settling.none)

  pub settle_again : (refusal : Refusal) → short_of refusal ≡ None → SettleTries table now new (Err refusal) → IsSettling table old new
  settle_again refusal passing answers = let stopped = settle_stopped answers.stopped in record {
    begun = stopped.0;
    none = stopped.1;
    idle = λ nothing. absurd (stopped_owes refusal answers (settling.idle nothing).0);
    onto = λ end answer tried. settling.onto end answer (tried_again now new end refusal answer passing answers tried);
  }

  pub settle_ended : SettleTries table now new (Ok tt) → (OwesNothing now → caller table new ≡ caller table now) → SettleTried table old new × Adds table old new (settles old) × (OwesNothing old → caller table new ≡ caller table old)
  settle_ended answers idle = let begun = settling.begun in (
    record { tries = settling.onto new (Ok tt) (tried_last now new (Ok tt) answers); nothing = answers.1 },
    subst (λ es. Adds table old new es) (begun.line ∙ (ap (λ es. settles old ++ es) settling.none ∙ append-nil (settles old))) (adds_all begun.adds (adds_called _ answers.0)),
    λ nothing. idle (settling.idle nothing).0 ∙ (settling.idle nothing).1,
  )

-- Tries, and then settling

module _ {table : Table} {a b c : Pass} (entries more : List Entry) where
  begun_all : AddsBegun table a b entries → Adds table b c more → AddsBegun table a c (entries ++ more)
  begun_all first then = (first.0, first.1, subst (λ es. Adds table a c es) (append_assoc (settles a) (first.0 ++ (Begin a.number ∷ entries)) more ∙ ap (λ es. settles a ++ es) (append_assoc first.0 (Begin a.number ∷ entries) more)) (adds_all first.2 then))

begun_same : {table : Table} {a b c : Pass} (entries : List Entry) → b.debts.settle ≡ None → AddsBegun table a b entries → Adds table b c (settles b) → AddsBegun table a c entries
begun_same {table} {a} {b} {c} entries none first then = subst (λ es. AddsBegun table a c es) (append-nil entries) (begun_all entries [] first (subst (λ es. Adds table b c es) (settles_none b none) then))

module _ {table : Table} (old mid new : Pass) (then : Adds table mid new (settles mid)) (idle : OwesNothing mid → caller table new ≡ caller table mid) where
  owed_settled : (e : Event) (d : SettleDebt) → AddsBegun table old mid (Put old.number e ∷ []) → mid.debts.settle ≡ Some d → d.event ≡ e → AddsBegun table old new (Put old.number e ∷ Settled old.number e ∷ [])
  owed_settled e d first owes is = let settled : settles mid ≡ Settled old.number e ∷ [] = ap (λ s. settled_entries mid.number s) owes ∙ (λ i. Settled (first.2.number i) (is i) ∷ []) in
      subst (λ es. AddsBegun table old new (Put old.number e ∷ es)) settled (begun_all (Put old.number e ∷ []) (settles mid) first then)

  pub put_settled : (e : Event) (result : Result (Unit {0}) Short) → PutLeft table e old mid result → PutAdded table e old new result
  put_settled e (Ok u) left = ⊎_elim (λ s. begun_same (Put old.number e ∷ Settled old.number e ∷ []) s.1.0 s.0 then) (λ o. owed_settled e o.1.0 o.0 o.1.1 o.1.2) left
  put_settled e (Err NoRows) left = (begun_same [] left.1.0 left.0.0 then, subst (λ p. CountsRows table.start.layout p) (sym (idle left.1)) left.0.1)
  put_settled e (Err NoEpochs) left = (begun_same [] left.1.0 left.0.0 then, subst (λ (p : Caller). 2 ^ 32 - 64 ≤ table.start.first.epoch + p.told.settled) (sym (idle left.1)) left.0.1)
  put_settled e (Err Memory) left = left.0

  pub take_settled : (limit : ℕ) (result : Result TakeEnd Short) → mid.debts.settle ≡ None → TakeAdded table limit old mid result → TakeAdded table limit old new result
  take_settled limit (Ok (Taken e route)) none added = (begun_same (Take old.number e ∷ []) none added.0 then, added.1)
  take_settled limit (Ok Missed) none added = begun_same (Miss old.number limit ∷ []) none added then
  take_settled limit (Err short) none added = added
