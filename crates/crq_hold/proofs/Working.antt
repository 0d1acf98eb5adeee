-- What the calls leave of a worker.
use Rattle.std.proofs.Common.{◌≡◌, ◌⊎◌, inl, inr, ⊎_elim, ℕ, ◌+◌, ◌-◌, ◌<◌, ◌≤◌, min, false, List, [], ◌∷◌, ◌++◌, length, Option, Some, None, Result, Ok, Err, refl, sym, ap, ◌∙◌, subst, arith, length-append, append-nil}
use Rattle.std.proofs.Math.Nat.{div-one, min-eq_left}
use Rattle.std.proofs.lemmas.List.Elements.{filter_map-append}
use Rattle.crq_base.specs.Histories.{puts, outs, put_of, taken_of}
use Rattle.crq_base.specs.declared.event.Event.{Event}
use Rattle.crq_base.specs.declared.entry.Entry.{Entry}
use Rattle.crq_base.specs.declared.entry.Entry.TheVariants.{Begin, Put, Settled, Take, Miss}
use Rattle.crq_base.specs.declared.answers.PutEnd.{PutEnd}
use Rattle.crq_base.specs.declared.answers.PutEnd.TheVariants.{Settled as IsSettled, Owed}
use Rattle.crq_base.specs.declared.answers.TakeEnd.{TakeEnd}
use Rattle.crq_base.specs.declared.answers.TakeEnd.TheVariants.{Taken, Missed}
use Rattle.crq_base.specs.declared.answers.Refusal.{Refusal}
use Rattle.crq_base.specs.Lists.{In}
use Rattle.crq_base.specs.Sources.{owner_of, IsFresh}
use Rattle.crq_rule.specs.declared.pass.Pass.{Pass}
use Rattle.crq_rule.specs.declared.pass.Table.{Table}
use Rattle.crq_rule.specs.declared.view.Made.{Made}
use Rattle.crq_rule.specs.declared.view.Caller.{Caller}
use Rattle.crq_rule.specs.Kinds.{loads_epoch, tagged}
use Rattle.crq_rule.specs.declared.debts.SettleDebt.{SettleDebt}
use Rattle.crq_base.specs.declared.words.Current.{Current}
use Rattle.crq_current.specs.Positions.{Viewed}
use Rattle.crq_rows.specs.Passes.{caller, Stepped}
use Rattle.crq_queue.specs.Wholes.{IsResting}
use Rattle.crq_queue.specs.Calls.{Call, call, CalledAs, StoppedSettling, settled_entries, settles, PutAnswers, TakeAnswers, SettleAnswers}
use Rattle.crq_queue.specs.Waits.{Adds}
use Rattle.crq_hold.specs.declared.worker.Worker.{Worker}
use Rattle.crq_hold.specs.Workers.{IsNumbered, IsWorker, WorksOn, PutAndTook, next_event, put_count, takes_of}

pub in_either : {A : Type 0} (xs ys : List A) (a : A) → In a (xs ++ ys) → In a xs ⊎ In a ys
in_either [] ys a h = inr h
in_either (x ∷ xs) ys a h = ⊎_elim (λ e. inl (inl e)) (λ t. ⊎_elim (λ i. inl (inr i)) inr (in_either xs ys a t)) h

puts_append : (xs ys : List Entry) → length (puts (xs ++ ys)) ≡ length (puts xs) + length (puts ys)
puts_append xs ys = ap length (filter_map-append put_of xs ys) ∙ length-append (puts xs) (puts ys)

outs_append : (xs ys : List Entry) → length (outs (xs ++ ys)) ≡ length (outs xs) + length (outs ys)
outs_append xs ys = ap length (filter_map-append taken_of xs ys) ∙ length-append (outs xs) (outs ys)

-- a call adds its entries
adds_of : {Raises : List Made → Type 0} {table : Table} {budget : ℕ} {old new : Pass} {entries : List Entry} → CalledAs Raises (call table budget old) new entries → Adds table old new entries
adds_of c = record { rests = c.rests; number = c.number; deal = c.deal; own = c.own; told = c.told }

-- the settling of an event that was owed puts and takes nothing
pub puts_settled : (n : ℕ) (o : Option SettleDebt) (es : List Entry) → puts (settled_entries n o ++ es) ≡ puts es
puts_settled n None es = refl
puts_settled n (Some d) es = refl

pub outs_settled : (n : ℕ) (o : Option SettleDebt) (es : List Entry) → outs (settled_entries n o ++ es) ≡ outs es
outs_settled n None es = refl
outs_settled n (Some d) es = refl

pub put_settled : (n j : ℕ) (o : Option SettleDebt) (e : Event) (es : List Entry) → In (Put j e) (settled_entries n o ++ es) → In (Put j e) es
put_settled n j None e es i = i
put_settled n j (Some d) e es i = ⊎_elim (λ (z : Put j e ≡ Settled n d.event). absurd (cc)) (λ t. t) i

-- what calls that added these entries leave, where each event among them is of the worker's source and has a number below `next`
module _ (table : Table) (worker : Worker) (new : Pass) (next : ℕ) (entries : List Entry) (w : IsWorker table worker) (c : Adds table worker.pass new entries) (mine : (k : ℕ) (e : Event) → In (Put k e) entries → (e.src ≡ worker.pass.number) × (e.seq < next)) where
  numbered_on : worker.next ≤ next → IsNumbered table new next
  numbered_on up k e i s = let from : e.src ≡ worker.pass.number = s ∙ c.number in let before : In (Put k e) (caller table worker.pass).deal.history ⊎ In (Put k e) (caller table worker.pass).own → e.seq < next = λ i. let b = w.numbered k e i from in omega arith in
      ⊎_elim (λ i. before (inl (subst (λ d. In (Put k e) d.history) c.deal i)))
      (λ i. ⊎_elim (λ i. before (inr i)) (λ i. (mine k e i).1) (in_either (caller table worker.pass).own entries (Put k e) (subst (In (Put k e)) c.own i))) i

  sourced_on : (k : ℕ) (e : Event) → In (Put k e) (caller table new).own → e.src ≡ new.number
  sourced_on k e i = ⊎_elim (w.sourced k e) (λ i. (mine k e i).0) (in_either (caller table worker.pass).own entries (Put k e) (subst (In (Put k e)) c.own i)) ∙ sym c.number

  pub worker_on : next ≡ worker.next + length (puts entries) → PutAndTook table worker (record worker { pass = new; next = next }) (length (puts entries)) (length (outs entries))
  worker_on up = record {
    on = record {
      worker = record { rests = c.rests; span = ap (λ d. d.span) c.deal ∙ w.span; numbered = numbered_on (omega arith); sourced = sourced_on };
      number = c.number;
      deal = c.deal;
    };
    numbers = up;
    puts_more = ap (λ es. length (puts es)) c.own ∙ puts_append (caller table worker.pass).own entries;
    takes_more = ap (λ es. length (outs es)) c.own ∙ outs_append (caller table worker.pass).own entries;
  }

-- nothing done, and one thing after another
pub went_none : (table : Table) (worker : Worker) → IsWorker table worker → PutAndTook table worker worker 0 0
went_none table worker w = record { on = record { worker = w; number = refl; deal = refl }; numbers = omega arith; puts_more = omega arith; takes_more = omega arith }

pub on_both : {table : Table} {a b c : Worker} → WorksOn table a b → WorksOn table b c → WorksOn table a c
on_both x y = record { worker = y.worker; number = y.number ∙ x.number; deal = y.deal ∙ x.deal }

module _ {table : Table} {a b : Worker} {p t : ℕ} (x : PutAndTook table a b p t) where
  pub went_both : {c : Worker} {q u : ℕ} → PutAndTook table b c q u → PutAndTook table a c (p + q) (t + u)
  went_both y = record {
    on = record { worker = y.on.worker; number = y.on.number ∙ x.on.number; deal = y.on.deal ∙ x.on.deal };
    numbers = let m = x.numbers in let n = y.numbers in omega arith;
    puts_more = let m = x.puts_more in let n = y.puts_more in omega arith;
    takes_more = let m = x.takes_more in let n = y.takes_more in omega arith;
  }

-- a worker that counts its holds
pub went_counted : {table : Table} {a b : Worker} {n m holds : ℕ} → PutAndTook table a b n n → m ≤ n → n ≤ m → PutAndTook table a (record b { holds = holds }) m m
went_counted {table} {a} {b} x low high = record {
  on = record { worker = record { rests = x.on.worker.rests; span = x.on.worker.span; numbered = x.on.worker.numbered; sourced = x.on.worker.sourced }; number = x.on.number; deal = x.on.deal };
  numbers = let more = x.numbers in omega arith;
  puts_more = let more = x.puts_more in omega arith;
  takes_more = let more = x.takes_more in omega arith;
}

-- among no entries, or a Begin alone, there is no put
none_put : {P : Type 0} (k : ℕ) (e : Event) → In (Put k e) [] → P
none_put k e i = absurd i

pub begin_no_put : {P : Type 0} (j k : ℕ) (e : Event) → In (Put k e) (Begin j ∷ []) → P
begin_no_put j k e i = ⊎_elim (λ (z : Put k e ≡ Begin j). absurd (cc)) (λ n. absurd n) i

-- the one put among the entries of a put, whose event is settled or still to be settled
pub one_put : (j i k : ℕ) (e f : Event) → In (Put k f) (Begin j ∷ Put i e ∷ Settled i e ∷ []) → f ≡ e
one_put j i k e f h = ⊎_elim (λ (z : Put k f ≡ Begin j). absurd (cc)) (λ h. ⊎_elim (λ (z : Put k f ≡ Put i e). cc) (λ h. ⊎_elim (λ (z : Put k f ≡ Settled i e). absurd (cc)) (λ n. absurd n) h) h) h

owed_put : (j i k : ℕ) (e f : Event) → In (Put k f) (Begin j ∷ Put i e ∷ []) → f ≡ e
owed_put j i k e f h = ⊎_elim (λ (z : Put k f ≡ Begin j). absurd (cc)) (λ h. ⊎_elim (λ (z : Put k f ≡ Put i e). cc) (λ n. absurd n) h) h

pub take_no_put : {P : Type 0} (j i k : ℕ) (e f : Event) → In (Put k f) (Begin j ∷ Take i e ∷ []) → P
take_no_put j i k e f h = ⊎_elim (λ (z : Put k f ≡ Begin j). absurd (cc)) (λ h. ⊎_elim (λ (z : Put k f ≡ Take i e). absurd (cc)) (λ n. absurd n) h) h

pub miss_no_put : {P : Type 0} (j i k l : ℕ) (f : Event) → In (Put k f) (Begin j ∷ Miss i l ∷ []) → P
miss_no_put j i k l f h = ⊎_elim (λ (z : Put k f ≡ Begin j). absurd (cc)) (λ h. ⊎_elim (λ (z : Put k f ≡ Miss i l). absurd (cc)) (λ n. absurd n) h) h

-- an event with the worker's next number is fresh
module _ (table : Table) (worker : Worker) (w : IsWorker table worker) where
  is_owner : owner_of table.start.layout.workers (caller table worker.pass).deal.span worker.pass.number ≡ worker.pass.number
  is_owner = let inside = w.rests.is.sits.inside in let n : ℕ = worker.pass.number in let m : ℕ = table.start.layout.workers - 1 in
      ap (λ s. owner_of table.start.layout.workers s n) w.span ∙ (ap (λ x. min x m) (div-one n) ∙ min-eq_left (omega arith))

  pub next_fresh : (time load : ℕ)
      → IsFresh table.start.layout.workers (caller table worker.pass).deal.history (caller table worker.pass).own (caller table worker.pass).deal.span worker.pass.number (next_event worker time load)
  next_fresh time load = (is_owner, λ k f i same_src same_seq. let b = w.numbered k f i same_src in absurd (omega arith))

  -- What each call leaves

  -- what calls leave that settled the event that was owed, if one was, and then added these entries
  pub settled_on : (new : Pass) (next : ℕ) (entries : List Entry) → Adds table worker.pass new (settles worker.pass ++ entries) → next ≡ worker.next + length (puts entries)
      → ((k : ℕ) (e : Event) → In (Put k e) entries → (e.src ≡ worker.pass.number) × (e.seq < next)) → PutAndTook table worker (record worker { pass = new; next = next }) (length (puts entries)) (length (outs entries))
  settled_on new next entries a up mine = let n : ℕ = worker.pass.number in let o : Option SettleDebt = worker.pass.debts.settle in
      subst (λ m. PutAndTook table worker (record worker { pass = new; next = next }) m (length (outs entries))) (ap length (puts_settled n o entries))
      (subst (λ m. PutAndTook table worker (record worker { pass = new; next = next }) (length (puts (settles worker.pass ++ entries))) m) (ap length (outs_settled n o entries))
      (worker_on table worker new next (settles worker.pass ++ entries) w a (λ k e i. mine k e (put_settled n k o e entries i)) (up ∙ ap (λ m. worker.next + length m) (sym (puts_settled n o entries)))))

  pub put_done : (budget : ℕ) (new : Pass) (time load : ℕ) (end : PutEnd) → PutAnswers (call table budget worker.pass) (next_event worker time load) new (Ok end) → PutAndTook table worker (record worker { pass = new; next = worker.next + 1 }) 1 0
  put_done budget new time load IsSettled a = let n : ℕ = worker.pass.number in let e : Event = next_event worker time load in
      settled_on new (worker.next + 1) (Begin n ∷ Put n e ∷ Settled n e ∷ []) (adds_of a.0.called) refl (λ k f i. let is = one_put _ _ k e f i in let seq = ap (λ (e : Event). e.seq) is in (ap (λ (e : Event). e.src) is, omega arith))
  put_done budget new time load Owed a = let n : ℕ = worker.pass.number in let e : Event = next_event worker time load in
      settled_on new (worker.next + 1) (Begin n ∷ Put n e ∷ []) (adds_of a.0.called) refl (λ k f i. let is = owed_put _ _ k e f i in let seq = ap (λ (e : Event). e.seq) is in (ap (λ (e : Event). e.src) is, omega arith))

  nothing_more : (new : Pass) → Adds table worker.pass new [] → PutAndTook table worker (record worker { pass = new }) 0 0
  nothing_more new a = worker_on table worker new worker.next [] w a (λ k f i. none_put k f i) (omega arith)

  settled_more : (new : Pass) → Adds table worker.pass new (settles worker.pass) → PutAndTook table worker (record worker { pass = new }) 0 0
  settled_more new a = settled_on new worker.next [] (subst (Adds table worker.pass new) (sym (append-nil (settles worker.pass))) a) (omega arith) (λ k f i. none_put k f i)

  stopped : (budget : ℕ) (new : Pass) (r : Refusal) → StoppedSettling (call table budget worker.pass) new r → PutAndTook table worker (record worker { pass = new }) 0 0
  stopped budget new r s = ⊎_elim (λ e. nothing_more new (adds_of e.called)) (λ c. settled_more new (adds_of c.called)) s.stopped

  begun : (new : Pass) → Adds table worker.pass new (settles worker.pass ++ (Begin worker.pass.number ∷ [])) → PutAndTook table worker (record worker { pass = new }) 0 0
  begun new a = settled_on new worker.next (Begin worker.pass.number ∷ []) a (omega arith) (λ k f i. begin_no_put _ k f i)

  pub put_refused : (budget : ℕ) (new : Pass) (e : Event) (r : Refusal) → PutAnswers (call table budget worker.pass) e new (Err r) → PutAndTook table worker (record worker { pass = new }) 0 0
  put_refused budget new e r a = ⊎_elim (stopped budget new r) (λ b. begun new (adds_of b.on.called)) a

  pub take_ended : (budget : ℕ) (new : Pass) (limit : ℕ) (r : Result TakeEnd Refusal) → TakeAnswers (call table budget worker.pass) limit new r → PutAndTook table worker (record worker { pass = new }) 0 (takes_of r)
  take_ended budget new limit (Ok (Taken e route)) a = settled_on new worker.next (Begin worker.pass.number ∷ Take worker.pass.number e ∷ []) (adds_of a.0.called) (omega arith) (λ k f i. take_no_put _ _ k e f i)
  take_ended budget new limit (Ok Missed) a = settled_on new worker.next (Begin worker.pass.number ∷ Miss worker.pass.number limit ∷ []) (adds_of a.0.called) (omega arith) (λ k f i. miss_no_put _ _ k limit f i)
  take_ended budget new limit (Err r) a = ⊎_elim (stopped budget new r) (λ b. begun new (adds_of b.on.called)) a

  pub settle_ended : (budget : ℕ) (new : Pass) (r : Result (Unit {0}) Refusal) → SettleAnswers (call table budget worker.pass) new r → PutAndTook table worker (record worker { pass = new }) 0 0
  settle_ended budget new (Ok u) a = settled_more new (adds_of a.0)
  settle_ended budget new (Err r) a = stopped budget new r a

-- after a take or a settlement the pass rests
module _ (table : Table) (budget : ℕ) (old new : Pass) where
  stopped_rests : (r : Refusal) → StoppedSettling (call table budget old) new r → IsResting table new
  stopped_rests r s = ⊎_elim (λ e. e.called.rests) (λ c. c.called.rests) s.stopped

  pub take_rests : (limit : ℕ) (r : Result TakeEnd Refusal) → TakeAnswers (call table budget old) limit new r → IsResting table new
  take_rests limit (Ok (Taken e route)) a = a.0.called.rests
  take_rests limit (Ok Missed) a = a.0.called.rests
  take_rests limit (Err r) a = ⊎_elim (stopped_rests r) (λ b. b.on.called.rests) a

  pub settle_rests : (r : Result (Unit {0}) Refusal) → SettleAnswers (call table budget old) new r → IsResting table new
  settle_rests (Ok u) a = a.0.rests
  settle_rests (Err r) a = stopped_rests r a

-- a worker whose pass loaded the epoch
pub epoch_on : (table : Table) (worker : Worker) → IsWorker table worker → (new : Pass) (m : Made) (r : ℕ) → Stepped table worker.pass new m (loads_epoch r) → WorksOn table worker (record worker { pass = new })
epoch_on table worker w new m r s = record {
  worker = record {
    rests = record {
      is = s.is;
      guard = ap (λ (p : Caller). p.guard) s.part ∙ w.rests.guard;
      cut = ap (λ (p : Caller). p.cut) s.part ∙ ap (tagged r) w.rests.cut;
      settle = ap (λ (p : Caller). p.debts.settle) s.part ∙ (w.rests.settle ∙ sym (ap (λ (p : Pass). p.debts.settle) s.same));
      copy = ap (λ (p : Pass). p.debts.copy) s.same ∙ w.rests.copy;
      second_cut = ap (λ (p : Pass). p.debts.second_cut) s.same ∙ w.rests.second_cut;
    };
    span = ap (λ (p : Caller). p.deal.span) s.part ∙ w.span;
    numbered = λ k e i from. w.numbered k e (subst (λ (p : Caller). In (Put k e) p.deal.history ⊎ In (Put k e) p.own) s.part i) (from ∙ ap (λ (p : Pass). p.number) s.same);
    sourced = λ k e i. w.sourced k e (subst (λ (p : Caller). In (Put k e) p.own) s.part i) ∙ sym (ap (λ (p : Pass). p.number) s.same);
  };
  number = ap (λ (p : Pass). p.number) s.same;
  deal = ap (λ (p : Caller). p.deal) s.part;
}

-- a worker whose pass loaded current
pub current_on : (table : Table) (worker : Worker) → IsWorker table worker → (new : Pass) (y : Current) → Viewed table worker.pass new false y → WorksOn table worker (record worker { pass = new })
current_on table worker w new y v = record {
  worker = record {
    rests = record {
      is = v.is;
      guard = ap (λ (p : Caller). p.guard) v.part ∙ w.rests.guard;
      cut = ap (λ (p : Caller). p.cut) v.part ∙ w.rests.cut;
      settle = ap (λ (p : Caller). p.debts.settle) v.part ∙ (w.rests.settle ∙ sym (ap (λ (p : Pass). p.debts.settle) v.same));
      copy = ap (λ (p : Pass). p.debts.copy) v.same ∙ w.rests.copy;
      second_cut = ap (λ (p : Pass). p.debts.second_cut) v.same ∙ w.rests.second_cut;
    };
    span = ap (λ (p : Caller). p.deal.span) v.part ∙ w.span;
    numbered = λ k e i from. w.numbered k e (subst (λ (p : Caller). In (Put k e) p.deal.history ⊎ In (Put k e) p.own) v.part i) (from ∙ ap (λ (p : Pass). p.number) v.same);
    sourced = λ k e i. w.sourced k e (subst (λ (p : Caller). In (Put k e) p.own) v.part i) ∙ sym (ap (λ (p : Pass). p.number) v.same);
  };
  number = ap (λ (p : Pass). p.number) v.same;
  deal = ap (λ (p : Caller). p.deal) v.part;
}
