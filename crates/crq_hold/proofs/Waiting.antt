-- What the calls that wait leave of a worker.
use Rattle.std.proofs.Common.{◌≡◌, ⊎_elim, ℕ, ◌+◌, ◌<◌, List, [], ◌∷◌, ◌++◌, length, Result, Ok, Err, refl, sym, ap, ◌∙◌, subst, arith}
use Rattle.std.specs.List.{cons_option}
use Rattle.crq_base.specs.Histories.{puts, outs, put_of, taken_of}
use Rattle.crq_base.specs.declared.event.Event.{Event}
use Rattle.crq_base.specs.declared.entry.Entry.{Entry}
use Rattle.crq_base.specs.declared.entry.Entry.TheVariants.{Begin, Put, Settled, Take, Miss}
use Rattle.crq_base.specs.declared.answers.TakeEnd.{TakeEnd}
use Rattle.crq_base.specs.declared.answers.TakeEnd.TheVariants.{Taken, Missed}
use Rattle.crq_base.specs.declared.answers.Short.{Short}
use Rattle.crq_base.specs.declared.answers.Short.TheVariants.{Rows, Epochs, Memory}
use Rattle.crq_base.specs.Lists.{In}
use Rattle.crq_rule.specs.declared.pass.Pass.{Pass}
use Rattle.crq_rule.specs.declared.pass.Table.{Table}
use Rattle.crq_queue.specs.Wholes.{IsResting}
use Rattle.crq_set.specs.Answers.{AreBegins}
use Rattle.crq_queue.specs.Waits.{AddsBegun, PutAdded, TakeAdded}
use Rattle.crq_hold.specs.declared.worker.Worker.{Worker}
use Rattle.crq_hold.specs.Workers.{IsWorker, PutAndTook, next_event}
use Rattle.crq_hold.specs.Waiting.{waited_takes}
use Rattle.crq_hold.proofs.Working.{settled_on, one_put, begin_no_put, take_no_put, miss_no_put}

-- Begins put nothing
puts_begun : (k : ℕ) (begins entries : List Entry) → AreBegins k begins → puts (begins ++ entries) ≡ puts entries
puts_begun k [] entries are = refl
puts_begun k (x ∷ xs) entries are = ap (λ y. cons_option (put_of y) (puts (xs ++ entries))) are.0 ∙ puts_begun k xs entries are.1

outs_begun : (k : ℕ) (begins entries : List Entry) → AreBegins k begins → outs (begins ++ entries) ≡ outs entries
outs_begun k [] entries are = refl
outs_begun k (x ∷ xs) entries are = ap (λ y. cons_option (taken_of y) (outs (xs ++ entries))) are.0 ∙ outs_begun k xs entries are.1

put_after : (k j : ℕ) (e : Event) (begins entries : List Entry) → AreBegins k begins → In (Put j e) (begins ++ entries) → In (Put j e) entries
put_after k j e [] entries are i = i
put_after k j e (x ∷ xs) entries are i = ⊎_elim (λ z. absurd (let is : Put j e ≡ Begin k = z ∙ are.0 in cc)) (put_after k j e xs entries are.1) i

module _ (table : Table) (worker : Worker) (w : IsWorker table worker) where
  waited_on : (new : Pass) (next : ℕ) (entries : List Entry) → AddsBegun table worker.pass new entries → next ≡ worker.next + length (puts entries) → ((k : ℕ) (e : Event) → In (Put k e) (Begin worker.pass.number ∷ entries) → (e.src ≡ worker.pass.number) × (e.seq < next))
      → PutAndTook table worker (record worker { pass = new; next = next }) (length (puts entries)) (length (outs entries))
  waited_on new next entries a up mine = let k : ℕ = worker.pass.number in let es : List Entry = Begin k ∷ entries in
      subst (λ n. PutAndTook table worker (record worker { pass = new; next = next }) n (length (outs entries))) (ap length (puts_begun k a.0 es a.1))
      (subst (λ n. PutAndTook table worker (record worker { pass = new; next = next }) (length (puts (a.0 ++ es))) n) (ap length (outs_begun k a.0 es a.1))
      (settled_on table worker w new next (a.0 ++ es) a.2 (up ∙ ap (λ n. worker.next + n) (sym (ap length (puts_begun k a.0 es a.1)))) (λ j e i. mine j e (put_after k j e a.0 es a.1 i))))

  pub put_waited : (new : Pass) (time load : ℕ) → PutAdded table (next_event worker time load) worker.pass new (Ok tt) → PutAndTook table worker (record worker { pass = new; next = worker.next + 1 }) 1 0
  put_waited new time load a = let e : Event = next_event worker time load in
      waited_on new (worker.next + 1) (Put worker.pass.number e ∷ Settled worker.pass.number e ∷ []) a refl (λ k f i. let is = one_put _ _ k e f i in let seq = ap (λ (e : Event). e.seq) is in (ap (λ (e : Event). e.src) is, omega arith))

  pub put_short : (new : Pass) (e : Event) (short : Short) → PutAdded table e worker.pass new (Err short) → PutAndTook table worker (record worker { pass = new }) 0 0
  put_short new e Rows a = waited_on new worker.next [] a.0 (omega arith) (λ k f i. begin_no_put _ k f i)
  put_short new e Epochs a = waited_on new worker.next [] a.0 (omega arith) (λ k f i. begin_no_put _ k f i)
  put_short new e Memory a = absurd a

  pub take_waited : (new : Pass) (limit : ℕ) (r : Result TakeEnd Short) → TakeAdded table limit worker.pass new r → PutAndTook table worker (record worker { pass = new }) 0 (waited_takes r)
  take_waited new limit (Ok (Taken e route)) a = waited_on new worker.next (Take worker.pass.number e ∷ []) a.0 (omega arith) (λ k f i. take_no_put _ _ k e f i)
  take_waited new limit (Ok Missed) a = waited_on new worker.next (Miss worker.pass.number limit ∷ []) a (omega arith) (λ k f i. miss_no_put _ _ k limit f i)
  take_waited new limit (Err short) a = absurd a

-- after a take the pass rests
pub take_waited_rests : (table : Table) (old new : Pass) (limit : ℕ) (r : Result TakeEnd Short) → TakeAdded table limit old new r → IsResting table new
take_waited_rests table old new limit (Ok (Taken e route)) a = a.0.2.rests
take_waited_rests table old new limit (Ok Missed) a = a.2.rests
take_waited_rests table old new limit (Err short) a = absurd a
