-- The workers of a new calendar.
use Rattle.std.proofs.Common.{◌≡◌, ⊎_elim, ℕ, zero, suc, ◌+◌, ◌-◌, ◌*◌, ◌/◌, ◌%◌, ◌<◌, ◌≤◌, List, [], ◌∷◌, ◌++◌, take, drop, length, set, length-set, length-append, Some, sym, refl, ap, ◌∙◌, subst, arith}
use Rattle.std.specs.Prelude.{slice_get, slice_set, slice_index_or}
use Rattle.std.proofs.lemmas.Option.{slice_get_within, slice_get-get_or, get_or_from_slice_get}
use Rattle.std.proofs.lemmas.List.{get_or_default, get_or-set_same, get_or-set_other}
use Rattle.std.proofs.Math.Seq.{take-append_seam}
use mathlib.Core.Logic.{dite}
use native.Mathlib.Decide.{ℕ_discrete}
use Rattle.crq_base.specs.declared.entry.Entry.{Entry}
use Rattle.crq_base.specs.Histories.{puts}
use Rattle.crq_base.specs.Lists.{In}
use Rattle.crq_rule.specs.declared.pass.Pass.{Pass}
use Rattle.crq_rule.specs.declared.pass.Table.{Table}
use Rattle.crq_rule.specs.declared.pass.Seating.{Seating}
use Rattle.crq_rule.specs.declared.pass.Seating.TheVariants.{Here}
use Rattle.crq_rows.proofs.Slots.{get_here, get_else}
use Rattle.crq_queue.specs.declared.calendar.Whole.{Whole}
use Rattle.crq_queue.specs.Wholes.{IsResting, MayGather, AreResting, AreDealt, history_of}
use Rattle.crq_queue.proofs.Wholes.{place_within}
use Rattle.crq_queue.proofs.Gathers.{pass_at}
use Rattle.crq_hold.specs.declared.worker.Worker.{Worker}
use Rattle.crq_hold.specs.Workers.{IsWorker, IsSettled, WorksOn, PutAndTook}
use Rattle.crq_hold.specs.Teams.{AreAtHome, AreLifted, AreLowered, AreNew, AreSettled, AreWorkers, AllHeld, total_holds}

pub resting_home : (table : Table) (places : List Seating) (callers : ℕ) → AreResting table places → table.start.layout.workers ≡ callers → AreAtHome callers places
resting_home table places callers all is k b = let a = all.each k (omega arith) in (a.0, a.1)

-- a pass in a place has its number, and rests
pub place_rests : (table : Table) (places : List Seating) → AreResting table places → (k : ℕ) (pass : Pass) → slice_get places k ≡ Some (Here pass) → (pass.number ≡ k) × MayGather table pass
place_rests table places all k pass e = let b = place_within places k (Here pass) e in let w = all.wide in pass_at table places all k pass (omega arith) e

-- in no entry is nothing
pub none_in : {P : Type 0} (es : List Entry) (e : Entry) → es ≡ [] → In e es → P
none_in es e is i = absurd (subst (In e) is i)

module _ (table : Table) (whole : Whole) (start now : List Seating) (workers : List Worker) (callers : ℕ) (all : AreResting table start) (dealt : AreDealt table whole 1 start) (empty : history_of whole ≡ [])
    (l : AreLifted 0 start now workers callers) where
  first_worker : (k : ℕ) (w : Worker) → slice_get workers k ≡ Some w → IsWorker table w
  first_worker k w at = let e = (l.each k w at).0 in let d = dealt.each k w.pass e in record {
    rests = (place_rests table start all k w.pass e).1.rests;
    span = ap (λ d. d.span) d.deal;
    numbered = λ j f i same. ⊎_elim (none_in _ _ (ap (λ d. d.history) d.deal ∙ empty)) (none_in _ _ d.own) i;
    sourced = λ j f i. none_in _ _ d.own i;
  }

  pub first_new : AreNew table workers
  first_new k w at = let d = dealt.each k w.pass (l.each k w at).0 in (ap (λ d. d.history) d.deal ∙ empty, d.own)

  pub first_settled : AreSettled workers
  first_settled k w at = (place_rests table start all k w.pass (l.each k w at).0).1.settled

  pub first_workers : table.start.layout.workers ≡ callers → AreWorkers table workers
  first_workers is = record {
    count = l.count ∙ sym is;
    order = λ k w at. (place_rests table start all k w.pass (l.each k w at).0).0;
    each = first_worker;
  }

-- The workers of a table, where one of them or each of them went on

module _ (table : Table) (workers : List Worker) (all : AreWorkers table workers) where
  pub worker_at : (k : ℕ) (d : Worker) → k < length workers → IsWorker table (slice_index_or workers k d)
  worker_at k d b = all.each k (slice_index_or workers k d) (slice_get-get_or workers k d b)

  -- each went on
  pub all_on : (workers' : List Worker) → length workers' ≡ length workers → ((k : ℕ) (d : Worker) → k < length workers → WorksOn table (slice_index_or workers k d) (slice_index_or workers' k d)) → AreWorkers table workers'
  all_on workers' wide on = let at : (k : ℕ) (w : Worker) → slice_get workers' k ≡ Some w → (k < length workers) × (slice_index_or workers' k w ≡ w) = λ k w e. let b = slice_get_within workers' k w e in (omega arith, get_or_from_slice_get workers' k w w e) in record {
    count = wide ∙ all.count;
    order = λ k w e. let t = at k w e in let o = on k w t.0 in sym (ap (λ (w : Worker). w.pass.number) t.1) ∙ (o.number ∙ all.order k _ (slice_get-get_or workers k w t.0));
    each = λ k w e. let t = at k w e in subst (IsWorker table) t.1 (on k w t.0).worker;
  }

  -- the same, where each went on from what equals its old state to what equals its new one
  pub each_on : (workers' : List Worker) → length workers' ≡ length workers → ((k : ℕ) (d : Worker) → k < length workers → ((v : Worker) × (w : Worker) × (v ≡ slice_index_or workers k d) × (w ≡ slice_index_or workers' k d) × WorksOn table v w)) → AreWorkers table workers'
  each_on workers' wide on = all_on workers' wide (λ k d b. let o = on k d b in subst (λ (z : Worker × Worker). WorksOn table z.0 z.1) (λ i. (o.2 i, o.3 i)) o.4)

  pub some_worker : 0 < length workers
  some_worker = let few = table.start.layout.few in let n = all.count in omega arith

  -- the one in this place went on
  pub one_on : (i : ℕ) (d w : Worker) → i < length workers → WorksOn table (slice_index_or workers i d) w → AreWorkers table (slice_set workers i w)
  one_on i d w b on = all_on (slice_set workers i w) (length-set workers i w) (λ k e c. dite (ℕ_discrete k i)
      (λ is. subst (λ k. WorksOn table (slice_index_or workers k e) (slice_index_or (slice_set workers i w) k e)) (sym is)
      (subst (λ (z : Worker × Worker). WorksOn table z.0 z.1) (λ j. (get_or_default workers i d e b j, sym (get_or-set_same workers i w e b) j)) on))
      (λ ne. subst (WorksOn table (slice_index_or workers k e)) (sym (get_or-set_other workers i k w e ne)) (record { worker = worker_at k e c; number = refl; deal = refl })))

-- Workers whose passes owe no event

some_same : (v w : Worker) → Some v ≡ Some w → v ≡ w
some_same v w e = cc

module _ (workers : List Worker) (all : AreSettled workers) where
  pub settled_at : (k : ℕ) (d : Worker) → k < length workers → IsSettled (slice_index_or workers k d)
  settled_at k d b = all k (slice_index_or workers k d) (slice_get-get_or workers k d b)

  -- the one in this place went on
  pub settled_set : (i : ℕ) (w : Worker) → i < length workers → IsSettled w → AreSettled (slice_set workers i w)
  settled_set i w b settled k v e = dite (ℕ_discrete k i)
      (λ is. subst IsSettled (some_same w v (sym (get_here workers i w b) ∙ (ap (slice_get (slice_set workers i w)) (sym is) ∙ e))) settled)
      (λ ne. all k v (sym (get_else workers i k w ne) ∙ e))

-- each went on to one that owes none
pub settled_each : (old new : List Worker) → length new ≡ length old → ((k : ℕ) (d : Worker) → k < length old → ((w : Worker) × (w ≡ slice_index_or new k d) × IsSettled w)) → AreSettled new
settled_each old new wide each k v e = let b = slice_get_within new k v e in let t = each k v (omega arith) in subst IsSettled (t.1 ∙ get_or_from_slice_get new k v v e) t.2

-- the workers that a slice had, which was written over the whole of a list
pub written_settled : (n : ℕ) (new old : List Worker) → n ≡ length new → AreSettled new → AreSettled (take n (new ++ drop (length new) old))
written_settled n new old is = subst AreSettled (sym (ap (λ n. take n (new ++ drop (length new) old)) is ∙ take-append_seam new (drop (length new) old)))

-- Holds of all workers

pub some_at : {A : Type 0} (xs : List A) (k : ℕ) → k < length xs → ((x : A) × (slice_get xs k ≡ Some x))
some_at [] k b = absurd (omega arith)
some_at (x ∷ xs) zero b = (x, refl)
some_at (x ∷ xs) (suc k) b = some_at xs k (omega arith)

module _ (table : Table) (old : List Worker) (holds : ℕ) (new : List Worker) (wide : length new ≡ length old) where
  pub each_held : ((k : ℕ) (d : Worker) → k < length old → ((v : Worker) × (w : Worker) × (v ≡ slice_index_or old k d) × (w ≡ slice_index_or new k d) × (PutAndTook table v w holds holds × (w.holds ≡ holds)))) → AllHeld table old new holds
  each_held on = record {
    count = wide;
    each = λ k v w e f. let b = slice_get_within old k v e in let b' = slice_get_within new k w f in let o = on k v b in
        let was : o.0 ≡ v = o.2 ∙ get_or_from_slice_get old k v v e in let is : o.1 ≡ w = o.3 ∙ (get_or_default new k v w b' ∙ get_or_from_slice_get new k w w f) in
        subst (λ (z : Worker × Worker). PutAndTook table z.0 z.1 holds holds × (z.1.holds ≡ holds)) (λ i. (was i, is i)) o.4;
  }

sum_same : (ws : List Worker) (h : ℕ) → ((k : ℕ) (w : Worker) → slice_get ws k ≡ Some w → w.holds ≡ h) → total_holds ws ≡ length ws * h
sum_same [] h each = omega arith
sum_same (w ∷ ws) h each = let rest = sum_same ws h (λ k v e. each (suc k) v e) in let first = each zero w refl in omega arith

pub total_held : (table : Table) (old new : List Worker) (holds : ℕ) → AllHeld table old new holds → total_holds new ≡ length new * holds
total_held table old new holds all = sum_same new holds (λ k w e. let c = all.count in let b = slice_get_within new k w e in let v = some_at old k (omega arith) in (all.each k v.0 w v.1 e).1)

-- as many as all threads' equal shares
pub total_shares : (table : Table) (old new : List Worker) (holds shares threads : ℕ) → AllHeld table old new (holds / shares) → length new ≡ threads → shares ≡ threads → 1 ≤ threads → total_holds new ≡ holds - holds % threads
total_shares table old new holds shares threads all wide is some =
    let total = total_held table old new (holds / shares) all in let same : length new * (holds / shares) ≡ threads * (holds / threads) = ap (λ (p : ℕ × ℕ). p.0 * (holds / p.1)) (λ i. (wide i, is i)) in omega arith

-- the sum of what is left, from one worker to the next
next_left : (ws : List Worker) (i : ℕ) (d : Worker) → i < length ws → total_holds (drop i ws) ≡ (slice_index_or ws i d).holds + total_holds (drop (suc i) ws)
next_left [] i d b = absurd (omega arith)
next_left (w ∷ ws) zero d b = refl
next_left (w ∷ ws) (suc i) d b = next_left ws i d (omega arith)

pub total_next : (ws : List Worker) (i : ℕ) (d : Worker) → i < length ws → total_holds (drop i ws) ≡ (slice_index_or ws i d).holds + total_holds (drop (i + 1) ws)
total_next ws i d b = let up : suc i ≡ i + 1 = omega arith in subst (λ n. total_holds (drop i ws) ≡ (slice_index_or ws i d).holds + total_holds (drop n ws)) up (next_left ws i d b)

pub total_end : (ws : List Worker) (i : ℕ) → length ws ≤ i → total_holds (drop i ws) ≡ 0
total_end [] zero b = refl
total_end [] (suc i) b = refl
total_end (w ∷ ws) zero b = absurd (omega arith)
total_end (w ∷ ws) (suc i) b = total_end ws i (omega arith)

-- Passes that are put back in the places, and taken out again

pub lowered_resting : (table : Table) (start now : List Seating) (workers : List Worker) → AreWorkers table workers → AreSettled workers → length start ≡ length workers → AreLowered start now workers (length workers) → AreResting table now
lowered_resting table start now workers all settled wide l = record {
  wide = l.wide ∙ (wide ∙ all.count);
  each = λ k b. let n = all.count in let inside : k < length workers = omega arith in let w = some_at workers k inside in (w.0.pass, l.each k w.0 inside w.1, all.order k w.0 w.1, record { rests = (all.each k w.0 w.1).rests; settled = settled k w.0 w.1 });
}

pub lone_resting : (table : Table) (start now : List Seating) (worker : Worker) → table.start.layout.workers ≡ 1 → worker.pass.number ≡ 0 → MayGather table worker.pass → length start ≡ 1 → now ≡ set start worker.pass.number (Here worker.pass) → AreResting table now
lone_resting table start now worker one first rests wide e = let is : now ≡ set start 0 (Here worker.pass) = e ∙ ap (λ k. set start k (Here worker.pass)) first in record {
  wide = ap length is ∙ (length-set start 0 (Here worker.pass) ∙ (wide ∙ sym one));
  each = λ k b. let zero_is : 0 ≡ k = omega arith in
      (worker.pass, subst (λ k. slice_get now k ≡ Some (Here worker.pass)) zero_is (ap (λ ps. slice_get ps 0) is ∙ get_here start 0 (Here worker.pass) (omega arith)), first ∙ zero_is, rests);
}

-- a worker whose pass was taken out rests
pub lifted_rests : (table : Table) (next : ℕ) (start now : List Seating) (workers : List Worker) (n : ℕ) → AreResting table start → AreLifted next start now workers n → (i : ℕ) (w : Worker) → i < length workers → w ≡ slice_index_or workers i w → IsResting table w.pass
lifted_rests table next start now workers n all l i w b is = (place_rests table start all i w.pass (l.each i w (slice_get-get_or workers i w b ∙ ap Some (sym is))).0).1.rests

-- a lone worker, which was popped
pub lone_worker : (table : Table) (workers rest : List Worker) (w : Worker) → AreWorkers table workers → length workers ≡ 1 → workers ≡ rest ++ w ∷ [] → IsWorker table w × (table.start.layout.workers ≡ 1) × (w.pass.number ≡ 0)
lone_worker table workers rest w all one is = let at = ap (λ ws. slice_get ws 0) is ∙ first rest (let l = ap length is ∙ length-append rest (w ∷ []) in omega arith) in (all.each 0 w at, sym all.count ∙ one, all.order 0 w at)
  where
    first : (rest : List Worker) → length rest ≡ 0 → slice_get (rest ++ w ∷ []) 0 ≡ Some w
    first [] e = refl
    first (v ∷ rest) e = absurd (omega arith)

-- the workers that a slice had, which was written over the whole of a list
pub written_over : (table : Table) (n : ℕ) (new old : List Worker) → n ≡ length new → AreWorkers table new → AreWorkers table (take n (new ++ drop (length new) old))
written_over table n new old is = subst (AreWorkers table) (sym (ap (λ n. take n (new ++ drop (length new) old)) is ∙ take-append_seam new (drop (length new) old)))

-- workers of a list, from whose end one was popped
at_end : (rest : List Worker) (w : Worker) → slice_get (rest ++ w ∷ []) (length rest) ≡ Some w
at_end [] w = refl
at_end (v ∷ rest) w = at_end rest w

before_end : (rest : List Worker) (w v : Worker) (k : ℕ) → slice_get rest k ≡ Some v → slice_get (rest ++ w ∷ []) k ≡ Some v
before_end [] w v k e = let b = slice_get_within [] k v e in absurd (omega arith)
before_end (x ∷ rest) w v zero e = e
before_end (x ∷ rest) w v (suc k) e = before_end rest w v k e

module _ (table : Table) (workers rest : List Worker) (w : Worker) (each : (k : ℕ) (v : Worker) → slice_get workers k ≡ Some v → IsWorker table v) (is : workers ≡ rest ++ w ∷ []) where
  pub popped_worker : IsWorker table w
  popped_worker = each (length rest) w (ap (λ ws. slice_get ws (length rest)) is ∙ at_end rest w)

  pub others_work : (k : ℕ) (v : Worker) → slice_get rest k ≡ Some v → IsWorker table v
  others_work k v e = each k v (ap (λ ws. slice_get ws k) is ∙ before_end rest w v k e)
