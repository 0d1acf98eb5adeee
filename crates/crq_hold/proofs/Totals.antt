-- What all workers put and took together, and what the one history says of that.
use Rattle.std.proofs.Common.{◌≡◌, ◌≢◌, inl, inr, ℕ, zero, suc, ◌+◌, ◌*◌, ◌<◌, ◌≤◌, List, [], ◌∷◌, ◌++◌, take, drop, length, length-set, Option, Some, None, sym, refl, ap, ◌∙◌, subst, cond, eq-eqb, ne_eqb, arith}
use Rattle.std.specs.Prelude.{slice_get, slice_set, slice_index_or}
use Rattle.std.specs.List.{filter_map, cons_option}
use Rattle.std.proofs.lemmas.Option.{slice_get_within, slice_get-get_or}
use Rattle.std.proofs.Math.Seq.{take-append_seam}
use mathlib.Core.Logic.{dite}
use native.Mathlib.Decide.{ℕ_discrete}
use Rattle.crq_base.specs.declared.event.Event.{Event}
use Rattle.crq_base.specs.declared.entry.Entry.{Entry}
use Rattle.crq_base.specs.Entries.{caller_of}
use Rattle.crq_base.specs.Histories.{put_of, taken_of, own as own_of}
use Rattle.crq_rule.specs.declared.pass.Table.{Table}
use Rattle.crq_rule.specs.declared.pass.Seating.{Seating}
use Rattle.crq_rule.specs.declared.pass.Seating.TheVariants.{Here}
use Rattle.crq_base.specs.Lists.{In}
use Rattle.crq_rows.specs.Passes.{caller}
use Rattle.crq_rows.proofs.Slots.{get_here, get_else}
use Rattle.crq_queue.specs.declared.calendar.Whole.{Whole}
use Rattle.crq_queue.specs.Wholes.{IsGathered, history_of}
use Rattle.crq_hold.specs.declared.worker.Worker.{Worker}
use Rattle.crq_hold.specs.Workers.{PutAndTook}
use Rattle.crq_hold.specs.Teams.{AreNew, AreWorkers, AllHeld, AllWent, HasHeld, total_of}
use Rattle.crq_hold.proofs.Teaming.{some_at, some_worker, one_on}

-- how many events of a kind stand in a worker's own entries
abbrev count_of : (Entry → Option Event) → Table → Worker → ℕ
count_of f table w = length (filter_map f (caller table w.pass).own)

some_same : (v w : Worker) → Some v ≡ Some w → v ≡ w
some_same v w e = cc

-- Workers that went on

pub all_none : (table : Table) (ws : List Worker) → AreWorkers table ws → AllWent table ws ws 0 0
all_none table ws all = record {
  workers = all;
  count = refl;
  deals = λ k v w e f. ap (λ (w : Worker). (caller table w.pass).deal) (sym (some_same v w (sym e ∙ f)));
  puts_more = omega arith;
  takes_more = omega arith;
}

pub all_both : {table : Table} {a b c : List Worker} {p t q u : ℕ} → AllWent table a b p t → AllWent table b c q u → AllWent table a c (p + q) (t + u)
all_both {table} {a} {b} {c} x y = record {
  workers = y.workers;
  count = y.count ∙ x.count;
  deals = λ k v w e f. let n = x.count in let in_a = slice_get_within a k v e in let m = some_at b k (omega arith) in y.deals k m.0 w m.1 f ∙ x.deals k v m.0 e m.1;
  puts_more = let m = x.puts_more in let n = y.puts_more in omega arith;
  takes_more = let m = x.takes_more in let n = y.takes_more in omega arith;
}

-- the same with other names of the numbers
pub all_as : {table : Table} {a b : List Worker} {p t p' t' : ℕ} → AllWent table a b p t → p ≡ p' → t ≡ t' → AllWent table a b p' t'
all_as x p t = record {
  workers = x.workers;
  count = x.count;
  deals = x.deals;
  puts_more = let m = x.puts_more in omega arith;
  takes_more = let m = x.takes_more in omega arith;
}

total_set : (f : Entry → Option Event) (table : Table) (ws : List Worker) (i : ℕ) (d w : Worker) (n : ℕ) → i < length ws → count_of f table w ≡ count_of f table (slice_index_or ws i d) + n → total_of f table (slice_set ws i w) ≡ total_of f table ws + n
total_set f table [] i d w n b more = absurd (omega arith)
total_set f table (v ∷ ws) zero d w n b more = omega arith
total_set f table (v ∷ ws) (suc i) d w n b more = let r = total_set f table ws i d w n (omega arith) more in omega arith

module _ (table : Table) (ws : List Worker) (all : AreWorkers table ws) where
  pub one_went : (i : ℕ) (d w : Worker) {p t : ℕ} → i < length ws → PutAndTook table (slice_index_or ws i d) w p t → AllWent table ws (slice_set ws i w) p t
  one_went i d w {p} {t} b x = record {
    workers = one_on table ws all i d w b x.on;
    count = length-set ws i w;
    deals = λ k u v e f. dite (ℕ_discrete k i)
        (λ is. let new : w ≡ v = some_same w v (sym (get_here ws i w b) ∙ (ap (slice_get (slice_set ws i w)) (sym is) ∙ f)) in
        let old : slice_index_or ws i d ≡ u = some_same (slice_index_or ws i d) u (sym (slice_get-get_or ws i d b) ∙ (ap (slice_get ws) (sym is) ∙ e)) in
        ap (λ (w : Worker). (caller table w.pass).deal) (sym new) ∙ (x.on.deal ∙ ap (λ (w : Worker). (caller table w.pass).deal) old))
        (λ ne. ap (λ (w : Worker). (caller table w.pass).deal) (some_same v u (sym f ∙ (get_else ws i k w ne ∙ e))));
    puts_more = total_set put_of table ws i d w p b x.puts_more;
    takes_more = total_set taken_of table ws i d w t b x.takes_more;
  }

total_each : (f : Entry → Option Event) (table : Table) (old new : List Worker) (n : ℕ) → length new ≡ length old → ((k : ℕ) (v w : Worker) → slice_get old k ≡ Some v → slice_get new k ≡ Some w → count_of f table w ≡ count_of f table v + n) → total_of f table new ≡ total_of f table old + length old * n
total_each f table [] [] n wide each = omega arith
total_each f table [] (w ∷ new) n wide each = absurd (omega arith)
total_each f table (v ∷ old) [] n wide each = absurd (omega arith)
total_each f table (v ∷ old) (w ∷ new) n wide each = let rest = total_each f table old new n (omega arith) (λ k v w e f. each (suc k) v w e f) in let first = each zero v w refl refl in omega arith

pub each_went : (table : Table) (old new : List Worker) (holds : ℕ) → AreWorkers table new → AllHeld table old new holds → AllWent table old new (length old * holds) (length old * holds)
each_went table old new holds all held = record {
  workers = all;
  count = held.count;
  deals = λ k v w e f. (held.each k v w e f).0.on.deal;
  puts_more = total_each put_of table old new holds held.count (λ k v w e f. (held.each k v w e f).0.puts_more);
  takes_more = total_each taken_of table old new holds held.count (λ k v w e f. (held.each k v w e f).0.takes_more);
}

-- the workers that a slice had, which was written over the whole of a list
pub written_went : (table : Table) (n : ℕ) (new old : List Worker) {start : List Worker} {p t : ℕ} → n ≡ length new → AllWent table start new p t → AllWent table start (take n (new ++ drop (length new) old)) p t
written_went table n new old {start} {p} {t} is = subst (λ ws. AllWent table start ws p t) (sym (ap (λ n. take n (new ++ drop (length new) old)) is ∙ take-append_seam new (drop (length new) old)))

-- The entries of a history, counted caller by caller

pub own_first : (c : ℕ) (x : Entry) (es : List Entry) → caller_of x ≡ c → own_of c (x ∷ es) ≡ x ∷ own_of c es
own_first c x es q = λ i. cond (eq-eqb (caller_of x) c q i) (x ∷ own_of c es) (own_of c es)

pub own_skip : (c : ℕ) (x : Entry) (es : List Entry) → caller_of x ≢ c → own_of c (x ∷ es) ≡ own_of c es
own_skip c x es q = λ i. cond (ne_eqb (caller_of x) c q i) (x ∷ own_of c es) (own_of c es)

one_more : (o : Option Event) (es : List Event) → length (cons_option o es) ≡ length (cons_option o []) + length es
one_more None es = omega arith
one_more (Some e) es = omega arith

module _ (f : Entry → Option Event) where
  -- over the n callers from j on
  abbrev tally : List Entry → ℕ → ℕ → ℕ
  tally es j zero = 0
  tally es j (suc n) = length (filter_map f (own_of j es)) + tally es (j + 1) n

  tally_none : (j n : ℕ) → tally [] j n ≡ 0
  tally_none j zero = refl
  tally_none j (suc n) = let r = tally_none (j + 1) n in omega arith

  tally_out : (x : Entry) (es : List Entry) (j n : ℕ) → caller_of x < j → tally (x ∷ es) j n ≡ tally es j n
  tally_out x es j zero b = refl
  tally_out x es j (suc n) b = let a = ap (λ xs. length (filter_map f xs)) (own_skip j x es (λ q. absurd (omega arith))) in let r = tally_out x es (j + 1) n (omega arith) in omega arith

  tally_in : (x : Entry) (es : List Entry) (j n : ℕ) → j ≤ caller_of x → caller_of x < j + n → tally (x ∷ es) j n ≡ length (cons_option (f x) []) + tally es j n
  tally_in x es j zero low high = absurd (omega arith)
  tally_in x es j (suc n) low high = dite (ℕ_discrete (caller_of x) j)
      (λ is. let a = ap (λ xs. length (filter_map f xs)) (own_first j x es is) in let m = one_more (f x) (filter_map f (own_of j es)) in let r = tally_out x es (j + 1) n (omega arith) in omega arith)
      (λ ne. let a = ap (λ xs. length (filter_map f xs)) (own_skip j x es ne) in let r = tally_in x es (j + 1) n (omega arith) (omega arith) in omega arith)

  tally_all : (n : ℕ) (es : List Entry) → ((e : Entry) → In e es → caller_of e < n) → tally es 0 n ≡ length (filter_map f es)
  tally_all n [] inside = tally_none 0 n
  tally_all n (x ∷ es) inside = let a = tally_in x es 0 n (omega arith) (let b = inside x (inl refl) in omega arith) in let r = tally_all n es (λ e i. inside e (inr i)) in let m = one_more (f x) (filter_map f es) in omega arith

  tally_is : (table : Table) (es : List Entry) (ws : List Worker) (j : ℕ) → ((k : ℕ) (w : Worker) → slice_get ws k ≡ Some w → own_of (j + k) es ≡ (caller table w.pass).own) → tally es j (length ws) ≡ total_of f table ws
  tally_is table es [] j each = refl
  tally_is table es (w ∷ ws) j each = let a = ap (λ xs. length (filter_map f xs)) (ap (λ m. own_of m es) (let up : j ≡ j + 0 = omega arith in up) ∙ each zero w refl) in
      let r = tally_is table es ws (j + 1) (λ k v at. ap (λ m. own_of m es) (let up : j + 1 + k ≡ j + suc k = omega arith in up) ∙ each (suc k) v at) in omega arith

  total_none : (table : Table) (ws : List Worker) → AreNew table ws → total_of f table ws ≡ 0
  total_none table [] new = refl
  total_none table (w ∷ ws) new = let a = ap (λ xs. length (filter_map f xs)) (new zero w refl).1 in let r = total_none table ws (λ k v e. new (suc k) v e) in omega arith

-- workers of a new calendar whose passes were put back and made one: the history has just what they put and took
module _ (table : Table) (places : List Seating) (whole : Whole) (old workers : List Worker) (p t : ℕ) (new : AreNew table old) (went : AllWent table old workers p t)
    (there : (k : ℕ) (w : Worker) → slice_get workers k ≡ Some w → slice_get places k ≡ Some (Here w.pass)) (g : IsGathered table places whole) where
  all_since : history_of whole ≡ g.since
  all_since = let w = some_at workers 0 (some_worker table workers went.workers) in let n = went.count in let b = slice_get_within workers 0 w.0 w.1 in let v = some_at old 0 (omega arith) in
      (g.each 0 w.0.pass (there 0 w.0 w.1)).0 ∙ ap (λ es. es ++ g.since) (ap (λ d. d.history) (went.deals 0 v.0 w.0 v.1 w.1) ∙ (new 0 v.0 v.1).0)

  counted : (f : Entry → Option Event) → length (filter_map f (history_of whole)) ≡ total_of f table workers
  counted f = ap (λ es. length (filter_map f es)) all_since ∙ (sym (tally_all f (length workers) g.since (λ e i. let n = went.workers.count in let b = g.inside e i in omega arith))
      ∙ tally_is f table g.since workers 0 (λ k w e. ap (λ m. own_of m g.since) (let up : 0 + k ≡ k = omega arith in up) ∙ (g.each k w.pass (there k w e)).1))

  pub history_held : (pending holds : ℕ) → p ≡ pending + holds → t ≡ pending + holds → HasHeld (history_of whole) pending holds
  history_held pending holds put taken = record {
    legal = g.legal;
    put = let c = counted put_of in let m = went.puts_more in let z = total_none put_of table old new in omega arith;
    taken = let c = counted taken_of in let m = went.takes_more in let z = total_none taken_of table old new in omega arith;
  }
