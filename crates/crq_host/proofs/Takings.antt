-- The events of a window, as the workers' lists have them after the takes.
use Rattle.std.proofs.Common.{◌≡◌, ◌⊎◌, ℕ, zero, suc, ◌+◌, ◌*◌, ◌<◌, ◌≤◌, ◌^◌, Bool, true, false, cond, nat_eq, List, [], ◌∷◌, ◌++◌, length, take, drop, get_or, slice_get, Some, None, refl, arith, ap, sym, ◌∙◌, subst, inl, inr, All}
use Rattle.std.specs.Prelude.{flat_map}
use Rattle.std.proofs.lemmas.Bool.Decides.{nat_tests}
use Rattle.std.proofs.lemmas.Grind.{flat_map-append}
use Rattle.std.proofs.lemmas.List.{append_assoc, append-nil, length-append, take-append-drop}
use Rattle.std.proofs.lemmas.Option.{slice_get_within, slice_get-get_or}
use Rattle.crq_base.specs.declared.answers.Short.{Short}
use Rattle.crq_base.specs.declared.answers.Short.TheVariants.{Rows, Epochs, Memory}
use Rattle.crq_base.specs.declared.event.Event.{Event}
use Rattle.crq_base.specs.declared.entry.Entry.{Entry}
use Rattle.crq_base.specs.declared.entry.Entry.TheVariants.{Begin, Put, Settled, Take, Miss, Table}
use Rattle.crq_base.specs.Histories.{taken_of, puts, outs, own, IsPending, table_count}
use Rattle.crq_base.specs.Lists.{In, IsOnce}
use Rattle.crq_base.proofs.HistoryLaws.{puts-append, outs-append}
use Rattle.crq_base.specs.Sizes.{IsTeam}
use Rattle.crq_base.proofs.Elements.{in_left, in_right, in_cases, contains_in, in_contains}
use Rattle.crq_set.specs.Views.{Setup, IsSetup}
use Rattle.crq_sim.specs.Models.{ModelData, IsModel}
use Rattle.crq_sim.specs.Runs.{Simulation, beginning, simulation_at}
use Rattle.crq_sim.specs.Simulations.{IsDue}
use Rattle.crq_sim.specs.Windows.{IsWindowEnd}
use Rattle.crq_sim.proofs.OrderLemmas.{All-at}
use Rattle.crq_sim.proofs.Sound.{begins, goes_on}
use Rattle.crq_host.specs.declared.course.Course.{Course}
use Rattle.crq_host.specs.declared.course.Plan.{Plan}
use Rattle.crq_host.specs.declared.worker.Worker.{Worker}
use Rattle.crq_host.specs.Courses.{Counts, counts_of, caps_of, all_taken, all_due, IsCounted, IsCrew, IsBetween, HasFirst, Collects, IsTaken, IsOver}
use Rattle.crq_host.specs.Histories.{AreJust, ArePutsOf, IsRunTo}
use Rattle.crq_host.specs.Phases.{GoesOn, Drains, TakesLeast, TakesShort}
use Rattle.crq_host.specs.Progress.{StandsAfter, TakesWindow}
use Rattle.crq_host.specs.Shares.{AreEach, IsCleared, IsReady}
use Rattle.crq_host.specs.Workers.{AreTakenBy}
use Rattle.crq_host.proofs.Elements.{filter_in, in_filter_map, filter_map_in}
use Rattle.crq_host.proofs.Enough.{rows_enough}
use Rattle.crq_host.proofs.Members.{once_join}
use Rattle.crq_host.proofs.MergeLaws.{flat_next, some_worker}
use Rattle.crq_host.proofs.Pendings.{pending_back}
use Rattle.crq_host.proofs.Rounds.{one_since}
use Rattle.crq_host.proofs.WindowSteps.{none_pending, window_taken, tables_none}

told : (b : Bool) → (b ≡ true) ⊎ (b ≡ false)
told true = inl refl
told false = inr refl

-- the lists of many elements, joined

module _ {A B : Type 0} (f : A → List B) where
  pub in_joined : (xs : List A) (y : B) → In y (flat_map f xs) → (k : ℕ) × (x : A) × (slice_get xs k ≡ Some x) × In y (f x)
  in_joined [] y h = absurd h
  in_joined (x ∷ xs) y h =
      elim (in_cases y (f x) (flat_map f xs) h) [
        | inl here ↦ (0, x, refl, here)
        | inr later ↦ (let r = in_joined xs y later in (suc r.0, r.1, r.2, r.3))
      ]

  pub into_joined : (xs : List A) (y : B) (k : ℕ) (x : A) → slice_get xs k ≡ Some x → In y (f x) → In y (flat_map f xs)
  into_joined [] y k x at h = absurd (cc)
  into_joined (z ∷ xs) y zero x at h = in_left y (f z) (flat_map f xs) (let same : z ≡ x = cc in subst (λ v. In y (f v)) (sym same) h)
  into_joined (z ∷ xs) y (suc k) x at h = in_right y (f z) (flat_map f xs) (into_joined xs y k x at h)

  pub once_joined : (xs : List A) → ((i : ℕ) (x : A) → slice_get xs i ≡ Some x → IsOnce (f x))
      → ((i j : ℕ) (x z : A) (y : B) → slice_get xs i ≡ Some x → slice_get xs j ≡ Some z → In y (f x) → In y (f z) → i ≡ j) → IsOnce (flat_map f xs)
  once_joined [] once apart = tt
  once_joined (x ∷ xs) once apart =
      once_join (f x) (flat_map f xs) (once 0 x refl) (once_joined xs (λ i z at. once (suc i) z at) (λ i j v z y at_v at_z h k. (let e = apart (suc i) (suc j) v z y at_v at_z h k in omega arith)))
      (λ y here there. (let p = in_joined xs y there in let e = apart 0 (suc p.0) x p.1 y refl p.2 here p.3 in absurd (omega arith)))

-- the events that one caller took

own_in : (k : ℕ) (xs : List Entry) (e : Event) → In e (outs (own k xs)) → In e (outs xs)
own_in k xs e h = let x = in_filter_map taken_of e (own k xs) h in filter_map_in taken_of e x.0 xs (filter_in _ x.0 xs x.1) x.2

own_once : (k : ℕ) (xs : List Entry) → IsOnce (outs xs) → IsOnce (outs (own k xs))
own_once k [] once = tt
own_once k (Take c f ∷ xs) once =
    elim (told (nat_eq c k)) [ inl t ↦ rw t ((λ at. once.0 (own_in k xs f at)), own_once k xs once.1) | inr t ↦ rw t (own_once k xs once.1) ]
own_once k (Begin c ∷ xs) once = elim (told (nat_eq c k)) [ inl t ↦ rw t (own_once k xs once) | inr t ↦ rw t (own_once k xs once) ]
own_once k (Put c f ∷ xs) once = elim (told (nat_eq c k)) [ inl t ↦ rw t (own_once k xs once) | inr t ↦ rw t (own_once k xs once) ]
own_once k (Settled c f ∷ xs) once = elim (told (nat_eq c k)) [ inl t ↦ rw t (own_once k xs once) | inr t ↦ rw t (own_once k xs once) ]
own_once k (Miss c l ∷ xs) once = elim (told (nat_eq c k)) [ inl t ↦ rw t (own_once k xs once) | inr t ↦ rw t (own_once k xs once) ]
own_once k (Table c l s ∷ xs) once = elim (told (nat_eq c k)) [ inl t ↦ rw t (own_once k xs once) | inr t ↦ rw t (own_once k xs once) ]

-- an entry that takes nothing, or not there
passed : (b : Bool) (x : Entry) (xs : List Entry) (e : Event) → taken_of x ≡ None → In e (outs (cond b (x ∷ xs) xs)) → In e (outs xs)
passed true (Begin c) xs e none h = h
passed true (Put c f) xs e none h = h
passed true (Settled c f) xs e none h = h
passed true (Take c f) xs e none h = absurd (cc)
passed true (Miss c l) xs e none h = h
passed true (Table c l s) xs e none h = h
passed false x xs e none h = h

-- no two callers took one event
own_apart : (j k : ℕ) (xs : List Entry) (e : Event) → IsOnce (outs xs) → In e (outs (own j xs)) → In e (outs (own k xs)) → j ≡ k
own_apart j k [] e once a b = absurd a
own_apart j k (Take c f ∷ xs) e once a b =
    elim (told (nat_eq c j)) [
      | inl s ↦ elim (told (nat_eq c k)) [
        | inl t ↦ grind (arith, nat_tests)
        | inr t ↦ (let h : In e (f ∷ outs (own j xs)) = subst (λ v. In e (outs (cond v (Take c f ∷ own j xs) (own j xs)))) s a in
            let i : In e (outs (own k xs)) = subst (λ v. In e (outs (cond v (Take c f ∷ own k xs) (own k xs)))) t b in
            elim h [
              | inl same ↦ absurd (once.0 (subst (λ x. In x (outs xs)) same (own_in k xs e i)))
              | inr later ↦ own_apart j k xs e once.1 later i
            ])
      ]
      | inr s ↦ (let h : In e (outs (own j xs)) = subst (λ v. In e (outs (cond v (Take c f ∷ own j xs) (own j xs)))) s a in
          elim (told (nat_eq c k)) [
            | inl t ↦ (let i : In e (f ∷ outs (own k xs)) = subst (λ v. In e (outs (cond v (Take c f ∷ own k xs) (own k xs)))) t b in
                elim i [
                  | inl same ↦ absurd (once.0 (subst (λ x. In x (outs xs)) same (own_in j xs e h)))
                  | inr later ↦ own_apart j k xs e once.1 h later
                ])
            | inr t ↦ own_apart j k xs e once.1 h (subst (λ v. In e (outs (cond v (Take c f ∷ own k xs) (own k xs)))) t b)
          ])
    ]
own_apart j k (Begin c ∷ xs) e once a b = own_apart j k xs e once (passed (nat_eq c j) (Begin c) (own j xs) e refl a) (passed (nat_eq c k) (Begin c) (own k xs) e refl b)
own_apart j k (Put c f ∷ xs) e once a b = own_apart j k xs e once (passed (nat_eq c j) (Put c f) (own j xs) e refl a) (passed (nat_eq c k) (Put c f) (own k xs) e refl b)
own_apart j k (Settled c f ∷ xs) e once a b = own_apart j k xs e once (passed (nat_eq c j) (Settled c f) (own j xs) e refl a) (passed (nat_eq c k) (Settled c f) (own k xs) e refl b)
own_apart j k (Miss c l ∷ xs) e once a b = own_apart j k xs e once (passed (nat_eq c j) (Miss c l) (own j xs) e refl a) (passed (nat_eq c k) (Miss c l) (own k xs) e refl b)
own_apart j k (Table c l s ∷ xs) e once a b = own_apart j k xs e once (passed (nat_eq c j) (Table c l s) (own j xs) e refl a) (passed (nat_eq c k) (Table c l s) (own k xs) e refl b)

module _ {P : Type 0} (old new : List (Worker P)) (since : List Entry) (none : All (λ (w : Worker P). w.taken.items ≡ []) old) (taken : AreTakenBy old new since) where
  -- each worker has just its own takes
  taken_is : (k : ℕ) (b : Worker P) → slice_get new k ≡ Some b → b.taken.items ≡ outs (own k since)
  taken_is k b at =
      let lt : k < length old = (let w = slice_get_within new k b at in let n = taken.count in omega arith) in
      (taken.each k (get_or old k b) b (slice_get-get_or old k b lt) at).0 ∙ ap (λ es. es ++ outs (own k since)) (none k b lt)

  taken_once : IsOnce (outs since) → IsOnce (all_taken new)
  taken_once once =
      once_joined (λ (w : Worker P). w.taken.items) new (λ i b at. subst IsOnce (sym (taken_is i b at)) (own_once i since once))
      (λ i j a b e at_a at_b h k. own_apart i j since e once (subst (In e) (taken_is i a at_a) h) (subst (In e) (taken_is j b at_b) k))

  taken_in : (e : Event) → In e (all_taken new) → In e (outs since)
  taken_in e h = let p = in_joined (λ (w : Worker P). w.taken.items) new e h in own_in p.0 since e (subst (In e) (taken_is p.0 p.1 p.2) p.3)

  into_taken : (e : Event) → In e (outs since) → In e (all_taken new)
  into_taken e h =
      let p = (taken.all e).0 (in_contains e (outs since) h) in
      let lt : p.0 < length new = (let l = p.1 in let n = taken.count in omega arith) in
      let b : Worker P = get_or new p.0 (some_worker new p.0 lt) in
      let at : slice_get new p.0 ≡ Some b = slice_get-get_or new p.0 (some_worker new p.0 lt) lt in
      into_joined (λ (w : Worker P). w.taken.items) new e p.0 b at (subst (In e) (sym (taken_is p.0 b at)) (contains_in e (outs (own p.0 since)) p.2))

-- the first event and what the workers took are just the window's events
pub taken_just : {P : Type 0} (m : ModelData) (n : ℕ) (h drained first_since drain_since : List Entry) (e : Event) (below rest : List Event) (old new : List (Worker P))
    → TakesWindow m n h drained e below rest → drained ≡ (h ++ first_since) ++ drain_since → outs first_since ≡ e ∷ [] → All (λ (w : Worker P). w.taken.items ≡ []) old → AreTakenBy old new drain_since
    → AreJust (e ∷ all_taken new) below
taken_just m n h drained first_since drain_since e below rest old new takes grown first none taken =
    let same : takes.since ≡ first_since ++ drain_since = one_since drained h takes.since (first_since ++ drain_since) takes.extends (grown ∙ append_assoc h first_since drain_since) in
    let all : outs takes.since ≡ e ∷ outs drain_since = ap outs same ∙ outs-append first_since drain_since ∙ ap (λ z. z ++ outs drain_since) first in
    let just : AreJust (e ∷ outs drain_since) below = subst (λ es. AreJust es below) all takes.takes.takes in
    record {
      once = ((λ at. just.once.0 (taken_in old new drain_since none taken e at)), taken_once old new drain_since none taken just.once.1);
      members = (λ x. (
        (λ at. (just.members x).0 (in_contains x (e ∷ outs drain_since) (elim (contains_in x (e ∷ all_taken new) at) [ inl here ↦ inl here | inr later ↦ inr (taken_in old new drain_since none taken x later) ]))),
        (λ at. in_contains x (e ∷ all_taken new) (elim (contains_in x (e ∷ outs drain_since) ((just.members x).1 at)) [ inl here ↦ inl here | inr later ↦ inr (into_taken old new drain_since none taken x later) ])),
      ));
    }

-- windows are no more than their events
pub ends_count : (m : ModelData) (w : Simulation) (k n : ℕ) → IsWindowEnd m w k n → k ≤ n
ends_count m w zero n h = omega arith
ends_count m w (suc k) n h = (let some = h.3.0 in let rest = ends_count m w k h.0 h.2 in let sum = h.4 in omega arith)

-- workers that are cleared and didn't stop may run events
pub cleared_ready : {P : Type 0} (old new : List (Worker P)) → All (λ (w : Worker P). w.short ≡ None) old → AreEach IsCleared old new → All (λ (w : Worker P). IsReady w) new
cleared_ready old new fine cleared = λ k d lt.
    let below : k < length old = (let n = cleared.count in omega arith) in
    let c = cleared.each k d below in
    ((c.changed, c.steps, c.sends, c.short ∙ fine k d below), c.due)

cleared_crew : {P : Type 0} (plan : Plan) (setup : Setup) (old mid new : List (Worker P)) → IsCrew plan setup old → length mid ≡ length old → AreEach IsCleared mid new → IsCrew plan setup new
cleared_crew plan setup old mid new crew many cleared =
    let same : length new ≡ length old = cleared.count ∙ many in
    record {
      bounds = crew.bounds;
      made = subst (λ n. IsSetup n plan.rows setup) (sym same) crew.made;
      team = subst (λ n. IsTeam n) (sym same) crew.team;
      none = (λ k d lt. (cleared.each k d (let n = cleared.count in omega arith)).taken);
    }

-- the history that goes on from where the first event was taken
module _ {P : Type 0} (m : ModelData) (plan : Plan) (setup : Setup) (history : List Entry) (c : Course P) (first : Event) (has : HasFirst m plan setup history c first) where
  pub first_tables : table_count history ≡ 0
  first_tables = subst (λ h. table_count h ≡ 0) (sym has.extends) (tables_none has.before has.since has.between.stands.tables has.tables)

  -- windows are no more than events
  pub first_window : c.window + 1 < 2 ^ 32
  first_window =
      let count = ends_count m (beginning m) c.window c.made has.between.counted.end in
      let few = has.between.counted.few in
      let cap = has.between.crew.bounds.cap in
      omega arith

  -- no rows are lacking
  pub first_short : (short : Short) → TakesShort setup history short → short ≡ Memory
  first_short Rows h = absurd (
      let counted = has.between.counted in
      let many = counted.pending in
      let enough : 2 * length (simulation_at m c.made).pending + 2 ≤ setup.rows = (let e = counted.enough in let r = has.between.crew.made.each in omega arith) in
      rows_enough setup history (simulation_at m c.made).pending
      (λ x p. (has.between.stands.pending x).0 (pending_back has.before has.since x has.least.0 (subst (λ z. IsPending z x) has.extends p))) enough h)
  first_short Epochs h = absurd h
  first_short Memory h = refl

  pub all_taken_now : (drained since : List Entry) (workers : List (Worker P)) (mid c' : Course P) → IsModel m → GoesOn history drained since → Drains (first.time + m.lookahead) history since
      → AreTakenBy c.workers.items workers since → All (λ (w : Worker P). w.short ≡ None) workers → Collects first mid c' → counts_of mid ≡ counts_of c → mid.workers.items ≡ workers
      → IsTaken m plan setup drained c'
  all_taken_now drained since workers mid c' is goes drains taken fine collects counts has_workers =
      let s : counts_of c' ≡ counts_of c = collects.counts ∙ counts in
      let d : Drains (first.time + m.lookahead) (has.before ++ has.since) since = subst (λ h. Drains (first.time + m.lookahead) h since) has.extends drains in
      let w = window_taken m c.window c.made has.before has.since since first is has.between.stands has.least has.tables d goes.tables in
      let grown : drained ≡ (has.before ++ has.since) ++ since = goes.extends ∙ ap (λ h. h ++ since) has.extends in
      let takes : TakesWindow m c.made has.before drained first w.0 w.1 = subst (λ h. TakesWindow m c.made has.before h first w.0 w.1) (sym grown) w.2 in
      let cleared : AreEach IsCleared workers c'.workers.items = subst (λ ws. AreEach IsCleared ws c'.workers.items) has_workers collects.cleared in
      record {
        before = has.before;
        first = first;
        below = w.0;
        rest = w.1;
        stands = subst (λ (z : Counts). StandsAfter m z.window z.made has.before) (sym s) has.between.stands;
        takes = subst (λ (z : Counts). TakesWindow m z.made has.before drained first w.0 w.1) (sym s) takes;
        just = subst (λ es. AreJust es w.0) (sym (collects.events ∙ ap (λ ws. first ∷ all_taken ws) has_workers))
            (taken_just m c.made has.before drained has.since since first w.0 w.1 c.workers.items workers takes grown has.least.1 has.between.crew.none taken);
        calm = goes.calm;
        counted = subst (IsCounted m (caps_of plan)) (sym s) has.between.counted;
        crew = cleared_crew plan setup c.workers.items workers c'.workers.items has.between.crew taken.count cleared;
        ready = cleared_ready workers c'.workers.items fine cleared;
      }

-- entries that neither put nor take leave the run where it is
puts_longer : (due : List Event) (put since : List Entry) → ArePutsOf due put → puts since ≡ [] → outs since ≡ [] → table_count since ≡ 0 → ArePutsOf due (put ++ since)
puts_longer due put since are none_put none_out none_tables = record {
  puts_them = subst (λ es. AreJust es due) (sym (puts-append put since ∙ ap (λ z. puts put ++ z) none_put ∙ append-nil (puts put))) are.puts_them;
  takes_none = outs-append put since ∙ ap (λ z. outs put ++ z) none_out ∙ append-nil (outs put) ∙ are.takes_none;
  tables_none = tables_none put since are.tables_none none_tables;
}

run_longer : (m : ModelData) (k : ℕ) (h since : List Entry) → IsRunTo m k h → puts since ≡ [] → outs since ≡ [] → table_count since ≡ 0 → IsRunTo m k (h ++ since)
run_longer m zero h since run none_put none_out none_tables = (run.0, run.1, puts_longer run.0.sends h since run.2 none_put none_out none_tables)
run_longer m (suc k) h since run none_put none_out none_tables = (
  run.0,
  run.1,
  run.2 ++ since,
  run.3,
  run.4,
  run.5,
  ap (λ z. z ++ since) run.6 ∙ append_assoc run.0 (run.1 ++ run.2) since ∙ ap (λ z. run.0 ++ z) (append_assoc run.1 run.2 since),
  run.7,
  puts_longer run.3.sends run.2 since run.8 none_put none_out none_tables,
)

-- the least event was looked for between two windows
module _ {P : Type 0} (m : ModelData) (plan : Plan) (setup : Setup) (history now since : List Entry) (c : Course P) (between : IsBetween m plan setup history c) (goes : GoesOn history now since) where
  pub first_found : (first : Event) → TakesLeast history since (Some first) → HasFirst m plan setup now c first
  first_found first least = record { before = history; since = since; extends = goes.extends; between = between; calm = goes.calm; tables = goes.tables; least = least }

  pub none_found : TakesLeast history since None → IsOver m plan now c
  none_found least = record {
    calm = goes.calm;
    run = subst (IsRunTo m c.window) (sym goes.extends) (run_longer m c.window history since between.stands.run least.0 least.1 goes.tables);
    counted = between.counted;
    over = none_pending m c.window c.made history between.stands least.2;
  }

pub least_short : {P : Type 0} (m : ModelData) (plan : Plan) (setup : Setup) (history : List Entry) (c : Course P) → IsBetween m plan setup history c → (short : Short) → TakesShort setup history short → short ≡ Memory
least_short m plan setup history c between Rows h = absurd (
    let counted = between.counted in
    let many = counted.pending in
    let enough : 2 * length (simulation_at m c.made).pending + 2 ≤ setup.rows = (let e = counted.enough in let r = between.crew.made.each in omega arith) in
    rows_enough setup history (simulation_at m c.made).pending (λ x p. (between.stands.pending x).0 p) enough h)
least_short m plan setup history c between Epochs h = absurd h
least_short m plan setup history c between Memory h = refl

-- times of pending events
pub times_below : {P : Type 0} (m : ModelData) (plan : Plan) (setup : Setup) (history : List Entry) (c : Course P) → IsModel m → IsBetween m plan setup history c → (e : Event) → IsPending history e → e.time < 2 ^ 32
times_below m plan setup history c is between e p =
    let due = All-at (IsDue m (simulation_at m c.made).states) (simulation_at m c.made).pending e (goes_on m (beginning m) c.made is (begins m is)).events ((between.stands.pending e).0 p) in
    let t = due.time in
    let u = is.within in
    omega arith

-- what the first so many workers have to put is part of what all have
pub due_fits : {P : Type 0} (ws : List (Worker P)) (i : ℕ) (d : Worker P) → i < length ws → length (all_due ws) < 2 ^ 32 → length (all_due (take i ws)) + length (get_or ws i d).due.items < 2 ^ 32
due_fits {P} ws i d lt small =
    let f : Worker P → List Event = λ w. w.due.items in
    let whole = ap (λ vs. length (flat_map f vs)) (take-append-drop (i + 1) ws) in
    let parts = ap (length {A = Event}) (flat_map-append f (take (i + 1) ws) (drop (i + 1) ws)) in
    let sum = length-append (flat_map f (take (i + 1) ws)) (flat_map f (drop (i + 1) ws)) in
    let next = ap (length {A = Event}) (flat_next f ws i d lt) in
    let more = length-append (flat_map f (take i ws)) (f (get_or ws i d)) in
    omega arith
