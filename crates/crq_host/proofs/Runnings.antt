-- From what the workers made of a window's events to where the run stands then.
use Rattle.std.proofs.Common.{◌≡◌, ◌⊎◌, ℕ, zero, suc, ◌+◌, ◌-◌, ◌*◌, ◌/◌, ◌<◌, ◌≤◌, ◌^◌, min, max, Bool, true, false, cond, nat_eq, List, [], ◌∷◌, ◌++◌, length, get_or, slice_get, Some, Ok, Err, Result, refl, arith, ap, sym, ◌∙◌, subst, inl, inr, Contains, All}
use Rattle.std.specs.Prelude.{◌↔◌, filter, OnOk}
use Rattle.std.specs.List.{AllByRecursion}
use Rattle.std.specs.List.Sorted.{IsPermutation}
use Rattle.std.proofs.lemmas.Bool.Decides.{nat_tests}
use Rattle.std.proofs.lemmas.List.{append_assoc, length-append}
use Rattle.std.specs.declared.vec.Vec.{Vec}
use Rattle.std.proofs.Common.{Global}
use Rattle.std.proofs.lemmas.List.Elements.{recursion_from_All, All-contains, Contains-get_or, Contains-append_left, Contains-append_right, Contains-append_cases}
use Rattle.std.proofs.lemmas.List.Sorted.{Contains-permutation, length_permutation, IsPermutation-sym}
use Rattle.std.proofs.lemmas.Option.{slice_get_within, slice_get-get_or, get_or_from_slice_get}
use Rattle.crq_base.specs.declared.answers.Short.{Short}
use Rattle.crq_base.specs.declared.answers.Short.TheVariants.{Rows as OfRows, Epochs, Memory}
use Rattle.crq_base.specs.declared.event.Event.{Event}
use Rattle.crq_base.specs.declared.entry.Entry.{Entry}
use Rattle.crq_base.specs.declared.first.First.{First}
use Rattle.crq_base.specs.Histories.{puts, outs, IsPending, table_count}
use Rattle.crq_base.specs.Keys.{IsBefore}
use Rattle.crq_base.specs.Lists.{In, IsOnce}
use Rattle.crq_base.specs.Sizes.{IsTeam}
use Rattle.crq_base.specs.Sources.{owner_of}
use Rattle.crq_base.proofs.HistoryLaws.{puts-append}
use Rattle.crq_base.proofs.KeyOrder.{before_not_itself}
use Rattle.crq_base.proofs.Elements.{contains_in, in_contains}
use Rattle.crq_set.specs.Views.{Setup, IsSetup}
use Rattle.crq_sim.specs.declared.model.Object.{Object}
use Rattle.crq_sim.specs.declared.reaction.ObjectState.{ObjectState}
use Rattle.crq_sim.specs.declared.traces.Step.{Step}
use Rattle.crq_sim.specs.EventLists.{AreInOrder, HaveOneKey, HaveNumbersApart, HaveKeysApart}
use Rattle.crq_sim.specs.Models.{ModelData, IsModel, IsObject}
use Rattle.crq_sim.specs.Reactions.{behaviour_at, IsWordOf}
use Rattle.crq_sim.specs.Runs.{Simulation, state_of, steps_of, after_events, events_sent, scheduled_starts, beginning, simulation_at}
use Rattle.crq_sim.specs.Simulations.{IsSimulation, IsDue as IsDueAt, next_number}
use Rattle.crq_sim.specs.WindowRuns.{RunsWindow, object_after, object_steps, object_sends, events_of}
use Rattle.crq_sim.specs.Windows.{IsWindowEnd, WindowData, IsPeak, Rows as StopsByRows}
use Rattle.crq_sim.proofs.AfterLemmas.{after_more}
use Rattle.crq_sim.proofs.BoundLemmas.{few_sent, sent_more, sent_fresh, start_numbers, state_bounds}
use Rattle.crq_sim.proofs.Members.{none_in}
use Rattle.crq_sim.proofs.KeyLemmas.{run_numbers_apart, sent_apart}
use Rattle.crq_sim.proofs.OrderLemmas.{All-at}
use Rattle.crq_sim.proofs.Sound.{begins, goes_on}
use Rattle.crq_sim.proofs.WindowFacts.{some_data, data_counted, peak_next}
use Rattle.crq_windows.specs.declared.group.Group.{Group}
use Rattle.crq_windows.specs.Groups.{AreGroups}
use Rattle.crq_windows.proofs.LawLemmas.{group_in_order, no_group}
use Rattle.crq_host.specs.declared.course.Course.{Course}
use Rattle.crq_host.specs.declared.course.Plan.{Plan}
use Rattle.crq_host.specs.declared.drive_end.DriveEnd.{DriveEnd}
use Rattle.crq_host.specs.declared.drive_end.DriveEnd.TheVariants.{Events, Rows}
use Rattle.crq_host.specs.declared.worker.Worker.{Worker}
use Rattle.crq_host.specs.Courses.{Counts, counts_of, caps_of, all_due, AreOfRun, IsCounted, IsCrew, IsBetween, IsTaken, HasRun, CountsOn, CountEnds, PutsSome, IsToPut, Stops, RunEnds}
use Rattle.crq_host.specs.Drives.{StopsBy}
use Rattle.crq_host.specs.Histories.{ArePutsOf, IsCalm}
use Rattle.crq_host.specs.Phases.{GoesOn, PutsShort}
use Rattle.crq_host.specs.Progress.{sent_within, StandsAfter, PassesTo}
use Rattle.crq_host.specs.Shares.{Begun, CanRunAll, AreEach, KeepsPass, WindowDone, owned_by}
use Rattle.crq_host.specs.Workers.{IsDue, AreKept}
use Rattle.crq_host.proofs.Elements.{at_in, in_filter, filter_in}
use Rattle.crq_host.proofs.Enough.{rows_enough, epochs_enough}
use Rattle.crq_host.proofs.Members.{as_many}
use Rattle.crq_host.proofs.MergeLaws.{some_worker}
use Rattle.crq_host.proofs.ShareLaws.{found, is_group, none_here}
use Rattle.crq_host.proofs.Takings.{ends_count, in_joined, into_joined, once_joined}
use Rattle.crq_host.proofs.WindowSteps.{one_number, numbers_once, tables_none, this_window, is_window, window_ends, run_to_takes, window_put, pending_within, passes_next, stops_events, stops_rows}

-- Lists

told : (b : Bool) → (b ≡ true) ⊎ (b ≡ false)
told true = inl refl
told false = inr refl

pub all_so : {X : Type 0} (Q : X → Type 0) (xs : List X) → ((x : X) → Contains xs x → Q x) → All Q xs
all_so Q xs h = λ k d lt. h (get_or xs k d) (Contains-get_or xs k d lt)

in_order_front : (xs ys : List Event) → AreInOrder (xs ++ ys) → AreInOrder xs
in_order_front [] ys h = tt
in_order_front (x ∷ xs) ys h = (front xs h.0, in_order_front xs ys h.1)
  where
    front : (zs : List Event) → AllByRecursion (IsBefore x) (zs ++ ys) → AllByRecursion (IsBefore x) zs
    front [] all = tt
    front (z ∷ zs) all = (all.0, front zs all.1)

keys_from_once : (es : List Event) → IsOnce es → ((e f : Event) → Contains es e → Contains es f → HaveOneKey e f → e ≡ f) → HaveKeysApart es
keys_from_once [] once one = tt
keys_from_once (e ∷ es) once one = (
  recursion_from_All (λ (f : Event). HaveOneKey e f → ⊥) es (all_so (λ (f : Event). HaveOneKey e f → ⊥) es
      (λ f at same. once.0 (subst (λ x. In x es) (sym (one e f (in_contains e (e ∷ es) (inl refl)) (in_contains f (e ∷ es) (inr (contains_in f es at))) same)) (contains_in f es at)))),
  keys_from_once es once.1 (λ x y at_x at_y. one x y (in_contains x (e ∷ es) (inr (contains_in x es at_x))) (in_contains y (e ∷ es) (inr (contains_in y es at_y)))),
)

pub once_place : (es : List Event) (i j : ℕ) (e : Event) → IsOnce es → slice_get es i ≡ Some e → slice_get es j ≡ Some e → i ≡ j
once_place [] i j e once a b = absurd (cc)
once_place (x ∷ xs) zero zero e once a b = refl
once_place (x ∷ xs) zero (suc j) e once a b = absurd (let same : x ≡ e = cc in once.0 (subst (λ z. In z xs) (sym same) (at_in e xs j b)))
once_place (x ∷ xs) (suc i) zero e once a b = absurd (let same : x ≡ e = cc in once.0 (subst (λ z. In z xs) (sym same) (at_in e xs i a)))
once_place (x ∷ xs) (suc i) (suc j) e once a b = ap suc (once_place xs i j e once.1 a b)

once_filter : (p : Event → Bool) (es : List Event) → IsOnce es → IsOnce (filter p es)
once_filter p [] once = tt
once_filter p (e ∷ es) once = elim (told (p e)) [ inl t ↦ rw t ((λ at. once.0 (filter_in p e es at)), once_filter p es once.1) | inr t ↦ rw t (once_filter p es once.1) ]

kept_true : (p : Event → Bool) (x : Event) (es : List Event) → In x (filter p es) → p x ≡ true
kept_true p x [] h = absurd h
kept_true p x (e ∷ es) h =
    elim (told (p e)) [
      | inl t ↦ elim (subst (λ b. In x (cond b (e ∷ filter p es) (filter p es))) t h) [ inl same ↦ ap p same ∙ t | inr later ↦ kept_true p x es later ]
      | inr t ↦ kept_true p x es (subst (λ b. In x (cond b (e ∷ filter p es) (filter p es))) t h)
    ]

-- events in order stand there once
before_once : (e : Event) (es : List Event) → AllByRecursion (IsBefore e) es → In e es → ⊥
before_once e es all at = before_not_itself e (All-at (IsBefore e) es e all (in_contains e es at))

pub pending_once : (es : List Event) → AreInOrder es → IsOnce es
pending_once [] order = tt
pending_once (e ∷ es) order = ((λ at. before_once e es order.0 at), pending_once es order.1)

pub all_under : (xs ys : List Object) (es : List Event) → xs ≡ ys → All (λ (e : Event). IsObject (length xs) e.dst) es → All (λ (e : Event). IsObject (length ys) e.dst) es
all_under xs ys es same all = subst (λ os. All (λ (e : Event). IsObject (length os) e.dst) es) same all

pub on_ok : {X E A B : Type 0} (r : Result X E) → OnOk r A → (A → B) → OnOk r B
on_ok (Ok x) a f = f a
on_ok (Err e) a f = tt

-- What a window's events may do

module _ {P : Type 0} (m : ModelData) (plan : Plan) (setup : Setup) (history : List Entry) (c : Course P) (is : IsModel m) (t : IsTaken m plan setup history c) where
  known : IsSimulation m (simulation_at m c.made)
  known = goes_on m (beginning m) c.made is (begins m is)

  in_pending : (x : Event) → Contains c.events.items x → Contains (simulation_at m c.made).pending x
  in_pending x at = subst (λ z. Contains z x) (sym t.takes.parts) (Contains-append_left t.below t.rest x ((t.just.members x).0 at))

  due_at : (x : Event) → Contains c.events.items x → IsDueAt m (simulation_at m c.made).states x
  due_at x at = All-at (IsDueAt m (simulation_at m c.made).states) (simulation_at m c.made).pending x known.events (in_pending x at)

  pub events_there : All (λ (e : Event). IsObject (length m.objects) e.dst) c.events.items
  events_there = all_so (λ (e : Event). IsObject (length m.objects) e.dst) c.events.items (λ x at. (due_at x at).there)

  was_sent : (x : Event) → Contains c.events.items x → Contains (sent_within m c.made) x
  was_sent x at = (t.stands.put x).0 ((t.stands.pending x).1 (in_pending x at)).put

  pub events_apart : HaveKeysApart c.events.items
  events_apart = keys_from_once c.events.items t.just.once (λ e f at_e at_f same. one_number (sent_within m c.made) e f (run_numbers_apart m c.made is) (was_sent e at_e) (was_sent f at_f) (same.1, same.2))

  below_once : IsOnce t.below
  below_once = pending_once t.below (in_order_front t.below t.rest (subst AreInOrder t.takes.parts known.in_order))

  pub events_many : length c.events.items ≡ length t.below
  events_many = as_many c.events.items t.below t.just.once below_once (λ x at. contains_in x t.below ((t.just.members x).0 (in_contains x c.events.items at))) (λ x at. contains_in x c.events.items ((t.just.members x).1 (in_contains x t.below at)))

  pub taken_window : c.window + 1 < 2 ^ 32
  taken_window =
      let count = ends_count m (beginning m) c.window c.made t.counted.end in
      let few = t.counted.few in
      let cap = t.crew.bounds.cap in
      omega arith

  pub can_run : (events : List Event) (groups : List Group) → IsPermutation c.events.items events → AreGroups (length m.objects) events groups → c.made + length c.events.items ≤ plan.cap
      → CanRunAll (record { model = m; states = c.states.items; events = events; groups = groups })
  can_run events groups moved grouped few =
      let cap = t.crew.bounds.cap in
      let many = length_permutation c.events.items events moved in
      record {
        by_objects = grouped;
        due = recursion_from_All (λ (e : Event). e.time ≤ m.until) events (all_so (λ (e : Event). e.time ≤ m.until) events
            (λ x at. (due_at x (Contains-permutation events c.events.items x (IsPermutation-sym c.events.items events moved) at)).time));
        many = t.counted.ran.many;
        words = (λ o at. subst (λ (s : ObjectState). IsWordOf (behaviour_at m o) s.word) (sym (t.counted.ran.states_then o at)) (known.words o at));
        counts = (λ o at. (let b = (state_bounds m c.made o is).0 in let s = ap (λ (s : ObjectState). s.count) (t.counted.ran.states_then o at) in omega arith));
        sents = (λ o at. (let b = (state_bounds m c.made o is).1 in let s = ap (λ (s : ObjectState). s.sent) (t.counted.ran.states_then o at) in omega arith));
      }

  -- the events of an object, in whatever order they came
  module _ (events : List Event) (groups : List Group) (moved : IsPermutation c.events.items events) (can : CanRunAll (record { model = m; states = c.states.items; events = events; groups = groups })) where
    members : (x : Event) → Contains events x ↔ Contains t.below x
    members x = (
      (λ at. (t.just.members x).0 (Contains-permutation events c.events.items x (IsPermutation-sym c.events.items events moved) at)),
      (λ at. Contains-permutation c.events.items events x moved ((t.just.members x).1 at)),
    )

    events_same : (o : ℕ) → events_of o events ≡ events_of o t.below
    events_same o =
        let b : Begun = record { model = m; states = c.states.items; events = events; groups = groups } in
        let order : AreInOrder t.below = in_order_front t.below t.rest (subst AreInOrder t.takes.parts known.in_order) in
        elim (found o groups can.by_objects.rising) [
          | inl r ↦ (let g = is_group b r.0 can r.1 in
              subst (λ k. events_of k events ≡ events_of k t.below) r.2 (sym g.just ∙ group_in_order (length m.objects) events t.below r.0 g order members))
          | inr r ↦ none_here b o can r.0 ∙ sym (no_group (length m.objects) o events t.below groups can.by_objects members r.0)
        ]

    pub was_run : c.made + length c.events.items ≤ plan.cap → (c' : Course P) → (c'.window ≡ c.window) × (c'.made ≡ c.made) × (c'.pending ≡ c.pending) × (c'.peak ≡ c.peak) → (workers : List (Worker P)) → c'.workers.items ≡ workers → AreEach KeepsPass c.workers.items workers → c'.events.items ≡ events
        → WindowDone (record { model = m; states = c.states.items; events = events; groups = groups }) plan.span c'.states.items c.log.items c'.log.items workers → HasRun m plan setup history c'
    was_run few c' same workers has_workers kept has_events done =
        let n : ℕ = c.made in
        let w : Simulation = simulation_at m n in
        let runs : RunsWindow m (t.first.time + m.lookahead) w t.below t.rest = t.takes.runs in
        let ran = done.ran in
        let of = t.counted.ran in
        let wide : length c.states.items ≡ length m.objects = of.many in
        let here : (o : ℕ) → IsObject (length m.objects) o → IsObject (length c.states.items) o = λ o at. subst (λ k. IsObject k o) (sym wide) at in
        let there : (o : ℕ) → IsObject (length m.objects) o → IsObject (length w.states) o = λ o at. subst (λ k. IsObject k o) (sym known.many) at in
        let later : simulation_at m (n + length t.below) ≡ after_events m w (length t.below) = after_more m (beginning m) n (length t.below) in
        let count : length workers ≡ length c.workers.items = kept.count in
        record {
          was = counts_of c;
          counted = t.counted;
          window = same.0;
          made = same.1;
          pending = same.2;
          peak = same.3;
          before = t.before;
          first = t.first;
          below = t.below;
          rest = t.rest;
          stands = t.stands;
          takes = t.takes;
          calm = t.calm;
          crew = subst (IsCrew plan setup) (sym has_workers) (record {
            bounds = t.crew.bounds;
            made = subst (λ k. IsSetup k plan.rows setup) (sym count) t.crew.made;
            team = subst IsTeam (sym count) t.crew.team;
            none = (λ k d lt. (let lt' : k < length c.workers.items = omega arith in ap (λ v. v.items) (kept.each k d lt').1 ∙ t.crew.none k d lt'));
          });
          few = (let k = events_many in omega arith);
          events = ap length has_events ∙ length_permutation c.events.items events moved ∙ events_many;
          ran = record {
            many = ran.count ∙ wide;
            states_then = (λ o at. ran.states_after o (here o at) ∙ ap (λ s. object_after m o s (events_of o events)) (of.states_then o at) ∙ ap (object_after m o (state_of w.states o)) (events_same o)
                ∙ sym (runs.states o (there o at)) ∙ ap (λ (v : Simulation). state_of v.states o) (sym later));
            steps_then = (λ o at. ran.steps_made o (here o at) ∙ ap (λ ss. ss ++ object_steps m o (state_of c.states.items o) (events_of o events)) (of.steps_then o at)
                ∙ ap (λ s. steps_of o w.log ++ object_steps m o s (events_of o events)) (of.states_then o at) ∙ ap (λ es. steps_of o w.log ++ object_steps m o (state_of w.states o) es) (events_same o)
                ∙ sym (runs.steps o (there o at)) ∙ ap (λ (v : Simulation). steps_of o v.log) (sym later));
            there = all_so (λ (s : Step). IsObject (length m.objects) s.event.dst) c'.log.items (λ s at. elim (ran.there s at) [
              | inl old ↦ All-contains (λ (s : Step). IsObject (length m.objects) s.event.dst) c.log.items s of.there old
              | inr now ↦ subst (λ k. IsObject k s.event.dst) wide now
            ]);
          };
          sends = done.sends;
          once = ran.once is;
          sent = (λ x. (
            (λ at. (runs.sends x).1 (let h = (ran.sent x).0 at in
                let o_there : IsObject (length m.objects) h.0 = subst (λ k. IsObject k h.0) wide h.1 in
                (h.0, there h.0 o_there, subst (λ es. Contains (object_sends m h.0 (state_of w.states h.0) es) x) (events_same h.0) (subst (λ s. Contains (object_sends m h.0 s (events_of h.0 events)) x) (of.states_then h.0 o_there) h.2)))),
            (λ at. (ran.sent x).1 (let h = (runs.sends x).0 at in
                let o_there : IsObject (length m.objects) h.0 = subst (λ k. IsObject k h.0) known.many h.1 in
                (h.0, here h.0 o_there, subst (λ s. Contains (object_sends m h.0 s (events_of h.0 events)) x) (sym (of.states_then h.0 o_there)) (subst (λ es. Contains (object_sends m h.0 (state_of w.states h.0) es) x) (sym (events_same h.0)) h.2)))),
          ));
          due = subst (λ ws. (k : ℕ) (d : Worker P) → k < length ws → (get_or ws k d).due.items ≡ owned_by (length ws) plan.span k done.sends) (sym has_workers) done.due;
        }

  -- the first event that is too many is of this window
  pub too_many : plan.cap < c.made + length c.events.items → Stops m plan history (Events (c.window + 1))
  too_many many =
      let n = events_many in
      let end = window_ends m c.window c.made t.before history t.first t.below t.rest t.stands t.takes in
      let next : c.window + 1 ≡ suc c.window = omega arith in
      subst (λ k. Stops m plan history (Events k)) (sym next) (
        t.calm,
        stops_events m (caps_of plan) c.window (c.made + length t.below) t.counted.passes end (omega arith),
        run_to_takes m c.window c.made t.before history t.first t.below t.rest t.stands t.takes,
      )

-- What the window sent

equal_tested : (a b : ℕ) → nat_eq a b ≡ true → a ≡ b
equal_tested a b h = grind (arith, nat_tests)

tested_equal : (a b : ℕ) → a ≡ b → nat_eq a b ≡ true
tested_equal a b h = grind (arith, nat_tests)

owner_below : (a n : ℕ) → 0 < n → min a (n - 1) < n
owner_below a n some = omega arith

module _ {P : Type 0} (m : ModelData) (plan : Plan) (setup : Setup) (history : List Entry) (c : Course P) (is : IsModel m) (r : HasRun m plan setup history c) where
  known_now : IsSimulation m (simulation_at m r.was.made)
  known_now = goes_on m (beginning m) r.was.made is (begins m is)

  due_is : (k : ℕ) (b : Worker P) → slice_get c.workers.items k ≡ Some b → b.due.items ≡ owned_by (length c.workers.items) plan.span k r.sends
  due_is k b at = ap (λ (v : Worker P). v.due.items) (sym (get_or_from_slice_get c.workers.items k b b at)) ∙ r.due k b (slice_get_within c.workers.items k b at)

  owned : (k : ℕ) (b : Worker P) (e : Event) → slice_get c.workers.items k ≡ Some b → In e b.due.items → In e r.sends × (owner_of (length c.workers.items) plan.span e.src ≡ k)
  owned k b e at h =
      let own : Event → Bool = λ f. nat_eq (owner_of (length c.workers.items) plan.span f.src) k in
      let i : In e (filter own r.sends) = subst (In e) (due_is k b at) h in
      (filter_in own e r.sends i, equal_tested _ _ (kept_true own e r.sends i))

  due_in : (x : Event) → In x (all_due c.workers.items) → In x r.sends
  due_in x h = let p = in_joined (λ (b : Worker P). b.due.items) c.workers.items x h in (owned p.0 p.1 x p.2 p.3).0

  into_due : (x : Event) → In x r.sends → In x (all_due c.workers.items)
  into_due x h =
      let k : ℕ = owner_of (length c.workers.items) plan.span x.src in
      let lt : k < length c.workers.items = owner_below (x.src / plan.span) (length c.workers.items) (let t = r.crew.team.0 in omega arith) in
      let b : Worker P = get_or c.workers.items k (some_worker c.workers.items k lt) in
      let at : slice_get c.workers.items k ≡ Some b = slice_get-get_or c.workers.items k (some_worker c.workers.items k lt) lt in
      into_joined (λ (v : Worker P). v.due.items) c.workers.items x k b at
      (subst (In x) (sym (due_is k b at)) (in_filter (λ (f : Event). nat_eq (owner_of (length c.workers.items) plan.span f.src) k) x r.sends (tested_equal k k refl) h))

  due_once : IsOnce (all_due c.workers.items)
  due_once =
      once_joined (λ (b : Worker P). b.due.items) c.workers.items
      (λ k b at. subst IsOnce (sym (due_is k b at)) (once_filter (λ (f : Event). nat_eq (owner_of (length c.workers.items) plan.span f.src) k) r.sends r.once))
      (λ i j a b e at_a at_b h k. sym (owned i a e at_a h).1 ∙ (owned j b e at_b k).1)

  due_sent : (x : Event) → Contains (all_due c.workers.items) x ↔ Contains (events_sent m (simulation_at m r.was.made) (length r.below)) x
  due_sent x = (
    (λ at. (r.sent x).0 (in_contains x r.sends (due_in x (contains_in x (all_due c.workers.items) at)))),
    (λ at. in_contains x (all_due c.workers.items) (into_due x (contains_in x r.sends ((r.sent x).1 at)))),
  )

  numbers : HaveNumbersApart (events_sent m (simulation_at m r.was.made) (length r.below))
  numbers = sent_apart m (simulation_at m r.was.made) (length r.below) is known_now

  many_due : length (all_due c.workers.items) ≡ length (events_sent m (simulation_at m r.was.made) (length r.below))
  many_due =
      let sent : List Event = events_sent m (simulation_at m r.was.made) (length r.below) in
      as_many (all_due c.workers.items) sent due_once (numbers_once sent numbers)
      (λ x at. contains_in x sent ((due_sent x).0 (in_contains x (all_due c.workers.items) at)))
      (λ x at. contains_in x (all_due c.workers.items) ((due_sent x).1 (in_contains x sent at)))

  -- all counts are small
  pub counts_small : (c.window < 2 ^ 24) × (c.made + length c.events.items < 2 ^ 24) × (length c.events.items ≤ c.pending) × (c.pending < 2 ^ 25) × (length (all_due c.workers.items) < 2 ^ 25)
  counts_small =
      let count = ends_count m (beginning m) r.was.window r.was.made r.counted.end in
      let few = r.counted.few in
      let cap = r.crew.bounds.cap in
      let rows = r.crew.bounds.rows in
      let enough = r.counted.enough in
      let window = r.window in
      let made = r.made in
      let pending = r.pending in
      let events = r.events in
      let all = r.few in
      let was = r.counted.pending in
      let parts = ap (length {A = Event}) r.takes.parts ∙ length-append r.below r.rest in
      let due = many_due in
      let sent = few_sent m (simulation_at m r.was.made) (length r.below) is known_now in
      (omega arith, omega arith, omega arith, omega arith, omega arith)

  -- an event that the window sent is none that was put before
  unseen : (e f : Event) → Contains (events_sent m (simulation_at m r.was.made) (length r.below)) e → Contains (puts history) f → f.src ≡ e.src → f.seq ≡ e.seq → ⊥
  unseen e f sent put src seq =
      let fresh = sent_fresh m (simulation_at m r.was.made) (length r.below) e is known_now sent in
      let le : next_number m (simulation_at m r.was.made).states e.src ≤ e.seq = fresh.1 in
      elim (Contains-append_cases (puts r.before) (puts r.takes.since) f (subst (λ z. Contains z f) (ap puts r.takes.extends ∙ puts-append r.before r.takes.since) put)) [
        | inl before ↦ elim (Contains-append_cases (scheduled_starts m.until 0 m.starts) (events_sent m (beginning m) r.was.made) f ((r.stands.put f).0 before)) [
          | inl start ↦ (let number = start_numbers m f start in let zero_src : f.src ≡ 0 = number.0 in let some = fresh.0 in absurd (omega arith))
          | inr earlier ↦ (let number = sent_fresh m (beginning m) r.was.made f is (begins m is) earlier in
              let lt : f.seq < next_number m (simulation_at m r.was.made).states f.src = number.2 in
              let same : next_number m (simulation_at m r.was.made).states f.src ≡ next_number m (simulation_at m r.was.made).states e.src = ap (next_number m (simulation_at m r.was.made).states) src in
              absurd (omega arith))
        ]
        | inr none ↦ absurd (none_in f (subst (λ z. Contains z f) r.takes.takes.puts_none none))
      ]

  worker_due : (k : ℕ) (b : Worker P) → slice_get c.workers.items k ≡ Some b → IsDue (length c.workers.items) plan.span history k b.due.items
  worker_due k b at =
      let sent : List Event = events_sent m (simulation_at m r.was.made) (length r.below) in
      let of_run : (e : Event) → In e b.due.items → Contains sent e = λ e h. (r.sent e).0 (in_contains e r.sends (owned k b e at h).0) in
      let once : IsOnce b.due.items = subst IsOnce (sym (due_is k b at)) (once_filter (λ (f : Event). nat_eq (owner_of (length c.workers.items) plan.span f.src) k) r.sends r.once) in
      record {
        owned = (λ e h. (owned k b e at h).1);
        fresh = (λ e f h put src seq. unseen e f (of_run e h) put src seq);
        apart = (λ i j e f at_e at_f src seq.
            let same : f ≡ e = one_number sent f e numbers (of_run f (at_in f b.due.items j at_f)) (of_run e (at_in e b.due.items i at_e)) (sym src, sym seq) in
            once_place b.due.items i j e once at_e (at_f ∙ ap Some same));
      }

  -- after the counts went on
  module _ (c' : Course P) (on : CountsOn c c') where
    window_is : c'.window ≡ suc r.was.window
    window_is = (let a = on.window in let b = r.window in omega arith)

    made_is : c'.made ≡ r.was.made + length r.below
    made_is = (let a = on.made in let b = r.made in let e = r.events in omega arith)

    end_now : IsWindowEnd m (beginning m) (suc r.was.window) (r.was.made + length r.below)
    end_now = window_ends m r.was.window r.was.made r.before history r.first r.below r.rest r.stands r.takes

    pending_now : c'.pending ≡ length (simulation_at m (r.was.made + length r.below)).pending
    pending_now =
        let x = some_data m (beginning m) r.was.window r.was.made r.counted.end in
        let y : WindowData = this_window m r.was.made r.below in
        let all = data_counted m (beginning m) r.was.window x.0 y x.1 (is_window m r.was.window r.was.made r.before history r.first r.below r.rest r.stands r.takes) in
        let old = x.2 in
        let later : length (simulation_at m (r.was.made + length r.below)).pending ≡ y.pending = ap (λ (v : Simulation). length v.pending) (after_more m (beginning m) r.was.made (length r.below)) in
        let events : length y.events ≡ length r.below = ap (length {A = Event}) r.takes.runs.events in
        let sends : length y.sends ≡ length (all_due c.workers.items) = sym many_due in
        let was = r.counted.pending in
        let here = r.pending in
        let many = r.events in
        let next = on.pending in
        omega arith

    tables_now : table_count history ≡ 0
    tables_now = subst (λ h. table_count h ≡ 0) (sym r.takes.extends) (tables_none r.before r.takes.since r.stands.tables r.takes.takes.tables_none)

    members_sent : sent_within m (r.was.made + length r.below) ≡ sent_within m r.was.made ++ events_sent m (simulation_at m r.was.made) (length r.below)
    members_sent = ap (λ z. scheduled_starts m.until 0 m.starts ++ z) (sent_more m (beginning m) r.was.made (length r.below))
        ∙ sym (append_assoc (scheduled_starts m.until 0 m.starts) (events_sent m (beginning m) r.was.made) (events_sent m (simulation_at m r.was.made) (length r.below)))

    puts_within : (put : List Entry) → PutsSome (all_due c.workers.items) put → (x : Event) → Contains (puts (history ++ put)) x → Contains (sent_within m (r.was.made + length r.below)) x
    puts_within put some x at =
        subst (λ z. Contains z x) (sym members_sent) (elim (Contains-append_cases (puts history) (puts put) x (subst (λ z. Contains z x) (puts-append history put) at)) [
          | inl old ↦ (elim (Contains-append_cases (puts r.before) (puts r.takes.since) x (subst (λ z. Contains z x) (ap puts r.takes.extends ∙ puts-append r.before r.takes.since) old)) [
            | inl before ↦ Contains-append_left (sent_within m r.was.made) (events_sent m (simulation_at m r.was.made) (length r.below)) x ((r.stands.put x).0 before)
            | inr none ↦ absurd (none_in x (subst (λ z. Contains z x) r.takes.takes.puts_none none))
          ])
          | inr new ↦ Contains-append_right (sent_within m r.was.made) (events_sent m (simulation_at m r.was.made) (length r.below)) x ((due_sent x).0 (some.some x new))
        ])

    counted_now : 2 * c'.pending + 2 ≤ plan.rows → c'.peak ≡ max c.peak c'.pending → IsCounted m (caps_of plan) (counts_of c')
    counted_now enough peak =
        let few = r.few in
        let mi = made_is in
        let pn = pending_now in
        let y : WindowData = this_window m r.was.made r.below in
        let later : length (simulation_at m (r.was.made + length r.below)).pending ≡ y.pending = ap (λ (v : Simulation). length v.pending) (after_more m (beginning m) r.was.made (length r.below)) in
        let top : c'.peak ≡ max r.was.peak y.pending = peak ∙ ap (λ p. max p c'.pending) r.peak ∙ ap (λ p. max r.was.peak p) (pending_now ∙ later) in
        let highest : IsPeak m (beginning m) (suc r.was.window) (max r.was.peak y.pending) =
        peak_next m (beginning m) r.was.window r.was.peak y r.counted.peak (is_window m r.was.window r.was.made r.before history r.first r.below r.rest r.stands r.takes) in
        record {
          end = subst (λ k. IsWindowEnd m (beginning m) k c'.made) (sym window_is) (subst (IsWindowEnd m (beginning m) (suc r.was.window)) (sym made_is) end_now);
          few = omega arith;
          pending = pending_now ∙ ap (λ j. length (simulation_at m j).pending) (sym made_is);
          enough = enough;
          peak = subst (λ k. IsPeak m (beginning m) k c'.peak) (sym window_is) (subst (IsPeak m (beginning m) (suc r.was.window)) (sym top) highest);
          passes = subst (PassesTo m (caps_of plan)) (sym window_is) (passes_next m (caps_of plan) r.was.window (r.was.made + length r.below) r.counted.passes end_now r.few (omega arith));
          ran = subst (λ j. AreOfRun m j c'.states.items c'.log.items) (sym made_is)
              (subst (λ (v : Vec Step Global). AreOfRun m (r.was.made + length r.below) c'.states.items v.items) (sym on.log)
              (subst (λ (v : Vec ObjectState Global). AreOfRun m (r.was.made + length r.below) v.items c.log.items) (sym on.states) r.ran));
        }

    to_put : 2 * c'.pending + 2 ≤ plan.rows → c'.peak ≡ max c.peak c'.pending → IsToPut m plan setup history c'
    to_put enough peak =
        let same : c.workers.items ≡ c'.workers.items = sym (ap (λ v. v.items) on.workers) in
        record {
          counted = counted_now enough peak;
          crew = subst (IsCrew plan setup) same r.crew;
          calm = r.calm;
          tables = tables_now;
          due = subst (λ vs. (k : ℕ) (b : Worker P) → slice_get vs k ≡ Some b → IsDue (length vs) plan.span history k b.due.items) same worker_due;
          stands = subst (λ vs. (put : List Entry) → ArePutsOf (all_due vs) put → IsCalm (history ++ put) → StandsAfter m c'.window c'.made (history ++ put)) same
              (λ put are calm. subst (λ k. StandsAfter m k c'.made (history ++ put)) (sym window_is) (subst (λ j. StandsAfter m (suc r.was.window) j (history ++ put)) (sym made_is)
              (window_put m r.was.window r.was.made r.before history put r.first r.below r.rest (all_due c.workers.items) is r.stands r.takes are calm due_sent)));
          within = subst (λ vs. (put : List Entry) → PutsSome (all_due vs) put → (x : Event) → IsPending (history ++ put) x → Contains (simulation_at m c'.made).pending x) same
              (λ put some x p. subst (λ j. Contains (simulation_at m j).pending x) (sym made_is) (subst (λ (v : Simulation). Contains v.pending x) (sym (after_more m (beginning m) r.was.made (length r.below)))
              (pending_within m r.was.window r.was.made r.before history put r.first r.below r.rest r.stands r.takes (λ y at. (due_sent y).0 (some.some y at)) x p)));
          sent = subst (λ vs. (put : List Entry) → PutsSome (all_due vs) put → (x : Event) → Contains (puts (history ++ put)) x → Contains (sent_within m c'.made) x) same
              (λ put some x at. subst (λ j. Contains (sent_within m j) x) (sym made_is) (puts_within put some x at));
        }

    few_rows_now : (end : DriveEnd) → plan.rows < 2 * c'.pending + 2 → end ≡ Rows c'.window c'.pending → Stops m plan history end
    few_rows_now end lack is_end =
        let pn = pending_now in
        subst (Stops m plan history) (sym is_end) (subst (λ k. Stops m plan history (Rows k c'.pending)) (sym window_is) (
          r.calm,
          subst (λ p. StopsBy m (caps_of plan) (StopsByRows (suc r.was.window) p)) (sym pending_now)
              (stops_rows m (caps_of plan) r.was.window (r.was.made + length r.below) r.counted.passes end_now r.few (omega arith)),
          run_to_takes m r.was.window r.was.made r.before history r.first r.below r.rest r.stands r.takes,
        ))

  pub run_ended : (c' : Course P) (e : Result (Unit {0}) DriveEnd) → CountEnds plan c c' e → RunEnds m plan setup history c' e
  run_ended c' (Ok u) h = to_put c' h.0 h.1 h.2
  run_ended c' (Err end) h = few_rows_now c' h.0 end h.1 h.2

-- The puts

module _ {P : Type 0} (m : ModelData) (plan : Plan) (setup : Setup) (history now since : List Entry) (c : Course P) (is : IsModel m) (t : IsToPut m plan setup history c) (goes : GoesOn history now since) where
  pub put_short : outs since ≡ [] → ((e : Event) → Contains (puts since) e → Contains (all_due c.workers.items) e) → (short : Short) → PutsShort setup now short → short ≡ Memory
  put_short none some OfRows lacks = absurd (
      let many = t.counted.pending in
      let enough : 2 * length (simulation_at m c.made).pending + 2 ≤ setup.rows = (let e = t.counted.enough in let q = t.crew.made.each in omega arith) in
      rows_enough setup now (simulation_at m c.made).pending (λ x p. t.within since (record { none = none; some = some }) x (subst (λ z. IsPending z x) goes.extends p)) enough lacks)
  put_short none some Epochs lacks = absurd (
      let few = t.counted.few in
      let cap = t.crew.bounds.cap in
      let tables : table_count now ≡ 0 = subst (λ h. table_count h ≡ 0) (sym goes.extends) (tables_none history since t.tables goes.tables) in
      let small = epochs_enough m c.made now is goes.calm.legal tables (λ x at. t.sent since (record { none = none; some = some }) x (subst (λ z. Contains (puts z) x) goes.extends at)) (omega arith) in
      let zero_epoch : setup.first.epoch ≡ 0 = ap (λ (f : First). f.epoch) t.crew.made.first in
      omega arith)
  put_short none some Memory lacks = refl

  pub put_between : (c' : Course P) → ArePutsOf (all_due c.workers.items) since → counts_of c' ≡ counts_of c → AreKept c.workers.items c'.workers.items → IsBetween m plan setup now c'
  put_between c' are same kept =
      let many : length c'.workers.items ≡ length c.workers.items = kept.count in
      record {
        stands = subst (λ (z : Counts). StandsAfter m z.window z.made now) (sym same) (subst (StandsAfter m c.window c.made) (sym goes.extends) (t.stands since are (subst IsCalm goes.extends goes.calm)));
        counted = subst (IsCounted m (caps_of plan)) (sym same) t.counted;
        crew = record {
          bounds = t.crew.bounds;
          made = subst (λ k. IsSetup k plan.rows setup) (sym many) t.crew.made;
          team = subst IsTeam (sym many) t.crew.team;
          none = (λ k d lt.
              let lt' : k < length c.workers.items = omega arith in
              ap (λ v. v.items) (kept.each k (get_or c.workers.items k d) (get_or c'.workers.items k d) (slice_get-get_or c.workers.items k d lt') (slice_get-get_or c'.workers.items k d lt)).0 ∙ t.crew.none k d lt');
        };
      }
