-- Before the first window, and after the last one.
use Rattle.std.proofs.Common.{◌≡◌, ◌⊎◌, ℕ, zero, suc, ◌+◌, ◌*◌, ◌<◌, ◌≤◌, List, [], ◌∷◌, ◌++◌, length, get_or, set, slice_get, Some, refl, arith, ap, sym, ◌∙◌, subst, inl, inr, Contains, All, get_or-set_same, get_or-set_other}
use Rattle.std.specs.Prelude.{◌↔◌}
use Rattle.std.proofs.lemmas.List.{length-append, length-map, length-set}
use Rattle.std.proofs.lemmas.List.Elements.{All-contains, Contains-append_left, Contains-push_cases}
use Rattle.std.proofs.lemmas.Option.{slice_get_within, get_or_from_slice_get, slice_get-get_or}
use Rattle.std.proofs.lemmas.Bool.{cases_eq}
use Rattle.std.proofs.Math.Nat.{zero-div}
use Rattle.crq_base.specs.declared.event.Event.{Event}
use Rattle.crq_base.specs.declared.entry.Entry.{Entry}
use Rattle.crq_base.specs.Lists.{In, IsOnce}
use Rattle.crq_base.specs.Sizes.{IsTeam}
use Rattle.crq_base.specs.Sources.{owner_of}
use Rattle.crq_base.proofs.Elements.{contains_in, in_contains}
use Rattle.crq_set.specs.Views.{Setup, IsSetup}
use Rattle.crq_sim.specs.declared.model.Object.{Object}
use Rattle.crq_sim.specs.declared.outcome.Outcome.{Outcome}
use Rattle.crq_sim.specs.declared.reaction.ObjectState.{ObjectState}
use Rattle.crq_sim.specs.declared.traces.Step.{Step}
use Rattle.crq_sim.specs.EventLists.{with_events}
use Rattle.crq_sim.specs.Kinds.{kind_of}
use Rattle.crq_sim.specs.Models.{ModelData, IsModel}
use Rattle.crq_sim.specs.Reactions.{first_state}
use Rattle.crq_sim.specs.Runs.{after_events, events_sent, scheduled_starts, first_states, beginning, simulation_at, steps_of, traces_from}
use Rattle.crq_sim.specs.Windows.{IsWindowEnd, IsPeak, Rows as StopsByRows}
use Rattle.crq_sim.proofs.BoundLemmas.{start_numbers}
use Rattle.crq_sim.proofs.KeyLemmas.{starts_apart}
use Rattle.crq_sim.proofs.Members.{none_in}
use Rattle.crq_sim.proofs.OrderLemmas.{in_withs, withs_in}
use Rattle.crq_sim.proofs.Sound.{begins}
use Rattle.crq_sim.proofs.WindowFacts.{peak_begins, never_stops}
use Rattle.crq_host.specs.declared.course.Course.{Course}
use Rattle.crq_host.specs.declared.course.Plan.{Plan}
use Rattle.crq_host.specs.declared.drive_end.DriveEnd.{DriveEnd}
use Rattle.crq_host.specs.declared.drive_end.DriveEnd.TheVariants.{Memory as NoMemory, Events, Rows}
use Rattle.crq_host.specs.declared.worker.Worker.{Worker}
use Rattle.crq_host.specs.Courses.{Counts, IsPlan, IsBlank, Begins, Tells, counts_of, caps_of, all_due, AreOfRun, IsCounted, IsOver, IsToPut, Stops}
use Rattle.crq_host.specs.Drives.{Caps, StopsBy, IsDriven, DriveStops}
use Rattle.crq_host.specs.Histories.{IsRunTo}
use Rattle.crq_host.specs.Progress.{sent_within, StandsAfter}
use Rattle.crq_host.specs.Workers.{IsDue}
use Rattle.crq_host.proofs.Elements.{at_in}
use Rattle.crq_host.proofs.Members.{as_many}
use Rattle.crq_host.proofs.MergeLaws.{some_worker}
use Rattle.crq_host.proofs.Runnings.{all_so, pending_once, once_place}
use Rattle.crq_host.proofs.Takings.{in_joined, into_joined}
use Rattle.crq_host.proofs.WindowSteps.{one_number, numbers_once, starts_put, passes_first, stops_first}

-- The workers at the beginning

abbrev begun : ℕ → List ObjectState → List Step → Counts
begun p states log = record { window = 0; made = 0; pending = p; peak = p; states = states; log = log }

pub counts_begin : (p n : ℕ) (states first : List ObjectState) (log : List Step) → p ≡ n → states ≡ first → log ≡ [] → begun p states log ≡ begun n first []
counts_begin p n states first log a b c = ap (λ k. begun k states log) a ∙ ap (λ ss. begun n ss log) b ∙ ap (begun n first) c

pub many_more : {P : Type 0} (ws next : List (Worker P)) (w : Worker P) (k : ℕ) → length ws ≡ k → next ≡ ws ++ w ∷ [] → length next ≡ k + 1
many_more ws next w k many is = (let a = ap length is in let b = length-append ws (w ∷ []) in omega arith)

pub blank_more : {P : Type 0} (ws next : List (Worker P)) (w : Worker P) → IsBlank w → All (λ (v : Worker P). IsBlank v) ws → next ≡ ws ++ w ∷ [] → All (λ (v : Worker P). IsBlank v) next
blank_more {P} ws next w one all is =
    subst (λ vs. All (λ (v : Worker P). IsBlank v) vs) (sym is) (all_so (λ (v : Worker P). IsBlank v) (ws ++ w ∷ []) (λ x at. elim (Contains-push_cases ws w x at) [
      | inl old ↦ All-contains (λ (v : Worker P). IsBlank v) ws x all old
      | inr same ↦ subst (λ (v : Worker P). IsBlank v) same one
    ]))

pub first_due : {P : Type 0} (m : ModelData) (n : ℕ) (starts : List Event) (old : List (Worker P)) (w e : Worker P) (c : Course P) → 1 ≤ n → length old ≡ n → All (λ (v : Worker P). IsBlank v) old
    → w.taken.items ≡ (get_or old 0 e).taken.items → w.due.items ≡ starts → c.workers.items ≡ set old 0 w
    → counts_of c ≡ record { window = 0; made = 0; pending = length starts; peak = length starts; states = first_states m.objects; log = [] } → Begins m n starts c
first_due {P} m n starts old w e c some many blank taken due is counts = record {
  counts = counts;
  count = ap length is ∙ length-set old 0 w ∙ many;
  none = subst (λ ws. All (λ (v : Worker P). v.taken.items ≡ []) ws) (sym is) (λ k d lt. elim (cases_eq k 0) [
    | inl same ↦ ap (λ j. (get_or (set old 0 w) j d).taken.items) same ∙ ap (λ (v : Worker P). v.taken.items) (get_or-set_same old 0 w d (omega arith)) ∙ taken ∙ (blank 0 e (omega arith)).0
    | inr apart ↦ ap (λ (v : Worker P). v.taken.items) (get_or-set_other old 0 k w d apart) ∙ (blank k d (let z = length-set old 0 w in omega arith)).0
  ]);
  first = (λ d. ap (λ ws. (get_or ws 0 d).due.items) is ∙ ap (λ (v : Worker P). v.due.items) (get_or-set_same old 0 w d (omega arith)) ∙ due);
  others = (λ k d pos lt. ap (λ ws. (get_or ws k d).due.items) is ∙ ap (λ (v : Worker P). v.due.items) (get_or-set_other old 0 k w d (omega arith))
      ∙ (blank k d (let z = length-set old 0 w in let y = ap length is in omega arith)).1);
}

-- The starts

pub starts_many : (m : ModelData) → IsModel m → length (beginning m).pending ≡ length (scheduled_starts m.until 0 m.starts)
starts_many m is =
    let starts : List Event = scheduled_starts m.until 0 m.starts in
    let pending : List Event = with_events starts [] in
    as_many pending starts (pending_once pending (begins m is).in_order) (numbers_once starts (starts_apart m.until 0 m.starts))
    (λ x at. contains_in x starts (elim (withs_in x starts [] (in_contains x pending at)) [ inl here ↦ here | inr none ↦ absurd (none_in x none) ]))
    (λ x at. contains_in x pending (in_withs x starts [] (inl (in_contains x starts at))))

first_owner : (n span : ℕ) → owner_of n span 0 ≡ 0
first_owner n span = let z = zero-div span in omega arith

module _ {P : Type 0} (m : ModelData) (plan : Plan) (setup : Setup) (n : ℕ) (c : Course P) (is : IsModel m) (b : Begins m n (scheduled_starts m.until 0 m.starts) c) where
  due_first : (k : ℕ) (w : Worker P) → slice_get c.workers.items k ≡ Some w → (w.due.items ≡ []) ⊎ ((k ≡ 0) × (w.due.items ≡ scheduled_starts m.until 0 m.starts))
  due_first k w at =
      let here : (get_or c.workers.items k w).due.items ≡ w.due.items = ap (λ (v : Worker P). v.due.items) (get_or_from_slice_get c.workers.items k w w at) in
      elim (cases_eq k 0) [
        | inl same ↦ inr (same, sym here ∙ ap (λ j. (get_or c.workers.items j w).due.items) same ∙ b.first w)
        | inr apart ↦ inl (sym here ∙ b.others k w (omega arith) (slice_get_within c.workers.items k w at))
      ]

  start_due : 1 ≤ n → (x : Event) → Contains (all_due c.workers.items) x ↔ Contains (scheduled_starts m.until 0 m.starts) x
  start_due some x = (
    (λ at. let p = in_joined (λ (v : Worker P). v.due.items) c.workers.items x (contains_in x (all_due c.workers.items) at) in
        elim (due_first p.0 p.1 p.2) [
          | inl none ↦ absurd (subst (In x) none p.3)
          | inr first ↦ in_contains x (scheduled_starts m.until 0 m.starts) (subst (In x) first.1 p.3)
        ]),
    (λ at. let lt : 0 < length c.workers.items = (let k = b.count in omega arith) in
        let d : Worker P = some_worker c.workers.items 0 lt in
        in_contains x (all_due c.workers.items) (into_joined (λ (v : Worker P). v.due.items) c.workers.items x 0 (get_or c.workers.items 0 d) (slice_get-get_or c.workers.items 0 d lt)
        (subst (In x) (sym (b.first d)) (contains_in x (scheduled_starts m.until 0 m.starts) at)))),
  )

  start_owned : (k : ℕ) (w : Worker P) → slice_get c.workers.items k ≡ Some w → IsDue (length c.workers.items) plan.span [] k w.due.items
  start_owned k w at =
      let starts : List Event = scheduled_starts m.until 0 m.starts in
      elim (due_first k w at) [
        | inl none ↦ record {
          owned = (λ e h. absurd (subst (In e) none h));
          fresh = (λ e f h put src seq. none_in f put);
          apart = (λ i j e f at_e at_f src seq. absurd (subst (In e) none (at_in e w.due.items i at_e)));
        }
        | inr first ↦ record {
          owned = (λ e h. ap (owner_of (length c.workers.items) plan.span) (start_numbers m e (in_contains e starts (subst (In e) first.1 h))).0 ∙ first_owner (length c.workers.items) plan.span ∙ sym first.0);
          fresh = (λ e f h put src seq. none_in f put);
          apart = (λ i j e f at_e at_f src seq.
              let in_e : Contains starts e = in_contains e starts (subst (In e) first.1 (at_in e w.due.items i at_e)) in
              let in_f : Contains starts f = in_contains f starts (subst (In f) first.1 (at_in f w.due.items j at_f)) in
              let same : f ≡ e = one_number starts f e (starts_apart m.until 0 m.starts) in_f in_e (sym src, sym seq) in
              once_place w.due.items i j e (subst IsOnce (sym first.1) (numbers_once starts (starts_apart m.until 0 m.starts))) at_e (at_f ∙ ap Some same));
        }
      ]

  of_beginning : AreOfRun m 0 (first_states m.objects) []
  unfolding after_events
  of_beginning = record {
    many = length-map m.objects (λ (o : Object). first_state o.behaviour);
    states_then = (λ o at. refl);
    steps_then = (λ o at. refl);
    there = (λ k d lt. absurd (omega arith));
  }

  first_pending : length (scheduled_starts m.until 0 m.starts) ≡ length (simulation_at m 0).pending
  unfolding after_events
  first_pending = sym (starts_many m is)

  in_first : (x : Event) → Contains (scheduled_starts m.until 0 m.starts) x → Contains (simulation_at m 0).pending x
  unfolding after_events
  in_first x at = in_withs x (scheduled_starts m.until 0 m.starts) [] (inl at)

  pub begins_to_put : IsPlan plan → 2 * length (scheduled_starts m.until 0 m.starts) + 2 ≤ plan.rows → IsSetup n plan.rows setup → IsTeam n → IsToPut m plan setup [] c
  begins_to_put bounds enough made team =
      let starts : List Event = scheduled_starts m.until 0 m.starts in
      let begun : Counts = record { window = 0; made = 0; pending = length starts; peak = length starts; states = first_states m.objects; log = [] } in
      let many = starts_many m is in
      record {
        counted = subst (IsCounted m (caps_of plan)) (sym b.counts) (record {
          end = refl;
          few = omega arith;
          pending = first_pending;
          enough = enough;
          peak = subst (IsPeak m (beginning m) 0) many (peak_begins m (beginning m));
          passes = passes_first m (caps_of plan) (omega arith);
          ran = of_beginning;
        });
        crew = record {
          bounds = bounds;
          made = subst (λ k. IsSetup k plan.rows setup) (sym b.count) made;
          team = subst IsTeam (sym b.count) team;
          none = b.none;
        };
        calm = record { legal = tt; settled = (λ e at. absurd (none_in e at)) };
        tables = refl;
        due = start_owned;
        stands = (λ put are calm. subst (λ (z : Counts). StandsAfter m z.window z.made put) (sym b.counts) (starts_put m (all_due c.workers.items) put (start_due team.0) are calm));
        within = (λ put some x p. subst (λ (z : Counts). Contains (simulation_at m z.made).pending x) (sym b.counts) (in_first x ((start_due team.0 x).0 (some.some x p.put))));
        sent = (λ put some x at. subst (λ (z : Counts). Contains (sent_within m z.made) x) (sym b.counts) (Contains-append_left starts (events_sent m (beginning m) 0) x ((start_due team.0 x).0 (some.some x at))));
      }

-- The end

-- the traces hang on each object's own steps alone
traces_same : (k : ℕ) (objects : List Object) (log log' : List Step) → ((o : ℕ) → k ≤ o → o < k + length objects → steps_of o log ≡ steps_of o log') → traces_from k objects log ≡ traces_from k objects log'
traces_same k [] log log' same = refl
traces_same k (x ∷ xs) log log' same =
    ap (λ ss. record { name = x.name; behaviour = kind_of x.behaviour; steps = ss } ∷ traces_from (k + 1) xs log) (same k (omega arith) (omega arith))
    ∙ ap (λ ts. record { name = x.name; behaviour = kind_of x.behaviour; steps = steps_of k log' } ∷ ts) (traces_same (k + 1) xs log log' (λ o le lt. same o (omega arith) (omega arith)))

pub driven : {P : Type 0} (m : ModelData) (plan : Plan) (old new : List (List Entry)) (history : List Entry) (c : Course P) (outcome : Outcome) → new ≡ old ++ history ∷ [] → IsOver m plan history c → Tells m c outcome
    → IsDriven m (caps_of plan) old new outcome
driven m plan old new history c outcome more over tells =
    let counted = over.counted in
    record {
      goes = (λ stop s. never_stops m (beginning m) plan.cap plan.rows c.window c.made counted.end over.over counted.few (λ j p le few. counted.passes.rows j p le few) stop s);
      events = c.made;
      few = counted.few;
      last = subst (λ k. IsWindowEnd m (beginning m) k c.made) (sym tells.windows) counted.end;
      over = over.over;
      traces = tells.traces ∙ traces_same 1 m.objects c.log.items (simulation_at m c.made).log (λ o le lt. counted.ran.steps_then o (omega arith, omega arith));
      peak = subst (IsPeak m (beginning m) outcome.windows) (sym tells.peak) (subst (λ k. IsPeak m (beginning m) k c.peak) (sym tells.windows) counted.peak);
      tables = tells.tables;
      history = (history, more, over.calm, subst (λ k. IsRunTo m k history) (sym tells.windows) over.run);
    }

pub stopped : (m : ModelData) (plan : Plan) (old new : List (List Entry)) (history : List Entry) (end : DriveEnd) → new ≡ old ++ history ∷ [] → Stops m plan history end → DriveStops m (caps_of plan) old new end
stopped m plan old new history NoMemory more stops = inr (history, more, stops, tt)
stopped m plan old new history (Events k) more stops = (stops.1, (history, more, stops.0, stops.2))
stopped m plan old new history (Rows zero p) more stops = absurd stops
stopped m plan old new history (Rows (suc k) p) more stops = (stops.1, (history, more, stops.0, stops.2))

pub too_few : (m : ModelData) (caps : Caps) (old new : List (List Entry)) (p : ℕ) → IsModel m → p ≡ length (scheduled_starts m.until 0 m.starts) → caps.rows < 2 * p + 2 → new ≡ old → DriveStops m caps old new (Rows 0 p)
too_few m caps old new p is same lack none =
    let many : length (beginning m).pending ≡ p = starts_many m is ∙ sym same in
    (subst (λ k. StopsBy m caps (StopsByRows 0 k)) many (stops_first m caps (omega arith)), none)
