-- What the windows of a run are, their peak, and its stop.
use Rattle.std.proofs.Common.{◌≡◌, ℕ, zero, suc, ◌+◌, ◌-◌, ◌*◌, ◌<◌, ◌≤◌, max, List, [], ◌∷◌, length, cond, true, false, refl, arith, ap, sym, ◌∙◌, subst, inl, inr}
use Rattle.std.specs.Prelude.{◌↔◌}
use Rattle.std.proofs.lemmas.Bool.{cases_eq, cases_lt}
use Rattle.std.proofs.lemmas.List.{length-append}
use Rattle.std.specs.Ordering.{is_lt}
use Rattle.crq_base.specs.declared.event.Event.{Event}
use Rattle.crq_base.specs.Keys.{event_cmp}
use Rattle.crq_sim.specs.declared.reaction.ObjectState.{ObjectState}
use Rattle.crq_sim.specs.declared.traces.Step.{Step}
use Rattle.crq_sim.specs.EventLists.{with_event, with_events, without_events}
use Rattle.crq_sim.specs.Models.{ModelData, IsModel}
use Rattle.crq_sim.specs.Reactions.{sends_of}
use Rattle.crq_sim.specs.Runs.{Simulation, state_of, run_first, run_next, after_events, first_event, first_sends, events_run, events_sent, beginning}
use Rattle.crq_sim.specs.Simulations.{IsSimulation}
use Rattle.crq_sim.specs.Windows.{IsNextBelow, edge_of, AreBelowEdge, EndsWindow, IsWindowEnd, IsInWindow, IsLastWindow, WindowData, window_of, IsWindow, IsPeak, Stop, Events, Rows, HasMoreEvents, HasFewRows, IsStop}
use Rattle.crq_sim.proofs.AfterLemmas.{after_more}
use Rattle.crq_sim.proofs.NextWindow.{next_window}
use Rattle.crq_sim.proofs.Sound.{begins, goes_on, nothing_withdrawn}
use Rattle.crq_sim.proofs.WindowCounts.{ends_once, one_end, end_before, first_or_none, some_end}

-- a window is one
pub one_data : (m : ModelData) (w : Simulation) (k : ℕ) (x y : WindowData) → IsWindow m w k x → IsWindow m w k y → x ≡ y
one_data m w zero x y h g = h ∙ sym g
one_data m w (suc k) x y h g =
    let same : h.0 ≡ g.0 = one_end m w k h.0 g.0 h.2 g.2 in
    let many : h.1 ≡ g.1 = ends_once m (after_events m w g.0) h.1 g.1 (subst (λ (i : ℕ). EndsWindow m (after_events m w i) h.1) same h.3) g.3 in
    h.4 ∙ ap (λ (i : ℕ). window_of m (after_events m w i) h.1) same ∙ ap (λ (n : ℕ). window_of m (after_events m w g.0) n) many ∙ sym g.4

pending_sum : (m : ModelData) (w : Simulation) (i j n : ℕ) → n ≡ i + j → length (after_events m (after_events m w i) j).pending ≡ length (after_events m w n).pending
pending_sum m w i j n is = ap (λ (v : Simulation). length v.pending) (sym (after_more m w i j)) ∙ ap (λ (z : ℕ). length (after_events m w z).pending) (sym is)

pending_none : (m : ModelData) (w : Simulation) (n : ℕ) → n ≡ 0 → length w.pending ≡ length (after_events m w n).pending
unfolding after_events
pending_none m w n is = ap (λ (z : ℕ). length (after_events m w z).pending) (sym is)

-- where it has an end, so many are pending there
pub some_data : (m : ModelData) (w : Simulation) (k n : ℕ) → IsWindowEnd m w k n → (x : WindowData) × IsWindow m w k x × (x.pending ≡ length (after_events m w n).pending)
some_data m w zero n h = (record { events = []; sends = w.pending; pending = length w.pending }, refl, pending_none m w n h)
some_data m w (suc k) n h = (window_of m (after_events m w h.0) h.1, (h.0, h.1, h.2, h.3, refl), pending_sum m w h.0 h.1 n h.4)

data_end : (m : ModelData) (w : Simulation) (k : ℕ) (x : WindowData) → IsWindow m w k x → (n : ℕ) × IsWindowEnd m w k n
data_end m w zero x h = (0, refl)
data_end m w (suc k) x h = (h.0 + h.1, (h.0, h.1, h.2, h.3, refl))

pub data_pending : (m : ModelData) (w : Simulation) (k n : ℕ) (x : WindowData) → IsWindowEnd m w k n → IsWindow m w k x → x.pending ≡ length (after_events m w n).pending
data_pending m w k n x end h =
    let some = some_data m w k n end in
    ap (λ (y : WindowData). y.pending) (one_data m w k x some.0 h some.1) ∙ some.2

-- a window that has an end has a first event
not_none : (edge : ℕ) (es : List Event) → IsNextBelow edge es → es ≡ [] → ⊥
not_none edge [] next none = next
not_none edge (e ∷ es) next none = cc

below_some : (m : ModelData) (w : Simulation) (n : ℕ) → 0 < n → AreBelowEdge m w n → w.pending ≡ [] → ⊥
unfolding after_events
below_some m w n some below none = not_none (edge_of m.lookahead w.pending) w.pending (below 0 some) none

-- as many events as it is said to have
run_many : (m : ModelData) (w : Simulation) (n : ℕ) → IsModel m → IsSimulation m w → EndsWindow m w n → length (events_run m w n) ≡ n
run_many m w n is known end =
    elim (first_or_none w.pending) [
      | inl none ↦ absurd (below_some m w n end.0 end.1 none)
      | inr first ↦ (let next = next_window m w first.0 is known first.1 in
          let same : n ≡ length next.0 = ends_once m w n (length next.0) end next.5 in
          ap (λ (z : ℕ). length (events_run m w z)) same ∙ ap (length {A = Event}) next.6.events ∙ sym same)
    ]

pub data_many : (m : ModelData) (w : Simulation) (k i n : ℕ) (x : WindowData) → IsModel m → IsSimulation m w → IsWindowEnd m w k i → IsWindowEnd m w (suc k) n → IsWindow m w (suc k) x → n ≡ i + length x.events
data_many m w k i n x is known begun end h =
    let from : i ≡ h.0 = one_end m w k i h.0 begun h.2 in
    let whole : n ≡ h.0 + h.1 = one_end m w (suc k) n (h.0 + h.1) end (h.0, h.1, h.2, h.3, refl) in
    let many : length x.events ≡ h.1 = ap (λ (y : WindowData). length y.events) h.4 ∙ run_many m (after_events m w h.0) h.1 is (goes_on m w h.0 is known) h.3 in
    omega arith

-- so many are pending as were before, less those that were run, and with those that were sent
length-with_event : (e : Event) (es : List Event) → length (with_event e es) ≡ suc (length es)
length-with_event e [] = refl
length-with_event e (f ∷ fs) =
    elim (is_lt (event_cmp e f)) as (λ b. length (cond b (e ∷ f ∷ fs) (f ∷ with_event e fs)) ≡ suc (suc (length fs))) [
      | true ↦ refl
      | false ↦ ap (λ (n : ℕ). suc n) (length-with_event e fs)
    ]

length-with_events : (es pending : List Event) → length (with_events es pending) ≡ length es + length pending
length-with_events [] pending = (let z : length pending ≡ 0 + length pending = omega arith in z)
length-with_events (e ∷ es) pending = (let a = length-with_events es (with_event e pending) in let b = length-with_event e pending in omega arith)

first_counted : (m : ModelData) (states : List ObjectState) (pending : List Event) (log : List Step)
    → length (run_first m states pending log).pending + length (first_event pending) ≡ length pending + length (first_sends m states pending)
unfolding run_first
first_counted m states [] log = refl
first_counted m states (e ∷ es) log =
    let sends : List Event = sends_of m e.dst (state_of states e.dst) e in
    let kept = ap (λ gone. length (with_events sends (without_events gone es))) (nothing_withdrawn m e.dst (state_of states e.dst) e) in
    let many = length-with_events sends es in
    omega arith

counted : (m : ModelData) (w : Simulation) (n : ℕ) → length (after_events m w n).pending + length (events_run m w n) ≡ length w.pending + length (events_sent m w n)
unfolding after_events events_run events_sent
counted m w zero = refl
counted m w (suc n) =
    let v : Simulation = run_next m w in
    let rest = counted m v n in
    let first = first_counted m w.states w.pending w.log in
    let run = length-append (first_event w.pending) (events_run m v n) in
    let sent = length-append (first_sends m w.states w.pending) (events_sent m v n) in
    omega arith

pub data_counted : (m : ModelData) (w : Simulation) (k : ℕ) (x y : WindowData) → IsWindow m w k x → IsWindow m w (suc k) y → y.pending + length y.events ≡ x.pending + length y.sends
data_counted m w k x y h g =
    let v : Simulation = after_events m w g.0 in
    let before : x.pending ≡ length v.pending = data_pending m w k g.0 x g.2 h in
    let all = counted m v g.1 in
    let pending : y.pending ≡ length (after_events m v g.1).pending = ap (λ (z : WindowData). z.pending) g.4 in
    let run : length y.events ≡ length (events_run m v g.1) = ap (λ (z : WindowData). length z.events) g.4 in
    let sent : length y.sends ≡ length (events_sent m v g.1) = ap (λ (z : WindowData). length z.sends) g.4 in
    omega arith

-- the peak
pub peak_begins : (m : ModelData) (w : Simulation) → IsPeak m w 0 (length w.pending)
peak_begins m w = record {
  reached = (0, record { events = []; sends = w.pending; pending = length w.pending }, omega arith, refl, refl);
  most = (λ j x le h. (let first : IsWindow m w 0 x = subst (λ (z : ℕ). IsWindow m w z x) (let z : j ≡ 0 = omega arith in z) h in
      let same : x.pending ≡ length w.pending = ap (λ (y : WindowData). y.pending) first in omega arith));
}

pub peak_next : (m : ModelData) (w : Simulation) (k peak : ℕ) (x : WindowData) → IsPeak m w k peak → IsWindow m w (suc k) x → IsPeak m w (suc k) (max peak x.pending)
peak_next m w k peak x h is =
    let old = h.reached in record {
      reached = elim (cases_lt peak x.pending) [
        | inl lt ↦ (suc k, x, omega arith, is, omega arith)
        | inr le ↦ (old.0, old.1, (let l = old.2 in omega arith), old.3, (let e = old.4 in omega arith))
      ];
      most = (λ j y le at. elim (cases_eq j (suc k)) [
        | inl same ↦ (let e : y.pending ≡ x.pending = ap (λ (z : WindowData). z.pending) (one_data m w (suc k) y x (subst (λ (z : ℕ). IsWindow m w z y) same at) is) in omega arith)
        | inr other ↦ (let l = h.most j y (omega arith) at in omega arith)
      ]);
    }

pub one_peak : (m : ModelData) (w : Simulation) (k p q : ℕ) → IsPeak m w k p → IsPeak m w k q → p ≡ q
one_peak m w k p q h g =
    let a = g.most h.reached.0 h.reached.1 h.reached.2 h.reached.3 in
    let b = h.most g.reached.0 g.reached.1 g.reached.2 g.reached.3 in
    let c = h.reached.4 in
    let d = g.reached.4 in
    omega arith

-- what stops a run
pub more_events : (m : ModelData) (w : Simulation) (cap k n : ℕ) → IsWindowEnd m w k n → HasMoreEvents m w cap k ↔ (cap < n)
more_events m w cap k n end = ((λ h. (let same : h.0 ≡ n = one_end m w k h.0 n h.1 end in let lt = h.2 in omega arith)), (λ lt. (n, end, lt)))

pub few_rows : (m : ModelData) (w : Simulation) (rows k p : ℕ) (x : WindowData) → IsWindow m w k x → HasFewRows m w rows k p ↔ ((p ≡ x.pending) × (rows < 2 * x.pending + 2))
few_rows m w rows k p x is = (
  (λ h. (let same : h.0.pending ≡ x.pending = ap (λ (y : WindowData). y.pending) (one_data m w k h.0 x h.1 is) in let a = h.2 in let b = h.3 in (omega arith, omega arith))),
  (λ h. (x, is, h.0, (let a = h.0 in let b = h.1 in omega arith))),
)

one_number : (m : ModelData) (w : Simulation) (rows k j p q : ℕ) → HasFewRows m w rows k p → HasFewRows m w rows j q → k ≡ j → p ≡ q
one_number m w rows k j p q h g same =
    let e : h.0.pending ≡ g.0.pending = ap (λ (y : WindowData). y.pending) (one_data m w j h.0 g.0 (subst (λ (z : ℕ). IsWindow m w z h.0) same h.1) g.1) in
    let a = h.2 in
    let b = g.2 in
    omega arith

pub one_stop : (m : ModelData) (w : Simulation) (cap rows : ℕ) (s t : Stop) → IsStop m w cap rows s → IsStop m w cap rows t → s ≡ t
one_stop m w cap rows (Events k) (Events j) h g =
    ap Events (elim (cases_eq k j) [
      | inl same ↦ same
      | inr apart ↦ elim (cases_lt k j) [ inl lt ↦ absurd (g.1 k lt h.0) | inr le ↦ absurd (h.1 j (omega arith) g.0) ]
    ])
one_stop m w cap rows (Events k) (Rows j q) h g =
    elim (cases_lt j k) [ inl lt ↦ absurd (h.2 j q lt g.0) | inr le ↦ absurd (g.1 k le h.0) ]
one_stop m w cap rows (Rows k p) (Events j) h g =
    elim (cases_lt k j) [ inl lt ↦ absurd (g.2 k p lt h.0) | inr le ↦ absurd (h.1 j le g.0) ]
one_stop m w cap rows (Rows k p) (Rows j q) h g =
    let same : k ≡ j = elim (cases_eq k j) [
      | inl e ↦ e
      | inr apart ↦ elim (cases_lt k j) [ inl lt ↦ absurd (g.2 k p lt h.0) | inr le ↦ absurd (h.2 j q (omega arith) g.0) ]
    ] in
    let number : p ≡ q = one_number m w rows k j p q h.0 g.0 same in
    λ i. Rows (same i) (number i)

-- ends rise with the windows
ends_rise : (m : ModelData) (w : Simulation) (j k n n' : ℕ) → IsWindowEnd m w j n → IsWindowEnd m w k n' → j ≤ k → n ≤ n'
ends_rise m w j k n n' h g le =
    let before = end_before m w j (k - j) n' (subst (λ (z : ℕ). IsWindowEnd m w z n') (let z : k ≡ j + (k - j) = omega arith in z) g) in
    let same : before.0 ≡ n = one_end m w j before.0 n before.1 h in
    let b = before.2 in
    omega arith

-- after the last window there is none
none_later : (m : ModelData) (w : Simulation) (j k n n' : ℕ) → IsWindowEnd m w k n → (after_events m w n).pending ≡ [] → k < j → IsWindowEnd m w j n' → ⊥
none_later m w j k n n' end none lt later =
    let next = end_before m w (suc k) (j - suc k) n' (subst (λ (z : ℕ). IsWindowEnd m w z n') (let z : j ≡ suc k + (j - suc k) = omega arith in z) later) in
    let same : next.1.0 ≡ n = one_end m w k next.1.0 n next.1.2 end in
    let ends : EndsWindow m (after_events m w n) next.1.1 = subst (λ (i : ℕ). EndsWindow m (after_events m w i) next.1.1) same next.1.3 in
    below_some m (after_events m w n) next.1.1 ends.0 ends.1 none

pub one_last : (m : ModelData) (w : Simulation) (k j : ℕ) → IsLastWindow m w k → IsLastWindow m w j → k ≡ j
one_last m w k j h g =
    elim (cases_eq k j) [
      | inl same ↦ same
      | inr apart ↦ elim (cases_lt k j) [
        | inl lt ↦ absurd (none_later m w j k h.0 g.0 h.1 h.2 lt g.1)
        | inr le ↦ absurd (none_later m w k j g.0 h.0 g.1 g.2 (omega arith) h.1)
      ]
    ]

pub never_stops : (m : ModelData) (w : Simulation) (cap rows k n : ℕ) → IsWindowEnd m w k n → (after_events m w n).pending ≡ [] → n ≤ cap → ((j : ℕ) (p : ℕ) → j ≤ k → HasFewRows m w rows j p → ⊥)
    → (s : Stop) → IsStop m w cap rows s → ⊥
never_stops m w cap rows k n end none few enough (Events j) h =
    elim (cases_lt k j) [
      | inl lt ↦ none_later m w j k n h.0.0 end none lt h.0.1
      | inr le ↦ (let rise = ends_rise m w j k h.0.0 n h.0.1 end le in let more = h.0.2 in omega arith)
    ]
never_stops m w cap rows k n end none few enough (Rows j p) h =
    elim (cases_lt k j) [
      | inl lt ↦ (let later = data_end m w j h.0.0 h.0.1 in none_later m w j k n later.0 end none lt later.1)
      | inr le ↦ enough j p le h.0
    ]

-- the window of the first event past the cap is that of the stop by events
pub serial_stop : (m : ModelData) (cap rows k : ℕ) → IsModel m → IsInWindow m k cap → ((j : ℕ) (p : ℕ) → j < k → HasFewRows m (beginning m) rows j p → ⊥) → IsStop m (beginning m) cap rows (Events k)
serial_stop m cap rows zero is h enough = absurd h
serial_stop m cap rows (suc k) is h enough =
    let w : Simulation = beginning m in
    let v : Simulation = after_events m w h.0 in
    let some = some_end m v is (goes_on m w h.0 is (begins m is)) (below_some m v (cap - h.0 + 1) (omega arith) h.3) in
    let from : h.0 ≤ cap = h.2 in
    let past : cap < h.0 + some.0 = elim (cases_lt cap (h.0 + some.0)) [
      | inl lt ↦ lt
      | inr le ↦ absurd (some.1.2 (h.3 some.0 (omega arith)))
    ] in (
      (h.0 + some.0, (h.0, some.0, h.1, some.1, refl), past),
      (λ j lt more. (let rise = ends_rise m w j k more.0 h.0 more.1 h.1 (omega arith) in let l = more.2 in omega arith)),
      enough,
    )

pub stop_serial : (m : ModelData) (cap rows k : ℕ) → IsStop m (beginning m) cap rows (Events k) → IsInWindow m k cap
stop_serial m cap rows zero h = (let z = h.0.1 in let l = h.0.2 in absurd (omega arith))
stop_serial m cap rows (suc k) h =
    let end = h.0.1 in
    let few : end.0 ≤ cap = elim (cases_lt cap end.0) [
      | inl lt ↦ absurd (h.1 k (omega arith) (end.0, end.2, lt))
      | inr le ↦ le
    ] in
    let past : cap < h.0.0 = h.0.2 in
    let sum : h.0.0 ≡ end.0 + end.1 = end.4 in
    (end.0, end.2, few, (λ t before. end.3.1 t (omega arith)))
