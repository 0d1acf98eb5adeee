-- The run of a window.
use Rattle.std.proofs.Common.{◌≡◌, ◌≢◌, ◌⊎◌, ℕ, zero, suc, ◌-◌, ◌<◌, ◌≤◌, List, [], ◌∷◌, ◌++◌, length, set, map, Bool, true, false, nat_eq, refl, arith, ap, sym, ◌∙◌, subst, inl, inr, append_assoc, append-nil, get_or-set_same, get_or-set_other, Contains}
use Rattle.std.specs.Prelude.{◌↔◌}
use Rattle.std.proofs.lemmas.Bool.{cases_eq}
use Rattle.std.proofs.lemmas.Bool.Decides.{nat_tests}
use Rattle.std.proofs.lemmas.List.{length-set, map-append}
use Rattle.std.proofs.lemmas.List.Elements.{Contains-append_left, Contains-append_right, Contains-append_cases}
use Rattle.std.specs.declared.cmp.Ordering.TheVariants.{Greater}
use Rattle.std.specs.List.{AllByRecursion}
use Rattle.std.specs.Ordering.{is_lt, nat_cmp}
use Rattle.crq_base.specs.declared.event.Event.{Event}
use Rattle.crq_base.specs.Keys.{event_cmp}
use Rattle.crq_sim.specs.declared.reaction.ObjectState.{ObjectState}
use Rattle.crq_sim.specs.declared.traces.Step.{Step}
use Rattle.crq_sim.specs.EventLists.{with_event, with_events, without_events}
use Rattle.crq_sim.specs.Models.{ModelData, IsModel, IsObject}
use Rattle.crq_sim.specs.Reactions.{sends_of, state_after, withdrawn_by}
use Rattle.crq_sim.specs.Runs.{Simulation, state_of, step_of, run_first, after_events, events_run, events_sent, steps_of}
use Rattle.crq_sim.specs.Windows.{IsNextBelow}
use Rattle.crq_sim.specs.WindowRuns.{object_after, object_steps, object_sends, object_withdrawn, events_of, AreBelow, AreFrom, CanRun, IsSentAt, IsWithdrawnAt, RunsWindow}
use Rattle.crq_sim.proofs.EventListLemmas.{All-with_events, All-weaker}
use Rattle.crq_sim.proofs.Members.{none_in}
use Rattle.crq_sim.proofs.OrderLemmas.{in_withs, withs_in}
use Rattle.crq_sim.proofs.Sound.{IsSend, sends_known, nothing_withdrawn, no_state}
use Rattle.crq_sim.proofs.TraceLemmas.{filter_push_in, filter_push_out}

-- an event of a later time isn't before one
pub later_cmp : (a b : Event) → b.time < a.time → is_lt (event_cmp a b) ≡ false
later_cmp a b h = (let c : nat_cmp a.time b.time ≡ Greater = grind (arith, nat_tests) in rw c refl)

-- an event at the edge or after it goes behind all that are below
behind : (edge : ℕ) (e : Event) (below rest : List Event) → edge ≤ e.time → AreBelow edge below → with_event e (below ++ rest) ≡ below ++ with_event e rest
behind edge e [] rest h all = refl
behind edge e (b ∷ below) rest h all =
    let after : is_lt (event_cmp e b) ≡ false = later_cmp e b (let x : b.time < edge = all.0 in omega arith) in
    rw after (ap (λ xs. b ∷ xs) (behind edge e below rest h all.1))

all_behind : (edge : ℕ) (es below rest : List Event) → AreFrom edge es → AreBelow edge below → with_events es (below ++ rest) ≡ below ++ with_events es rest
all_behind edge [] below rest late all = refl
all_behind edge (e ∷ es) below rest late all = ap (with_events es) (behind edge e below rest late.0 all) ∙ all_behind edge es below (with_event e rest) late.1 all

-- no send of an event that may run is below the edge
pub sends_late : (m : ModelData) (edge : ℕ) (s : ObjectState) (e : Event) → IsModel m → CanRun m edge e → AreFrom edge (sends_of m e.dst s e)
sends_late m edge s e is can =
    All-weaker (IsSend m e.dst s.sent (length (sends_of m e.dst s e)) e) (λ (f : Event). edge ≤ f.time)
    (λ f k. (let a = k.later in let b = can.1 in omega arith)) (sends_of m e.dst s e) (sends_known m e.dst s e is can.2)

pub below_edge : (m : ModelData) (edge : ℕ) (es : List Event) → AllByRecursion (CanRun m edge) es → AreBelow edge es
below_edge m edge es all = All-weaker (CanRun m edge) (λ (e : Event). e.time < edge) (λ e can. can.0) es all

-- what is pending after the first of the events
pub pending_after : (m : ModelData) (edge : ℕ) (s : ObjectState) (b : Event) (below rest : List Event) → IsModel m → CanRun m edge b → AllByRecursion (CanRun m edge) below → AreFrom edge rest
    → (with_events (sends_of m b.dst s b) (without_events (withdrawn_by m b.dst s b) (below ++ rest)) ≡ below ++ with_events (sends_of m b.dst s b) rest) × AreFrom edge (with_events (sends_of m b.dst s b) rest)
pending_after m edge s b below rest is can all from =
    let late = sends_late m edge s b is can in
    (ap (λ gone. with_events (sends_of m b.dst s b) (without_events gone (below ++ rest))) (nothing_withdrawn m b.dst s b) ∙ all_behind edge (sends_of m b.dst s b) below rest late (below_edge m edge below all), All-with_events (λ (f : Event). edge ≤ f.time) (sends_of m b.dst s b) rest late from)

mine : (o : ℕ) (b : Event) (es : List Event) → b.dst ≡ o → events_of o (b ∷ es) ≡ b ∷ events_of o es
mine o b es h = (let t : nat_eq b.dst o ≡ true = grind (arith, nat_tests) in rw t refl)

others : (o : ℕ) (b : Event) (es : List Event) → b.dst ≢ o → events_of o (b ∷ es) ≡ events_of o es
others o b es h = (let t : nat_eq b.dst o ≡ false = grind (arith, nat_tests) in rw t refl)

-- the states after the first event
abbrev next_states : ModelData → List ObjectState → Event → List ObjectState
next_states m states b = set states (b.dst - 1) (state_after m b.dst (state_of states b.dst) b)

here : (m : ModelData) (o : ℕ) (states : List ObjectState) (b : Event) → IsObject (length states) b.dst → b.dst ≡ o → state_of (next_states m states b) o ≡ state_after m o (state_of states o) b
here m o states b there same =
    let s' : ObjectState = state_after m b.dst (state_of states b.dst) b in
    let lt : b.dst - 1 < length states = omega arith in
    ap (λ n. state_of (set states (b.dst - 1) s') n) (sym same) ∙ get_or-set_same states (b.dst - 1) s' no_state lt ∙ ap (λ n. state_after m n (state_of states n) b) same

elsewhere : (m : ModelData) (o : ℕ) (states : List ObjectState) (b : Event) → 0 < b.dst → 0 < o → b.dst ≢ o → state_of (next_states m states b) o ≡ state_of states o
elsewhere m o states b pb po apart =
    let ne : o - 1 ≢ b.dst - 1 = omega arith in
    get_or-set_other states (b.dst - 1) (o - 1) (state_after m b.dst (state_of states b.dst) b) no_state ne

-- one object's state, over the first event and the rest
state_on : (m : ModelData) (o : ℕ) (states : List ObjectState) (b : Event) (es : List Event) → IsObject (length states) b.dst → 0 < o
    → object_after m o (state_of (next_states m states b) o) (events_of o es) ≡ object_after m o (state_of states o) (events_of o (b ∷ es))
unfolding object_after
state_on m o states b es there po =
    elim (cases_eq b.dst o) [
      | inl same ↦ ap (λ x. object_after m o x (events_of o es)) (here m o states b there same) ∙ sym (ap (object_after m o (state_of states o)) (mine o b es same))
      | inr apart ↦ ap (λ x. object_after m o x (events_of o es)) (elsewhere m o states b there.0 po apart) ∙ sym (ap (object_after m o (state_of states o)) (others o b es apart))
    ]

-- its steps
steps_on : (m : ModelData) (o : ℕ) (states : List ObjectState) (log : List Step) (b : Event) (es : List Event) → IsObject (length states) b.dst → 0 < o
    → steps_of o (log ++ step_of b (state_after m b.dst (state_of states b.dst) b) ∷ []) ++ object_steps m o (state_of (next_states m states b) o) (events_of o es)
    ≡ steps_of o log ++ object_steps m o (state_of states o) (events_of o (b ∷ es))
unfolding object_steps
steps_on m o states log b es there po =
    let p : Step → Bool = λ x. nat_eq x.event.dst o in
    let st : Step = step_of b (state_after m b.dst (state_of states b.dst) b) in
    let later : List Step = object_steps m o (state_of (next_states m states b) o) (events_of o es) in
    elim (cases_eq b.dst o) [
      | inl same ↦ (let t : nat_eq b.dst o ≡ true = grind (arith, nat_tests) in
          let now : state_after m b.dst (state_of states b.dst) b ≡ state_after m o (state_of states o) b = ap (λ n. state_after m n (state_of states n) b) same in
          let st_is : st ≡ step_of b (state_after m o (state_of states o) b) = ap (step_of b) now in
          ap (λ xs. xs ++ later) (filter_push_in p log st t)
          ∙ append_assoc (steps_of o log) (st ∷ []) later
          ∙ ap (λ x. steps_of o log ++ st ∷ object_steps m o x (events_of o es)) (here m o states b there same)
          ∙ ap (λ x. steps_of o log ++ x ∷ object_steps m o (state_after m o (state_of states o) b) (events_of o es)) st_is
          ∙ sym (ap (λ xs. steps_of o log ++ object_steps m o (state_of states o) xs) (mine o b es same)))
      | inr apart ↦ (let t : nat_eq b.dst o ≡ false = grind (arith, nat_tests) in
          ap (λ xs. xs ++ later) (filter_push_out p log st t)
          ∙ ap (λ x. steps_of o log ++ object_steps m o x (events_of o es)) (elsewhere m o states b there.0 po apart)
          ∙ sym (ap (λ xs. steps_of o log ++ object_steps m o (state_of states o) xs) (others o b es apart)))
    ]

-- what it sends
sends_here : (m : ModelData) (o : ℕ) (states : List ObjectState) (b : Event) (es : List Event) → IsObject (length states) b.dst → b.dst ≡ o
    → object_sends m o (state_of states o) (events_of o (b ∷ es)) ≡ sends_of m b.dst (state_of states b.dst) b ++ object_sends m o (state_of (next_states m states b) o) (events_of o es)
unfolding object_sends
sends_here m o states b es there same =
    let first : sends_of m o (state_of states o) b ≡ sends_of m b.dst (state_of states b.dst) b = ap (λ n. sends_of m n (state_of states n) b) (sym same) in
    ap (object_sends m o (state_of states o)) (mine o b es same)
    ∙ ap (λ xs. xs ++ object_sends m o (state_after m o (state_of states o) b) (events_of o es)) first
    ∙ ap (λ x. sends_of m b.dst (state_of states b.dst) b ++ object_sends m o x (events_of o es)) (sym (here m o states b there same))

sends_elsewhere : (m : ModelData) (o : ℕ) (states : List ObjectState) (b : Event) (es : List Event) → 0 < b.dst → 0 < o → b.dst ≢ o
    → object_sends m o (state_of states o) (events_of o (b ∷ es)) ≡ object_sends m o (state_of (next_states m states b) o) (events_of o es)
sends_elsewhere m o states b es pb po apart =
    ap (object_sends m o (state_of states o)) (others o b es apart) ∙ ap (λ x. object_sends m o x (events_of o es)) (sym (elsewhere m o states b pb po apart))

-- what is sent at the first event or at the rest is sent at one of them
sent_first : (m : ModelData) (states : List ObjectState) (b : Event) (es : List Event) (x : Event) → IsObject (length states) b.dst → Contains (sends_of m b.dst (state_of states b.dst) b) x → IsSentAt m states (b ∷ es) x
sent_first m states b es x there at =
    (b.dst, there, subst (λ xs. Contains xs x) (sym (sends_here m b.dst states b es there refl)) (Contains-append_left _ _ x at))

sent_later : (m : ModelData) (states : List ObjectState) (b : Event) (es : List Event) (x : Event) → IsObject (length states) b.dst → IsSentAt m (next_states m states b) es x → IsSentAt m states (b ∷ es) x
sent_later m states b es x there h =
    let same_length : length (next_states m states b) ≡ length states = length-set states (b.dst - 1) (state_after m b.dst (state_of states b.dst) b) in
    let o : ℕ = h.0 in
    let object : IsObject (length states) o = subst (λ n. IsObject n o) same_length h.1 in
    elim (cases_eq b.dst o) [
      | inl same ↦ (o, object, subst (λ xs. Contains xs x) (sym (sends_here m o states b es there same)) (Contains-append_right (sends_of m b.dst (state_of states b.dst) b) _ x h.2))
      | inr apart ↦ (o, object, subst (λ xs. Contains xs x) (sym (sends_elsewhere m o states b es there.0 object.0 apart)) h.2)
    ]

sent_either : (m : ModelData) (states : List ObjectState) (b : Event) (es : List Event) (x : Event) → IsObject (length states) b.dst → IsSentAt m states (b ∷ es) x → Contains (sends_of m b.dst (state_of states b.dst) b) x ⊎ IsSentAt m (next_states m states b) es x
sent_either m states b es x there h =
    let same_length : length (next_states m states b) ≡ length states = length-set states (b.dst - 1) (state_after m b.dst (state_of states b.dst) b) in
    let o : ℕ = h.0 in
    let object : IsObject (length (next_states m states b)) o = subst (λ n. IsObject n o) (sym same_length) h.1 in
    elim (cases_eq b.dst o) [
      | inl same ↦ (elim (Contains-append_cases (sends_of m b.dst (state_of states b.dst) b) _ x (subst (λ xs. Contains xs x) (sends_here m o states b es there same) h.2)) [
        | inl at ↦ inl at
        | inr at ↦ inr (o, object, at)
      ])
      | inr apart ↦ inr (o, object, subst (λ xs. Contains xs x) (sends_elsewhere m o states b es there.0 h.1.0 apart) h.2)
    ]

-- the members of the event list, over the first event and the rest
members_to : (m : ModelData) (states : List ObjectState) (b : Event) (below rest : List Event) (x : Event) → IsObject (length states) b.dst
    → Contains (with_events (sends_of m b.dst (state_of states b.dst) b) rest) x ⊎ IsSentAt m (next_states m states b) below x → Contains rest x ⊎ IsSentAt m states (b ∷ below) x
members_to m states b below rest x there (inl at) =
    elim (withs_in x (sends_of m b.dst (state_of states b.dst) b) rest at) [ inl new ↦ inr (sent_first m states b below x there new) | inr old ↦ inl old ]
members_to m states b below rest x there (inr sent) = inr (sent_later m states b below x there sent)

members_from : (m : ModelData) (states : List ObjectState) (b : Event) (below rest : List Event) (x : Event) → IsObject (length states) b.dst
    → Contains rest x ⊎ IsSentAt m states (b ∷ below) x → Contains (with_events (sends_of m b.dst (state_of states b.dst) b) rest) x ⊎ IsSentAt m (next_states m states b) below x
members_from m states b below rest x there (inl old) = inl (in_withs x (sends_of m b.dst (state_of states b.dst) b) rest (inr old))
members_from m states b below rest x there (inr sent) =
    elim (sent_either m states b below x there sent) [ inl new ↦ inl (in_withs x (sends_of m b.dst (state_of states b.dst) b) rest (inl new)) | inr later ↦ inr later ]

nothing_sent : (m : ModelData) (states : List ObjectState) (x : Event) → IsSentAt m states [] x → ⊥
unfolding object_sends
nothing_sent m states x h = none_in x h.2

no_members : (m : ModelData) (states : List ObjectState) (rest : List Event) (x : Event) → Contains rest x ↔ (Contains rest x ⊎ IsSentAt m states [] x)
no_members m states rest x = ((λ at. inl at), (λ h. elim h [ inl at ↦ at | inr sent ↦ absurd (nothing_sent m states x sent) ]))

-- nor is anything withdrawn
object_keeps : (m : ModelData) (o : ℕ) (s : ObjectState) (es : List Event) → object_withdrawn m o s es ≡ []
unfolding object_withdrawn
object_keeps m o s [] = refl
object_keeps m o s (e ∷ es) = ap (λ xs. xs ++ object_withdrawn m o (state_after m o s e) es) (nothing_withdrawn m o s e) ∙ object_keeps m o (state_after m o s e) es

none_withdrawn_at : (m : ModelData) (states : List ObjectState) (es : List Event) (x : Event) → IsWithdrawnAt m states es x → ⊥
none_withdrawn_at m states es x h = none_in x (subst (λ xs. Contains xs x) (object_keeps m h.0 (state_of states h.0) (events_of h.0 es)) h.2)

-- what running the events below the edge does: after it the run stands at `later`, and `run` and `sent` are the events that were run and sent
record RunsTo (m : ModelData) (edge : ℕ) (w : Simulation) (below rest : List Event) (later : Simulation) (run sent : List Event) : Type 0 where
  events : run ≡ below
  log_is : map (λ (s : Step). s.event) later.log ≡ map (λ (s : Step). s.event) w.log ++ below
  late : AreFrom edge later.pending
  members : (x : Event) → Contains later.pending x ↔ (Contains rest x ⊎ IsSentAt m w.states below x)
  sends : (x : Event) → Contains sent x ↔ IsSentAt m w.states below x
  states_are : (o : ℕ) → IsObject (length w.states) o → state_of later.states o ≡ object_after m o (state_of w.states o) (events_of o below)
  steps : (o : ℕ) → IsObject (length w.states) o → steps_of o later.log ≡ steps_of o w.log ++ object_steps m o (state_of w.states o) (events_of o below)

-- what is sent at the first event, and at the rest
sends_to : (m : ModelData) (states : List ObjectState) (b : Event) (below sent : List Event) (x : Event) → IsObject (length states) b.dst
    → (Contains sent x ↔ IsSentAt m (next_states m states b) below x) → Contains (sends_of m b.dst (state_of states b.dst) b ++ sent) x ↔ IsSentAt m states (b ∷ below) x
sends_to m states b below sent x there ih = (
  (λ at. elim (Contains-append_cases (sends_of m b.dst (state_of states b.dst) b) sent x at) [
    | inl first ↦ sent_first m states b below x there first
    | inr later ↦ sent_later m states b below x there (ih.0 later)
  ]),
  (λ h. elim (sent_either m states b below x there h) [
    | inl first ↦ Contains-append_left (sends_of m b.dst (state_of states b.dst) b) sent x first
    | inr later ↦ Contains-append_right (sends_of m b.dst (state_of states b.dst) b) sent x (ih.1 later)
  ]),
)

window_steps : (m : ModelData) (edge : ℕ) (below rest : List Event) (states : List ObjectState) (log : List Step) → IsModel m → length states ≡ length m.objects
    → AllByRecursion (CanRun m edge) below → AreFrom edge rest
    → (let w : Simulation = record { states = states; pending = below ++ rest; log = log } in RunsTo m edge w below rest (after_events m w (length below)) (events_run m w (length below)) (events_sent m w (length below)))
unfolding after_events events_run events_sent object_after object_steps run_first
window_steps m edge [] rest states log is many all from = record {
  events = refl;
  log_is = sym (append-nil (map (λ (s : Step). s.event) log));
  late = from;
  members = no_members m states rest;
  sends = (λ x. ((λ at. absurd (none_in x at)), (λ h. absurd (nothing_sent m states x h))));
  states_are = (λ o there. refl);
  steps = (λ o there. sym (append-nil (steps_of o log)));
}
window_steps m edge (b ∷ below) rest states log is many all from =
    let s : ObjectState = state_of states b.dst in
    let states' : List ObjectState = next_states m states b in
    let log' : List Step = log ++ step_of b (state_after m b.dst s b) ∷ [] in
    let rest' : List Event = with_events (sends_of m b.dst s b) rest in
    let late = pending_after m edge s b below rest is all.0 all.1 from in
    let there : IsObject (length states) b.dst = subst (λ n. IsObject n b.dst) (sym many) all.0.2 in
    let len : length states' ≡ length states = length-set states (b.dst - 1) (state_after m b.dst s b) in
    let ih = window_steps m edge below rest' states' log' is (len ∙ many) all.1 late.1 in
    let w : Simulation = record { states = states; pending = (b ∷ below) ++ rest; log = log } in
    let v : Simulation = record { states = states'; pending = below ++ rest'; log = log' } in
    let R : RunsTo m edge w (b ∷ below) rest (after_events m v (length below)) (b ∷ events_run m v (length below)) (sends_of m b.dst s b ++ events_sent m v (length below)) = record {
      events = ap (λ xs. b ∷ xs) ih.events;
      log_is = ih.log_is ∙ ap (λ xs. xs ++ below) (map-append (λ (x : Step). x.event) log (step_of b (state_after m b.dst s b) ∷ [])) ∙ append_assoc (map (λ (x : Step). x.event) log) (b ∷ []) below;
      late = ih.late;
      members = (λ x. ((λ at. members_to m states b below rest x there ((ih.members x).0 at)), (λ h. (ih.members x).1 (members_from m states b below rest x there h))));
      sends = (λ x. sends_to m states b below (events_sent m v (length below)) x there (ih.sends x));
      states_are = (λ o at. ih.states_are o (subst (λ n. IsObject n o) (sym len) at) ∙ state_on m o states b below there at.0);
      steps = (λ o at. ih.steps o (subst (λ n. IsObject n o) (sym len) at) ∙ steps_on m o states log b below there at.0);
    } in
    subst (λ (es : List Event). RunsTo m edge w (b ∷ below) rest (after_events m (record { states = states'; pending = es; log = log' }) (length below))
    (b ∷ events_run m (record { states = states'; pending = es; log = log' }) (length below)) (sends_of m b.dst s b ++ events_sent m (record { states = states'; pending = es; log = log' }) (length below))) (sym late.0) R

window_told : (m : ModelData) (edge : ℕ) (w : Simulation) (below rest : List Event)
    → RunsTo m edge w below rest (after_events m w (length below)) (events_run m w (length below)) (events_sent m w (length below)) → RunsWindow m edge w below rest
window_told m edge w below rest h = record {
  events = h.events;
  log = h.log_is;
  pending = h.late;
  members = (λ x. ((λ at. ((h.members x).0 at, none_withdrawn_at m w.states below x)), (λ k. (h.members x).1 k.0)));
  sends = h.sends;
  states = h.states_are;
  steps = h.steps;
}

-- the run of a window from any simulation
pub window_run : (m : ModelData) (edge : ℕ) (below rest : List Event) (w : Simulation) → IsModel m → length w.states ≡ length m.objects → w.pending ≡ below ++ rest
    → AllByRecursion (CanRun m edge) below → AreFrom edge rest → RunsWindow m edge w below rest
window_run m edge below rest w is many whole all from =
    subst (λ (es : List Event). RunsWindow m edge (record { states = w.states; pending = es; log = w.log }) below rest)
    (sym whole) (window_told m edge (record { states = w.states; pending = below ++ rest; log = w.log }) below rest (window_steps m edge below rest w.states w.log is many all from))

-- up to its end the next event is below the edge
inside_steps : (m : ModelData) (edge : ℕ) (j : ℕ) (below rest : List Event) (states : List ObjectState) (log : List Step) → IsModel m
    → AllByRecursion (CanRun m edge) below → AreFrom edge rest → j < length below
    → IsNextBelow edge (after_events m (record { states = states; pending = below ++ rest; log = log }) j).pending
unfolding after_events run_first
inside_steps m edge j [] rest states log is all from lt = absurd (omega arith)
inside_steps m edge zero (b ∷ below) rest states log is all from lt = all.0.0
inside_steps m edge (suc j) (b ∷ below) rest states log is all from lt =
    let s : ObjectState = state_of states b.dst in
    let late = pending_after m edge s b below rest is all.0 all.1 from in
    let ih = inside_steps m edge j below (with_events (sends_of m b.dst s b) rest) (next_states m states b) (log ++ step_of b (state_after m b.dst s b) ∷ []) is all.1 late.1 (omega arith) in
    subst (λ (es : List Event). IsNextBelow edge (after_events m (record { states = next_states m states b; pending = es; log = log ++ step_of b (state_after m b.dst s b) ∷ [] }) j).pending) (sym late.0) ih

pub inside_window : (m : ModelData) (edge : ℕ) (j : ℕ) (below rest : List Event) (w : Simulation) → IsModel m → w.pending ≡ below ++ rest
    → AllByRecursion (CanRun m edge) below → AreFrom edge rest → j < length below → IsNextBelow edge (after_events m w j).pending
inside_window m edge j below rest w is whole all from lt =
    subst (λ (es : List Event). IsNextBelow edge (after_events m (record { states = w.states; pending = es; log = w.log }) j).pending) (sym whole) (inside_steps m edge j below rest w.states w.log is all from lt)
