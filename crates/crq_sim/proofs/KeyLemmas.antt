-- The events of a whole run: when they are sent, and their keys.
use Rattle.std.proofs.Common.{◌≡◌, ℕ, zero, suc, ◌+◌, ◌-◌, ◌<◌, ◌≤◌, List, [], ◌∷◌, ◌++◌, length, nat_eq, false, refl, arith, ap, sym, ◌∙◌, subst, inl, inr, Contains}
use Rattle.std.proofs.lemmas.Bool.Decides.{leb_tells, nat_tests}
use Rattle.std.proofs.lemmas.List.Elements.{Contains-append_cases}
use Rattle.std.specs.List.{AllByRecursion}
use Rattle.crq_base.specs.declared.event.Event.{Event}
use Rattle.crq_sim.specs.declared.model.Start.{Start}
use Rattle.crq_sim.specs.declared.reaction.ObjectState.{ObjectState}
use Rattle.crq_sim.specs.declared.sends.Post.{Post}
use Rattle.crq_sim.specs.declared.traces.Step.{Step}
use Rattle.crq_sim.specs.EventLists.{IsHead, HaveOneKey, HaveKeysApart, HaveOneNumber, HaveNumbersApart}
use Rattle.crq_sim.specs.Models.{ModelData, IsModel}
use Rattle.crq_sim.specs.Reactions.{action_of, behaviour_at, scheduled, reaction_of, sends_of, state_after}
use Rattle.crq_sim.specs.Runs.{Simulation, state_of, run_first, run_next, after_events, first_sends, events_sent, scheduled_starts, beginning}
use Rattle.crq_sim.specs.Simulations.{next_number, IsDue, IsSimulation}
use Rattle.crq_sim.proofs.EventListLemmas.{All-weaker}
use Rattle.crq_sim.proofs.Members.{none_in}
use Rattle.crq_sim.proofs.OrderLemmas.{All-at}
use Rattle.crq_sim.proofs.ScheduleLemmas.{event_of, scheduled_due, scheduled_past, scheduled_none}
use Rattle.crq_sim.proofs.Sound.{IsSend, sends_known, after_sent, more_sent, next_here, simulation_step, begins}

-- what holds of all holds of the first
first_all : (P : Event → Type 0) (es : List Event) (e : Event) → IsHead e es → AllByRecursion P es → P e
first_all P [] e first all = absurd first
first_all P (x ∷ xs) e first all = subst P (sym first) all.0

pub sent_late : (m : ModelData) (w : Simulation) (e x : Event) → IsModel m → IsSimulation m w → IsHead e w.pending → Contains (sends_of m e.dst (state_of w.states e.dst) e) x
    → (e.time + m.lookahead ≤ x.time) × (x.time ≤ m.until)
sent_late m w e x is known first at =
    let due : IsDue m w.states e = first_all (IsDue m w.states) w.pending e first known.events in
    let s : ObjectState = state_of w.states e.dst in
    let send : IsSend m e.dst s.sent (length (sends_of m e.dst s e)) e x = All-at (IsSend m e.dst s.sent (length (sends_of m e.dst s e)) e) (sends_of m e.dst s e) x (sends_known m e.dst s e is due.there) at in
    (send.later, send.time)

first_sender : (m : ModelData) (states : List ObjectState) (pending : List Event) (x : Event) → Contains (first_sends m states pending) x
    → (e : Event) × IsHead e pending × Contains (sends_of m e.dst (state_of states e.dst) e) x
first_sender m states [] x at = absurd (none_in x at)
first_sender m states (e ∷ es) x at = (e, refl, at)

-- each event that is sent is sent at an event of the run
pub some_sender : (m : ModelData) (w : Simulation) (n : ℕ) (x : Event) → Contains (events_sent m w n) x
    → (k : ℕ) × (e : Event) × (k < n) × IsHead e (after_events m w k).pending × Contains (sends_of m e.dst (state_of (after_events m w k).states e.dst) e) x
unfolding after_events events_sent
some_sender m w zero x at = absurd (none_in x at)
some_sender m w (suc n) x at =
    elim (Contains-append_cases (first_sends m w.states w.pending) (events_sent m (run_next m w) n) x at) [
      | inl here ↦ (let s = first_sender m w.states w.pending x here in (0, s.0, omega arith, s.1, s.2))
      | inr later ↦ (let s = some_sender m (run_next m w) n x later in (suc s.0, s.1, (let lt = s.2 in omega arith), s.3, s.4))
    ]

-- an event with a number that its source hadn't given before
abbrev pub IsNumbered : ModelData → List ObjectState → Event → Type 0
IsNumbered m states f = (0 < f.src) × (next_number m states f.src ≤ f.seq)

All-join : (P : Event → Type 0) (xs ys : List Event) → AllByRecursion P xs → AllByRecursion P ys → AllByRecursion P (xs ++ ys)
All-join P [] ys h k = k
All-join P (x ∷ xs) ys h k = (h.0, All-join P xs ys h.1 k)

number_of : (m : ModelData) (states : List ObjectState) (o : ℕ) → 0 < o → next_number m states o ≡ (state_of states o).sent
number_of m states o some = (let not_file : nat_eq o 0 ≡ false = grind (arith, nat_tests) in rw not_file refl)

first_numbered : (m : ModelData) (states : List ObjectState) (pending : List Event) → IsModel m → AllByRecursion (IsDue m states) pending → AllByRecursion (IsNumbered m states) (first_sends m states pending)
first_numbered m states [] is all = tt
first_numbered m states (e ∷ es) is all =
    let there = all.0.there in
    let s : ObjectState = state_of states e.dst in
    let number : next_number m states e.dst ≡ s.sent = number_of m states e.dst there.0 in
    All-weaker (IsSend m e.dst s.sent (length (sends_of m e.dst s e)) e) (IsNumbered m states)
    (λ f k. (let source = k.source in let from = k.from in let q : next_number m states f.src ≡ next_number m states e.dst = ap (next_number m states) source in (omega arith, omega arith)))
    (sends_of m e.dst s e) (sends_known m e.dst s e is there)

-- numbers rise
numbers_rise : (m : ModelData) (states : List ObjectState) (pending : List Event) (log : List Step) (src : ℕ) → length states ≡ length m.objects → AllByRecursion (IsDue m states) pending
    → next_number m states src ≤ next_number m (run_first m states pending log).states src
unfolding run_first
numbers_rise m states [] log src many all = omega arith
numbers_rise m states (e ∷ es) log src many all =
    let there = all.0.there in
    let s : ObjectState = state_of states e.dst in
    let sent = after_sent m e.dst s e in
    more_sent m states (e.dst - 1) (state_after m e.dst s e) src (omega arith) (omega arith)

-- what was sent first has lesser numbers
first_passed : (m : ModelData) (states : List ObjectState) (pending : List Event) (log : List Step) → IsModel m → length states ≡ length m.objects → AllByRecursion (IsDue m states) pending
    → AllByRecursion (λ (f : Event). f.seq < next_number m (run_first m states pending log).states f.src) (first_sends m states pending)
unfolding run_first
first_passed m states [] log is many all = tt
first_passed m states (e ∷ es) log is many all =
    let there = all.0.there in
    let s : ObjectState = state_of states e.dst in
    let s' : ObjectState = state_after m e.dst s e in
    let sent = after_sent m e.dst s e in
    let number = next_here m states e.dst s' there.0 (omega arith) in
    All-weaker (IsSend m e.dst s.sent (length (sends_of m e.dst s e)) e) (λ (f : Event). f.seq < next_number m (run_first m states (e ∷ es) log).states f.src)
    (λ f k. (let below = k.below in let q : next_number m (run_first m states (e ∷ es) log).states f.src ≡ s'.sent = ap (next_number m (run_first m states (e ∷ es) log).states) k.source ∙ number in omega arith))
    (sends_of m e.dst s e) (sends_known m e.dst s e is there)

-- what is scheduled has numbers from the first on, so no number twice
scheduled_from : (until src n : ℕ) (ps : List Post) → AllByRecursion (λ (f : Event). n ≤ f.seq) (scheduled until src n ps)
scheduled_from until src n [] = rw (scheduled_none until src n) tt
scheduled_from until src n (p ∷ ps) =
    elim (leb_tells p.time until) [
      | inl at ↦ rw (scheduled_due until src n p ps at.1) (
        omega arith,
        All-weaker (λ (f : Event). n + 1 ≤ f.seq) (λ (f : Event). n ≤ f.seq) (λ f k. omega arith) (scheduled until src (n + 1) ps) (scheduled_from until src (n + 1) ps),
      )
      | inr past ↦ rw (scheduled_past until src n p ps past.1) (scheduled_from until src n ps)
    ]

scheduled_apart : (until src n : ℕ) (ps : List Post) → HaveNumbersApart (scheduled until src n ps)
scheduled_apart until src n [] = rw (scheduled_none until src n) tt
scheduled_apart until src n (p ∷ ps) =
    elim (leb_tells p.time until) [
      | inl at ↦ rw (scheduled_due until src n p ps at.1) (
        All-weaker (λ (f : Event). n + 1 ≤ f.seq) (λ (f : Event). HaveOneNumber (event_of p src n) f → ⊥) (λ f k one. (let q : n ≡ f.seq = one.1 in omega arith)) (scheduled until src (n + 1) ps) (scheduled_from until src (n + 1) ps),
        scheduled_apart until src (n + 1) ps,
      )
      | inr past ↦ rw (scheduled_past until src n p ps past.1) (scheduled_apart until src n ps)
    ]

pub sends_apart : (m : ModelData) (o : ℕ) (s : ObjectState) (e : Event) → HaveNumbersApart (sends_of m o s e)
unfolding reaction_of
sends_apart m o s e = scheduled_apart m.until o s.sent (action_of m (behaviour_at m o) s e).posts

first_apart : (m : ModelData) (states : List ObjectState) (pending : List Event) → HaveNumbersApart (first_sends m states pending)
first_apart m states [] = tt
first_apart m states (e ∷ es) = sends_apart m e.dst (state_of states e.dst) e

-- two lists without a number in common
apart_join : (xs ys : List Event) → HaveNumbersApart xs → HaveNumbersApart ys → AllByRecursion (λ (e : Event). AllByRecursion (λ (f : Event). HaveOneNumber e f → ⊥) ys) xs → HaveNumbersApart (xs ++ ys)
apart_join [] ys h k cross = k
apart_join (x ∷ xs) ys h k cross = (All-join (λ (f : Event). HaveOneNumber x f → ⊥) xs ys h.0 cross.0, apart_join xs ys h.1 k cross.1)

-- all that is sent from a simulation on
pub sent_numbered : (m : ModelData) (w : Simulation) (n : ℕ) → IsModel m → IsSimulation m w → AllByRecursion (IsNumbered m w.states) (events_sent m w n)
unfolding events_sent
sent_numbered m w zero is known = tt
sent_numbered m w (suc n) is known =
    let v : Simulation = run_next m w in
    All-join (IsNumbered m w.states) (first_sends m w.states w.pending) (events_sent m v n) (first_numbered m w.states w.pending is known.events)
    (All-weaker (IsNumbered m v.states) (IsNumbered m w.states) (λ f k. (k.0, (let a = k.1 in let b = numbers_rise m w.states w.pending w.log f.src known.many known.events in omega arith)))
    (events_sent m v n) (sent_numbered m v n is (simulation_step m w.states w.pending w.log is known)))

pub sent_apart : (m : ModelData) (w : Simulation) (n : ℕ) → IsModel m → IsSimulation m w → HaveNumbersApart (events_sent m w n)
unfolding events_sent
sent_apart m w zero is known = tt
sent_apart m w (suc n) is known =
    let v : Simulation = run_next m w in
    let next : IsSimulation m v = simulation_step m w.states w.pending w.log is known in
    let later = sent_numbered m v n is next in
    apart_join (first_sends m w.states w.pending) (events_sent m v n) (first_apart m w.states w.pending) (sent_apart m v n is next)
    (All-weaker (λ (f : Event). f.seq < next_number m v.states f.src) (λ (e : Event). AllByRecursion (λ (f : Event). HaveOneNumber e f → ⊥) (events_sent m v n))
    (λ e passed. All-weaker (IsNumbered m v.states) (λ (f : Event). HaveOneNumber e f → ⊥)
    (λ f k one. (let a : next_number m v.states f.src ≤ f.seq = k.1 in let p : e.seq < next_number m v.states e.src = passed in let q : next_number m v.states e.src ≡ next_number m v.states f.src = ap (next_number m v.states) one.0 in let r : e.seq ≡ f.seq = one.1 in omega arith))
    (events_sent m v n) later)
    (first_sends m w.states w.pending) (first_passed m w.states w.pending w.log is known.many known.events))

-- the starts
pub starts_from : (until n : ℕ) (ss : List Start) → AllByRecursion (λ (f : Event). (f.src ≡ 0) × (n ≤ f.seq)) (scheduled_starts until n ss)
unfolding scheduled_starts
starts_from until n [] = tt
starts_from until n (s ∷ ss) =
    elim (leb_tells s.time until) [
      | inl at ↦ rw at.0 ((refl, omega arith), All-weaker (λ (f : Event). (f.src ≡ 0) × (n + 1 ≤ f.seq)) (λ (f : Event). (f.src ≡ 0) × (n ≤ f.seq)) (λ f k. (k.0, (let a = k.1 in omega arith))) (scheduled_starts until (n + 1) ss) (starts_from until (n + 1) ss))
      | inr past ↦ rw past.0 (starts_from until n ss)
    ]

pub starts_apart : (until n : ℕ) (ss : List Start) → HaveNumbersApart (scheduled_starts until n ss)
unfolding scheduled_starts
starts_apart until n [] = tt
starts_apart until n (s ∷ ss) =
    let e : Event = record { time = s.time; src = 0; seq = n; dst = s.object; load = s.load } in
    elim (leb_tells s.time until) [
      | inl at ↦ rw at.0 (
        All-weaker (λ (f : Event). (f.src ≡ 0) × (n + 1 ≤ f.seq)) (λ (f : Event). HaveOneNumber e f → ⊥) (λ f k one. (let a = k.1 in let q : n ≡ f.seq = one.1 in omega arith)) (scheduled_starts until (n + 1) ss) (starts_from until (n + 1) ss),
        starts_apart until (n + 1) ss,
      )
      | inr past ↦ rw past.0 (starts_apart until n ss)
    ]

-- no two events of a run have one source and number
pub run_numbers_apart : (m : ModelData) (n : ℕ) → IsModel m → HaveNumbersApart (scheduled_starts m.until 0 m.starts ++ events_sent m (beginning m) n)
run_numbers_apart m n is =
    let sent : List Event = events_sent m (beginning m) n in
    let numbered = sent_numbered m (beginning m) n is (begins m is) in
    apart_join (scheduled_starts m.until 0 m.starts) sent (starts_apart m.until 0 m.starts) (sent_apart m (beginning m) n is (begins m is))
    (All-weaker (λ (f : Event). (f.src ≡ 0) × (0 ≤ f.seq)) (λ (e : Event). AllByRecursion (λ (f : Event). HaveOneNumber e f → ⊥) sent)
    (λ e k. All-weaker (IsNumbered m (beginning m).states) (λ (f : Event). HaveOneNumber e f → ⊥)
    (λ f later one. (let a : 0 < f.src = later.0 in let b : e.src ≡ 0 = k.0 in let q : e.src ≡ f.src = one.0 in omega arith)) sent numbered)
    (scheduled_starts m.until 0 m.starts) (starts_from m.until 0 m.starts))

-- so no two have one key
pub keys_apart : (es : List Event) → HaveNumbersApart es → HaveKeysApart es
keys_apart [] h = tt
keys_apart (e ∷ es) h = (All-weaker (λ (f : Event). HaveOneNumber e f → ⊥) (λ (f : Event). HaveOneKey e f → ⊥) (λ f apart one. apart (one.1, one.2)) es h.0, keys_apart es h.1)

pub run_apart : (m : ModelData) (n : ℕ) → IsModel m → HaveKeysApart (scheduled_starts m.until 0 m.starts ++ events_sent m (beginning m) n)
run_apart m n is = keys_apart (scheduled_starts m.until 0 m.starts ++ events_sent m (beginning m) n) (run_numbers_apart m n is)

-- the numbers of a source rise in a run
pub numbers_kept : (m : ModelData) (w : Simulation) (n src : ℕ) → IsModel m → IsSimulation m w → next_number m w.states src ≤ next_number m (after_events m w n).states src
unfolding after_events
numbers_kept m w zero src is known = omega arith
numbers_kept m w (suc n) src is known =
    let v : Simulation = run_next m w in
    let next : IsSimulation m v = simulation_step m w.states w.pending w.log is known in
    let first = numbers_rise m w.states w.pending w.log src known.many known.events in
    let later = numbers_kept m v n src is next in
    omega arith

-- what was sent has numbers that its sources have given
pub sent_passed : (m : ModelData) (w : Simulation) (n : ℕ) → IsModel m → IsSimulation m w
    → AllByRecursion (λ (f : Event). f.seq < next_number m (after_events m w n).states f.src) (events_sent m w n)
unfolding after_events events_sent
sent_passed m w zero is known = tt
sent_passed m w (suc n) is known =
    let v : Simulation = run_next m w in
    let next : IsSimulation m v = simulation_step m w.states w.pending w.log is known in
    All-join (λ (f : Event). f.seq < next_number m (after_events m v n).states f.src) (first_sends m w.states w.pending) (events_sent m v n)
    (All-weaker (λ (f : Event). f.seq < next_number m v.states f.src) (λ (f : Event). f.seq < next_number m (after_events m v n).states f.src)
    (λ f h. (let kept = numbers_kept m v n f.src is next in omega arith)) (first_sends m w.states w.pending) (first_passed m w.states w.pending w.log is known.many known.events))
    (sent_passed m v n is next)
