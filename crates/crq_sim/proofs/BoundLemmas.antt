-- How many events a run sends, what each source's numbers are, and where a run's parts join.
use Rattle.std.proofs.Common.{◌≡◌, ℕ, zero, suc, ◌+◌, ◌*◌, ◌<◌, ◌≤◌, List, [], ◌∷◌, ◌++◌, length, refl, arith, ap, sym, ◌∙◌, Contains}
use Rattle.std.specs.List.{AllByRecursion}
use Rattle.std.proofs.lemmas.Bool.Decides.{leb_tells}
use Rattle.std.proofs.Common.{inl, inr}
use Rattle.std.proofs.lemmas.List.{length-append, append_assoc}
use Rattle.crq_base.specs.declared.event.Event.{Event}
use Rattle.crq_sim.specs.declared.model.Start.{Start}
use Rattle.crq_sim.specs.declared.reaction.ObjectState.{ObjectState}
use Rattle.crq_sim.specs.Models.{ModelData, IsModel}
use Rattle.crq_sim.specs.Runs.{Simulation, state_of, run_next, after_events, first_sends, events_sent, scheduled_starts, simulation_at}
use Rattle.crq_sim.specs.Simulations.{next_number, IsDue, IsSimulation}
use Rattle.crq_sim.proofs.EventListLemmas.{All-weaker}
use Rattle.crq_sim.proofs.KeyLemmas.{IsNumbered, sent_numbered, sent_passed}
use Rattle.crq_sim.proofs.OrderLemmas.{All-at}
use Rattle.crq_sim.proofs.Sound.{few_sends, simulation_step, sound}

-- what is sent at one event
first_few : (m : ModelData) (states : List ObjectState) (pending : List Event) → IsModel m → AllByRecursion (IsDue m states) pending → length (first_sends m states pending) ≤ 4
first_few m states [] is all = omega arith
first_few m states (e ∷ es) is all = few_sends m e.dst (state_of states e.dst) e is all.0.there

-- and at so many
pub few_sent : (m : ModelData) (w : Simulation) (n : ℕ) → IsModel m → IsSimulation m w → length (events_sent m w n) ≤ 4 * n
unfolding events_sent
few_sent m w zero is known = omega arith
few_sent m w (suc n) is known =
    let v : Simulation = run_next m w in
    let first = first_few m w.states w.pending is known.events in
    let later = few_sent m v n is (simulation_step m w.states w.pending w.log is known) in
    let both = length-append (first_sends m w.states w.pending) (events_sent m v n) in
    omega arith

-- what is sent in a run is what is sent in its parts
pub sent_more : (m : ModelData) (w : Simulation) (n k : ℕ) → events_sent m w (n + k) ≡ events_sent m w n ++ events_sent m (after_events m w n) k
unfolding after_events events_sent
sent_more m w zero k = ap (events_sent m w) (let z : 0 + k ≡ k = omega arith in z)
sent_more m w (suc n) k =
    ap (events_sent m w) (let z : suc n + k ≡ suc (n + k) = omega arith in z)
    ∙ ap (λ es. first_sends m w.states w.pending ++ es) (sent_more m (run_next m w) n k)
    ∙ sym (append_assoc (first_sends m w.states w.pending) (events_sent m (run_next m w) n) (events_sent m (after_events m (run_next m w) n) k))

-- an event that is sent is one that its source hadn't sent before
pub sent_fresh : (m : ModelData) (w : Simulation) (n : ℕ) (e : Event) → IsModel m → IsSimulation m w → Contains (events_sent m w n) e
    → (0 < e.src) × (next_number m w.states e.src ≤ e.seq) × (e.seq < next_number m (after_events m w n).states e.src)
sent_fresh m w n e is known at =
    let numbered = All-at (IsNumbered m w.states) (events_sent m w n) e (sent_numbered m w n is known) at in
    let passed = All-at (λ (f : Event). f.seq < next_number m (after_events m w n).states f.src) (events_sent m w n) e (sent_passed m w n is known) at in
    (numbered.0, numbered.1, passed)

-- the starts are numbered from n on
starts_within : (until n : ℕ) (ss : List Start) → AllByRecursion (λ (f : Event). (f.src ≡ 0) × (f.seq < n + length ss)) (scheduled_starts until n ss)
unfolding scheduled_starts
starts_within until n [] = tt
starts_within until n (s ∷ ss) =
    elim (leb_tells s.time until) [
      | inl at ↦ rw at.0 (
        (refl, omega arith),
        All-weaker (λ (f : Event). (f.src ≡ 0) × (f.seq < n + 1 + length ss)) (λ (f : Event). (f.src ≡ 0) × (f.seq < n + length (s ∷ ss))) (λ f h. (h.0, (let a = h.1 in omega arith)))
            (scheduled_starts until (n + 1) ss) (starts_within until (n + 1) ss),
      )
      | inr past ↦ rw past.0 (
          All-weaker (λ (f : Event). (f.src ≡ 0) × (f.seq < n + length ss)) (λ (f : Event). (f.src ≡ 0) × (f.seq < n + length (s ∷ ss))) (λ f h. (h.0, (let a = h.1 in omega arith)))
          (scheduled_starts until n ss) (starts_within until n ss))
    ]

pub start_numbers : (m : ModelData) (e : Event) → Contains (scheduled_starts m.until 0 m.starts) e → (e.src ≡ 0) × (e.seq < length m.starts)
start_numbers m e at =
    let number = All-at (λ (f : Event). (f.src ≡ 0) × (f.seq < 0 + length m.starts)) (scheduled_starts m.until 0 m.starts) e (starts_within m.until 0 m.starts) at in
    (number.0, (let a = number.1 in omega arith))

pub few_starts : (until n : ℕ) (ss : List Start) → length (scheduled_starts until n ss) ≤ length ss
unfolding scheduled_starts
few_starts until n [] = omega arith
few_starts until n (s ∷ ss) =
    elim (leb_tells s.time until) [
      | inl at ↦ rw at.0 (let later = few_starts until (n + 1) ss in omega arith)
      | inr past ↦ rw past.0 (let later = few_starts until n ss in omega arith)
    ]

pub state_bounds : (m : ModelData) (n o : ℕ) → IsModel m → ((state_of (simulation_at m n).states o).count ≤ n) × ((state_of (simulation_at m n).states o).sent ≤ 4 * n)
state_bounds m n o is = let known = sound m n is in (known.counts o, known.sents o)
