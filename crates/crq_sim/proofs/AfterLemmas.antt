-- A simulation after more events.
use Rattle.std.proofs.Common.{◌≡◌, ℕ, zero, suc, ◌+◌, List, [], refl, arith, ap, ◌∙◌}
use Rattle.crq_base.specs.declared.event.Event.{Event}
use Rattle.crq_sim.specs.declared.reaction.ObjectState.{ObjectState}
use Rattle.crq_sim.specs.declared.traces.Step.{Step}
use Rattle.crq_sim.specs.Models.{ModelData}
use Rattle.crq_sim.specs.Runs.{Simulation, run_first, run_next, after_events}

pub after_more : (m : ModelData) (w : Simulation) (n k : ℕ) → after_events m w (n + k) ≡ after_events m (after_events m w n) k
unfolding after_events
after_more m w zero k = ap (after_events m w) (let z : 0 + k ≡ k = omega arith in z)
after_more m w (suc n) k = ap (after_events m w) (let z : suc n + k ≡ suc (n + k) = omega arith in z) ∙ after_more m (run_next m w) n k

pub after_one : (m : ModelData) (w : Simulation) (n : ℕ) → after_events m w (n + 1) ≡ run_next m (after_events m w n)
unfolding after_events
after_one m w n = after_more m w n 1

empty_kept : (m : ModelData) (states : List ObjectState) (pending : List Event) (log : List Step) → pending ≡ [] → run_first m states pending log ≡ (record { states = states; pending = pending; log = log })
unfolding run_first
empty_kept m states pending log h = rw h refl

-- where nothing is pending nothing changes
pub kept_all : (m : ModelData) (w : Simulation) (n : ℕ) → w.pending ≡ [] → after_events m w n ≡ w
unfolding after_events
kept_all m w zero h = refl
kept_all m w (suc n) h = ap (λ v. after_events m v n) (empty_kept m w.states w.pending w.log h) ∙ kept_all m w n h

pub kept : (m : ModelData) (w : Simulation) (n k : ℕ) → (after_events m w n).pending ≡ [] → after_events m w (n + k) ≡ after_events m w n
kept m w n k h = after_more m w n k ∙ kept_all m (after_events m w n) k h

-- so events that are pending later were preceded by others
pub some_before : (m : ModelData) (w : Simulation) (n k : ℕ) → ((after_events m w (n + k)).pending ≡ [] → ⊥) → (after_events m w n).pending ≡ [] → ⊥
some_before m w n k some none = some (ap (λ (v : Simulation). v.pending) (kept m w n k none) ∙ none)
