-- The windows of the worked examples.
use Rattle.std.proofs.Common.{◌≡◌, ℕ, zero, suc, ◌<◌, ◌≤◌, [], length, refl, arith, subst}
use Rattle.crq_sim.specs.Examples.{relay_pair, three_starts}
use Rattle.crq_sim.specs.Models.{ModelData}
use Rattle.crq_sim.specs.Reactions.{reaction_of, scheduled}
use Rattle.crq_sim.specs.Runs.{Simulation, run_first, after_events, scheduled_starts, beginning, simulation_at}
use Rattle.crq_sim.specs.Windows.{IsNextBelow, edge_of, EndsWindow, IsWindowEnd, IsWindow, window_of, IsPeak, HasFewRows, Stop, Rows, IsStop}
use Rattle.crq_sim.proofs.WindowFacts.{peak_begins, peak_next, never_stops}

-- a window of one event, and of two
one_event : (m : ModelData) (w : Simulation) → IsNextBelow (edge_of m.lookahead w.pending) w.pending → (IsNextBelow (edge_of m.lookahead w.pending) (after_events m w 1).pending → ⊥) → EndsWindow m w 1
unfolding after_events
one_event m w here past = (omega arith, (λ k lt. subst (λ (z : ℕ). IsNextBelow (edge_of m.lookahead w.pending) (after_events m w z).pending) (let z : 0 ≡ k = omega arith in z) here), past)

two_below : (m : ModelData) (w : Simulation) → IsNextBelow (edge_of m.lookahead w.pending) w.pending → IsNextBelow (edge_of m.lookahead w.pending) (after_events m w 1).pending → (k : ℕ) → k < 2
    → IsNextBelow (edge_of m.lookahead w.pending) (after_events m w k).pending
unfolding after_events
two_below m w here next zero lt = here
two_below m w here next (suc k) lt = subst (λ (z : ℕ). IsNextBelow (edge_of m.lookahead w.pending) (after_events m w z).pending) (let z : 1 ≡ suc k = omega arith in z) next

two_events : (m : ModelData) (w : Simulation) → IsNextBelow (edge_of m.lookahead w.pending) w.pending → IsNextBelow (edge_of m.lookahead w.pending) (after_events m w 1).pending
    → (IsNextBelow (edge_of m.lookahead w.pending) (after_events m w 2).pending → ⊥) → EndsWindow m w 2
two_events m w here next past = (omega arith, two_below m w here next, past)

pub pair_first : EndsWindow relay_pair (simulation_at relay_pair 0) 1
unfolding reaction_of scheduled run_first after_events scheduled_starts
pair_first = one_event relay_pair (simulation_at relay_pair 0) (let lt : 0 < 5 = omega arith in lt) (λ h. (let lt : 5 < 5 = h in omega arith))

pub pair_second : EndsWindow relay_pair (simulation_at relay_pair 1) 1
unfolding reaction_of scheduled run_first after_events scheduled_starts
pair_second = one_event relay_pair (simulation_at relay_pair 1) (let lt : 5 < 10 = omega arith in lt) (λ h. (let lt : 12 < 10 = h in omega arith))

pub pair_third : EndsWindow relay_pair (simulation_at relay_pair 2) 1
unfolding reaction_of scheduled run_first after_events scheduled_starts
pair_third = one_event relay_pair (simulation_at relay_pair 2) (let lt : 12 < 17 = omega arith in lt) (λ h. h)

pub pair_ends : IsWindowEnd relay_pair (beginning relay_pair) 3 3
pair_ends = (2, 1, (1, 1, (0, 1, refl, pair_first, refl), pair_second, refl), pair_third, refl)

pub pair_over : (simulation_at relay_pair 3).pending ≡ []
unfolding reaction_of scheduled run_first after_events scheduled_starts
pair_over = refl

pub pair_pending : (length (simulation_at relay_pair 0).pending ≡ 1) × (length (simulation_at relay_pair 1).pending ≡ 1) × (length (simulation_at relay_pair 2).pending ≡ 1) × (length (simulation_at relay_pair 3).pending ≡ 0)
unfolding reaction_of scheduled run_first after_events scheduled_starts
pair_pending = (refl, refl, refl, refl)

pub pair_peak : IsPeak relay_pair (beginning relay_pair) 3 1
unfolding reaction_of scheduled run_first after_events scheduled_starts
pair_peak =
    let w : Simulation = beginning relay_pair in
    let one : IsWindow relay_pair w 1 (window_of relay_pair (simulation_at relay_pair 0) 1) = (0, 1, refl, pair_first, refl) in
    let two : IsWindow relay_pair w 2 (window_of relay_pair (simulation_at relay_pair 1) 1) = (1, 1, (0, 1, refl, pair_first, refl), pair_second, refl) in
    let three : IsWindow relay_pair w 3 (window_of relay_pair (simulation_at relay_pair 2) 1) = (2, 1, (1, 1, (0, 1, refl, pair_first, refl), pair_second, refl), pair_third, refl) in
    peak_next relay_pair w 2 _ _ (peak_next relay_pair w 1 _ _ (peak_next relay_pair w 0 _ _ (peak_begins relay_pair w) one) two) three

pub three_first : EndsWindow three_starts (simulation_at three_starts 0) 2
unfolding reaction_of scheduled run_first after_events scheduled_starts
three_first = two_events three_starts (simulation_at three_starts 0) (let lt : 0 < 5 = omega arith in lt) (let lt : 4 < 5 = omega arith in lt) (λ h. (let lt : 5 < 5 = h in omega arith))

pub three_second : EndsWindow three_starts (simulation_at three_starts 2) 1
unfolding reaction_of scheduled run_first after_events scheduled_starts
three_second = one_event three_starts (simulation_at three_starts 2) (let lt : 5 < 10 = omega arith in lt) (λ h. h)

pub three_ends : IsWindowEnd three_starts (beginning three_starts) 1 2 × IsWindowEnd three_starts (beginning three_starts) 2 3
three_ends = ((0, 2, refl, three_first, refl), (2, 1, (0, 2, refl, three_first, refl), three_second, refl))

pub three_peak : IsPeak three_starts (beginning three_starts) 2 3
unfolding reaction_of scheduled run_first after_events scheduled_starts
three_peak =
    let w : Simulation = beginning three_starts in
    let one : IsWindow three_starts w 1 (window_of three_starts (simulation_at three_starts 0) 2) = (0, 2, refl, three_first, refl) in
    let two : IsWindow three_starts w 2 (window_of three_starts (simulation_at three_starts 2) 1) = (2, 1, (0, 2, refl, three_first, refl), three_second, refl) in
    peak_next three_starts w 1 _ _ (peak_next three_starts w 0 _ _ (peak_begins three_starts w) one) two

-- with seven rows the starts are too many
pub three_stop : IsStop three_starts (beginning three_starts) 100 7 (Rows 0 3)
unfolding scheduled_starts
three_stop = (
  (record { events = []; sends = (beginning three_starts).pending; pending = 3 }, refl, refl, omega arith),
  (λ j le h. (let none : h.0 ≡ 0 = subst (λ (z : ℕ). IsWindowEnd three_starts (beginning three_starts) z h.0) (let z : j ≡ 0 = omega arith in z) h.1 in let more = h.2 in omega arith)),
  (λ j q lt h. (let some : j < 0 = lt in omega arith)),
)

-- with eight the run goes to its end
enough_rows : (j : ℕ) (p : ℕ) → j ≤ 2 → HasFewRows three_starts (beginning three_starts) 8 j p → ⊥
enough_rows j p le h = (let most = three_peak.most j h.0 le h.1 in let same = h.2 in let few = h.3 in omega arith)

pub three_goes : (s : Stop) → IsStop three_starts (beginning three_starts) 100 8 s → ⊥
unfolding reaction_of scheduled run_first after_events scheduled_starts
three_goes = never_stops three_starts (beginning three_starts) 100 8 2 3 three_ends.1 refl (omega arith) enough_rows
