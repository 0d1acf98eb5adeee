-- The variables of a run, and its steps.
use Rattle.std.proofs.Common.{◌≡◌, ℕ, suc, ◌+◌, ◌-◌, ◌*◌, ◌≤◌, List, [], ◌∷◌, ◌++◌, length, get_or, set, arith, ap, sym, ◌∙◌, subst, zero, All}
use Rattle.std.proofs.lemmas.List.{get_or_read}
use Rattle.std.proofs.lemmas.List.Elements.{All-from_recursion}
use Rattle.std.specs.List.{AllByRecursion}
use Rattle.crq_base.specs.declared.event.Event.{Event}
use Rattle.crq_sim.specs.declared.reaction.ObjectState.{ObjectState}
use Rattle.crq_sim.specs.declared.run.Run.{Run}
use Rattle.crq_sim.specs.declared.traces.ObjectTrace.{ObjectTrace}
use Rattle.crq_sim.specs.declared.traces.Step.{Step}
use Rattle.crq_sim.specs.EventLists.{with_events, without_events, IsHead}
use Rattle.crq_sim.specs.Models.{ModelData, IsModel, IsObject}
use Rattle.crq_sim.specs.Reactions.{behaviour_at, sends_of, state_after, IsWordOf}
use Rattle.crq_sim.specs.Runs.{Simulation, state_of, step_of, run_first, run_next, after_events, beginning, simulation_at, traces_of, IsOverWithin, traces_within}
use Rattle.crq_sim.specs.Simulations.{IsDue, IsSimulation}
use Rattle.crq_sim.specs.Shown.{Shows, IsNext}
use Rattle.crq_sim.proofs.AfterLemmas.{after_one, kept}
use Rattle.crq_sim.proofs.Sound.{sound, begins, simulation_step, nothing_withdrawn, no_state}

-- what is known of a run whose least pending event was taken
pub record Known (m : ModelData) (r : Run) (e : Event) : Type 0 where
  pub all_states : length r.states.items ≡ length m.objects
  pub due : IsDue m r.states.items e
  pub count : (state_of r.states.items e.dst).count ≤ r.made
  pub sent : (state_of r.states.items e.dst).sent ≤ 4 * r.made
  pub word : IsWordOf (behaviour_at m e.dst) (state_of r.states.items e.dst).word
  pub others : AllByRecursion (IsDue m r.states.items) r.pending

pub next_known : (m : ModelData) (r : Run) (e : Event) → IsModel m → IsNext m r e → Known m r e
next_known m r e is h =
    let w : Simulation = simulation_at m r.made in
    let all = sound m r.made is in
    let events : AllByRecursion (IsDue m w.states) (e ∷ r.pending) = subst (λ (es : List Event). AllByRecursion (IsDue m w.states) es) h.pending all.simulation.events in
    let mine : AllByRecursion (IsDue m r.states.items) (e ∷ r.pending) = subst (λ (xs : List ObjectState). AllByRecursion (IsDue m xs) (e ∷ r.pending)) (sym h.states) events in
    record {
      all_states = ap length h.states ∙ all.simulation.many;
      due = mine.0;
      count = (let k = all.counts e.dst in rw h.states k);
      sent = (let k = all.sents e.dst in rw h.states k);
      word = subst (λ (xs : List ObjectState). IsWordOf (behaviour_at m e.dst) (state_of xs e.dst).word) (sym h.states) (all.simulation.words e.dst events.0.there);
      others = mine.1;
    }

pub state_read : (m : ModelData) (r : Run) (e : Event) → Known m r e → (x : ObjectState) → x ≡ get_or r.states.items (e.dst - 1) x → x ≡ state_of r.states.items e.dst
state_read m r e k x h = get_or_read r.states.items (e.dst - 1) x (let a = k.all_states in let b = k.due.there in omega arith) h no_state

run_first_at : (m : ModelData) (states : List ObjectState) (pending rest : List Event) (log : List Step) (e : Event) → pending ≡ e ∷ rest
    → run_first m states pending log ≡ (record {
      states = set states (e.dst - 1) (state_after m e.dst (state_of states e.dst) e);
      pending = with_events (sends_of m e.dst (state_of states e.dst) e) rest;
      log = log ++ step_of e (state_after m e.dst (state_of states e.dst) e) ∷ [];
    })
unfolding run_first
run_first_at m states pending rest log e h =
    let s : ObjectState = state_of states e.dst in
    rw h (ap (λ (gone : List Event). record {
      states = set states (e.dst - 1) (state_after m e.dst s e);
      pending = with_events (sends_of m e.dst s e) (without_events gone rest);
      log = log ++ step_of e (state_after m e.dst s e) ∷ [];
    }) (nothing_withdrawn m e.dst s e))

-- what the variables hold after the event was run
pub record Ran (m : ModelData) (r : Run) (e : Event) (s : ObjectState) (states : List ObjectState) (pending : List Event) (log : List Step) : Type 0 where
  pub state : s ≡ state_after m e.dst (state_of r.states.items e.dst) e
  pub states_are : states ≡ set r.states.items (e.dst - 1) s
  pub pending_is : pending ≡ with_events (sends_of m e.dst (state_of r.states.items e.dst) e) r.pending
  pub log_is : log ≡ r.log.items ++ step_of e s ∷ []

pub ran_shows : (m : ModelData) (r r' : Run) (e : Event) (s : ObjectState) → IsModel m → IsNext m r e → Ran m r e s r'.states.items r'.pending r'.log.items → r'.made ≡ r.made + 1 → Shows m r'
ran_shows m r r' e s is h ran made =
    let w : Simulation = simulation_at m r.made in
    let known = next_known m r e is h in
    let there = known.due.there in
    let now : simulation_at m r'.made ≡ run_next m w = ap (simulation_at m) made ∙ after_one m (beginning m) r.made in
    let next = now ∙ run_first_at m w.states w.pending r.pending w.log e h.pending in
    let here : state_of r.states.items e.dst ≡ state_of w.states e.dst = ap (λ (xs : List ObjectState). state_of xs e.dst) h.states in
    let step : Step = step_of e s in
    let s_is : s ≡ state_after m e.dst (state_of w.states e.dst) e = ran.state ∙ ap (λ x. state_after m e.dst x e) here in
    let step_is : step ≡ step_of e (state_after m e.dst (state_of w.states e.dst) e) = ap (step_of e) s_is in
    record {
      states = ran.states_are ∙ ap (λ (xs : List ObjectState). set xs (e.dst - 1) s) h.states ∙ ap (λ (x : ObjectState). set w.states (e.dst - 1) x) s_is ∙ sym (ap (λ (x : Simulation). x.states) next);
      pending = ran.pending_is ∙ ap (λ (x : ObjectState). with_events (sends_of m e.dst x e) r.pending) here ∙ sym (ap (λ (x : Simulation). x.pending) next);
      log = ran.log_is ∙ ap (λ (xs : List Step). xs ++ step ∷ []) h.log ∙ ap (λ (x : Step). w.log ++ x ∷ []) step_is ∙ sym (ap (λ (x : Simulation). x.log) next);
    }

-- each step was made at one of the objects
All-push : (P : Step → Type 0) (xs : List Step) (x : Step) → AllByRecursion P xs → P x → AllByRecursion P (xs ++ x ∷ [])
All-push P [] x all p = (p, tt)
All-push P (y ∷ ys) x all p = (all.0, All-push P ys x all.1 p)

step_there : (m : ModelData) (states : List ObjectState) (pending : List Event) (log : List Step) → AllByRecursion (IsDue m states) pending
    → AllByRecursion (λ (s : Step). IsObject (length m.objects) s.event.dst) log → AllByRecursion (λ (s : Step). IsObject (length m.objects) s.event.dst) (run_first m states pending log).log
unfolding run_first
step_there m states [] log due all = all
step_there m states (e ∷ es) log due all = All-push (λ (s : Step). IsObject (length m.objects) s.event.dst) log (step_of e (state_after m e.dst (state_of states e.dst) e)) all due.0.there

steps_there : (m : ModelData) (w : Simulation) (n : ℕ) → IsModel m → IsSimulation m w → AllByRecursion (λ (s : Step). IsObject (length m.objects) s.event.dst) w.log
    → AllByRecursion (λ (s : Step). IsObject (length m.objects) s.event.dst) (after_events m w n).log
unfolding after_events
steps_there m w zero is h all = all
steps_there m w (suc n) is h all =
    let next : IsSimulation m (run_next m w) = simulation_step m w.states w.pending w.log is h in
    steps_there m (run_next m w) n is next (step_there m w.states w.pending w.log h.events all)

pub log_there : (m : ModelData) (r : Run) → IsModel m → Shows m r → All (λ (s : Step). IsObject (length m.objects) s.event.dst) r.log.items
log_there m r is h =
    subst (λ (xs : List Step). All (λ (s : Step). IsObject (length m.objects) s.event.dst) xs) (sym h.log)
    (All-from_recursion (λ (s : Step). IsObject (length m.objects) s.event.dst) (simulation_at m r.made).log (steps_there m (beginning m) r.made is (begins m is) tt))

-- where nothing is pending the run is over, and stays so up to the cap
pub over_within : (m : ModelData) (made cap : ℕ) (traces : List ObjectTrace) → made ≤ cap → (simulation_at m made).pending ≡ [] → traces ≡ traces_of m.objects (simulation_at m made).log
    → IsOverWithin m cap × (traces ≡ traces_within m cap)
over_within m made cap traces le none is =
    let all : made + (cap - made) ≡ cap = omega arith in
    let same : simulation_at m cap ≡ simulation_at m made = ap (simulation_at m) (sym all) ∙ kept m (beginning m) made (cap - made) none in
    (ap (λ (w : Simulation). w.pending) same ∙ none, is ∙ ap (λ (w : Simulation). traces_of m.objects w.log) (sym same))

not_over : (e : Event) (pending : List Event) → IsHead e pending → pending ≡ [] → ⊥
not_over e pending first none = subst (IsHead e) none first

-- where an event is pending after as many events as the cap allows, the run has more
pub more_than : (m : ModelData) (cap : ℕ) (pending : List Event) (e : Event) → pending ≡ (simulation_at m cap).pending → IsHead e pending → IsOverWithin m cap → ⊥
more_than m cap pending e is first none = not_over e pending first (is ∙ none)
