-- What is known of each simulation of a model.
use Rattle.std.proofs.Common.{◌≡◌, ◌⊎◌, ℕ, zero, suc, ◌+◌, ◌-◌, ◌*◌, ◌%◌, ◌^◌, ◌<◌, ◌≤◌, List, [], ◌∷◌, length, map, get_or, set, cond, true, false, nat_eq, refl, arith, ap, sym, ◌∙◌, subst, inl, inr, get_or-set_same, get_or-set_other}
use Rattle.std.proofs.lemmas.Bool.{cases_eq}
use Rattle.std.proofs.lemmas.Bool.Decides.{nat_tests, leb_tells}
use Rattle.std.proofs.lemmas.List.{length-set, length-map}
use Rattle.std.proofs.lemmas.List.Elements.{recursion_from_All}
use Rattle.std.specs.List.{AllByRecursion}
use Rattle.crq_base.specs.declared.event.Event.{Event}
use Rattle.crq_sim.specs.declared.model.Behaviour.{Behaviour}
use Rattle.crq_sim.specs.declared.model.Behaviour.TheVariants.{Relay, Phold, Station, Fan, Sink}
use Rattle.crq_sim.specs.declared.model.Object.{Object}
use Rattle.crq_sim.specs.declared.model.Start.{Start}
use Rattle.crq_sim.specs.declared.reaction.ObjectState.{ObjectState}
use Rattle.crq_sim.specs.declared.sends.Post.{Post}
use Rattle.crq_sim.specs.declared.traces.Step.{Step}
use Rattle.crq_sim.specs.Draws.{drawn}
use Rattle.crq_sim.specs.EventLists.{with_event, without_events}
use Rattle.crq_sim.specs.Models.{ModelData, IsModel, IsObject, IsBehaviour}
use Rattle.crq_sim.specs.Reactions.{behaviour_at, first_word, first_state, action_of, scheduled, reaction_of, sends_of, state_after, withdrawn_by, IsWordOf}
use Rattle.crq_sim.specs.Runs.{Simulation, state_of, run_first, run_next, scheduled_starts, first_states, beginning, after_events, simulation_at}
use Rattle.crq_sim.specs.Simulations.{next_number, IsDue, IsSimulation}
use Rattle.crq_sim.proofs.EventListLemmas.{AreAbsent, absent, All-with_event, All-with_events, All-without_events, All-weaker, in_order-with_events, in_order-without_events}
use Rattle.crq_sim.proofs.ScheduleLemmas.{scheduled_due, scheduled_past, scheduled_none, length-scheduled}
use Rattle.crq_sim.proofs.StartLemmas.{starts_in_order}

abbrev pub no_state : ObjectState
no_state = record { count = 0; word = 0; sent = 0 }

-- a simulation of a run with so many events so far
pub record IsSound (m : ModelData) (n : ℕ) (w : Simulation) : Type 0 where
  pub simulation : IsSimulation m w
  pub counts : (o : ℕ) → (state_of w.states o).count ≤ n
  pub sents : (o : ℕ) → (state_of w.states o).sent ≤ 4 * n

-- an event that object o sends at an event, having sent as many before; n in all
pub record IsSend (m : ModelData) (o sent n : ℕ) (e f : Event) : Type 0 where
  pub time : f.time ≤ m.until
  pub later : e.time + m.lookahead ≤ f.time
  pub there : IsObject (length m.objects) f.dst
  pub source : f.src ≡ o
  pub from : sent ≤ f.seq
  pub below : f.seq < sent + n

-- what an object would send, where it is due by the end
pub record IsPost (m : ModelData) (e : Event) (p : Post) : Type 0 where
  pub there : IsObject (length m.objects) p.dst
  pub later : p.time ≤ m.until → e.time + m.lookahead ≤ p.time

word_kept : (m : ModelData) (b : Behaviour) (s : ObjectState) (e : Event) → IsWordOf b (action_of m b s e).word
word_kept m (Relay delay next) s e = tt
word_kept m (Phold seed spread) s e = tt
word_kept m (Station service next) s e = omega arith
word_kept m (Fan delay targets) s e = tt
word_kept m Sink s e = tt

first_kept : (b : Behaviour) → IsWordOf b (first_word b)
first_kept (Relay delay next) = tt
first_kept (Phold seed spread) = tt
first_kept (Station service next) = omega arith
first_kept (Fan delay targets) = tt
first_kept Sink = tt

fan_posts : (m : ModelData) (e : Event) (delay : ℕ) (targets : List ℕ) → m.lookahead ≤ delay → AllByRecursion (IsObject (length m.objects)) targets
    → AllByRecursion (IsPost m e) (map (λ target. record { time = e.time + delay; dst = target; load = e.load }) targets)
fan_posts m e delay [] le all = tt
fan_posts m e delay (t ∷ ts) le all = (record { there = all.0; later = (λ _. omega arith) }, fan_posts m e delay ts le all.1)

drawn_there : (n d : ℕ) → 0 < n → IsObject n (1 + d % n)
drawn_there n d some = (let lt : d % n < n = omega arith in omega arith, let lt : d % n < n = omega arith in omega arith)

posts_known : (m : ModelData) (b : Behaviour) (s : ObjectState) (e : Event) → m.until < 2 ^ 32 → 0 < length m.objects → IsBehaviour m.lookahead (length m.objects) b
    → AllByRecursion (IsPost m e) (action_of m b s e).posts
posts_known m (Relay delay next) s e within some is = (record { there = is.1; later = (λ _. (let d = is.0 in omega arith)) }, tt)
posts_known m (Phold seed spread) s e within some is = (record { there = drawn_there (length m.objects) (drawn s.word) some; later = (λ _. omega arith) }, tt)
posts_known m (Station service next) s e within some is = (record { there = is.1; later = (λ due. (let d = is.0 in omega arith)) }, tt)
posts_known m (Fan delay targets) s e within some is = fan_posts m e delay targets is.0 (recursion_from_All (IsObject (length m.objects)) targets is.3)
posts_known m Sink s e within some is = tt

scheduled_known : (m : ModelData) (o sent : ℕ) (e : Event) (ps : List Post) → AllByRecursion (IsPost m e) ps
    → AllByRecursion (IsSend m o sent (length (scheduled m.until o sent ps)) e) (scheduled m.until o sent ps)
scheduled_known m o sent e [] all = rw (scheduled_none m.until o sent) tt
scheduled_known m o sent e (p ∷ ps) all =
    elim (leb_tells p.time m.until) [
      | inl at ↦ (let rest : List Event = scheduled m.until o (sent + 1) ps in
          rw (scheduled_due m.until o sent p ps at.1) (
            record { time = at.1; later = all.0.later at.1; there = all.0.there; source = refl; from = omega arith; below = omega arith },
            All-weaker (IsSend m o (sent + 1) (length rest) e) (IsSend m o sent (suc (length rest)) e)
                (λ f h. record { time = h.time; later = h.later; there = h.there; source = h.source; from = (let k = h.from in omega arith); below = (let k = h.below in omega arith) })
                rest (scheduled_known m o (sent + 1) e ps all.1),
          ))
      | inr past ↦ rw (scheduled_past m.until o sent p ps past.1) (scheduled_known m o sent e ps all.1)
    ]

behaviour_known : (m : ModelData) (o : ℕ) → IsModel m → IsObject (length m.objects) o → IsBehaviour m.lookahead (length m.objects) (behaviour_at m o)
behaviour_known m o is there = is.behaviours (o - 1) (record { name = []; behaviour = Sink }) (omega arith)

-- what an object sends
pub sends_known : (m : ModelData) (o : ℕ) (s : ObjectState) (e : Event) → IsModel m → IsObject (length m.objects) o
    → AllByRecursion (IsSend m o s.sent (length (sends_of m o s e)) e) (sends_of m o s e)
unfolding reaction_of
sends_known m o s e is there = scheduled_known m o s.sent e _ (posts_known m (behaviour_at m o) s e is.within (omega arith) (behaviour_known m o is there))

few_posts : (m : ModelData) (b : Behaviour) (s : ObjectState) (e : Event) → IsBehaviour m.lookahead (length m.objects) b → length (action_of m b s e).posts ≤ 4
few_posts m (Relay delay next) s e is = omega arith
few_posts m (Phold seed spread) s e is = omega arith
few_posts m (Station service next) s e is = omega arith
few_posts m (Fan delay targets) s e is =
    (let post : ℕ → Post = λ target. record { time = e.time + delay; dst = target; load = e.load } in let k = length-map targets post in let few = is.2 in omega arith)
few_posts m Sink s e is = omega arith

-- at most four events
pub few_sends : (m : ModelData) (o : ℕ) (s : ObjectState) (e : Event) → IsModel m → IsObject (length m.objects) o → length (sends_of m o s e) ≤ 4
unfolding reaction_of
few_sends m o s e is there =
    let a = few_posts m (behaviour_at m o) s e (behaviour_known m o is there) in
    let b = length-scheduled m.until o s.sent (action_of m (behaviour_at m o) s e).posts in
    omega arith

-- a state after one of them changed: the new one there, and the old one elsewhere
after_set : (states : List ObjectState) (i j : ℕ) (s : ObjectState) → i < length states
    → ((j ≡ i) × (get_or (set states i s) j no_state ≡ s)) ⊎ (get_or (set states i s) j no_state ≡ get_or states j no_state)
after_set states i j s h =
    elim (cases_eq j i) [
      | inl same ↦ inl (same, (rw same (get_or-set_same states i s no_state h)))
      | inr other ↦ inr (get_or-set_other states i j s no_state other)
    ]

-- the numbers rise
pub more_sent : (m : ModelData) (states : List ObjectState) (i : ℕ) (s : ObjectState) (src : ℕ) → i < length states → (get_or states i no_state).sent ≤ s.sent → next_number m states src ≤ next_number m (set states i s) src
more_sent m states i s src h le =
    elim (nat_eq src 0) as (λ b. cond b (length m.starts) (state_of states src).sent ≤ cond b (length m.starts) (state_of (set states i s) src).sent) [
      | true ↦ omega arith
      | false ↦ elim (after_set states i (src - 1) s h) [
        | inl new ↦ (let a : get_or states (src - 1) no_state ≡ get_or states i no_state = ap (λ k. get_or states k no_state) new.0 in rw (new.1, a) le)
        | inr old ↦ rw old (omega arith)
      ]
    ]

-- the next number of the object that was changed
pub next_here : (m : ModelData) (states : List ObjectState) (o : ℕ) (s : ObjectState) → 0 < o → o ≤ length states → next_number m (set states (o - 1) s) o ≡ s.sent
next_here m states o s po le =
    let not_file : nat_eq o 0 ≡ false = grind (arith, nat_tests) in
    let inside : o - 1 < length states = omega arith in
    rw not_file (ap (λ (x : ObjectState). x.sent) (get_or-set_same states (o - 1) s no_state inside))

-- the state after an event
after_word : (m : ModelData) (o : ℕ) (s : ObjectState) (e : Event) → (state_after m o s e).word ≡ (action_of m (behaviour_at m o) s e).word
unfolding reaction_of
after_word m o s e = refl

pub after_sent : (m : ModelData) (o : ℕ) (s : ObjectState) (e : Event) → (state_after m o s e).sent ≡ s.sent + length (sends_of m o s e)
unfolding reaction_of
after_sent m o s e = refl

pub after_count : (m : ModelData) (o : ℕ) (s : ObjectState) (e : Event) → (state_after m o s e).count ≡ s.count + 1
unfolding reaction_of
after_count m o s e = refl

-- it has a word of its behaviour
pub word_after : (m : ModelData) (o : ℕ) (s : ObjectState) (e : Event) → IsWordOf (behaviour_at m o) (state_after m o s e).word
word_after m o s e = subst (λ (w : ℕ). IsWordOf (behaviour_at m o) w) (sym (after_word m o s e)) (word_kept m (behaviour_at m o) s e)

same_word : (m : ModelData) (o p w v : ℕ) → o ≡ p → w ≡ v → IsWordOf (behaviour_at m p) v → IsWordOf (behaviour_at m o) w
same_word m o p w v e f h = subst (λ (z : ℕ). IsWordOf (behaviour_at m z) w) (sym e) (subst (λ (z : ℕ). IsWordOf (behaviour_at m p) z) (sym f) h)

-- no behaviour withdraws an event
none_withdrawn : (m : ModelData) (b : Behaviour) (s : ObjectState) (e : Event) → (action_of m b s e).withdrawn ≡ []
none_withdrawn m (Relay delay next) s e = refl
none_withdrawn m (Phold seed spread) s e = refl
none_withdrawn m (Station service next) s e = refl
none_withdrawn m (Fan delay targets) s e = refl
none_withdrawn m Sink s e = refl

pub nothing_withdrawn : (m : ModelData) (o : ℕ) (s : ObjectState) (e : Event) → withdrawn_by m o s e ≡ []
unfolding reaction_of
nothing_withdrawn m o s e = none_withdrawn m (behaviour_at m o) s e

-- events that are numbered on are absent from a list in which their source has lesser numbers alone
pub absent_scheduled : (until src n : ℕ) (ps : List Post) (pending : List Event) → AllByRecursion (λ (f : Event). src ≡ f.src → f.seq < n) pending → AreAbsent (scheduled until src n ps) pending
absent_scheduled until src n [] pending all = rw (scheduled_none until src n) tt
absent_scheduled until src n (p ∷ ps) pending all =
    let e : Event = record { time = p.time; src = src; seq = n; dst = p.dst; load = p.load } in
    elim (leb_tells p.time until) [
      | inl at ↦ rw (scheduled_due until src n p ps at.1) (
        absent e pending all,
        absent_scheduled until src (n + 1) ps (with_event e pending)
            (All-with_event (λ (f : Event). src ≡ f.src → f.seq < n + 1) e pending (λ _. omega arith)
            (All-weaker (λ (f : Event). src ≡ f.src → f.seq < n) (λ (f : Event). src ≡ f.src → f.seq < n + 1) (λ f h same. (let k : f.seq < n = h same in omega arith)) pending all)),
      )
      | inr past ↦ rw (scheduled_past until src n p ps past.1) (absent_scheduled until src n ps pending all)
    ]

-- what an object sends is absent from the pending events
pub absent_sends : (m : ModelData) (states : List ObjectState) (o : ℕ) (e : Event) (pending : List Event) → 0 < o → AllByRecursion (IsDue m states) pending → AreAbsent (sends_of m o (state_of states o) e) pending
unfolding reaction_of
absent_sends m states o e pending named all =
    let not_file : nat_eq o 0 ≡ false = grind (arith, nat_tests) in
    let number : next_number m states o ≡ (state_of states o).sent = rw not_file refl in
    absent_scheduled m.until o (state_of states o).sent (action_of m (behaviour_at m o) (state_of states o) e).posts pending
    (All-weaker (IsDue m states) (λ (f : Event). o ≡ f.src → f.seq < (state_of states o).sent)
    (λ f due same. (let k : f.seq < next_number m states f.src = due.number in let q : next_number m states o ≡ next_number m states f.src = ap (next_number m states) same in omega arith)) pending all)

-- one step keeps what is known
pub simulation_step : (m : ModelData) (states : List ObjectState) (pending : List Event) (log : List Step) → IsModel m → IsSimulation m (record { states = states; pending = pending; log = log }) → IsSimulation m (run_first m states pending log)
unfolding run_first
simulation_step m states [] log is h = record { many = h.many; words = h.words; events = tt; in_order = tt }
simulation_step m states (e ∷ es) log is h =
    let due : IsDue m states e = h.events.0 in
    let there = due.there in
    let s : ObjectState = state_of states e.dst in
    let sends : List Event = sends_of m e.dst s e in
    let gone : List Event = withdrawn_by m e.dst s e in
    let s' : ObjectState = state_after m e.dst s e in
    let states' : List ObjectState = set states (e.dst - 1) s' in
    let many = h.many in
    let inside : e.dst - 1 < length states = omega arith in
    let in_states : e.dst ≤ length states = omega arith in
    let sent = after_sent m e.dst s e in
    let rising : s.sent ≤ s'.sent = omega arith in
    let named : 0 < e.dst = there.0 in
    record {
      many = length-set states (e.dst - 1) s' ∙ h.many;
      words = (λ o at. elim (after_set states (e.dst - 1) (o - 1) s' inside) [
        | inl new ↦ (let same : o ≡ e.dst = (let k = new.0 in omega arith) in
            same_word m o e.dst _ (action_of m (behaviour_at m e.dst) s e).word same (ap (λ (x : ObjectState). x.word) new.1 ∙ after_word m e.dst s e) (word_kept m (behaviour_at m e.dst) s e))
        | inr old ↦ same_word m o o _ (state_of states o).word refl (ap (λ (x : ObjectState). x.word) old) (h.words o at)
      ]);
      events = All-with_events (IsDue m states') sends (without_events gone es)
          (All-weaker (IsSend m e.dst s.sent (length sends) e) (IsDue m states')
          (λ f k. record { time = k.time; there = k.there; number = (let b = k.below in let q : next_number m states' f.src ≡ s'.sent = ap (next_number m states') k.source ∙ next_here m states e.dst s' named in_states in omega arith) })
          sends (sends_known m e.dst s e is there))
          (All-without_events (IsDue m states') gone es
          (All-weaker (IsDue m states) (IsDue m states') (λ f d. record { time = d.time; there = d.there; number = (let k = d.number in let r = more_sent m states (e.dst - 1) s' f.src inside rising in omega arith) }) es h.events.1));
      in_order = in_order-with_events sends (without_events gone es) (absent_sends m states e.dst e (without_events gone es) named (All-without_events (IsDue m states) gone es h.events.1))
          (in_order-without_events gone es h.in_order.1);
    }

-- and an object has one event more at the most, at which it sends four at the most
counts_step : (m : ModelData) (n : ℕ) (states : List ObjectState) (pending : List Event) (log : List Step) → IsModel m → IsSound m n (record { states = states; pending = pending; log = log }) → (o : ℕ)
    → ((state_of (run_first m states pending log).states o).count ≤ suc n) × ((state_of (run_first m states pending log).states o).sent ≤ 4 * suc n)
unfolding run_first
counts_step m n states [] log is h o = ((let k = h.counts o in omega arith), (let k = h.sents o in omega arith))
counts_step m n states (e ∷ es) log is h o =
    let there = h.simulation.events.0.there in
    let s : ObjectState = state_of states e.dst in
    let s' : ObjectState = state_after m e.dst s e in
    let many = h.simulation.many in
    let inside : e.dst - 1 < length states = omega arith in
    let few = few_sends m e.dst s e is there in
    let sent = after_sent m e.dst s e in
    let count = after_count m e.dst s e in
    elim (after_set states (e.dst - 1) (o - 1) s' inside) [
      | inl new ↦ ((let k = h.counts e.dst in rw new.1 (omega arith)), (let k = h.sents e.dst in rw new.1 (omega arith)))
      | inr old ↦ ((let k = h.counts o in rw old (omega arith)), (let k = h.sents o in rw old (omega arith)))
    ]

pub sound_step : (m : ModelData) (n : ℕ) (w : Simulation) → IsModel m → IsSound m n w → IsSound m (suc n) (run_next m w)
sound_step m n w is h = record {
  simulation = simulation_step m w.states w.pending w.log is h.simulation;
  counts = (λ o. (counts_step m n w.states w.pending w.log is h o).0);
  sents = (λ o. (counts_step m n w.states w.pending w.log is h o).1);
}

-- the starts are due: n of them were scheduled before
starts_due : (m : ModelData) (states : List ObjectState) (n : ℕ) (ss : List Start) → n + length ss ≤ length m.starts
    → AllByRecursion (λ (s : Start). IsObject (length m.objects) s.object) ss → AllByRecursion (IsDue m states) (scheduled_starts m.until n ss)
unfolding scheduled_starts
starts_due m states n [] le all = tt
starts_due m states n (s ∷ ss) le all =
    elim (leb_tells s.time m.until) [
      | inl at ↦ rw at.0 (record { time = at.1; there = all.0; number = omega arith }, starts_due m states (n + 1) ss (omega arith) all.1)
      | inr past ↦ rw past.0 (starts_due m states n ss (omega arith) all.1)
    ]

-- the states before the first event
first_count : (objects : List Object) (j : ℕ) → ((get_or (first_states objects) j no_state).count ≡ 0) × ((get_or (first_states objects) j no_state).sent ≡ 0)
first_count [] j = (refl, refl)
first_count (o ∷ os) zero = (refl, refl)
first_count (o ∷ os) (suc j) = first_count os j

first_words : (objects : List Object) (j : ℕ) → j < length objects → IsWordOf (get_or objects j (record { name = []; behaviour = Sink })).behaviour (get_or (first_states objects) j no_state).word
first_words [] j lt = absurd (omega arith)
first_words (o ∷ os) zero lt = first_kept o.behaviour
first_words (o ∷ os) (suc j) lt = first_words os j (omega arith)

-- before the first event
pub begins : (m : ModelData) → IsModel m → IsSimulation m (beginning m)
begins m is =
    let states : List ObjectState = first_states m.objects in
    record {
      many = length-map m.objects (λ (o : Object). first_state o.behaviour);
      words = (λ o there. first_words m.objects (o - 1) (omega arith));
      events = All-with_events (IsDue m states) (scheduled_starts m.until 0 m.starts) []
          (starts_due m states 0 m.starts (omega arith) (recursion_from_All (λ (s : Start). IsObject (length m.objects) s.object) m.starts is.started)) tt;
      in_order = starts_in_order m.until 0 m.starts [] tt tt;
    }

-- and after each number of events
pub goes_on : (m : ModelData) (w : Simulation) (n : ℕ) → IsModel m → IsSimulation m w → IsSimulation m (after_events m w n)
unfolding after_events
goes_on m w zero is h = h
goes_on m w (suc n) is h = goes_on m (run_next m w) n is (simulation_step m w.states w.pending w.log is h)

sound_from : (m : ModelData) (w : Simulation) (k n : ℕ) → IsModel m → IsSound m k w → IsSound m (k + n) (after_events m w n)
unfolding after_events
sound_from m w k zero is h = subst (λ (j : ℕ). IsSound m j w) (let z : k ≡ k + 0 = omega arith in z) h
sound_from m w k (suc n) is h =
    subst (λ (j : ℕ). IsSound m j (after_events m (run_next m w) n)) (let z : suc k + n ≡ k + suc n = omega arith in z)
    (sound_from m (run_next m w) (suc k) n is (sound_step m k w is h))

pub sound : (m : ModelData) (n : ℕ) → IsModel m → IsSound m n (simulation_at m n)
sound m n is =
    subst (λ (j : ℕ). IsSound m j (simulation_at m n)) (let z : 0 + n ≡ n = omega arith in z)
    (sound_from m (beginning m) 0 n is (record {
      simulation = begins m is;
      counts = (λ o. (let k = (first_count m.objects (o - 1)).0 in omega arith));
      sents = (λ o. (let k = (first_count m.objects (o - 1)).1 in omega arith));
    }))
