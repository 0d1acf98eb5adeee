-- From the history of a window's phases to the run of the model.
use Rattle.std.proofs.Common.{◌≡◌, ◌⊎◌, ℕ, suc, ◌+◌, ◌*◌, ◌<◌, ◌≤◌, List, [], ◌∷◌, ◌++◌, length, Some, true, false, refl, arith, ap, sym, ◌∙◌, subst, inl, inr, Contains}
use Rattle.std.specs.Prelude.{◌↔◌}
use Rattle.std.specs.Ordering.{is_eq, is_lt, nat_cmp, ordering_then}
use Rattle.std.specs.declared.cmp.Ordering.{Ordering}
use Rattle.std.specs.declared.cmp.Ordering.TheVariants.{Less, Equal, Greater}
use Rattle.std.proofs.lemmas.List.{length-append, append_assoc, append-nil}
use Rattle.std.proofs.lemmas.List.Elements.{filter-append, Contains-append_left, Contains-append_right, Contains-append_cases}
use Rattle.std.proofs.lemmas.Bool.{cases_eq}
use Rattle.std.proofs.lemmas.Bool.Decides.{nat_tests}
use Rattle.crq_base.specs.declared.event.Event.{Event}
use Rattle.crq_base.specs.declared.entry.Entry.{Entry}
use Rattle.crq_base.specs.Histories.{puts, outs, IsPending, IsEarlier, is_table, table_count}
use Rattle.crq_base.specs.Keys.{event_cmp, IsBefore}
use Rattle.crq_base.specs.Lists.{IsOnce}
use Rattle.crq_base.proofs.HistoryLaws.{puts-append, outs-append}
use Rattle.crq_base.proofs.KeyOrder.{before_not_itself, same_event}
use Rattle.crq_base.proofs.Elements.{in_contains}
use Rattle.crq_sim.specs.declared.reaction.ObjectState.{ObjectState}
use Rattle.crq_sim.specs.EventLists.{with_events, IsHead, AreInOrder, HaveOneKey, HaveOneNumber, HaveNumbersApart}
use Rattle.crq_sim.specs.Models.{ModelData, IsModel}
use Rattle.crq_sim.specs.Runs.{Simulation, state_of, after_events, events_sent, scheduled_starts, beginning, simulation_at}
use Rattle.crq_sim.specs.Simulations.{next_number}
use Rattle.crq_sim.specs.WindowRuns.{AreFrom, object_withdrawn, events_of}
use Rattle.crq_sim.specs.Reactions.{state_after, withdrawn_by}
use Rattle.crq_sim.specs.Windows.{IsWindowEnd, WindowData, window_of, IsWindow, Events, Rows, HasMoreEvents, HasFewRows, IsStop}
use Rattle.crq_sim.proofs.AfterLemmas.{after_more}
use Rattle.crq_sim.proofs.BoundLemmas.{sent_more, sent_fresh, start_numbers}
use Rattle.crq_sim.proofs.EventListLemmas.{equal_is, bool_cases}
use Rattle.crq_sim.proofs.KeyLemmas.{run_numbers_apart}
use Rattle.crq_sim.proofs.Members.{none_in, into_cons, from_cons}
use Rattle.crq_sim.proofs.NextWindow.{next_window}
use Rattle.crq_sim.proofs.OrderLemmas.{All-at, itself, first_least, in_withs, withs_in}
use Rattle.crq_sim.proofs.Sound.{begins, goes_on, nothing_withdrawn}
use Rattle.crq_sim.proofs.WindowCounts.{first_or_none}
use Rattle.crq_sim.proofs.WindowFacts.{some_data, more_events, few_rows}
use Rattle.crq_host.specs.Drives.{Caps}
use Rattle.crq_host.specs.Histories.{AreTakesOf, ArePutsOf, IsRunToTakes, IsCalm}
use Rattle.crq_host.specs.Phases.{Drains, TakesLeast}
use Rattle.crq_host.specs.Progress.{sent_within, StandsAfter, TakesWindow, PassesTo}

-- Events of a run: a source and its number tell which one it is

pub one_number : (es : List Event) (e f : Event) → HaveNumbersApart es → Contains es e → Contains es f → HaveOneNumber e f → e ≡ f
one_number [] e f apart at_e at_f same = absurd (none_in e at_e)
one_number (x ∷ xs) e f apart at_e at_f same =
    elim (from_cons x e xs at_e) [
      | inl here ↦ elim (from_cons x f xs at_f) [
        | inl there ↦ sym here ∙ there
        | inr later ↦ absurd (All-at (λ (g : Event). HaveOneNumber x g → ⊥) xs f apart.0 later (ap (λ (g : Event). g.src) here ∙ same.0, ap (λ (g : Event). g.seq) here ∙ same.1))
      ]
      | inr later ↦ elim (from_cons x f xs at_f) [
        | inl there ↦ absurd (All-at (λ (g : Event). HaveOneNumber x g → ⊥) xs e apart.0 later (ap (λ (g : Event). g.src) there ∙ sym same.0, ap (λ (g : Event). g.seq) there ∙ sym same.1))
        | inr too ↦ one_number xs e f apart.1 later too same
      ]
    ]

pub numbers_once : (es : List Event) → HaveNumbersApart es → IsOnce es
numbers_once [] apart = tt
numbers_once (e ∷ es) apart = (
  (λ at. All-at (λ (g : Event). HaveOneNumber e g → ⊥) es e apart.0 (in_contains e es at) (refl, refl)),
  numbers_once es apart.1,
)

equal_nat : (a b : ℕ) → nat_cmp a b ≡ Equal → a ≡ b
equal_nat a b h = grind (arith, nat_tests)

then_less : (p q r t : Ordering) → (p ≡ Equal → q ≡ Equal → r ≡ Equal → ⊥) → is_lt (ordering_then p (ordering_then q (ordering_then r t))) ≡ true → is_lt (ordering_then (ordering_then p q) r) ≡ true
then_less Less q r t apart h = refl
then_less Equal Less r t apart h = refl
then_less Equal Equal Less t apart h = refl
then_less Equal Equal Equal t apart h = absurd (apart refl refl refl)
then_less Equal Equal Greater t apart h = absurd (cc)
then_less Equal Greater r t apart h = absurd (cc)
then_less Greater q r t apart h = absurd (cc)

-- of two events with different keys the one before the other has the lesser key
earlier_key : (a b : Event) → (HaveOneKey a b → ⊥) → IsBefore a b → IsEarlier a b
earlier_key a b apart h = then_less _ _ _ _ (λ p q r. apart (equal_nat _ _ p, equal_nat _ _ q, equal_nat _ _ r)) h

not_itself : (a b : Event) → a ≡ b → is_eq (event_cmp a b) ≡ false → ⊥
not_itself a b q h = let e : is_eq (event_cmp a a) ≡ true = itself a in let k : is_eq (event_cmp a a) ≡ false = ap (λ (x : Event). is_eq (event_cmp a x)) q ∙ h in cc

pub same_or_not : (a b : Event) → (a ≡ b) ⊎ (a ≡ b → ⊥)
same_or_not a b =
    elim (bool_cases (is_eq (event_cmp a b))) [
      | inl same ↦ inl (same_event a b (equal_is _ same))
      | inr apart ↦ inr (λ q. not_itself a b q apart)
    ]

pub tables-append : (h g : List Entry) → table_count (h ++ g) ≡ table_count h + table_count g
tables-append h g = ap length (filter-append is_table h g) ∙ length-append _ _

pub tables_none : (h g : List Entry) → table_count h ≡ 0 → table_count g ≡ 0 → table_count (h ++ g) ≡ 0
tables_none h g none_h none_g = let both = tables-append h g in omega arith

-- what was put, in a history that goes on
in_puts : (h g : List Entry) (e : Event) → Contains (puts (h ++ g)) e → Contains (puts h) e ⊎ Contains (puts g) e
in_puts h g e at = Contains-append_cases (puts h) (puts g) e (subst (λ z. Contains z e) (puts-append h g) at)

puts_left : (h g : List Entry) (e : Event) → Contains (puts h) e → Contains (puts (h ++ g)) e
puts_left h g e at = subst (λ z. Contains z e) (sym (puts-append h g)) (Contains-append_left (puts h) (puts g) e at)

puts_right : (h g : List Entry) (e : Event) → Contains (puts g) e → Contains (puts (h ++ g)) e
puts_right h g e at = subst (λ z. Contains z e) (sym (puts-append h g)) (Contains-append_right (puts h) (puts g) e at)

in_outs : (h g : List Entry) (e : Event) → Contains (outs (h ++ g)) e → Contains (outs h) e ⊎ Contains (outs g) e
in_outs h g e at = Contains-append_cases (outs h) (outs g) e (subst (λ z. Contains z e) (outs-append h g) at)

outs_left : (h g : List Entry) (e : Event) → Contains (outs h) e → Contains (outs (h ++ g)) e
outs_left h g e at = subst (λ z. Contains z e) (sym (outs-append h g)) (Contains-append_left (outs h) (outs g) e at)

outs_right : (h g : List Entry) (e : Event) → Contains (outs g) e → Contains (outs (h ++ g)) e
outs_right h g e at = subst (λ z. Contains z e) (sym (outs-append h g)) (Contains-append_right (outs h) (outs g) e at)

none_of : (es : List Event) (e : Event) → es ≡ [] → Contains es e → ⊥
none_of es e none at = none_in e (subst (λ z. Contains z e) none at)

-- The first event of a window

head_in : (es : List Event) (e : Event) → IsHead e es → Contains es e
head_in [] e head = absurd head
head_in (f ∷ fs) e head = into_cons f e fs (inl (sym head))

-- two events that the run sent by then, with one source and number, are one
one_sent : (m : ModelData) (n : ℕ) (e f : Event) → IsModel m → Contains (sent_within m n) e → Contains (sent_within m n) f → HaveOneNumber e f → e ≡ f
one_sent m n e f is at_e at_f same = one_number (sent_within m n) e f (run_numbers_apart m n is) at_e at_f same

first_found : (m : ModelData) (k n : ℕ) (h : List Entry) (e f : Event) → IsModel m → StandsAfter m k n h → IsPending h e → ((g : Event) → IsPending h g → IsEarlier g e → ⊥)
    → IsHead f (simulation_at m n).pending → e ≡ f
first_found m k n h e f is stands pending least head =
    let es : List Event = (simulation_at m n).pending in
    let order : AreInOrder es = (goes_on m (beginning m) n is (begins m is)).in_order in
    let at_f : IsPending h f = (stands.pending f).1 (head_in es f head) in
    elim (first_least es f e order head ((stands.pending e).0 pending)) [
      | inl same ↦ same
      | inr before ↦ absurd (least f at_f (earlier_key f e
          (λ one. before_not_itself f (subst (IsBefore f) (sym (one_sent m n f e is ((stands.put f).0 at_f.put) ((stands.put e).0 pending.put) (one.1, one.2))) before)) before))
    ]

-- the least pending event of the set is the first one of the run
pub least_first : (m : ModelData) (k n : ℕ) (h : List Entry) (e : Event) → IsModel m → StandsAfter m k n h → IsPending h e → ((f : Event) → IsPending h f → IsEarlier f e → ⊥) → IsHead e (simulation_at m n).pending
least_first m k n h e is stands pending least =
    elim (first_or_none (simulation_at m n).pending) [
      | inl none ↦ absurd (none_of (simulation_at m n).pending e none ((stands.pending e).0 pending))
      | inr first ↦ subst (λ z. IsHead z (simulation_at m n).pending) (sym (first_found m k n h e first.0 is stands pending least first.1)) first.1
    ]

-- nothing is pending in the run where nothing is pending in the set
pub none_pending : (m : ModelData) (k n : ℕ) (h : List Entry) → StandsAfter m k n h → ((e : Event) → IsPending h e → ⊥) → (simulation_at m n).pending ≡ []
none_pending m k n h stands none =
    elim (first_or_none (simulation_at m n).pending) [
      | inl empty ↦ empty
      | inr first ↦ absurd (none first.0 ((stands.pending first.0).1 (head_in (simulation_at m n).pending first.0 first.1)))
    ]

-- The events of a window

first_below : (e : Event) (below rest : List Event) → 0 < length below → IsHead e (below ++ rest) → Contains below e
first_below e [] rest some head = absurd (omega arith)
first_below e (f ∷ fs) rest some head = into_cons f e fs (inl (sym head))

-- what was pending and below the edge is what the window has
below_pending : (m : ModelData) (k n edge : ℕ) (h : List Entry) (below rest : List Event) (x : Event) → StandsAfter m k n h → (simulation_at m n).pending ≡ below ++ rest → AreFrom edge rest
    → IsPending h x → x.time < edge → Contains below x
below_pending m k n edge h below rest x stands parts high pending low =
    elim (Contains-append_cases below rest x (subst (λ z. Contains z x) parts ((stands.pending x).0 pending))) [
      | inl here ↦ here
      | inr later ↦ absurd (let le : edge ≤ x.time = All-at (λ (e : Event). edge ≤ e.time) rest x high later in omega arith)
    ]

pending_below : (m : ModelData) (k n : ℕ) (h : List Entry) (below rest : List Event) (x : Event) → StandsAfter m k n h → (simulation_at m n).pending ≡ below ++ rest → Contains below x → IsPending h x
pending_below m k n h below rest x stands parts at = (stands.pending x).1 (subst (λ z. Contains z x) (sym parts) (Contains-append_left below rest x at))

-- after the first event was taken, each other one that was pending still is
still_pending : (h since : List Entry) (e x : Event) → puts since ≡ [] → outs since ≡ e ∷ [] → IsPending h x → (e ≡ x → ⊥) → IsPending (h ++ since) x
still_pending h since e x puts_none takes pending other = record {
  put = puts_left h since x pending.put;
  kept = (λ out. elim (in_outs h since x out) [
    | inl before ↦ pending.kept before
    | inr now ↦ elim (from_cons e x [] (subst (λ z. Contains z x) takes now)) [
      | inl same ↦ other same
      | inr more ↦ none_in x more
    ]
  ]);
}

was_pending : (h since : List Entry) (x : Event) → puts since ≡ [] → IsPending (h ++ since) x → IsPending h x
was_pending h since x puts_none pending = record {
  put = elim (in_puts h since x pending.put) [
    | inl before ↦ before
    | inr now ↦ absurd (none_of (puts since) x puts_none now)
  ];
  kept = (λ out. pending.kept (outs_left h since x out));
}

-- the window's events were taken: the least one, and then all others below the edge
pub window_taken : (m : ModelData) (k n : ℕ) (h first_since drain_since : List Entry) (e : Event) → IsModel m → StandsAfter m k n h → TakesLeast h first_since (Some e)
    → table_count first_since ≡ 0 → Drains (e.time + m.lookahead) (h ++ first_since) drain_since → table_count drain_since ≡ 0
    → (below : List Event) × (rest : List Event) × TakesWindow m n h ((h ++ first_since) ++ drain_since) e below rest
window_taken m k n h first_since drain_since e is stands least first_tables drains drain_tables =
    let known = goes_on m (beginning m) n is (begins m is) in
    let head = least_first m k n h e is stands least.2 least.3 in
    let next = next_window m (simulation_at m n) e is known head in
    let below : List Event = next.0 in
    let rest : List Event = next.1 in
    let edge : ℕ = e.time + m.lookahead in
    let some : 0 < length below = next.5.0 in
    let first_in : Contains below e = first_below e below rest some (subst (IsHead e) next.2 head) in
    let taken : outs (first_since ++ drain_since) ≡ e ∷ outs drain_since = outs-append first_since drain_since ∙ ap (λ z. z ++ outs drain_since) least.1 in
    let out_here : Contains (outs (h ++ first_since)) e = outs_right h first_since e (subst (λ z. Contains z e) (sym least.1) (into_cons e e [] (inl refl))) in
    let later : (x : Event) → Contains (outs drain_since) x → Contains below x =
    λ x at. (let p = (drains.just x).0 at in below_pending m k n edge h below rest x stands next.2 next.4 (was_pending h first_since x least.0 p.0) p.1) in (
      below,
      rest,
      record {
        head = head;
        parts = next.2;
        ends = next.5;
        low = next.3;
        high = next.4;
        runs = next.6;
        since = first_since ++ drain_since;
        extends = append_assoc h first_since drain_since;
        takes = record {
          takes = record {
            once = subst IsOnce (sym taken) ((λ at. ((drains.just e).0 (in_contains e (outs drain_since) at)).0.kept out_here), drains.once);
            members = λ x. (
              (λ at. elim (from_cons e x (outs drain_since) (subst (λ z. Contains z x) taken at)) [
                | inl same ↦ subst (Contains below) same first_in
                | inr more ↦ later x more
              ]),
              (λ at. subst (λ z. Contains z x) (sym taken) (into_cons e x (outs drain_since) (elim (same_or_not e x) [
                | inl same ↦ inl same
                | inr other ↦ inr ((drains.just x).1 (
                  still_pending h first_since e x least.0 least.1 (pending_below m k n h below rest x stands next.2 at) other,
                  All-at (λ (f : Event). f.time < edge) below x next.3 at,
                ))
              ]))),
            );
          };
          puts_none = puts-append first_since drain_since ∙ (ap (λ z. z ++ puts drain_since) least.0 ∙ drains.puts_none);
          tables_none = tables_none first_since drain_since first_tables drain_tables;
        };
      },
    )

-- the window that was taken, as the definition has it
abbrev pub this_window : ModelData → ℕ → List Event → WindowData
this_window m n below = window_of m (simulation_at m n) (length below)

pub is_window : (m : ModelData) (k n : ℕ) (h drained : List Entry) (e : Event) (below rest : List Event) → StandsAfter m k n h → TakesWindow m n h drained e below rest
    → IsWindow m (beginning m) (suc k) (this_window m n below)
is_window m k n h drained e below rest stands taken = (n, length below, stands.end, taken.ends, refl)

pub window_ends : (m : ModelData) (k n : ℕ) (h drained : List Entry) (e : Event) (below rest : List Event) → StandsAfter m k n h → TakesWindow m n h drained e below rest
    → IsWindowEnd m (beginning m) (suc k) (n + length below)
window_ends m k n h drained e below rest stands taken = (n, length below, stands.end, taken.ends, refl)

takes_window : (m : ModelData) (n : ℕ) (h drained : List Entry) (e : Event) (below rest : List Event) (taken : TakesWindow m n h drained e below rest) → AreTakesOf (this_window m n below).events taken.since
takes_window m n h drained e below rest taken = subst (λ es. AreTakesOf es taken.since) (sym taken.runs.events) taken.takes

-- the history as far as the takes of the window
pub run_to_takes : (m : ModelData) (k n : ℕ) (h drained : List Entry) (e : Event) (below rest : List Event) → StandsAfter m k n h → TakesWindow m n h drained e below rest → IsRunToTakes m (suc k) drained
run_to_takes m k n h drained e below rest stands taken =
    (h, taken.since, this_window m n below, stands.run, is_window m k n h drained e below rest stands taken, taken.extends, takes_window m n h drained e below rest taken)

none_withdrawn : (m : ModelData) (o : ℕ) (s : ObjectState) (es : List Event) (x : Event) → Contains (object_withdrawn m o s es) x → ⊥
unfolding object_withdrawn
none_withdrawn m o s [] x at = none_in x at
none_withdrawn m o s (e ∷ es) x at =
    elim (Contains-append_cases (withdrawn_by m o s e) (object_withdrawn m o (state_after m o s e) es) x at) [
      | inl here ↦ none_of (withdrawn_by m o s e) x (nothing_withdrawn m o s e) here
      | inr later ↦ none_withdrawn m o (state_after m o s e) es x later
    ]

-- an event that the window sent was never put before, so it isn't taken
sent_not_taken : (m : ModelData) (k n len : ℕ) (h : List Entry) (x : Event) → IsModel m → StandsAfter m k n h → Contains (events_sent m (simulation_at m n) len) x → Contains (puts h) x → ⊥
sent_not_taken m k n len h x is stands sent put =
    let known = goes_on m (beginning m) n is (begins m is) in
    let fresh = sent_fresh m (simulation_at m n) len x is known sent in
    let le : next_number m (simulation_at m n).states x.src ≤ x.seq = fresh.1 in
    elim (Contains-append_cases (scheduled_starts m.until 0 m.starts) (events_sent m (beginning m) n) x ((stands.put x).0 put)) [
      | inl start ↦ (let number = start_numbers m x start in let zero_src : x.src ≡ 0 = number.0 in let some = fresh.0 in absurd (omega arith))
      | inr before ↦ (let number = sent_fresh m (beginning m) n x is (begins m is) before in let lt : x.seq < next_number m (simulation_at m n).states x.src = number.2 in absurd (omega arith))
    ]

-- the members of the puts after a window
puts_next : (m : ModelData) (k n : ℕ) (h drained put : List Entry) (e : Event) (below rest due : List Event) → StandsAfter m k n h → TakesWindow m n h drained e below rest → ArePutsOf due put
    → ((x : Event) → Contains due x ↔ Contains (events_sent m (simulation_at m n) (length below)) x) → (x : Event) → Contains (puts (drained ++ put)) x ↔ Contains (sent_within m (n + length below)) x
puts_next m k n h drained put e below rest due stands taken puts_due same x =
    let starts : List Event = scheduled_starts m.until 0 m.starts in
    let before : List Event = events_sent m (beginning m) n in
    let now : List Event = events_sent m (simulation_at m n) (length below) in
    let all : sent_within m (n + length below) ≡ sent_within m n ++ now = ap (λ z. starts ++ z) (sent_more m (beginning m) n (length below)) ∙ sym (append_assoc starts before now) in (
      (λ at. subst (λ z. Contains z x) (sym all) (elim (in_puts drained put x at) [
        | inl old ↦ Contains-append_left (sent_within m n) now x (elim (in_puts h taken.since x (subst (λ z. Contains (puts z) x) taken.extends old)) [
          | inl older ↦ (stands.put x).0 older
          | inr none ↦ absurd (none_of (puts taken.since) x taken.takes.puts_none none)
        ])
        | inr new ↦ Contains-append_right (sent_within m n) now x ((same x).0 ((puts_due.puts_them.members x).0 new))
      ])),
      (λ at. elim (Contains-append_cases (sent_within m n) now x (subst (λ z. Contains z x) all at)) [
        | inl old ↦ puts_left drained put x (subst (λ z. Contains (puts z) x) (sym taken.extends) (puts_left h taken.since x ((stands.put x).1 old)))
        | inr new ↦ puts_right drained put x ((puts_due.puts_them.members x).1 ((same x).1 new))
      ]),
    )

-- what is out after a window was out before it, or is of the window
out_next : (m : ModelData) (n : ℕ) (h drained put : List Entry) (e : Event) (below rest due : List Event) → TakesWindow m n h drained e below rest → ArePutsOf due put → (x : Event)
    → Contains (outs (drained ++ put)) x → Contains (outs h) x ⊎ Contains below x
out_next m n h drained put e below rest due taken puts_due x at =
    elim (in_outs drained put x at) [
      | inl before ↦ elim (in_outs h taken.since x (subst (λ z. Contains (outs z) x) taken.extends before)) [
        | inl old ↦ inl old
        | inr now ↦ inr ((taken.takes.takes.members x).0 now)
      ]
      | inr none ↦ absurd (none_of (outs put) x puts_due.takes_none none)
    ]

-- what is pending once some of the window's sends were put will be pending after the window
pub pending_within : (m : ModelData) (k n : ℕ) (h drained put : List Entry) (e : Event) (below rest : List Event) → StandsAfter m k n h → TakesWindow m n h drained e below rest
    → ((x : Event) → Contains (puts put) x → Contains (events_sent m (simulation_at m n) (length below)) x) → (x : Event)
    → IsPending (drained ++ put) x → Contains (after_events m (simulation_at m n) (length below)).pending x
pending_within m k n h drained put e below rest stands taken within x pending =
    let w : Simulation = simulation_at m n in
    let grown : drained ++ put ≡ h ++ (taken.since ++ put) = ap (λ z. z ++ put) taken.extends ∙ append_assoc h taken.since put in
    (taken.runs.members x).1 (
      elim (in_puts drained put x pending.put) [
        | inl old ↦ inl (elim (in_puts h taken.since x (subst (λ z. Contains (puts z) x) taken.extends old)) [
          | inl older ↦ (
              let was : IsPending h x = record { put = older; kept = (λ out. pending.kept (subst (λ z. Contains (outs z) x) (sym grown) (outs_left h (taken.since ++ put) x out))) } in
              elim (Contains-append_cases below rest x (subst (λ z. Contains z x) taken.parts ((stands.pending x).0 was))) [
                | inl low ↦ absurd (pending.kept (outs_left drained put x (subst (λ z. Contains (outs z) x) (sym taken.extends) (outs_right h taken.since x ((taken.takes.takes.members x).1 low)))))
                | inr high ↦ high
              ])
          | inr none ↦ absurd (none_of (puts taken.since) x taken.takes.puts_none none)
        ])
        | inr new ↦ inr ((taken.runs.sends x).0 (within x new))
      ],
      (λ gone. none_withdrawn m gone.0 (state_of w.states gone.0) (events_of gone.0 below) x gone.2),
    )

-- and what will be pending after it is pending once all were put
next_pending : (m : ModelData) (k n : ℕ) (h drained put : List Entry) (e : Event) (below rest due : List Event) → IsModel m → StandsAfter m k n h → TakesWindow m n h drained e below rest → ArePutsOf due put
    → ((x : Event) → Contains due x ↔ Contains (events_sent m (simulation_at m n) (length below)) x) → (x : Event)
    → Contains (after_events m (simulation_at m n) (length below)).pending x → IsPending (drained ++ put) x
next_pending m k n h drained put e below rest due is stands taken puts_due same x at =
    let edge : ℕ = e.time + m.lookahead in
    let grown : drained ++ put ≡ h ++ (taken.since ++ put) = ap (λ z. z ++ put) taken.extends ∙ append_assoc h taken.since put in
    elim ((taken.runs.members x).0 at).0 [
      | inl high ↦ (let was : IsPending h x = (stands.pending x).1 (subst (λ z. Contains z x) (sym taken.parts) (Contains-append_right below rest x high)) in record {
        put = subst (λ z. Contains (puts z) x) (sym grown) (puts_left h (taken.since ++ put) x was.put);
        kept = (λ out. elim (out_next m n h drained put e below rest due taken puts_due x out) [
          | inl old ↦ was.kept old
          | inr low ↦ (let lt : x.time < edge = All-at (λ (f : Event). f.time < edge) below x taken.low low in let le : edge ≤ x.time = All-at (λ (f : Event). edge ≤ f.time) rest x taken.high high in absurd (omega arith))
        ]);
      })
      | inr sent ↦ (let of_run = (taken.runs.sends x).1 sent in record {
        put = puts_right drained put x ((puts_due.puts_them.members x).1 ((same x).1 of_run));
        kept = (λ out. elim (out_next m n h drained put e below rest due taken puts_due x out) [
          | inl old ↦ sent_not_taken m k n (length below) h x is stands of_run (stands.taken x old)
          | inr low ↦ sent_not_taken m k n (length below) h x is stands of_run (pending_below m k n h below rest x stands taken.parts low).put
        ]);
      })
    ]

-- after a window's puts the run stands after that window
pub window_put : (m : ModelData) (k n : ℕ) (h drained put : List Entry) (e : Event) (below rest due : List Event) → IsModel m → StandsAfter m k n h → TakesWindow m n h drained e below rest
    → ArePutsOf due put → IsCalm (drained ++ put) → ((x : Event) → Contains due x ↔ Contains (events_sent m (simulation_at m n) (length below)) x)
    → StandsAfter m (suc k) (n + length below) (drained ++ put)
window_put m k n h drained put e below rest due is stands taken puts_due calm same = record {
  end = window_ends m k n h drained e below rest stands taken;
  run = (
    h,
    taken.since,
    put,
    this_window m n below,
    stands.run,
    is_window m k n h drained e below rest stands taken,
    ap (λ z. z ++ put) taken.extends ∙ append_assoc h taken.since put,
    takes_window m n h drained e below rest taken,
    record {
      puts_them = record { once = puts_due.puts_them.once; members = (λ x. ((λ at. (same x).0 ((puts_due.puts_them.members x).0 at)), (λ at. (puts_due.puts_them.members x).1 ((same x).1 at)))) };
      takes_none = puts_due.takes_none;
      tables_none = puts_due.tables_none;
    },
  );
  calm = calm;
  tables = tables_none drained put (subst (λ z. table_count z ≡ 0) (sym taken.extends) (tables_none h taken.since stands.tables taken.takes.tables_none)) puts_due.tables_none;
  taken = (λ x out. elim (out_next m n h drained put e below rest due taken puts_due x out) [
    | inl old ↦ puts_left drained put x (subst (λ z. Contains (puts z) x) (sym taken.extends) (puts_left h taken.since x (stands.taken x old)))
    | inr low ↦ puts_left drained put x (subst (λ z. Contains (puts z) x) (sym taken.extends) (puts_left h taken.since x (pending_below m k n h below rest x stands taken.parts low).put))
  ]);
  put = puts_next m k n h drained put e below rest due stands taken puts_due same;
  pending = (λ x. (
    (λ at. subst (λ (v : Simulation). Contains v.pending x) (sym (after_more m (beginning m) n (length below))) (pending_within m k n h drained put e below rest stands taken (λ y put_y. (same y).0 ((puts_due.puts_them.members y).0 put_y)) x at)),
    (λ at. next_pending m k n h drained put e below rest due is stands taken puts_due same x (subst (λ (v : Simulation). Contains v.pending x) (after_more m (beginning m) n (length below)) at)),
  ));
}

-- Before the first window

starts_pending : (m : ModelData) (x : Event) → Contains (with_events (scheduled_starts m.until 0 m.starts) []) x → Contains (scheduled_starts m.until 0 m.starts) x
starts_pending m x at =
    elim (withs_in x (scheduled_starts m.until 0 m.starts) [] at) [
      | inl start ↦ start
      | inr none ↦ absurd (none_in x none)
    ]

-- after the puts of the starts the run stands before its first window
pub starts_put : (m : ModelData) (due : List Event) (put : List Entry) → ((x : Event) → Contains due x ↔ Contains (scheduled_starts m.until 0 m.starts) x) → ArePutsOf due put → IsCalm put → StandsAfter m 0 0 put
unfolding after_events events_sent
starts_put m due put same puts_due calm =
    let starts : List Event = scheduled_starts m.until 0 m.starts in
    let pending : (x : Event) → Contains (puts put) x → Contains (with_events starts []) x = λ x at. in_withs x starts [] (inl ((same x).0 ((puts_due.puts_them.members x).0 at))) in
    let back : (x : Event) → Contains (with_events starts []) x → Contains (puts put) x = λ x at. (puts_due.puts_them.members x).1 ((same x).1 (starts_pending m x at)) in
    record {
      end = refl;
      run = (
        record { events = []; sends = with_events starts []; pending = length (with_events starts []) },
        refl,
        record { puts_them = record { once = puts_due.puts_them.once; members = (λ x. (pending x, back x)) }; takes_none = puts_due.takes_none; tables_none = puts_due.tables_none },
      );
      calm = calm;
      tables = puts_due.tables_none;
      taken = (λ x out. absurd (none_of (outs put) x puts_due.takes_none out));
      put = (λ x. (
        (λ at. Contains-append_left starts [] x ((same x).0 ((puts_due.puts_them.members x).0 at))),
        (λ at. (puts_due.puts_them.members x).1 ((same x).1 (subst (λ z. Contains z x) (append-nil starts) at))),
      ));
      pending = (λ x. ((λ p. pending x p.put), (λ at. record { put = back x at; kept = (λ out. none_of (outs put) x puts_due.takes_none out) })));
    }

-- What stops a run

-- nothing stops the run before its first window where there are rows enough for the starts
pub passes_first : (m : ModelData) (caps : Caps) → 2 * length (beginning m).pending + 2 ≤ caps.rows → PassesTo m caps 0
passes_first m caps enough = record {
  events = (λ j le more. (let none : HasMoreEvents m (beginning m) caps.events 0 = subst (λ z. HasMoreEvents m (beginning m) caps.events z) (let z : j ≡ 0 = omega arith in z) more in
      let same : none.0 ≡ 0 = none.1 in let lt = none.2 in omega arith));
  rows = (λ j p le few. (let first : HasFewRows m (beginning m) caps.rows 0 p = subst (λ z. HasFewRows m (beginning m) caps.rows z p) (let z : j ≡ 0 = omega arith in z) few in
      let many : first.0.pending ≡ length (beginning m).pending = ap (λ (x : WindowData). x.pending) first.1 in let same = first.2 in let lt = first.3 in omega arith));
}

-- nor in the next window, where its events aren't too many nor the rows too few
pub passes_next : (m : ModelData) (caps : Caps) (k n : ℕ) → PassesTo m caps k → IsWindowEnd m (beginning m) (suc k) n → n ≤ caps.events → 2 * length (simulation_at m n).pending + 2 ≤ caps.rows → PassesTo m caps (suc k)
passes_next m caps k n passes end few enough = record {
  events = (λ j le more. elim (cases_eq j (suc k)) [
    | inl same ↦ (let here = (more_events m (beginning m) caps.events (suc k) n end).0 (subst (λ z. HasMoreEvents m (beginning m) caps.events z) same more) in omega arith)
    | inr other ↦ passes.events j (omega arith) more
  ]);
  rows = (λ j p le lack. elim (cases_eq j (suc k)) [
    | inl same ↦ (
        let window = some_data m (beginning m) (suc k) n end in
        let here = (few_rows m (beginning m) caps.rows (suc k) p window.0 window.1).0 (subst (λ z. HasFewRows m (beginning m) caps.rows z p) same lack) in
        let many = window.2 in let lt = here.1 in omega arith)
    | inr other ↦ passes.rows j p (omega arith) lack
  ]);
}

-- the run is stopped by its events in the next window
pub stops_events : (m : ModelData) (caps : Caps) (k n : ℕ) → PassesTo m caps k → IsWindowEnd m (beginning m) (suc k) n → caps.events < n → IsStop m (beginning m) caps.events caps.rows (Events (suc k))
stops_events m caps k n passes end many = (
  (more_events m (beginning m) caps.events (suc k) n end).1 many,
  (λ j lt. passes.events j (omega arith)),
  (λ j p lt. passes.rows j p (omega arith)),
)

-- or by its rows, after it
pub stops_rows : (m : ModelData) (caps : Caps) (k n : ℕ) → PassesTo m caps k → IsWindowEnd m (beginning m) (suc k) n → n ≤ caps.events → caps.rows < 2 * length (simulation_at m n).pending + 2
    → IsStop m (beginning m) caps.events caps.rows (Rows (suc k) (length (simulation_at m n).pending))
stops_rows m caps k n passes end few lack =
    let window = some_data m (beginning m) (suc k) n end in
    let many = window.2 in (
      (few_rows m (beginning m) caps.rows (suc k) (length (simulation_at m n).pending) window.0 window.1).1 (sym many, (omega arith)),
      (λ j le more. elim (cases_eq j (suc k)) [
        | inl same ↦ (let here = (more_events m (beginning m) caps.events (suc k) n end).0 (subst (λ z. HasMoreEvents m (beginning m) caps.events z) same more) in omega arith)
        | inr other ↦ passes.events j (omega arith) more
      ]),
      (λ j p lt. passes.rows j p (omega arith)),
    )

-- or before the first one
pub stops_first : (m : ModelData) (caps : Caps) → caps.rows < 2 * length (beginning m).pending + 2 → IsStop m (beginning m) caps.events caps.rows (Rows 0 (length (beginning m).pending))
stops_first m caps lack = (
  (record { events = []; sends = (beginning m).pending; pending = length (beginning m).pending }, refl, refl, lack),
  (λ j le more. (let none : HasMoreEvents m (beginning m) caps.events 0 = subst (λ z. HasMoreEvents m (beginning m) caps.events z) (let z : j ≡ 0 = omega arith in z) more in
      let same : none.0 ≡ 0 = none.1 in let lt = none.2 in omega arith)),
  (λ j p lt few. (let no : ⊥ = omega arith in absurd no)),
)
