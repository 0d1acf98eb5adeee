-- The starts of a model, one after another.
use Rattle.std.proofs.Common.{◌≡◌, ℕ, ◌+◌, ◌<◌, ◌≤◌, List, [], ◌∷◌, ◌++◌, length, drop, get_or, ap, sym, ◌∙◌, refl, arith, inl, inr}
use Rattle.std.proofs.lemmas.Bool.Decides.{leb_tells}
use Rattle.std.proofs.lemmas.List.{drop_more, drop_all, append_assoc, append-nil}
use Rattle.std.specs.List.{AllByRecursion}
use Rattle.crq_base.specs.declared.event.Event.{Event}
use Rattle.crq_sim.specs.declared.model.Start.{Start}
use Rattle.crq_sim.specs.EventLists.{with_event, with_events, AreInOrder}
use Rattle.crq_sim.specs.Runs.{scheduled_starts}
use Rattle.crq_sim.proofs.EventListLemmas.{absent, All-with_event, All-weaker, in_order-with_event}

abbrev pub event_of : Start → ℕ → Event
event_of s seq = record { time = s.time; src = 0; seq = seq; dst = s.object; load = s.load }

-- the start that comes next
start_due : (until seq i : ℕ) (starts : List Start) (d : Start) → i < length starts → (get_or starts i d).time ≤ until
    → scheduled_starts until seq (drop i starts) ≡ event_of (get_or starts i d) seq ∷ scheduled_starts until (seq + 1) (drop (i + 1) starts)
unfolding scheduled_starts
start_due until seq i starts d h le =
    elim (leb_tells (get_or starts i d).time until) [
      | inl at ↦ rw (drop_more starts i d h, at.0) refl
      | inr past ↦ absurd (omega arith)
    ]

start_past : (until seq i : ℕ) (starts : List Start) (d : Start) → i < length starts → until < (get_or starts i d).time
    → scheduled_starts until seq (drop i starts) ≡ scheduled_starts until seq (drop (i + 1) starts)
unfolding scheduled_starts
start_past until seq i starts d h lt =
    elim (leb_tells (get_or starts i d).time until) [
      | inl at ↦ absurd (omega arith)
      | inr past ↦ rw (drop_more starts i d h, past.0) refl
    ]

starts_end : (until seq i : ℕ) (starts : List Start) → length starts ≤ i → scheduled_starts until seq (drop i starts) ≡ []
unfolding scheduled_starts
starts_end until seq i starts h = rw (drop_all i starts h) refl

-- the events and the next number after i starts
pub record Started (until : ℕ) (starts : List Start) (i seq : ℕ) (events : List Event) : Type 0 where
  pub rest : events ++ scheduled_starts until seq (drop i starts) ≡ scheduled_starts until 0 starts
  pub few : seq ≤ i

pub started_due : (until : ℕ) (starts : List Start) (i seq : ℕ) (events : List Event) (d : Start) → i < length starts → (get_or starts i d).time ≤ until
    → Started until starts i seq events → Started until starts (i + 1) (seq + 1) (events ++ event_of (get_or starts i d) seq ∷ [])
started_due until starts i seq events d h le k = record {
  rest = append_assoc events (event_of (get_or starts i d) seq ∷ []) (scheduled_starts until (seq + 1) (drop (i + 1) starts)) ∙ (sym (ap (λ es. events ++ es) (start_due until seq i starts d h le)) ∙ k.rest);
  few = (let f = k.few in omega arith);
}

pub started_past : (until : ℕ) (starts : List Start) (i seq : ℕ) (events : List Event) (d : Start) → i < length starts → until < (get_or starts i d).time
    → Started until starts i seq events → Started until starts (i + 1) seq events
started_past until starts i seq events d h lt k = record {
  rest = sym (ap (λ es. events ++ es) (start_past until seq i starts d h lt)) ∙ k.rest;
  few = (let f = k.few in omega arith);
}

pub started_all : (until : ℕ) (starts : List Start) (i seq : ℕ) (events : List Event) → length starts ≤ i → Started until starts i seq events → events ≡ scheduled_starts until 0 starts
started_all until starts i seq events h k = sym (append-nil events) ∙ (sym (ap (λ es. events ++ es) (starts_end until seq i starts h)) ∙ k.rest)

-- the scheduled starts are in order
pub starts_in_order : (until n : ℕ) (ss : List Start) (pending : List Event) → AllByRecursion (λ (f : Event). f.seq < n) pending → AreInOrder pending → AreInOrder (with_events (scheduled_starts until n ss) pending)
unfolding scheduled_starts
starts_in_order until n [] pending below h = h
starts_in_order until n (s ∷ ss) pending below h =
    elim (leb_tells s.time until) [
      | inl at ↦ rw at.0 (starts_in_order until (n + 1) ss (with_event (event_of s n) pending)
          (All-with_event (λ (f : Event). f.seq < n + 1) (event_of s n) pending (omega arith) (All-weaker (λ (f : Event). f.seq < n) (λ (f : Event). f.seq < n + 1) (λ f l. omega arith) pending below))
          (in_order-with_event (event_of s n) pending (absent (event_of s n) pending (All-weaker (λ (f : Event). f.seq < n) _ (λ f l same. l) pending below)) h))
      | inr past ↦ rw past.0 (starts_in_order until n ss pending below h)
    ]
