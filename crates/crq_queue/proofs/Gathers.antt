-- Gathering takes in one pass after another.
use Rattle.std.proofs.Common.{◌≡◌, ℕ, ◌+◌, ◌<◌, ◌≤◌, List, [], ◌∷◌, ◌++◌, map, length, set, Some, sym, refl, ap, ◌∙◌, subst, arith, length-append, length-set, le_refl}
use Rattle.std.proofs.lemmas.List.{length-map}
use Rattle.std.specs.Prelude.{Contains, slice_get}
use mathlib.Core.Option.{some, some-injective}
use mathlib.Core.Logic.{dite}
use native.Mathlib.Decide.{ℕ_discrete}
use lib.ListN.{get_elem?}
use Rattle.atomic_table.specs.declared.shared.Seat.{Seat}
use Rattle.crq_base.specs.declared.event.Event.{Event}
use Rattle.crq_base.specs.declared.entry.Entry.{Entry}
use Rattle.crq_base.specs.Entries.{caller_of as whose}
use Rattle.crq_base.specs.Histories.{puts, settleds, table_count, raising_count, own as own_of, IsLegal}
use Rattle.crq_base.specs.Refusals.{AreCounted}
use Rattle.crq_rule.specs.declared.layout.Start.{Start}
use Rattle.crq_rule.specs.declared.pass.Pass.{Pass}
use Rattle.crq_rule.specs.declared.pass.Table.{Table}
use Rattle.crq_rule.specs.declared.pass.Seating.{Seating}
use Rattle.crq_rule.specs.declared.pass.Seating.TheVariants.{Here, Resting}
use Rattle.crq_rule.specs.declared.view.Caller.{Caller}
use Rattle.crq_rule.specs.declared.view.View.{View}
use Rattle.crq_rule.specs.Deals.{HasAll, AreSettled, Gathered, settled_part}
use Rattle.crq_rule.specs.Rule.{joined}
use Rattle.crq_rule.specs.Moves.{Lawful}
use Rattle.crq_rows.specs.Passes.{caller}
use Rattle.crq_rows.proofs.Deals.{same_pass}
use Rattle.crq_rows.proofs.Slots.{get_here, get_else}
use Rattle.crq_queue.specs.declared.calendar.Whole.{Whole}
use Rattle.crq_queue.specs.Wholes.{IsResting, MayGather, AreResting, rest_of, dealt, history_of, Rests, IsWhole, IsGathered}
use Rattle.crq_queue.proofs.Wholes.{within, place_within, at_last, at_before, map_at}

-- the passes below n are taken in: what stays of each rests in its place, and the seat carries its caller
pub record Joining (table : Table) (start now : List Seating) (seat : Seat (Unit {0}) View) (n : ℕ) : Type 0 where
  pub wide : length now ≡ table.start.layout.workers
  pub each : (k : ℕ) (pass : Pass) → k < n → slice_get start k ≡ Some (Here pass) → (slice_get now k ≡ Some (Resting (rest_of pass))) × (get_elem? seat.me.0.parts k ≡ some (caller table pass))
  pub left : (k : ℕ) → n ≤ k → slice_get now k ≡ slice_get start k
  pub seated : seat.table_id ≡ table.inner.shared.table_id
  pub bare : seat.me.1 ≡ []
  pub parts : length seat.me.0.parts ≡ n

-- all passes are taken in
pub joining_end : (table : Table) (start now : List Seating) (seat : Seat (Unit {0}) View) (n : ℕ) → Joining table start now seat n → table.start.layout.workers ≤ n → n ≤ table.start.layout.workers
    → Joining table start now seat table.start.layout.workers
joining_end table start now seat n j low high = subst (Joining table start now seat) (omega arith) j

module _ (table : Table) (start : List Seating) (all : AreResting table start) where
  -- a pass in the place k
  pub pass_at : (k : ℕ) (pass : Pass) → k < table.start.layout.workers → slice_get start k ≡ Some (Here pass) → (pass.number ≡ k) × MayGather table pass
  pass_at k pass b at = let a = all.each k b in subst (λ (q : Pass). (q.number ≡ k) × MayGather table q) (same_pass a.0 pass (sym a.1 ∙ at)) (a.2, a.3)

  pub joining_first : (now : List Seating) (seat : Seat (Unit {0}) View) (pass : Pass) → 0 < table.start.layout.workers → slice_get start 0 ≡ Some (Here pass) → seat ≡ pass.seat → now ≡ set start 0 (Resting (rest_of pass))
      → Joining table start now seat 1
  joining_first now seat pass some_workers at is places = let w = all.wide in let sits = (pass_at 0 pass some_workers at).1.rests.is.sits in let parts : seat.me.0.parts ≡ caller table pass ∷ [] = ap (λ s. s.me.0.parts) is ∙ sits.one in record {
    wide = ap length places ∙ (length-set start 0 (Resting (rest_of pass)) ∙ all.wide);
    each = λ k q b e. let zero_is : 0 ≡ k = omega arith in
        subst (λ k. slice_get start k ≡ Some (Here q) → (slice_get now k ≡ Some (Resting (rest_of q))) × (get_elem? seat.me.0.parts k ≡ some (caller table q))) zero_is
        (λ e. let same = same_pass pass q (sym at ∙ e) in
        (ap (λ xs. slice_get xs 0) places ∙ (get_here start 0 (Resting (rest_of pass)) (omega arith) ∙ ap (λ p. Some (Resting (rest_of p))) same), ap (λ ps. get_elem? ps 0) parts ∙ ap (λ p. some (caller table p)) same)) e;
    left = λ k b. ap (λ xs. slice_get xs k) places ∙ get_else start 0 k (Resting (rest_of pass)) (λ e. omega arith);
    seated = ap (λ s. s.table_id) is ∙ sits.seated;
    bare = ap (λ s. s.me.1) is ∙ sits.bare;
    parts = ap length parts;
  }

  module _ (now : List Seating) (seat : Seat (Unit {0}) View) (n : ℕ) (j : Joining table start now seat n) (b : n < table.start.layout.workers) where
    -- the pass that is next
    pub joining_next : (pass : Pass) × (slice_get now n ≡ Some (Here pass))
    joining_next = let a = all.each n b in (a.0, j.left n (le_refl n) ∙ a.1)

    pub joining_of : (pass : Pass) → slice_get now n ≡ Some (Here pass) → IsResting table pass
    joining_of pass at = (pass_at n pass b (sym (j.left n (le_refl n)) ∙ at)).1.rests

    pub joining_more : (now' : List Seating) (seat' other : Seat (Unit {0}) View) (pass : Pass) → slice_get now n ≡ Some (Here pass) → other ≡ pass.seat → now' ≡ set now n (Resting (rest_of pass)) → seat'.table_id ≡ seat.table_id
        → seat'.me ≡ (joined seat.me.0 other.me.0, seat.me.1) → Joining table start now' seat' (n + 1)
    joining_more now' seat' other pass at is places same me = let w = j.wide in let left : Seating = Resting (rest_of pass) in
        let parts : seat'.me.0.parts ≡ seat.me.0.parts ++ caller table pass ∷ [] = ap (λ m. m.0.parts) me ∙ ap (λ ps. seat.me.0.parts ++ ps) (ap (λ s. s.me.0.parts) is ∙ (joining_of pass at).is.sits.one) in record {
          wide = ap length places ∙ (length-set now n left ∙ j.wide);
          each = λ k q l e. dite (ℕ_discrete n k)
              (λ here. let same = same_pass pass q (sym at ∙ (j.left n (le_refl n) ∙ (ap (slice_get start) here ∙ e))) in (
                ap (λ xs. slice_get xs k) places ∙ (ap (slice_get (set now n left)) (sym here) ∙ (get_here now n left (omega arith) ∙ ap (λ p. Some (Resting (rest_of p))) same)),
                ap (λ ps. get_elem? ps k) parts ∙ (ap (get_elem? (seat.me.0.parts ++ caller table pass ∷ [])) (sym here ∙ sym j.parts) ∙ (at_last seat.me.0.parts (caller table pass) ∙ ap (λ p. some (caller table p)) same)),
              ))
              (λ ne. let old = j.each k q (omega arith) e in
              (ap (λ xs. slice_get xs k) places ∙ (get_else now n k left (λ e. ne (sym e)) ∙ old.0), ap (λ ps. get_elem? ps k) parts ∙ at_before seat.me.0.parts (caller table pass ∷ []) k (caller table q) old.1));
          left = λ k l. ap (λ xs. slice_get xs k) places ∙ (get_else now n k left (λ e. omega arith) ∙ j.left k (omega arith));
          seated = same ∙ j.seated;
          bare = ap (λ m. m.1) me ∙ j.bare;
          parts = ap length parts ∙ (length-append seat.me.0.parts (caller table pass ∷ []) ∙ ap (λ z. z + 1) j.parts);
        }

  module _ (now : List Seating) (seat : Seat (Unit {0}) View) (j : Joining table start now seat table.start.layout.workers) where
    pub joining_all : HasAll table.start.layout.workers seat.me.0
    joining_all c b = let a = all.each c b in (c, caller table a.0, (j.each c a.0 b a.1).1, a.3.rests.is.sits.numbered ∙ a.2)

-- the history is dealt to a caller, whose pass rests
lawful_settled : (h : List Entry) (p : Caller) → Lawful p → Lawful (settled_part h p)
lawful_settled h p l = record {
  inside = l.inside;
  epochs = l.epochs;
  hand = l.hand;
  cut = l.cut;
  tags = l.tags;
  ripening = l.ripening;
  stands = l.stands;
  last = l.last;
  apart = l.apart;
  on = l.on;
  agree = l.agree;
  owing = l.owing;
  owed_at = l.owed_at;
  owed_now = l.owed_now;
  owed_fits = l.owed_fits;
  ordered = l.ordered;
  scarce = l.scarce;
  one_name = l.one_name;
  copying = λ d owes. let k = l.copying d owes in record { on = k.on; old = k.old; copy = k.copy; event = k.event; last = k.last; room = k.room };
  sighted = l.sighted;
  permitted = l.permitted;
  controlled = l.controlled;
  helping = l.helping;
  loaded = l.loaded;
  pinned = l.pinned;
}

settled_rests : (table : Table) (history h : List Entry) (k : ℕ) (pass : Pass) → h ≡ history → pass.number ≡ k → MayGather table pass → Rests table history k (settled_part h (caller table pass)) (rest_of pass)
settled_rests table history h k pass is number g = let r = g.rests in record {
  number = r.is.sits.numbered ∙ number;
  start = r.is.sits.started;
  lawful = lawful_settled h (caller table pass) r.is.lawful;
  deal = is;
  own = refl;
  guard = r.guard;
  cut = r.cut;
  free = r.is.free;
  room = r.is.room;
  debts = r.is.debts;
  settle = g.settled;
  settled = r.settle ∙ g.settled;
  told = refl;
  copy = r.copy;
  second_cut = r.second_cut;
}

first_settled : (h : List Entry) (ps : List Caller) → 0 < length ps → dealt (map (settled_part h) ps) ≡ h
first_settled h [] b = absurd (omega arith)
first_settled h (p ∷ ps) b = refl

-- all passes are taken in, and the history so far is dealt
module _ (table : Table) (start : List Seating) (seat : Seat (Unit {0}) View) (whole : Whole) (all : AreResting table start) (j : Joining table start whole.places.items seat table.start.layout.workers)
    (some_workers : 0 < table.start.layout.workers) (g : Gathered seat.me.0 whole.seat.me.0) where
  -- no caller owes an event
  are_settled : AreSettled seat.me.0
  are_settled k p at = let b : k < table.start.layout.workers = subst (λ n. k < n) j.parts (within seat.me.0.parts k p at) in let a = all.each k b in let there = j.each k a.0 b a.1 in
      ap (λ (q : Caller). q.debts.settle) (some-injective p (caller table a.0) (sym at ∙ there.1)) ∙ (a.3.rests.settle ∙ a.3.settled)

  gathered_history : history_of whole ≡ g.history
  gathered_history = ap (λ v. dealt v.parts) g.is ∙ first_settled g.history seat.me.0.parts (let n = j.parts in omega arith)

  pub joined_whole : whole.seat.table_id ≡ seat.table_id → whole.seat.me.1 ≡ seat.me.1 → IsWhole table whole
  joined_whole same bare = let parts : whole.seat.me.0.parts ≡ map (settled_part g.history) seat.me.0.parts = ap (λ v. v.parts) g.is in record {
    seated = same ∙ j.seated;
    bare = bare ∙ j.bare;
    parts = ap length parts ∙ (length-map {B = Caller} seat.me.0.parts (settled_part g.history) ∙ j.parts);
    wide = j.wide;
    each = λ k b. let a = all.each k b in let at = j.each k a.0 b a.1 in (
      settled_part g.history (caller table a.0),
      rest_of a.0,
      ap (λ ps. get_elem? ps k) parts ∙ map_at (settled_part g.history) seat.me.0.parts k (caller table a.0) at.1,
      at.0,
      settled_rests table (history_of whole) g.history k a.0 (sym gathered_history) a.2 a.3,
    );
  }

  pub joined_history : IsGathered table start whole
  joined_history = let h = gathered_history in let w = all.wide in record {
    legal = subst IsLegal (sym h) g.legal;
    settled = subst (λ h. (e : Event) → Contains (puts h) e → Contains (settleds h) e) (sym h) (g.settled are_settled);
    since = g.since;
    each = λ k pass e. let b = place_within start k (Here pass) e in let at = j.each k pass (omega arith) e in let of = pass_at table start all k pass (omega arith) e in
        let told = g.each k (caller table pass) at.1 in (h ∙ told.0, ap (λ c. own_of c g.since) (sym (of.1.rests.is.sits.numbered ∙ of.0)) ∙ told.1);
    refused = λ k pass e. let b = place_within start k (Here pass) e in let at = j.each k pass (omega arith) e in let of = pass_at table start all k pass (omega arith) e in
        subst (λ (z : List Entry × ℕ). AreCounted z.0 z.1 (caller table pass).refused) (λ i. (sym h i, (of.1.rests.is.sits.numbered ∙ of.0) i)) (g.counted k (caller table pass) at.1);
    tables = λ k pass e. let b = place_within start k (Here pass) e in let at = j.each k pass (omega arith) e in subst (λ (z : List Entry). (caller table pass).told.tables ≤ table_count z) (sym h) (g.tables k (caller table pass) at.1);
    raising = λ k pass e. let b = place_within start k (Here pass) e in let at = j.each k pass (omega arith) e in subst (λ (z : List Entry). (caller table pass).told.settled ≤ raising_count z) (sym h) (g.raising k (caller table pass) at.1);
    inside = λ e i. let a = all.each 0 some_workers in let at = j.each 0 a.0 some_workers a.1 in
        subst (λ (s : Start). whose e < s.layout.workers) a.3.rests.is.sits.started (g.inside 0 (caller table a.0) e at.1 i);
    awake = λ k pass e. let b = place_within start k (Here pass) e in (j.each k pass (omega arith) e).0;
  }
