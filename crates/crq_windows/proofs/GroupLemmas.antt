-- The groups of events that are arranged, one after another.
use Rattle.std.proofs.Common.{◌≡◌, ℕ, ◌+◌, ◌-◌, ◌<◌, ◌≤◌, List, [], ◌∷◌, ◌++◌, true, false, ◌==◌, length, take, drop, get_or, All, Contains, arith, inl, inr, sym, ap, ◌∙◌, subst}
use Rattle.std.proofs.lemmas.Bool.{cases_lt}
use Rattle.std.proofs.lemmas.Bool.Decides.{nat_tests}
use Rattle.std.proofs.lemmas.List.{get_or_default}
use Rattle.std.proofs.lemmas.List.Elements.{All-get_or, Contains-append_left, Contains-push}
use Rattle.std.specs.List.{AllByRecursion}
use Rattle.crq_base.specs.declared.event.Event.{Event}
use Rattle.crq_base.specs.Keys.{IsBefore}
use Rattle.crq_sim.specs.EventLists.{AreInOrder}
use Rattle.crq_sim.specs.Models.{IsObject}
use Rattle.crq_sim.proofs.EventListLemmas.{All-weaker}
use Rattle.crq_windows.specs.declared.group.Group.{Group}
use Rattle.crq_windows.specs.Arranged.{IsArranged, AreDistinct}
use Rattle.crq_windows.specs.Groups.{IsGroup, AreRising, AreGroups}
use Rattle.crq_windows.proofs.ArrangedLemmas.{objects_rise, keys_rise}
use Rattle.crq_windows.proofs.SegmentLemmas.{get_or-segment, length-segment, segment_is_filter, in_order}

pub record IsReady (objects : ℕ) (events : List Event) : Type 0 where
  pub known : All (λ (e : Event). IsObject objects e.dst) events
  pub distinct : AreDistinct events
  pub arranged : IsArranged events

-- the events from one place up to another are all those of one object
pub record IsRun (events : List Event) (object from upto : ℕ) : Type 0 where
  pub after : from < upto
  pub within : upto ≤ length events
  pub begins : (d : Event) → 0 < from → (get_or events (from - 1) d).dst < object
  pub first : (d : Event) → (get_or events from d).dst ≡ object
  pub last : (d : Event) → (get_or events (upto - 1) d).dst ≡ object
  pub next : (d : Event) → upto < length events → object < (get_or events upto d).dst

-- the groups of the events before a place
pub record AreGroupsTo (objects : ℕ) (events : List Event) (from : ℕ) (groups : List Group) : Type 0 where
  pub within : from ≤ length events
  pub begins : (d : Event) → 0 < from → from < length events → (get_or events (from - 1) d).dst < (get_or events from d).dst
  pub each : AllByRecursion (IsGroup objects events) groups
  pub all : (k : ℕ) (d : Event) → k < from → (g : Group) × Contains groups g × (g.object ≡ (get_or events k d).dst)
  pub rising : AreRising groups
  pub below : (d : Event) → from < length events → AllByRecursion (λ (g : Group). g.object < (get_or events from d).dst) groups

-- where a test of the object holds
here : (a b : ℕ) → a ≡ b → (a == b) ≡ true
here a b h = grind (arith, nat_tests)

below_not : (a b : ℕ) → a < b → (a == b) ≡ false
below_not a b h = grind (arith, nat_tests)

above_not : (a b : ℕ) → b < a → (a == b) ≡ false
above_not a b h = grind (arith, nat_tests)

-- the objects before, within and after a run
before_run : (events : List Event) (object from upto : ℕ) → IsArranged events → IsRun events object from upto → (k : ℕ) (d : Event) → k < from → (get_or events k d).dst < object
before_run events object from upto h run k d lt =
    let rise : (get_or events k d).dst ≤ (get_or events (from - 1) d).dst = objects_rise events h k (from - 1) d (omega arith) (omega (arith, run.after, run.within)) in
    let less = run.begins d (omega arith) in
    omega arith

in_run : (events : List Event) (object from upto : ℕ) → IsArranged events → IsRun events object from upto → (k : ℕ) (d : Event) → from ≤ k → k < upto → (get_or events k d).dst ≡ object
in_run events object from upto h run k d le lt =
    let low : (get_or events from d).dst ≤ (get_or events k d).dst = objects_rise events h from k d le (omega (arith, run.within)) in
    let high : (get_or events k d).dst ≤ (get_or events (upto - 1) d).dst = objects_rise events h k (upto - 1) d (omega arith) (omega (arith, run.within)) in
    let first = run.first d in
    let last = run.last d in
    omega arith

after_run : (events : List Event) (object from upto : ℕ) → IsArranged events → IsRun events object from upto → (k : ℕ) (d : Event) → upto ≤ k → k < length events → object < (get_or events k d).dst
after_run events object from upto h run k d le lt =
    let rise : (get_or events upto d).dst ≤ (get_or events k d).dst = objects_rise events h upto k d le lt in
    let more = run.next d (omega arith) in
    omega arith

run_in_order : (events : List Event) (object from upto : ℕ) → IsArranged events → AreDistinct events → IsRun events object from upto → AreInOrder (take (upto - from) (drop from events))
run_in_order events object from upto h apart run =
    let after = run.after in
    let within = run.within in
    let long : length (take (upto - from) (drop from events)) ≡ upto - from = length-segment events from upto (omega arith) within in
    in_order (take (upto - from) (drop from events)) (λ i j d lt end.
    let one : get_or (take (upto - from) (drop from events)) i d ≡ get_or events (from + i) d = get_or-segment events from (upto - from) i d (omega arith) in
    let other : get_or (take (upto - from) (drop from events)) j d ≡ get_or events (from + j) d = get_or-segment events from (upto - from) j d (omega arith) in
    let same : (get_or events (from + i) d).dst ≡ (get_or events (from + j) d).dst =
    in_run events object from upto h run (from + i) d (omega arith) (omega arith) ∙ sym (in_run events object from upto h run (from + j) d (omega arith) (omega arith)) in
    let before : IsBefore (get_or events (from + i) d) (get_or events (from + j) d) = keys_rise events h apart (from + i) (from + j) d (omega arith) (omega arith) same in
    subst (λ (e : Event). IsBefore e (get_or (take (upto - from) (drop from events)) j d)) (sym one) (subst (λ (f : Event). IsBefore (get_or events (from + i) d) f) (sym other) before))

abbrev pub any_event : Event
any_event = record { time = 0; src = 0; seq = 0; dst = 0; load = 0 }

-- it is a group
run_is_group : (objects : ℕ) (events : List Event) (object from upto : ℕ) → IsReady objects events → IsRun events object from upto → IsGroup objects events (record { object = object; from = from; upto = upto })
run_is_group objects events object from upto h run =
    let after = run.after in
    let within = run.within in
    let arranged = h.arranged in
    record {
      object = subst (IsObject objects) (run.first any_event) (All-get_or (λ (e : Event). IsObject objects e.dst) events from any_event (omega arith) h.known);
      some = after;
      inside = within;
      just = segment_is_filter (λ (e : Event). e.dst == object) events from upto (omega arith) within
          (λ k d lt. below_not _ _ (before_run events object from upto arranged run k d lt))
          (λ k d le lt. here _ _ (in_run events object from upto arranged run k d le lt))
          (λ k d le lt. above_not _ _ (after_run events object from upto arranged run k d le lt));
      in_order = run_in_order events object from upto arranged h.distinct run;
    }

-- a run as it was found
pub run_found : (objects : ℕ) (events : List Event) (from upto : ℕ) (groups : List Group) (object : ℕ) → IsArranged events → AreGroupsTo objects events from groups → from < length events
    → ((d : Event) → (get_or events from d).dst ≡ object) → from < upto → upto ≤ length events
    → ((d : Event) → (get_or events (upto - 1) d).dst ≡ (get_or events from d).dst)
    → ((d : Event) → upto < length events → (get_or events upto d).dst ≡ (get_or events from d).dst → ⊥)
    → IsRun events object from upto
run_found objects events from upto groups object h to lt first after within last next =
    record {
      after = after;
      within = within;
      begins = (λ d some. (let less = to.begins d some lt in let is = first d in omega arith));
      first = first;
      last = (λ d. last d ∙ first d);
      next = (λ d more. (
          let rise : (get_or events (upto - 1) d).dst ≤ (get_or events upto d).dst = objects_rise events h (upto - 1) upto d (omega arith) more in
          let is = first d in
          let end = last d in
          elim (cases_lt object (get_or events upto d).dst) [
            | inl less ↦ less
            | inr other ↦ absurd (next d more (omega arith))
          ]));
    }

-- one more group
all_push : (P : Group → Type 0) (groups : List Group) (g : Group) → AllByRecursion P groups → P g → AllByRecursion P (groups ++ g ∷ [])
all_push P [] g h p = (p, tt)
all_push P (x ∷ xs) g h p = (h.0, all_push P xs g h.1 p)

all_weaker : (P Q : Group → Type 0) (groups : List Group) → ((g : Group) → P g → Q g) → AllByRecursion P groups → AllByRecursion Q groups
all_weaker P Q groups f h = All-weaker P Q f groups h

rising_push : (groups : List Group) (g : Group) → AreRising groups → AllByRecursion (λ (h : Group). h.object < g.object) groups → AreRising (groups ++ g ∷ [])
rising_push [] g h below = (tt, tt)
rising_push (x ∷ xs) g h below = (all_push (λ (k : Group). x.object < k.object) xs g h.0 below.0, rising_push xs g h.1 below.1)

all_more : (objects : ℕ) (events : List Event) (object from upto : ℕ) (groups : List Group) → IsArranged events → AreGroupsTo objects events from groups → IsRun events object from upto
    → (k : ℕ) (d : Event) → k < upto → (g : Group) × Contains (groups ++ record { object = object; from = from; upto = upto } ∷ []) g × (g.object ≡ (get_or events k d).dst)
all_more objects events object from upto groups h to run k d lt =
    let new : Group = record { object = object; from = from; upto = upto } in
    elim (cases_lt k from) [
      | inl old ↦ (let one = to.all k d old in (one.0, Contains-append_left groups (new ∷ []) one.0 one.1, one.2))
      | inr past ↦ (new, Contains-push groups new, sym (in_run events object from upto h run k d past lt))
    ]

pub groups_more : (objects : ℕ) (events : List Event) (object from upto : ℕ) (groups : List Group) → IsReady objects events → from < length events → AreGroupsTo objects events from groups
    → IsRun events object from upto → AreGroupsTo objects events upto (groups ++ record { object = object; from = from; upto = upto } ∷ [])
groups_more objects events object from upto groups h lt to run =
    let new : Group = record { object = object; from = from; upto = upto } in
    let first = run.first any_event in
    let before : AllByRecursion (λ (g : Group). g.object < object) groups = all_weaker _ _ groups (λ g less. omega arith) (to.below any_event lt) in
    record {
      within = run.within;
      begins = (λ d some more. (let last = run.last d in let next = run.next d more in omega arith));
      each = all_push (IsGroup objects events) groups new to.each (run_is_group objects events object from upto h run);
      all = all_more objects events object from upto groups h.arranged to run;
      rising = rising_push groups new to.rising before;
      below = (λ d more. (let next = run.next d more in
          all_push (λ (g : Group). g.object < (get_or events upto d).dst) groups new (all_weaker _ _ groups (λ g less. omega arith) before) next));
    }

-- a loop's step: the group at a place whose end was found
pub groups_step : (objects : ℕ) (events : List Event) (from upto : ℕ) (d : Event) (groups more : List Group) → IsReady objects events → AreGroupsTo objects events from groups → from < length events
    → from < upto → upto ≤ length events
    → ((d : Event) → (get_or events (upto - 1) d).dst ≡ (get_or events from d).dst)
    → ((d : Event) → upto < length events → (get_or events upto d).dst ≡ (get_or events from d).dst → ⊥)
    → more ≡ groups ++ record { object = (get_or events from d).dst; from = from; upto = upto } ∷ [] → AreGroupsTo objects events upto more
groups_step objects events from upto d groups more h to lt after within last next is =
    let object : ℕ = (get_or events from d).dst in
    let first : ((x : Event) → (get_or events from x).dst ≡ object) = λ x. ap (λ (e : Event). e.dst) (get_or_default events from x d lt) in
    let run : IsRun events object from upto = run_found objects events from upto groups object h.arranged to lt first after within last next in
    subst (AreGroupsTo objects events upto) (sym is) (groups_more objects events object from upto groups h lt to run)

pub no_groups : (objects : ℕ) (events : List Event) → AreGroupsTo objects events 0 []
no_groups objects events =
    record {
      within = omega arith;
      begins = (λ d some lt. absurd (omega arith));
      each = tt;
      all = (λ k d lt. absurd (omega arith));
      rising = tt;
      below = (λ d lt. tt);
    }

-- all of them
pub all_groups : (objects : ℕ) (events : List Event) (from : ℕ) (groups : List Group) → length events ≤ from → AreGroupsTo objects events from groups → AreGroups objects events groups
all_groups objects events from groups end to =
    record {
      each = to.each;
      all = (λ e at. (let lt : at.0 < length events = at.1 in let one = to.all at.0 e (omega arith) in
          (one.0, one.1, one.2 ∙ ap (λ (x : Event). x.dst) at.2)));
      rising = to.rising;
    }
