-- The events of a window by their objects.
use Rattle.std.specs.Prelude.{◌≡◌, ℕ, ◌-◌, ◌<◌, ◌≤◌, List, [], ◌∷◌, length, take, drop, Contains}
use Rattle.std.specs.List.{AllByRecursion}
use Rattle.crq_base.specs.declared.event.Event.{Event}
use Rattle.crq_sim.specs.EventLists.{AreInOrder}
use Rattle.crq_sim.specs.Models.{IsObject}
use Rattle.crq_sim.specs.WindowRuns.{events_of}
use Rattle.crq_windows.specs.declared.group.Group.{Group}

-- the events of a group in the list of all events
abbrev pub group_events : List Event → Group → List Event
group_events events g = take (g.upto - g.from) (drop g.from events)

-- a group of the events: all those of its object, one at least, in order of their keys
pub record IsGroup (objects : ℕ) (events : List Event) (g : Group) : Type 0 where
  pub object : IsObject objects g.object
  pub some : g.from < g.upto
  pub inside : g.upto ≤ length events
  pub just : group_events events g ≡ events_of g.object events
  pub in_order : AreInOrder (group_events events g)

-- in order of objects, one group for each
abbrev pub AreRising : List Group → Type 0
AreRising [] = Unit {0}
AreRising (g ∷ gs) = AllByRecursion (λ (h : Group). g.object < h.object) gs × AreRising gs

-- the groups of the events: each event is in one
pub record AreGroups (objects : ℕ) (events : List Event) (groups : List Group) : Type 0 where
  pub each : AllByRecursion (IsGroup objects events) groups
  pub all : (e : Event) → Contains events e → (g : Group) × Contains groups g × (g.object ≡ e.dst)
  pub rising : AreRising groups
