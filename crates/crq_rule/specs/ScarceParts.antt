-- The parts of the invariant on the shortage of rows: what a recovery of rows knows since its first epoch load, and the events that a refusal keeps.
use Rattle.std.specs.Prelude.{◌≡◌, ◌⊎◌, ◌==◌, ◌&&◌, ◌||◌, Bool, false, cond, ℕ, ◌+◌, ◌*◌, ◌<◌, ◌≤◌, List, [], ◌∷◌, ◌++◌, length, take, Option, Some, Contains}
use Rattle.crq_base.specs.declared.event.Event.{Event}
use Rattle.crq_base.specs.declared.entry.Entry.{Entry}
use Rattle.crq_base.specs.declared.entry.Entry.TheVariants.{Begin}
use Rattle.crq_base.specs.Histories.{puts, outs}
use Rattle.crq_base.specs.Lists.{In}
use Rattle.crq_base.specs.Refusals.{AreCounted}
use Rattle.crq_rule.specs.declared.layout.Layout.{Layout}
use Rattle.crq_rule.specs.declared.view.Guard.{Guard}
use Rattle.crq_rule.specs.declared.view.Base.{Base}
use Rattle.crq_rule.specs.declared.view.Sweep.{Sweep}
use Rattle.crq_rule.specs.Places.{IsHomeRow, IsHead}
use Rattle.crq_rule.specs.Core.{Holding, in_hand, listed, cut_by, retired}
use Rattle.crq_rule.specs.Parts.{OnSince}
use Rattle.crq_rule.specs.Ranks.{rank}

-- What is pending, as a list

abbrev pub is_event : Event → Event → Bool
is_event a b = (a.time == b.time) && ((a.src == b.src) && ((a.seq == b.seq) && ((a.dst == b.dst) && (a.load == b.load))))

abbrev pub has_event : List Event → Event → Bool
has_event [] e = false
has_event (x ∷ xs) e = is_event x e || has_event xs e

-- those events that aren't among the taken ones
abbrev pub without_taken : List Event → List Event → List Event
without_taken taken [] = []
without_taken taken (e ∷ es) = cond (has_event taken e) (without_taken taken es) (e ∷ without_taken taken es)

-- the events that were put and not taken, in the order in which they were put
unfoldable pub pending : List Entry → List Event
pending history = without_taken (outs history) (puts history)

-- 19. Scarcity

-- A row that is held so is late for the epoch g: it is listed, or it was cut under a guard that found more than g, or retired with a tag above g + 1. Such a row isn't ripe before the epoch g + 4
abbrev pub IsLate : (ℕ → Guard) → ℕ → Holding → Type 0
IsLate guard g (in_hand j) = ⊥
IsLate guard g (listed q) = Unit {0}
IsLate guard g (cut_by j) = OnSince (g + 1) (guard j)
IsLate guard g (retired t) = g + 2 ≤ t

-- no more home rows of the caller k than this are late for g: they are all among the rows of a list that isn't longer
pub record IsScarce (l : Layout) (guard : ℕ → Guard) (holding : ℕ → Holding) (k g most : ℕ) : Type 0 where
  pub rows : List ℕ
  pub few : length rows ≤ most
  pub all : (r : ℕ) → IsHomeRow l k r → IsLate guard g (holding r) → In r rows

-- Each listed row has a slot: it is named by one of the two dead rows that a caller may owe, which are slots of a copy that isn't bound too, or it holds a pending event, or is the second row of one. So in the
-- state of the load at which the recovery began, where all rows that are late were listed, they were at most two for each caller and two for each event that was pending
abbrev pub slots : Layout → List Event → ℕ
slots l events = 2 * length events + 2 * l.workers

-- what is known of the caller k since it began to recover rows
pub record IsBase (l : Layout) (epoch : ℕ) (history : List Entry) (guard : ℕ → Guard) (holding : ℕ → Holding) (k : ℕ) (b : Base) : Type 0 where
  pub placed : b.place ≤ length history
  pub events : b.events ≡ pending (take b.place history)
  pub counted : AreCounted history k b.events
  pub early : b.epoch ≤ epoch
  -- rows come to be late by the caller's own links alone, after which there is no base
  pub late : IsScarce l guard holding k b.epoch (slots l b.events)
  -- the home rows that were looked at are in hand or late
  pub looked : (r : ℕ) → IsHomeRow l k r → r ≤ k * l.home + b.looked → (holding r ≡ in_hand k) ⊎ IsLate guard b.epoch (holding r)
  pub third : 0 < b.looked → b.epoch + 3 ≤ epoch

pub record Scarce (l : Layout) (epoch : ℕ) (history : List Entry) (base : ℕ → Option Base) (guard : ℕ → Guard) (holding : ℕ → Holding) : Type 0 where
  pub each : (k : ℕ) (b : Base) → k < l.workers → base k ≡ Some b → IsBase l epoch history guard holding k b

-- 20. The events that a refusal for want of rows keeps

pub record Refusals (n : ℕ) (history : List Entry) (refused : ℕ → List Event) : Type 0 where
  pub each : (k : ℕ) → k < n → AreCounted history k (refused k)

-- 21. Sweeps: what a caller has swept holds none of its home rows whose event was out at its last Begin

-- the event was out at some Begin of the caller k: so it was at the last one
abbrev pub WasOut : List Entry → ℕ → Event → Type 0
WasOut history k e = (front : List Entry) × (back : List Entry) × (history ≡ front ++ Begin k ∷ back) × Contains (outs front) e

-- Such a row, in the list of a sweep, isn't passed yet; and it isn't in a list that is clean. What the sweep keeps of its place is a number, which no step of others changes: so it needs no stand, and the own cut of a row
-- leaves it. Once events are copied, a row that is frozen or a copy joins here by what its debtor knows of the old row's event, and a head by its generation
pub record Swept (l : Layout) (history : List Entry) (event : ℕ → Event) (chain : ℕ → List ℕ) (sweep : ℕ → Option Sweep) (clean : ℕ → List ℕ) : Type 0 where
  pub left : (k r : ℕ) (s : Sweep) → k < l.workers → sweep k ≡ Some s → IsHead s.head → IsHomeRow l k r → In r (chain s.head) → WasOut history k (event r) → s.rank ≤ rank (event r) r
  pub clean_is : (k q r : ℕ) → k < l.workers → In q (clean k) → IsHead q → IsHomeRow l k r → In r (chain q) → WasOut history k (event r) → ⊥
