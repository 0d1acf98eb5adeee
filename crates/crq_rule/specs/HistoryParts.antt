-- The parts of the invariant on the history: who made which entry, which row carries which pending event, and how far a take that walks has come.
use Rattle.std.specs.Prelude.{◌≡◌, ◌⊎◌, ℕ, ◌<◌, ◌≤◌, List, [], ◌∷◌, ◌++◌, length, take, drop, Option, Some, None, Contains}
use Rattle.crq_base.specs.declared.event.Event.{Event}
use Rattle.crq_base.specs.declared.entry.Entry.{Entry}
use Rattle.crq_base.specs.declared.entry.Entry.TheVariants.{Begin, Put}
use Rattle.crq_base.specs.Entries.{caller_of as whose}
use Rattle.crq_base.specs.Histories.{puts, settleds, outs, table_count, raising_count, own as own_of, IsEarlier, IsPending, Began, IsLegal}
use Rattle.crq_base.specs.declared.words.Link.{Link}
use Rattle.crq_base.specs.declared.words.Mark.{Mark}
use Rattle.crq_base.specs.declared.words.Mark.TheVariants.{Val, Inv as Invalid, Mov, Del}
use Rattle.crq_base.specs.declared.words.Current.{Current}
use Rattle.crq_base.specs.Lists.{In}
use Rattle.crq_base.specs.Sources.{owner_of}
use Rattle.crq_rule.specs.declared.layout.Layout.{Layout}
use Rattle.crq_rule.specs.declared.view.Deal.{Deal}
use Rattle.crq_rule.specs.declared.view.Stand.{Stand}
use Rattle.crq_rule.specs.declared.debts.SettleDebt.{SettleDebt}
use Rattle.crq_rule.specs.declared.view.Sight.{Sight}
use Rattle.crq_rule.specs.declared.view.Walk.{Walk}
use Rattle.crq_rule.specs.declared.view.Told.{Told as ViewTold}
use Rattle.crq_rule.specs.Places.{IsRow, IsHead}
use Rattle.crq_rule.specs.Core.{Holding, listed}
use Rattle.crq_rule.specs.Parts.{Follows, rows_of}
use Rattle.crq_rule.specs.Ranks.{bucket, head_for, shape_of, head_of, IsOpen}

-- 15. Carriers: each pending event stands in one row that carries it, and each such row holds a pending event

-- A row carries its event if it is present, or if it is frozen and its copy isn't valid yet. This is said of the row's mark, its twin and that one's mark
abbrev pub IsCarrying : Mark → ℕ → Mark → Type 0
IsCarrying Val t m = Unit {0}
IsCarrying Invalid t m = ⊥
IsCarrying Mov t m = (t ≡ 0) ⊎ (m ≡ Invalid)
IsCarrying Del t m = ⊥

-- the row r is listed, and carries its event
abbrev pub IsLive : Layout → (ℕ → Link) → (ℕ → ℕ) → (ℕ → Holding) → ℕ → Type 0
IsLive l link twin holding r = IsRow l r × ((q : ℕ) × (holding r ≡ listed q)) × IsCarrying (link r).mark (twin r) (link (twin r)).mark

pub record Carriers (l : Layout) (history : List Entry) (link : ℕ → Link) (twin : ℕ → ℕ) (event : ℕ → Event) (holding : ℕ → Holding) : Type 0 where
  pub carried : (e : Event) → IsPending history e → (r : ℕ) × IsLive l link twin holding r × (event r ≡ e)
  pub pending : (r : ℕ) → IsLive l link twin holding r → IsPending history (event r)
  pub one : (r s : ℕ) → IsLive l link twin holding r → IsLive l link twin holding s → event r ≡ event s → r ≡ s

-- 16. The history

-- the last of these entries is a Begin
abbrev pub EndsInBegin : List Entry → Type 0
EndsInBegin es = (front : List Entry) × (j : ℕ) × (es ≡ front ++ Begin j ∷ [])

pub record Told (n : ℕ) (history : List Entry) (deal : Deal) (own : ℕ → List Entry) (begun : ℕ → ℕ) : Type 0 where
  pub legal : IsLegal history
  pub spans : 0 < deal.span
  pub since : List Entry
  pub extends : history ≡ deal.history ++ since
  pub each : (j : ℕ) → j < n → own_of j since ≡ own j
  pub inside : (e : Entry) → In e since → whose e < n
  pub sourced : (j : ℕ) (e : Event) → In (Put j e) since → owner_of n deal.span e.src ≡ j
  pub begun_low : (j : ℕ) → j < n → begun j ≤ length history
  pub began : (j : ℕ) → j < n → EndsInBegin (own j) → (front : List Entry) × (length front ≡ begun j) × Began j history front

-- the history has at least as many entries as the answers told each caller
pub record Numbers (n : ℕ) (history : List Entry) (told : ℕ → ViewTold) : Type 0 where
  pub tables : (k : ℕ) → k < n → (told k).tables ≤ table_count history
  pub raising : (k : ℕ) → k < n → (told k).settled ≤ raising_count history

-- 17. Settling: an event that was put and isn't settled is owed by the one caller that put it
pub record Settling (n : ℕ) (history : List Entry) (settling : ℕ → Option SettleDebt) : Type 0 where
  pub owed : (k : ℕ) (d : SettleDebt) → k < n → settling k ≡ Some d → In (Put k d.event) history × (Contains (settleds history) d.event → ⊥)
  pub unsettled : (e : Event) → Contains (puts history) e → (Contains (settleds history) e → ⊥) → (k : ℕ) × (k < n) × ((d : SettleDebt) × (settling k ≡ Some d) × (d.event ≡ e))
  pub lone : (i k : ℕ) (d f : SettleDebt) → i < n → k < n → settling i ≡ Some d → settling k ≡ Some f → d.event ≡ f.event → i ≡ k

-- 18. Walkers: what a take knows of pending events, from when it read current and the table, and from how far it walked

-- what these facts are stated over: the number of callers, the generation of the open table, current, the history, and the events that callers owe
pub record Present : Type 0 where
  pub workers : ℕ
  pub generation : ℕ
  pub current : Current
  pub history : List Entry
  pub settling : ℕ → Option SettleDebt

-- what is known of takes, by caller: the lengths of the history at the last Begin, and when the table was read; the table with current; how far the take walked, and the rows on which its caller stands
pub record Takes : Type 0 where
  pub begun : ℕ → ℕ
  pub read : ℕ → ℕ
  pub sight : ℕ → Option Sight
  pub walk : ℕ → Option Walk
  pub rows : ℕ → List Stand

-- the event e stands in a present or frozen row of the generation g, to which links lead from the row `at`. They do so whatever becomes of other rows, and of the table
pub record StandsFrom (link : ℕ → Link) (event : ℕ → Event) (g at : ℕ) (e : Event) : Type 0 where
  pub row : ℕ
  pub some_row : 0 < at
  pub kept : ((link row).mark ≡ Val) ⊎ ((link row).mark ≡ Mov)
  pub of : (link row).generation ≡ g
  pub holds : event row ≡ e
  pub follows : Follows link at row

-- of a take that began when the history had `begun` entries, and read a table when it had `read` entries: what was settled before it began, and isn't out, isn't before current as it saw that. While current is that still, and the table open, what was put since it read
-- and is settled is of a later bucket. An event that is owed to an older table was put before it read
pub record Sees (now : Present) (begun read : ℕ) (s : Sight) : Type 0 where
  pub after : (begun < read) × (read ≤ length now.history)
  pub above : (e : Event) → Contains (settleds (take begun now.history)) e → (Contains (outs now.history) e → ⊥) → s.current.tick ≤ e.time
  pub ahead : s.current ≡ now.current → s.table.generation ≡ now.generation → (e : Event) → Contains (puts (drop read now.history)) e → Contains (settleds now.history) e
      → bucket (shape_of s.table) s.current.tick < bucket (shape_of s.table) e.time
  pub owed : (i : ℕ) (d : SettleDebt) → i < now.workers → now.settling i ≡ Some d → d.generation < s.table.generation → Contains (puts (take read now.history)) d.event

-- one take that walks
pub record Walking : Type 0 where
  pub sight : Sight
  pub read : ℕ
  pub walk : Walk
  pub rows : List Stand

-- the walk seeks events of this bucket: of those up to its own, and in a search of all
abbrev pub IsSought : Option ℕ → ℕ → Type 0
IsSought None b = Unit {0}
IsSought (Some upto) b = b ≤ upto

-- there is such a row, and the event isn't earlier than its
abbrev pub IsNotBefore : Option (ℕ × Event) → Event → Type 0
IsNotBefore None e = ⊥
IsNotBefore (Some t) e = IsEarlier e t.1 → ⊥

-- Each event of the list that was put before the take read the table, is pending and of a bucket that it seeks, stands in a row at which the take is, or to which links lead from there. In a search, those of the lists before this one aren't earlier than the least row
pub record Walks (history : List Entry) (link : ℕ → Link) (event : ℕ → Event) (t : Walking) : Type 0 where
  pub head : IsHead t.walk.head × IsOpen t.sight.table t.walk.head
  pub of : (b : ℕ) → t.walk.bucket ≡ Some b → (b ≡ bucket (shape_of t.sight.table) t.sight.current.tick) × (t.walk.head ≡ head_for t.sight.table.generation (shape_of t.sight.table) b)
  pub at_stand : (t.walk.at ≡ 0) ⊎ (In t.walk.at (rows_of t.rows) × ((link t.walk.at).generation ≡ t.sight.table.generation))
  pub left : (e : Event) → Contains (puts (take t.read history)) e → (Contains (outs history) e → ⊥) → head_of t.sight.table e ≡ t.walk.head → IsSought t.walk.bucket (bucket (shape_of t.sight.table) e.time)
      → StandsFrom link event t.sight.table.generation t.walk.at e
  pub done : t.walk.bucket ≡ None → (e : Event) → Contains (puts (take t.read history)) e → (Contains (outs history) e → ⊥) → head_of t.sight.table e < t.walk.head → IsNotBefore t.walk.least e
  pub least : (r : ℕ) (e : Event) → t.walk.least ≡ Some (r, e) → ((s : Stand) × In s t.rows × (s.row ≡ r) × (s.event ≡ e)) × ((link r).generation ≡ t.sight.table.generation)

abbrev pub walking : Takes → ℕ → Sight → Walk → Walking
walking takes k s w = record { sight = s; read = takes.read k; walk = w; rows = takes.rows k }

pub record Walkers (now : Present) (takes : Takes) (link : ℕ → Link) (event : ℕ → Event) : Type 0 where
  pub seen : (k : ℕ) (s : Sight) → k < now.workers → takes.sight k ≡ Some s → Sees now (takes.begun k) (takes.read k) s
  pub walked : (k : ℕ) (w : Walk) → k < now.workers → takes.walk k ≡ Some w → (s : Sight) × (takes.sight k ≡ Some s) × Walks now.history link event (walking takes k s w)
