-- The parts of the invariant on copies: which row is the copy of which, and what callers know of those that they made.
use Rattle.std.specs.Prelude.{◌≡◌, ◌≢◌, ◌⊎◌, true, ℕ, ◌+◌, ◌<◌, List, [], Option, Some, None}
use Rattle.crq_base.specs.declared.event.Event.{Event}
use Rattle.crq_base.specs.declared.entry.Entry.{Entry}
use Rattle.crq_base.specs.declared.words.Link.{Link}
use Rattle.crq_base.specs.declared.words.Mark.TheVariants.{Val, Inv as Invalid, Mov, Del}
use Rattle.crq_base.specs.declared.words.Control.{Control}
use Rattle.crq_rule.specs.declared.debts.CopyDebt.{CopyDebt}
use Rattle.crq_rule.specs.declared.layout.Layout.{Layout}
use Rattle.crq_rule.specs.declared.view.Stand.{Stand}
use Rattle.crq_rule.specs.Places.{IsRow, IsHead}
use Rattle.crq_rule.specs.Core.{Holding, IsOutside, DeadNames, listed}
use Rattle.crq_rule.specs.Parts.{Ground, IsGuarded}
use Rattle.crq_rule.specs.Ranks.{Shape}
use Rattle.crq_rule.specs.ListParts.{IsOldHead, IsNewHead}
use Rattle.crq_rule.specs.ScarceParts.{WasOut}

abbrev pub IsListed : (ℕ → Holding) → ℕ → Type 0
IsListed holding r = (q : ℕ) × (holding r ≡ listed q)

-- 25. Copies. What they are stated over: the rows' words, who holds each row, and the copies that callers owe to bind
pub record Rows : Type 0 where
  pub layout : Layout
  pub link : ℕ → Link
  pub twin : ℕ → ℕ
  pub event : ℕ → Event
  pub holding : ℕ → Holding
  pub copying : ℕ → Option CopyDebt

-- the row o is listed and frozen, and t is its twin
pub record IsBound (rows : Rows) (o t : ℕ) : Type 0 where
  pub row : IsRow rows.layout o
  pub listed_is : IsListed rows.holding o
  pub frozen : (rows.link o).mark ≡ Mov
  pub twin_is : rows.twin o ≡ t
  pub some : 0 < t

-- the row t is a copy of r in the next table
pub record IsCopyOf (rows : Rows) (r t : ℕ) : Type 0 where
  pub row : IsRow rows.layout t
  pub listed_is : IsListed rows.holding t
  pub mark : ((rows.link t).mark ≡ Invalid) ⊎ ((rows.link t).mark ≡ Val)
  pub generation : (rows.link t).generation ≡ (rows.link r).generation + 1
  pub event_is : rows.event t ≡ rows.event r

-- a caller owes the copy t
pub record IsCopying (rows : Rows) (t : ℕ) : Type 0 where
  pub who : ℕ
  pub inside : who < rows.layout.workers
  pub owed : CopyDebt
  pub debt : rows.copying who ≡ Some owed
  pub copy : owed.copy ≡ t

-- A copy that a caller owes is that of a frozen row, in the next table. As long as that row has no twin, both are listed, and the copy isn't valid
pub record CopyFits (rows : Rows) (d : CopyDebt) : Type 0 where
  pub last : rows.link d.old ≡ d.last
  pub frozen : d.last.mark ≡ Mov
  pub next : d.last.generation + 1 ≡ d.generation
  pub generation : (rows.link d.copy).generation ≡ d.generation
  pub old_event : rows.event d.old ≡ d.event
  pub copy_event : rows.event d.copy ≡ d.event
  pub mark : ((rows.link d.copy).mark ≡ Invalid) ⊎ ((rows.link d.copy).mark ≡ Del)
  pub other : rows.twin d.old ≢ d.copy
  pub open_is : rows.twin d.old ≡ 0 → IsListed rows.holding d.old × IsListed rows.holding d.copy × ((rows.link d.copy).mark ≡ Invalid)

pub record Copies (rows : Rows) (ground : Ground) : Type 0 where
  -- a twin is a copy, and of one row alone
  pub bound : (o t : ℕ) → IsBound rows o t → IsCopyOf rows o t
  pub one : (o p t : ℕ) → IsBound rows o t → IsBound rows p t → o ≡ p
  -- a row that isn't valid yet is a twin, or a copy that one caller owes
  pub owned : (t : ℕ) → IsRow rows.layout t → IsOutside rows.holding t → (rows.link t).mark ≡ Invalid → ((o : ℕ) × IsBound rows o t) ⊎ IsCopying rows t
  pub apart : (o t : ℕ) → IsBound rows o t → IsCopying rows t → ⊥
  pub alone : (j k : ℕ) (d e : CopyDebt) → j < rows.layout.workers → k < rows.layout.workers → rows.copying j ≡ Some d → rows.copying k ≡ Some e → d.copy ≡ e.copy → j ≡ k
  -- a frozen row that left its list has a valid copy
  pub left : (r : ℕ) → IsGuarded ground r → (rows.link r).mark ≡ Mov → (IsListed rows.holding r → ⊥) → (rows.twin r ≢ 0) × ((rows.link (rows.twin r)).mark ≢ Invalid)
  pub debt : (k : ℕ) (d : CopyDebt) → k < rows.layout.workers → rows.copying k ≡ Some d → CopyFits rows d

-- 26. Rooms: of two dead rows that a caller owes one is the first; and a caller that owes a copy has room for its name
pub record Rooms (n : ℕ) (copying : ℕ → Option CopyDebt) (names : ℕ → DeadNames) : Type 0 where
  pub ordered : (k : ℕ) → k < n → (names k).first ≡ None → (names k).second ≡ None
  pub room : (k : ℕ) (d : CopyDebt) → k < n → copying k ≡ Some d → (names k).second ≡ None

-- 27. Bare: while a head of the open table isn't frozen, the lists of the one that it moves into are empty
pub record Bare (control : Control) (shape : ℕ → Shape) (head : ℕ → Link) (chain : ℕ → List ℕ) : Type 0 where
  pub bare : control.moving ≡ true → (q p : ℕ) → IsHead q → IsHead p → IsOldHead control shape q → (head q).mark ≡ Val → IsNewHead control shape p → chain p ≡ []

-- 28. Unlinked: the event of the row whose copy a caller has yet to link wasn't out at its last Begin
pub record Unlinked (n : ℕ) (history : List Entry) (old : ℕ → Option Stand) : Type 0 where
  pub each : (k : ℕ) (s : Stand) → k < n → old k ≡ Some s → WasOut history k s.event → ⊥
