-- The parts of the invariant on lists: their heads, their order, marks, rows that callers stand on, words that they wrote, and dead rows. Each is a record over just the components that it reads.
use Rattle.std.specs.Prelude.{◌≡◌, ◌⊎◌, ◌≤◌, true, false, ℕ, zero, suc, ◌+◌, ◌*◌, ◌^◌, ◌<◌, List, Option, Some, Bool}
use Rattle.crq_base.specs.declared.event.Event.{Event}
use Rattle.crq_base.specs.declared.words.Link.{Link}
use Rattle.crq_base.specs.declared.words.Mark.{Mark}
use Rattle.crq_base.specs.declared.words.Mark.TheVariants.{Val, Inv as Invalid, Mov, Del}
use Rattle.crq_base.specs.declared.words.Control.{Control}
use Rattle.crq_base.specs.Words.{link_word}
use Rattle.crq_base.specs.Lists.{In}
use Rattle.crq_rule.specs.declared.debts.SettleDebt.{SettleDebt}
use Rattle.crq_rule.specs.declared.debts.CopyDebt.{CopyDebt}
use Rattle.crq_rule.specs.declared.debts.CutDebt.{CutDebt}
use Rattle.crq_rule.specs.declared.layout.Layout.{Layout}
use Rattle.crq_rule.specs.declared.layout.Start.{Start}
use Rattle.crq_rule.specs.declared.view.Stand.{Stand}
use Rattle.crq_rule.specs.declared.view.Wrote.{Wrote}
use Rattle.crq_rule.specs.Places.{IsRow, IsHead}
use Rattle.crq_rule.specs.Core.{Holding, IsOutside, DeadNames, HasName, in_hand, listed, cut_by, retired}
use Rattle.crq_rule.specs.Parts.{newest, Fits, Ground, IsGuarded, IsEvent}
use Rattle.crq_rule.specs.Ranks.{rank, Shape, list_in, first_head_of, IsHeadIn, Rises}

abbrev pub ranks : (ℕ → Event) → ℕ → ℕ
ranks event r = rank (event r) r

-- 7. Sizes: the control word fits itself, and no head, row outside hands or debt is of a later table than the newest

pub record Sizes (start : Start) (control : Control) (shape : ℕ → Shape) (head link : ℕ → Link) (holding : ℕ → Holding) : Type 0 where
  pub now : Fits start control shape control
  pub heads : (q : ℕ) → IsHead q → (head q).generation ≤ newest control
  pub rows : (r : ℕ) → IsRow start.layout r → IsOutside holding r → (link r).generation ≤ newest control

-- an event to settle was linked in the open table or an older one, with that table's shift
pub record DueFits (control : Control) (shape : ℕ → Shape) (d : SettleDebt) : Type 0 where
  pub generation : d.generation ≤ control.generation
  pub shift : d.shift ≡ (shape d.generation).shift
  pub width : d.shift < 2 ^ 5
  pub event : IsEvent d.event

pub record Dues (n : ℕ) (control : Control) (shape : ℕ → Shape) (settling : ℕ → Option SettleDebt) (copying : ℕ → Option CopyDebt) (names : ℕ → DeadNames) : Type 0 where
  pub settles : (k : ℕ) (d : SettleDebt) → k < n → settling k ≡ Some d → DueFits control shape d
  pub copies : (k : ℕ) (d : CopyDebt) → k < n → copying k ≡ Some d → (d.generation ≤ newest control) × (d.head ≡ list_in shape d.generation d.event)
  pub named : (k : ℕ) (d : CutDebt) → k < n → HasName (names k) d → (d.generation ≤ newest control) × (d.head ≡ list_in shape d.generation d.event)

-- 8. Heads: those of the open table are of its generation, and while it moves they come to be frozen; those of the table that it moves into are prepared, or shut still; all others are shut

-- a link with this mark never changes again
abbrev pub IsFinal : Mark → Type 0
IsFinal Val = ⊥
IsFinal Invalid = ⊥
IsFinal Mov = Unit {0}
IsFinal Del = Unit {0}

-- the head q is in no table: it is frozen and empty, and an older table of its bank left it so, or none yet had it
pub record IsShut (g q : ℕ) (l : Link) : Type 0 where
  pub mark : l.mark ≡ Mov
  pub empty : l.row ≡ 0
  pub older : l.generation < g
  pub bank : (l.generation ≡ 0) ⊎ ((first_head_of l.generation ≤ q) × (q < first_head_of l.generation + 32768))

abbrev pub IsPrepared : ℕ → Link → Type 0
IsPrepared g l = (l.generation ≡ g) × (l.mark ≡ Val)

-- the mark of a head of the open table, where this says whether it moves
abbrev pub IsOldMark : Bool → Mark → Type 0
IsOldMark false m = m ≡ Val
IsOldMark true m = (m ≡ Val) ⊎ (m ≡ Mov)

-- the head is one of the open table, or of the one that it moves into
abbrev pub IsOldHead : Control → (ℕ → Shape) → ℕ → Type 0
IsOldHead x shape q = IsHeadIn x.generation (shape x.generation) q

abbrev pub IsNewHead : Control → (ℕ → Shape) → ℕ → Type 0
IsNewHead x shape q = (x.moving ≡ true) × IsHeadIn (x.generation + 1) (shape (x.generation + 1)) q

pub record Heads (control : Control) (shape : ℕ → Shape) (head : ℕ → Link) : Type 0 where
  pub old : (q : ℕ) → IsHead q → IsOldHead control shape q → ((head q).generation ≡ control.generation) × IsOldMark control.moving (head q).mark
  pub new : (q : ℕ) → IsHead q → IsNewHead control shape q → IsPrepared (control.generation + 1) (head q) ⊎ IsShut control.generation q (head q)
  pub other : (q : ℕ) → IsHead q → (IsOldHead control shape q → ⊥) → (IsNewHead control shape q → ⊥) → IsShut control.generation q (head q)
  -- no head is frozen before all new ones are prepared
  pub order : (p q : ℕ) → IsHead p → IsHead q → IsOldHead control shape p → (head p).mark ≡ Mov → IsNewHead control shape q → IsPrepared (control.generation + 1) (head q)

-- 9. Order: the rows of each list rise by key and row, are of its head's generation, and hold events of that list

pub record Sorted (shape : ℕ → Shape) (head link : ℕ → Link) (event : ℕ → Event) (chain : ℕ → List ℕ) : Type 0 where
  pub rises : (q : ℕ) → IsHead q → Rises (ranks event) 0 (chain q)
  pub belongs : (q r : ℕ) → IsHead q → In r (chain q) → list_in shape (head q).generation (event r) ≡ q
  pub generation : (q r : ℕ) → IsHead q → In r (chain q) → (link r).generation ≡ (head q).generation

-- 10. Marks: a row that was cut or retired has its last mark. A row that isn't in hand has a twin only if it is frozen, and so of an older table than the newest; in its list it is the first, and the head is frozen

abbrev pub MarkFits : Holding → Mark → Type 0
MarkFits (in_hand j) m = Unit {0}
MarkFits (listed q) m = Unit {0}
MarkFits (cut_by j) m = IsFinal m
MarkFits (retired t) m = IsFinal m

pub record Marks (l : Layout) (control : Control) (head link : ℕ → Link) (twin : ℕ → ℕ) (holding : ℕ → Holding) : Type 0 where
  pub mark : (r : ℕ) → IsRow l r → MarkFits (holding r) (link r).mark
  pub first : (q r : ℕ) → IsRow l r → holding r ≡ listed q → (link r).mark ≡ Mov → ((head q).mark ≡ Mov) × ((head q).row ≡ r)
  pub bare : (r : ℕ) → IsRow l r → IsOutside holding r → ((link r).mark ≡ Mov → ⊥) → twin r ≡ 0
  pub aged : (r : ℕ) → IsRow l r → IsOutside holding r → (link r).mark ≡ Mov → (link r).generation < newest control

-- 11. Stands: what a caller knows of the rows that it stands on

pub record StandFits (head link : ℕ → Link) (twin : ℕ → ℕ) (event : ℕ → Event) (s : Stand) : Type 0 where
  pub holds : event s.row ≡ s.event
  pub of : (link s.row).generation ≡ s.generation
  pub last : (l : Link) → s.last ≡ Some l → (link s.row ≡ l) × IsFinal l.mark
  pub copy : (t : ℕ) → s.twin ≡ Some t → (twin s.row ≡ t) × (0 < t)
  pub valid : s.valid ≡ true → (link s.row).mark ≡ Invalid → ⊥
  -- the first row of a frozen head stays so until it has its last mark
  pub front : (q : ℕ) → s.front ≡ Some q → IsFinal (link s.row).mark ⊎ (((head q).mark ≡ Mov) × ((head q).row ≡ s.row))

pub record Standing (n : ℕ) (head link : ℕ → Link) (twin : ℕ → ℕ) (event : ℕ → Event) (rows : ℕ → List Stand) : Type 0 where
  pub each : (k : ℕ) (s : Stand) → k < n → In s (rows k) → StandFits head link twin event s

-- and of the row whose copy it has yet to link, which is frozen
pub record Copying (n : ℕ) (head link : ℕ → Link) (twin : ℕ → ℕ) (event : ℕ → Event) (old : ℕ → Option Stand) : Type 0 where
  pub each : (k : ℕ) (s : Stand) → k < n → old k ≡ Some s → StandFits head link twin event s × ((link s.row).mark ≡ Mov)

-- 12. Lanes: from a row that a guard covers links lead on to greater rows of the same list, and a frozen one's twin is its copy

-- the row's twin holds the same event in the next table
abbrev pub IsCopied : (ℕ → Link) → (ℕ → ℕ) → (ℕ → Event) → ℕ → Type 0
IsCopied link twin event r = ((link (twin r)).generation ≡ (link r).generation + 1) × (event (twin r) ≡ event r)

pub record Lanes (l : Layout) (shape : ℕ → Shape) (ground : Ground) (event : ℕ → Event) : Type 0 where
  pub is_row : (r : ℕ) → IsGuarded ground r → IsRow l r
  pub rises : (r : ℕ) → IsGuarded ground r → 0 < (ground.link r).row → ranks event r < ranks event (ground.link r).row
  pub stays : (r : ℕ) → IsGuarded ground r → 0 < (ground.link r).row → list_in shape (ground.link r).generation (event (ground.link r).row) ≡ list_in shape (ground.link r).generation (event r)
  pub generation : (r : ℕ) → IsGuarded ground r → 0 < (ground.link r).row → (ground.link (ground.link r).row).generation ≡ (ground.link r).generation
  pub twins : (r : ℕ) → IsGuarded ground r → (ground.link r).mark ≡ Mov → 0 < ground.twin r → IsCopied ground.link ground.twin event r

-- 13. Writing: the words that a caller wrote stand in its rows in hand

-- the word at this place of a row: 0 is the link, 1 the twin, 2 to 5 are the words of the event
abbrev pub row_word : Link → ℕ → Event → ℕ → ℕ
row_word l t e zero = link_word l
row_word l t e (suc zero) = t
row_word l t e (suc (suc zero)) = e.time * 2 ^ 32 + e.dst
row_word l t e (suc (suc (suc zero))) = e.src
row_word l t e (suc (suc (suc (suc zero)))) = e.seq
row_word l t e (suc (suc (suc (suc (suc n))))) = e.load

pub record Writing (n : ℕ) (link : ℕ → Link) (twin : ℕ → ℕ) (event : ℕ → Event) (hand : ℕ → List ℕ) (written : ℕ → List Wrote) : Type 0 where
  pub placed : (j : ℕ) (x : Wrote) → j < n → In x (written j) → x.place < 6
  pub in_hand_is : (j : ℕ) (x : Wrote) → j < n → In x (written j) → In x.row (hand j)
  pub stands : (j : ℕ) (x : Wrote) → j < n → In x (written j) → row_word (link x.row) (twin x.row) (event x.row) x.place ≡ x.word

-- 14. Dead rows: each one that is still listed is owed to be cut by a caller that names it, by its event, its row and the generation of its table

-- A front is a row that was discarded as the first of a frozen list. It is named so only while it is the first
pub record IsNamed (head : ℕ → Link) (d : CutDebt) (r : ℕ) (e : Event) (l : Link) : Type 0 where
  pub row : d.row ≡ r
  pub event : d.event ≡ e
  pub generation : d.generation ≡ l.generation
  pub front : d.front ≡ true → ((head d.head).mark ≡ Mov) × ((head d.head).row ≡ r)

-- where a name leads
pub record NameFits (l : Layout) (d : CutDebt) : Type 0 where
  pub row : IsRow l d.row
  pub event : IsEvent d.event

pub record Naming (l : Layout) (head link : ℕ → Link) (event : ℕ → Event) (names : ℕ → DeadNames) (holding : ℕ → Holding) : Type 0 where
  pub named : (r q : ℕ) → IsRow l r → holding r ≡ listed q → (link r).mark ≡ Del → (k : ℕ) × (k < l.workers) × ((d : CutDebt) × HasName (names k) d × IsNamed head d r (event r) (link r))
  pub place : (k : ℕ) (d : CutDebt) → k < l.workers → HasName (names k) d → NameFits l d
