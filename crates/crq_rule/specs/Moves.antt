-- What the crates above use of the rule: what a caller may rely on of what it knows alone, when a step is one of the rule, and what a step tells its caller.
use Rattle.std.specs.Prelude.{◌≡◌, ◌≢◌, ◌⊎◌, ◌==◌, cond, Bool, ℕ, ◌+◌, ◌*◌, ◌^◌, ◌-◌, ◌<◌, ◌≤◌, min, List, [], ◌∷◌, length, Some, true, false, slice_index, slice_set, None}
use Rattle.crq_base.specs.declared.kinds.StepKind.{StepKind}
use Rattle.crq_rule.specs.declared.layout.Start.{Start}
use Rattle.crq_base.specs.declared.words.Link.{Link}
use Rattle.crq_base.specs.declared.event.Event.{Event}
use Rattle.crq_base.specs.declared.words.Control.{Control}
use Rattle.crq_base.specs.declared.words.Current.{Current}
use Rattle.crq_base.specs.declared.words.Pin.{Pin}
use Rattle.crq_base.specs.declared.words.Mark.TheVariants.{Val, Inv as Invalid, Mov, Del}
use Rattle.crq_base.specs.Words.{IsLink, IsControl, IsCurrent, IsPin, link_word, control_word, current_word, pin_word}
use Rattle.crq_base.specs.Lists.{In}
use Rattle.crq_rule.specs.declared.view.Sight.{Sight}
use Rattle.crq_rule.specs.declared.view.Stand.{Stand}
use Rattle.crq_rule.specs.declared.debts.CutDebt.{CutDebt}
use Rattle.crq_rule.specs.declared.debts.SettleDebt.{SettleDebt}
use Rattle.crq_rule.specs.declared.debts.CopyDebt.{CopyDebt}
use Rattle.crq_rule.specs.declared.view.CutRow.{CutRow}
use Rattle.crq_rule.specs.declared.view.Base.{Base}
use Rattle.crq_rule.specs.declared.view.Help.{Help}
use Rattle.crq_rule.specs.declared.view.Made.{Made}
use Rattle.crq_rule.specs.declared.view.Caller.{Caller}
use Rattle.crq_rule.specs.declared.view.View.{View}
use Rattle.crq_rule.specs.Places.{IsRow, IsHomeRow}
use Rattle.crq_rule.specs.Parts.{NotAfter, IsEvent, IsOn, newest}
use Rattle.crq_rule.specs.Core.{Core, HasName, names_of, caller_of}
use Rattle.crq_rule.specs.Helping.{IsHelping}
use Rattle.crq_rule.specs.Invariant.{Inv}
use Rattle.crq_rule.specs.Kinds.{FoundNoRow, makes, new_base, loads_based}
use Rattle.crq_rule.specs.Ranks.{rank, IsOpen, IsTold, list_by, Cell, at_head, at_row}
use Rattle.crq_rule.specs.ListKinds.{Aim, StandsOn, walks, loads_control}
use Rattle.crq_rule.specs.MoveKinds.{announces}
use Rattle.crq_rule.specs.CurrentKinds.{loads_current, loads_owed}
use Rattle.crq_rule.specs.CopyKinds.{loads_copy}
use Rattle.crq_rule.specs.PinKinds.{loads_for_pin, loads_pin}
use Rattle.crq_rule.specs.Steps.{Kind, May, After, kind_of}
use Rattle.crq_rule.specs.Rule.{IsWords}

-- what is known of a copy that the caller owes: it has room for its name
pub record CopyKnown (d : CopyDebt) (p : Caller) : Type 0 where
  pub on : IsOn p.guard
  pub old : IsRow p.start.layout d.old
  pub copy : IsRow p.start.layout d.copy
  pub event : IsEvent d.event
  pub last : IsLink d.last × (d.last.mark ≡ Mov) × (d.last.generation + 1 ≡ d.generation)
  pub room : p.debts.second_cut ≡ None

-- What every state that meets the invariant says of what one caller knows alone
pub record Lawful (p : Caller) : Type 0 where
  pub inside : p.number < p.start.layout.workers
  pub epochs : (e : ℕ) → In e p.epochs → e ≤ 2 ^ 62
  pub hand : (r : ℕ) → In r p.hand → IsHomeRow p.start.layout p.number r
  pub cut : (x : CutRow) → p.cut ≡ Some x → IsRow p.start.layout x.row
  pub tags : (x : CutRow) (t : ℕ) → p.cut ≡ Some x → In t x.tags → t ≤ 2 ^ 62
  pub ripening : (r t : ℕ) → In (r, t) p.ripening → IsHomeRow p.start.layout p.number r
  pub stands : (s : Stand) → In s p.position.rows → IsRow p.start.layout s.row × IsEvent s.event
  pub last : (s : Stand) (l : Link) → In s p.position.rows → s.last ≡ Some l → IsLink l
  pub apart : (r : ℕ) (s : Stand) → In r p.hand → In s p.position.rows → s.row ≢ r
  pub on : (s : Stand) → In s p.position.rows → IsOn p.guard
  pub agree : (s t : Stand) → In s p.position.rows → In t p.position.rows → s.row ≡ t.row → s.event ≡ t.event
  -- the dead rows that it owes to cut: where the control word tells of their table, it tells their lists
  pub owed_at : (d : CutDebt) (x : Control) → HasName (names_of p.debts) d → p.found.control ≡ Some x → IsTold x d.generation → d.head ≡ list_by x d.generation d.event
  pub owed_fits : (d : CutDebt) → HasName (names_of p.debts) d → IsRow p.start.layout d.row × IsEvent d.event
  pub ordered : p.debts.cut ≡ None → p.debts.second_cut ≡ None
  -- where the table may not move there is one at most, of the open table
  pub owed_now : (d : CutDebt) (x : Control) → p.start.moves ≡ false → HasName (names_of p.debts) d → p.found.control ≡ Some x → d.generation ≡ x.generation
  pub one_name : p.start.moves ≡ false → p.debts.second_cut ≡ None
  -- and the copy that it owes to bind
  pub copying : (d : CopyDebt) → p.debts.copy ≡ Some d → CopyKnown d p
  -- a caller that owes an event may raise current's epoch for it
  pub owing : (d : SettleDebt) → p.debts.settle ≡ Some d → IsEvent d.event × (d.shift < 2 ^ 5) × (p.permit ≡ true)
  -- a recovery that found no row began where there were enough events
  pub scarce : (b : Base) → FoundNoRow p b → p.start.layout.rows ≤ 2 * length b.events
  pub sighted : (s : Sight) → p.sight ≡ Some s → IsControl s.table × (s.table.moving ≡ false)
  pub controlled : (x : Control) → p.found.control ≡ Some x → IsControl x × (p.start.moves ≡ false → x.moving ≡ false)
  -- a helper found the control word of its move, which leads to a table that has a generation
  pub helping : (h : Help) → p.help ≡ Some h → (x : Control) × (p.found.control ≡ Some x) × IsHelping x h × (x.generation + 1 < 2 ^ 30)
  -- the epoch that it loaded for the pin has a word, and one is left behind that of the pin
  pub loaded : (h : Help) (n : ℕ) → p.help ≡ Some h → h.epoch ≡ Some n → n < 2 ^ 32
  pub pinned : (h : Help) (n : Pin) → p.help ≡ Some h → h.pin ≡ Some n → n.epoch + 1 < 2 ^ 32
  -- a permit leaves an epoch behind the one that was found
  pub permitted : (x : Current) → p.permit ≡ true → p.found.current ≡ Some x → x.epoch + 1 < 2 ^ 32

-- A step of the caller whose part is p, on the word w, which goes to g of what it was. From each state that meets the invariant it is a step of the named kind that may come there, and R holds of the word found,
-- of p, and of what the caller knows after it
abbrev pub MovesBy : StepKind → Start → Caller → ℕ → (ℕ → ℕ) → (ℕ → Caller → Caller → Type 0) → Type 0
MovesBy kind key p w g R = (c : Core) (ws : List ℕ) → Inv c → IsWords key c ws → p.number < c.start.layout.workers → p ≡ caller_of c p.number
    → (k : Kind) × (kind_of k ≡ kind) × May k c p.number × IsWords key (After k c p.number) (slice_set ws w (g (slice_index ws w))) × R (slice_index ws w) p (caller_of (After k c p.number) p.number)

-- what the caller knows goes to f of it, and this is told
abbrev pub By : (ℕ → Caller → Caller) → (ℕ → Caller → Type 0) → ℕ → Caller → Caller → Type 0
By f tells r p q = (f r p ≡ q) × tells r p

abbrev pub Moves : StepKind → Start → Caller → ℕ → (ℕ → ℕ) → (ℕ → Caller → Caller) → (ℕ → Caller → Type 0) → Type 0
Moves kind key p w g f tells = (c : Core) (ws : List ℕ) → Inv c → IsWords key c ws → p.number < c.start.layout.workers → p ≡ caller_of c p.number
    → (k : Kind) × (kind_of k ≡ kind) × May k c p.number × IsWords key (After k c p.number) (slice_set ws w (g (slice_index ws w))) × (f (slice_index ws w) p ≡ caller_of (After k c p.number) p.number) × tells (slice_index ws w) p

-- The step m changes what the first caller of a seat knows, as R says, and leaves the others
abbrev pub FirstTurns : (Caller → Caller → Type 0) → Made → List Caller → View → Type 0
FirstTurns R m [] w = Unit {0}
FirstTurns R m (p ∷ ps) w = (q : Caller) × R p q × (q.number ≡ p.number) × (q.start ≡ p.start) × Lawful q × (w ≡ record { parts = makes m q ∷ ps })

-- the row that it names is of the cell's list, and comes after it
abbrev pub WalksOn : Cell → Link → Event → Caller → Type 0
WalksOn (at_head q) l e p = (x : Control) → p.found.control ≡ Some x → IsTold x l.generation → 0 < l.row → list_by x l.generation e ≡ q
WalksOn (at_row r) l e p = (f : Event) → StandsOn p.position.rows r f → 0 < l.row → (rank f r < rank e l.row) × ((x : Control) → p.found.control ≡ Some x → IsTold x l.generation → list_by x l.generation e ≡ list_by x l.generation f)

-- a link is frozen, which comes only where the table may move
abbrev pub IsFrozen : Link → Caller → Type 0
IsFrozen l p = (l.mark ≡ Mov) × (p.start.moves ≡ true)

-- A head of the table that was found is of that or of a later table
pub record IsHeadOf (x : Control) (l : Link) (p : Caller) : Type 0 where
  pub frozen : l.mark ≡ Mov → p.start.moves ≡ true
  pub generation : x.generation ≤ l.generation
  pub still : p.start.moves ≡ false → l.generation ≡ x.generation

-- A head is present or frozen. A row is of the table of its stand; where the table may not move, it is present or dead
abbrev pub IsWalkable : Cell → Link → Caller → Type 0
IsWalkable (at_head q) l p = ((l.mark ≡ Val) ⊎ (l.mark ≡ Mov)) × ((x : Control) → p.found.control ≡ Some x → IsOpen x q → IsHeadOf x l p)
IsWalkable (at_row r) l p = (((l.mark ≡ Val) ⊎ (l.mark ≡ Del)) ⊎ (p.start.moves ≡ true)) × ((s : Stand) → In s p.position.rows → s.row ≡ r → l.generation ≡ s.generation)

-- a helper that has passed all heads of the table that moves finds each of them frozen, as long as it is of that table
abbrev pub IsStillFrozen : Cell → Link → Caller → Type 0
IsStillFrozen (at_head q) l p = (x : Control) (h : Help) → p.found.control ≡ Some x → p.help ≡ Some h → h.frozen ≡ 2 ^ x.log → IsOpen x q → l.generation ≡ x.generation → l.mark ≡ Mov
IsStillFrozen (at_row r) l p = Unit {0}

-- a walk found the link of the cell, and the event of the row that it names
pub record Walked (cell : Cell) (aim : Aim) (found : ℕ) (p q : Caller) : Type 0 where
  pub link : Link
  pub event : Event
  pub is_link : IsLink link
  pub word : link_word link ≡ found
  pub after : walks cell aim link event p ≡ q
  pub row : 0 < link.row → IsRow p.start.layout link.row × IsEvent event
  pub next : WalksOn cell link event p
  pub marked : IsWalkable cell link p
  pub frozen : IsStillFrozen cell link p

-- a call began, or missed: the control word was found, which is steady unless the table may move
pub record FoundControl (f : Control → Caller → Caller) (found : ℕ) (p q : Caller) : Type 0 where
  pub control : Control
  pub is_control : IsControl control
  pub word : control_word control ≡ found
  pub after : f control p ≡ q
  pub steady : p.start.moves ≡ false → control.moving ≡ false

-- current was found, which isn't before any that the caller found, or saw as its take began
pub record FoundCurrent (walks : Bool) (found : ℕ) (p q : Caller) : Type 0 where
  pub current : Current
  pub is_current : IsCurrent current
  pub word : current_word current ≡ found
  pub after : loads_current walks current p ≡ q
  pub later : (x : Current) → p.found.current ≡ Some x → NotAfter x current
  pub seen : (s : Sight) → p.sight ≡ Some s → NotAfter s.current current

-- current was found by a caller that owes an event, which is settled with that, or else isn't ahead of current
pub record FoundOwed (d : SettleDebt) (found : ℕ) (p q : Caller) : Type 0 where
  pub current : Current
  pub is_current : IsCurrent current
  pub word : current_word current ≡ found
  pub after : loads_owed d current p ≡ q
  pub later : (x : Current) → p.found.current ≡ Some x → NotAfter x current

-- the twin t of a row was found: where it is a row, that is a copy of the row in the next table
abbrev pub TellsTwin : ℕ → Caller → Type 0
TellsTwin t p = 0 < t → IsRow p.start.layout t

-- the link of the copy that a caller owes was found: it is of the copy's table, and the copy isn't valid yet, or dead
pub record FoundCopy (d : CopyDebt) (found : ℕ) (p q : Caller) : Type 0 where
  pub link : Link
  pub is_link : IsLink link
  pub word : link_word link ≡ found
  pub after : loads_copy link p ≡ q
  pub of : link.generation ≡ d.generation
  pub mark : (link.mark ≡ Invalid) ⊎ (link.mark ≡ Del)

-- the epoch r was found: it isn't below any that the caller read, nor below an announcement that it scanned
pub record TellsEpoch (r : ℕ) (p : Caller) : Type 0 where
  pub limit : r ≤ 2 ^ 62
  pub read : (e : ℕ) → In e p.epochs → e ≤ r
  pub scanned : (k a : ℕ) → In (k, a) p.tick.found → a ≤ r + 1

-- a recovery of rows began with a load of the epoch r
pub record BeginsRecovery (r : ℕ) (p q : Caller) : Type 0 where
  pub place : ℕ
  pub events : List Event
  pub after : loads_based (Some (new_base place events r)) r p ≡ q
  pub told : TellsEpoch r p

-- an exchange changes what its caller knows where it found what it expected
abbrev pub wins : ℕ → (Caller → Caller) → ℕ → Caller → Caller
wins expected f found p = cond (found == expected) (f p) p

-- a kind that tells nothing
abbrev pub quiet : ℕ → Caller → Type 0
quiet r p = Unit {0}

-- the epoch e was read, and so it isn't above the last one
abbrev pub TellsLow : ℕ → ℕ → Caller → Type 0
TellsLow e r p = e ≤ 2 ^ 62

-- one more, up to the end of a word
abbrev pub word_after : ℕ → ℕ
word_after e = min (e + 1) (2 ^ 64 - 1)

-- a row that is claimed wasn't in hand, and the home rows in hand are fewer than all
abbrev pub TellsRoom : ℕ → Caller → Type 0
TellsRoom r p = length p.hand < p.start.layout.home

-- a table was to be announced where control was found to be x: it was, or else the control word that was found is known now, and tells of a table that is later than x's
pub record FoundAnnounce (x : Control) (log shift found : ℕ) (p q : Caller) : Type 0 where
  pub control : Control
  pub is_control : IsControl control
  pub word : control_word control ≡ found
  pub later : control ≢ x → x.generation < newest control
  pub after : cond (found == control_word x) (announces log shift p) (loads_control control p) ≡ q

-- a helper found current for the pin, which isn't before any that it found
pub record FoundForPin (found : ℕ) (p q : Caller) : Type 0 where
  pub current : Current
  pub is_current : IsCurrent current
  pub word : current_word current ≡ found
  pub after : loads_for_pin current p ≡ q
  pub later : (x : Current) → p.found.current ≡ Some x → NotAfter x current

-- the pin was found
pub record FoundPin (found : ℕ) (p q : Caller) : Type 0 where
  pub pin : Pin
  pub is_pin : IsPin pin
  pub word : pin_word pin ≡ found
  pub after : loads_pin pin p ≡ q
