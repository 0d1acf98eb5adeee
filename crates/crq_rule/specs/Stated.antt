-- What the invariant says in the end, part by part, in the words of the field. The parts that are kept are stronger, and imply each of these.
use Rattle.std.specs.Prelude.{◌≢◌, ◌≡◌, ◌⊎◌, ◌↔◌, ℕ, ◌+◌, ◌-◌, ◌*◌, ◌^◌, ◌<◌, ◌≤◌, List, [], ◌∷◌, ◌++◌, length, take, drop, true, Some, None, Contains}
use Rattle.std.specs.declared.cmp.Ordering.TheVariants.{Equal}
use Rattle.crq_base.specs.declared.event.Event.{Event}
use Rattle.crq_base.specs.declared.entry.Entry.{Entry}
use Rattle.crq_base.specs.declared.entry.Entry.TheVariants.{Begin, Put}
use Rattle.crq_base.specs.Entries.{caller_of as whose}
use Rattle.crq_base.specs.Keys.{key_cmp}
use Rattle.crq_base.specs.Histories.{puts, settleds, outs, table_count, raising_count, own as own_of, IsEarlier, IsPending, Began, IsLegal}
use Rattle.crq_base.specs.declared.words.Link.{Link}
use Rattle.crq_base.specs.declared.words.Mark.TheVariants.{Val, Inv as Invalid, Del, Mov}
use Rattle.crq_base.specs.declared.words.Control.{Control}
use Rattle.crq_base.specs.declared.words.Current.{Current}
use Rattle.crq_base.specs.declared.words.Pin.{Pin}
use Rattle.crq_base.specs.Words.{IsLink, IsControl, IsCurrent, IsPin, IsStampWord, link_word, control_word, current_word, pin_word}
use Rattle.crq_base.specs.Lists.{In, IsOnce}
use Rattle.crq_base.specs.Sources.{owner_of}
use Rattle.crq_base.specs.Refusals.{AreCounted}
use Rattle.crq_rule.specs.declared.debts.CutDebt.{CutDebt}
use Rattle.crq_rule.specs.declared.debts.SettleDebt.{SettleDebt}
use Rattle.crq_rule.specs.declared.debts.CopyDebt.{CopyDebt}
use Rattle.crq_rule.specs.declared.layout.Layout.{Layout}
use Rattle.crq_rule.specs.declared.view.Guard.TheVariants.{Off, Entering, On}
use Rattle.crq_rule.specs.declared.view.CutRow.{CutRow}
use Rattle.crq_rule.specs.declared.view.Base.{Base}
use Rattle.crq_rule.specs.declared.view.Help.{Help}
use Rattle.crq_rule.specs.declared.view.Sight.{Sight}
use Rattle.crq_rule.specs.declared.view.Walk.{Walk}
use Rattle.crq_rule.specs.Places.{Place, spare, between, epoch, announced, control, current, pin, head, link, stamp, twin, time, source, sequence, load, IsPlace, IsRow, IsHomeRow, IsHead, word_of}
use Rattle.crq_rule.specs.Core.{Core, DeadNames, Holding, in_hand, listed, cut_by, retired}
use Rattle.crq_rule.specs.Parts.{ground_of, newest, NotAfter, IsOn, LetsRise, Leads, Names, Reaches, Covers, HasTag}
use Rattle.crq_rule.specs.Ranks.{bucket, head_for, shape_of, next_of, list_in, head_of, IsHeadIn, IsOpen}
use Rattle.crq_rule.specs.ListParts.{IsFinal}
use Rattle.crq_rule.specs.HistoryParts.{IsLive, EndsInBegin, IsSought, IsNotBefore}
use Rattle.crq_rule.specs.Bounds.{permits, coming}
use Rattle.crq_rule.specs.ScarceParts.{IsLate, pending}

-- 1. Words

-- the number w is a spelling of the word at this place
abbrev pub IsSpelling : Layout → Place → ℕ → Type 0
IsSpelling l spare w = w ≡ 0
IsSpelling l (between k i) w = w ≡ 0
IsSpelling l epoch w = w ≤ 2 ^ 62
IsSpelling l (announced j) w = IsStampWord w
IsSpelling l control w = (x : Control) × IsControl x × (control_word x ≡ w)
IsSpelling l current w = (x : Current) × IsCurrent x × (current_word x ≡ w)
IsSpelling l pin w = (x : Pin) × IsPin x × (pin_word x ≡ w)
IsSpelling l (head q) w = (x : Link) × IsLink x × (link_word x ≡ w)
IsSpelling l (link r) w = (x : Link) × IsLink x × (link_word x ≡ w)
IsSpelling l (stamp r) w = IsStampWord w
IsSpelling l (twin r) w = (w ≡ 0) ⊎ IsRow l w
IsSpelling l (time r) w = w < 2 ^ 64
IsSpelling l (source r) w = w < 2 ^ 32
IsSpelling l (sequence r) w = w < 2 ^ 64
IsSpelling l (load r) w = w < 2 ^ 64

-- Each word is a spelling of its kind, and what a caller read of the epoch, of current and of control's generation isn't above what the word has now
pub record WordsHold (c : Core) : Type 0 where
  pub spelled : (p : Place) → IsPlace c.start.layout p → IsSpelling c.start.layout p (word_of c.words p)
  pub epochs : (j e : ℕ) → j < c.start.layout.workers → In e (c.epochs j) → e ≤ c.words.epoch
  pub entering : (j e : ℕ) → j < c.start.layout.workers → c.guard j ≡ Entering e → e ≤ c.words.epoch
  pub guards : (j e : ℕ) → j < c.start.layout.workers → c.guard j ≡ On e → e ≤ c.words.epoch
  pub ticks : (j : ℕ) → j < c.start.layout.workers → (c.tick j).loaded ≤ c.words.epoch
  pub tags : (j t : ℕ) (x : CutRow) → j < c.start.layout.workers → c.cut j ≡ Some x → In t x.tags → t ≤ c.words.epoch
  pub currents : (j : ℕ) (x : Current) → j < c.start.layout.workers → (c.found j).current ≡ Some x → NotAfter x c.words.current
  pub views : (j : ℕ) (s : Sight) → j < c.start.layout.workers → c.sight j ≡ Some s → NotAfter s.current c.words.current
  pub generations : (j : ℕ) (x : Control) → j < c.start.layout.workers → (c.found j).control ≡ Some x → x.generation ≤ c.words.control.generation

-- 2. Holders

-- the hand of its home caller, a list, the caller that cut it and hasn't retired it, or its stamp
abbrev pub IsHeldBy : Core → Holding → ℕ → Type 0
IsHeldBy c (in_hand j) r = (j < c.start.layout.workers) × IsHomeRow c.start.layout j r × In r (c.hand j)
IsHeldBy c (listed q) r = IsHead q × In r (c.chain q)
IsHeldBy c (cut_by j) r = (j < c.start.layout.workers) × ((x : CutRow) × (c.cut j ≡ Some x) × (x.row ≡ r))
IsHeldBy c (retired t) r = (c.words.stamp r ≡ t + 1) × (t ≤ c.words.epoch)

-- held otherwise than by its stamp
abbrev pub IsKept : Holding → Type 0
IsKept (in_hand j) = Unit {0}
IsKept (listed q) = Unit {0}
IsKept (cut_by j) = Unit {0}
IsKept (retired t) = ⊥

-- Each row has one holder; its stamp is 'kept' unless the stamp holds it. A caller that cut a row and hasn't retired it has its guard on, and a tag of that row isn't
-- below what the guard found
pub record HoldersHold (c : Core) : Type 0 where
  pub holder : (r : ℕ) → IsRow c.start.layout r → ((h : Holding) × IsHeldBy c h r × ((g : Holding) → IsHeldBy c g r → g ≡ h) × (IsKept h → c.words.stamp r ≡ 0))
  pub once : (j : ℕ) → j < c.start.layout.workers → IsOnce (c.hand j)
  pub lists : (q : ℕ) → IsHead q → Leads c.words.link (c.words.head q).row (c.chain q)
  pub cutters : (j : ℕ) (x : CutRow) → j < c.start.layout.workers → c.cut j ≡ Some x → IsOn (c.guard j)
  pub tags : (j t g : ℕ) (x : CutRow) → j < c.start.layout.workers → c.cut j ≡ Some x → c.guard j ≡ On g → In t x.tags → g ≤ t

-- 3. Guards

-- An announcement is out exactly where the guard is off. Where the guard is entering it is at most the epoch, and where the guard is on it is at most what the guard found. For a guard that is on
-- and found g, the epoch is at most g + 1. A caller whose announcement a tick found to let the epoch rise, and whose guard is on, found at least the epoch that the tick loaded
pub record GuardsHold (c : Core) : Type 0 where
  pub out : (j : ℕ) → j < c.start.layout.workers → (c.words.announced j ≡ 0) ↔ (c.guard j ≡ Off)
  pub entering : (j e : ℕ) → j < c.start.layout.workers → c.guard j ≡ Entering e → (a : ℕ) × (c.words.announced j ≡ a + 1) × (a ≤ c.words.epoch)
  pub on : (j g : ℕ) → j < c.start.layout.workers → c.guard j ≡ On g → (a : ℕ) × (c.words.announced j ≡ a + 1) × (a ≤ g) × (c.words.epoch ≤ g + 1)
  pub passed : (k j a g : ℕ) → k < c.start.layout.workers → j < c.start.layout.workers → In (j, a) (c.tick k).found → LetsRise (c.tick k).loaded a → c.guard j ≡ On g → (c.tick k).loaded ≤ g

-- 4. Cover

-- the guard of caller k, which is on and found g, covers the row r
abbrev pub IsCovered : Core → ℕ → ℕ → ℕ → Type 0
IsCovered c k g r = Covers (ground_of c) k g r

-- No guard covers a row in hand, and no head, listed row or covered row names one. Where a guard that found g covers a row that was cut, with the tag t, g is at most t
pub record CoverHolds (c : Core) : Type 0 where
  pub free : (k g r j : ℕ) → IsCovered c k g r → c.holding r ≡ in_hand j → ⊥
  pub heads : (q j : ℕ) → IsHead q → 0 < (c.words.head q).row → c.holding (c.words.head q).row ≡ in_hand j → ⊥
  pub listed : (q r s j : ℕ) → IsHead q → In r (c.chain q) → Names c.words.link c.words.twin r s → c.holding s ≡ in_hand j → ⊥
  pub covered : (k g r s j : ℕ) → IsCovered c k g r → Names c.words.link c.words.twin r s → c.holding s ≡ in_hand j → ⊥
  pub tags : (k g r t : ℕ) → IsCovered c k g r → HasTag c.start.layout.workers c.cut c.holding r t → g ≤ t

-- 5. Lists

-- a head of the open table is of its generation, and present, or frozen in a move
abbrev pub IsOpenHead : Control → Link → Type 0
IsOpenHead x l = ((l.mark ≡ Val) ⊎ ((x.moving ≡ true) × (l.mark ≡ Mov))) × (l.generation ≡ x.generation)

-- the head is one of the table into which the open one moves
abbrev pub IsNext : Control → ℕ → Type 0
IsNext x q = (x.moving ≡ true) × IsHeadIn (x.generation + 1) (next_of x) q

-- and prepared
abbrev pub IsNextHead : Control → Link → Type 0
IsNextHead x l = (l.mark ≡ Val) × (l.generation ≡ x.generation + 1)

abbrev pub IsShutHead : Control → Link → Type 0
IsShutHead x l = (l.mark ≡ Mov) × (l.row ≡ 0) × (l.generation < x.generation)

-- the row r with the event e comes before the row s with the event f: by the order of keys, and by row where the keys are the same
abbrev pub Precedes : Event → ℕ → Event → ℕ → Type 0
Precedes e r f s = IsEarlier e f ⊎ ((key_cmp e f ≡ Equal) × (r < s))

-- each row comes before the next one
abbrev pub Ascends : (ℕ → Event) → List ℕ → Type 0
Ascends event [] = Unit {0}
Ascends event (r ∷ []) = Unit {0}
Ascends event (r ∷ s ∷ rs) = Precedes (event r) r (event s) s × Ascends event (s ∷ rs)

-- From the head q links lead through these rows to row 0. They are the rows that its list holds, they ascend, are of the head's generation, and hold events of this list
pub record IsListOf (c : Core) (q : ℕ) (rows : List ℕ) : Type 0 where
  pub leads : Leads c.words.link (c.words.head q).row rows
  pub holds : (r : ℕ) → In r rows ↔ (IsRow c.start.layout r × (c.holding r ≡ listed q))
  pub ascends : Ascends c.words.event rows
  pub generation : (r : ℕ) → In r rows → (c.words.link r).generation ≡ (c.words.head q).generation
  pub belongs : (r : ℕ) → In r rows → list_in c.shape (c.words.head q).generation (c.words.event r) ≡ q

-- the row a leads on to the row b: to a later one, with an event of the same list, and of the link's generation
pub record LeadsOn (c : Core) (a b : ℕ) : Type 0 where
  pub precedes : Precedes (c.words.event a) a (c.words.event b) b
  pub same_list : list_in c.shape (c.words.link a).generation (c.words.event b) ≡ list_in c.shape (c.words.link a).generation (c.words.event a)
  pub generation : (c.words.link b).generation ≡ (c.words.link a).generation

abbrev pub IsInHand : Core → ℕ → Type 0
IsInHand c r = (j : ℕ) × (c.holding r ≡ in_hand j)

-- the row r, which holds the event e, is still to be cut, by what is owed here
abbrev pub OwesCut : DeadNames → ℕ → Event → Type 0
OwesCut d r e = (x : CutDebt) × ((d.first ≡ Some x) ⊎ (d.second ≡ Some x)) × (x.row ≡ r) × (x.event ≡ e)

-- the head q is frozen, and r is the first row of its list
abbrev pub IsFrozenFront : Core → ℕ → ℕ → Type 0
IsFrozenFront c q r = ((c.words.head q).mark ≡ Mov) × ((c.words.head q).row ≡ r)

-- The generation of the open table has the shape that the control word says, and so has that of the table into which it moves. The heads of the open table are of its generation, present or frozen, and have their lists; those of the other are prepared, and have theirs, or
-- are shut and empty still, and none of them is so once a head is frozen; all others are shut and empty. Links of covered rows lead on as those of listed ones do. A listed row that is MOV is the first of a frozen head;
-- a row that is VAL or INV and not in hand is listed, and one that was cut or retired is DEL or MOV. No row that isn't in hand and isn't MOV has a twin. Each listed row that is DEL is owed to be cut by a caller that names it by
-- row and event; no caller names more than two, since `Debts` has two places for them
pub record ListsHold (c : Core) : Type 0 where
  pub shaped : c.shape c.words.control.generation ≡ shape_of c.words.control
  pub shaped_next : c.words.control.moving ≡ true → c.shape (c.words.control.generation + 1) ≡ next_of c.words.control
  pub opened : (q : ℕ) → IsHead q → IsOpen c.words.control q → IsOpenHead c.words.control (c.words.head q) × IsListOf c q (c.chain q)
  pub next : (q : ℕ) → IsHead q → IsNext c.words.control q → (IsNextHead c.words.control (c.words.head q) × IsListOf c q (c.chain q)) ⊎ (IsShutHead c.words.control (c.words.head q) × (c.chain q ≡ []))
  pub order : (p q : ℕ) → IsHead p → IsHead q → IsOpen c.words.control p → (c.words.head p).mark ≡ Mov → IsNext c.words.control q → IsNextHead c.words.control (c.words.head q)
  pub shut : (q : ℕ) → IsHead q → (IsOpen c.words.control q → ⊥) → (IsNext c.words.control q → ⊥) → IsShutHead c.words.control (c.words.head q) × (c.chain q ≡ [])
  pub covered : (k g r : ℕ) → IsCovered c k g r → IsRow c.start.layout r × (0 < (c.words.link r).row → LeadsOn c r (c.words.link r).row)
  pub marked : (r q : ℕ) → IsRow c.start.layout r → c.holding r ≡ listed q → (c.words.link r).mark ≡ Mov → IsFrozenFront c q r
  pub present : (r : ℕ) → IsRow c.start.layout r → ((c.words.link r).mark ≡ Val) ⊎ ((c.words.link r).mark ≡ Invalid) → (IsInHand c r → ⊥) → (q : ℕ) × IsHead q × In r (c.chain q)
  pub cut : (r j : ℕ) → IsRow c.start.layout r → c.holding r ≡ cut_by j → IsFinal (c.words.link r).mark
  pub retired : (r t : ℕ) → IsRow c.start.layout r → c.holding r ≡ retired t → IsFinal (c.words.link r).mark
  pub twins : (r : ℕ) → IsRow c.start.layout r → (IsInHand c r → ⊥) → ((c.words.link r).mark ≡ Mov → ⊥) → c.words.twin r ≡ 0
  pub named : (r q : ℕ) → IsRow c.start.layout r → c.holding r ≡ listed q → (c.words.link r).mark ≡ Del → (k : ℕ) × (k < c.start.layout.workers) × OwesCut (c.named k) r (c.words.event r)

-- 6. Carriers

-- the row r is listed and carries its event, which is e
abbrev pub StandsIn : Core → Event → ℕ → Type 0
StandsIn c e r = IsLive c.start.layout c.words.link c.words.twin c.holding r × (c.words.event r ≡ e)

-- Each pending event stands in exactly one row that is listed and carries it, and each such row holds a pending event
pub record CarriersHold (c : Core) : Type 0 where
  pub carried : (e : Event) → IsPending c.history e → (r : ℕ) × StandsIn c e r × ((s : ℕ) → StandsIn c e s → s ≡ r)
  pub pending : (e : Event) (r : ℕ) → StandsIn c e r → IsPending c.history e

-- 7. History

-- The history is legal and goes on from the one that was dealt. What a caller knows as its own are its entries since then, all entries since then are of callers, and each put there is of an event of
-- its caller's sources. The events that were put and aren't settled are those that callers owe, each one. The history has as many entries as each caller was told
pub record HistoryHolds (c : Core) : Type 0 where
  pub legal : IsLegal c.history
  pub since : List Entry
  pub extends : c.history ≡ c.deal.history ++ since
  pub own : (j : ℕ) → j < c.start.layout.workers → own_of j since ≡ c.own j
  pub callers : (x : Entry) → In x since → whose x < c.start.layout.workers
  pub sources : (j : ℕ) (e : Event) → In (Put j e) since → owner_of c.start.layout.workers c.deal.span e.src ≡ j
  pub owed : (k : ℕ) (d : SettleDebt) → k < c.start.layout.workers → c.settling k ≡ Some d → In (Put k d.event) c.history × (Contains (settleds c.history) d.event → ⊥)
  pub unsettled : (e : Event) → Contains (puts c.history) e → (Contains (settleds c.history) e → ⊥) → (k : ℕ) × (k < c.start.layout.workers) × ((d : SettleDebt) × (c.settling k ≡ Some d) × (d.event ≡ e))
  pub tables : (k : ℕ) → k < c.start.layout.workers → (c.told k).tables ≤ table_count c.history
  pub raising : (k : ℕ) → k < c.start.layout.workers → (c.told k).settled ≤ raising_count c.history

-- 8. Current

-- Each event that is settled and pending isn't before current
pub record CurrentHolds (c : Core) : Type 0 where
  pub ahead : (e : Event) → Contains (settleds c.history) e → IsPending c.history e → c.words.current.tick ≤ e.time

-- 9. Walkers

-- the caller k took current and a table in
pub record IsTake (c : Core) (k : ℕ) (s : Sight) : Type 0 where
  pub inside : k < c.start.layout.workers
  pub sees : c.sight k ≡ Some s

-- and walks so in that table
pub record IsWalking (c : Core) (k : ℕ) (s : Sight) (w : Walk) : Type 0 where
  pub inside : k < c.start.layout.workers
  pub sees : c.sight k ≡ Some s
  pub walks : c.walk k ≡ Some w

-- the event was put before the take of caller k read its table, and is pending
pub record IsDue (c : Core) (k : ℕ) (e : Event) : Type 0 where
  pub put : Contains (puts (take (c.read k) c.history)) e
  pub pending : IsPending c.history e

-- the row r, which is present or frozen, is of the table of generation g and holds the event e
abbrev pub IsKeptIn : Core → ℕ → Event → ℕ → Type 0
IsKeptIn c g e r = (((c.words.link r).mark ≡ Val) ⊎ ((c.words.link r).mark ≡ Mov)) × ((c.words.link r).generation ≡ g) × (c.words.event r ≡ e)

-- Of a take that saw current for a table: each event that was settled before its caller's last Begin and is pending isn't before that current. While current is that still, and the table open, each event that was put since the take read the table, and is settled, is of a later bucket. An event that is
-- owed to an older table was put before that. A walk is of a head of that table, which is the head of its bucket, and at its list's end or at a row that its caller's guard covers. Each pending event of that list, and of a bucket that the walk seeks, that was put before the take read the table
-- stands in the row at which the walk is, or in one that is reached from it. So where the walk came to the end all those events are out. In a search no such event of the lists before is earlier than the least one found there
pub record WalkersHold (c : Core) : Type 0 where
  pub above : (k : ℕ) (s : Sight) (front : List Entry) (e : Event) → IsTake c k s → EndsInBegin (c.own k) → Began k c.history front → Contains (settleds front) e → IsPending c.history e → s.current.tick ≤ e.time
  pub ahead : (k : ℕ) (s : Sight) (e : Event) → IsTake c k s → s.current ≡ c.words.current → s.table.generation ≡ c.words.control.generation → Contains (puts (drop (c.read k) c.history)) e → Contains (settleds c.history) e
      → bucket (shape_of s.table) s.current.tick < bucket (shape_of s.table) e.time
  pub owed : (k i : ℕ) (s : Sight) (d : SettleDebt) → IsTake c k s → i < c.start.layout.workers → c.settling i ≡ Some d → d.generation < s.table.generation → Contains (puts (take (c.read k) c.history)) d.event
  pub at : (k : ℕ) (w : Walk) → k < c.start.layout.workers → c.walk k ≡ Some w
      → (s : Sight) × (c.sight k ≡ Some s) × IsHead w.head × IsOpen s.table w.head × ((w.at ≡ 0) ⊎ ((g : ℕ) × IsCovered c k g w.at))
  pub of : (k b : ℕ) (s : Sight) (w : Walk) → IsWalking c k s w → w.bucket ≡ Some b → (b ≡ bucket (shape_of s.table) s.current.tick) × (w.head ≡ head_for s.table.generation (shape_of s.table) b)
  pub left : (k : ℕ) (s : Sight) (w : Walk) (e : Event) → IsWalking c k s w → head_of s.table e ≡ w.head → IsSought w.bucket (bucket (shape_of s.table) e.time) → IsDue c k e
      → (r : ℕ) × (0 < w.at) × IsKeptIn c s.table.generation e r × Reaches c.words.link c.words.twin w.at r
  pub ended : (k : ℕ) (s : Sight) (w : Walk) (e : Event) → IsWalking c k s w → w.at ≡ 0 → head_of s.table e ≡ w.head → IsSought w.bucket (bucket (shape_of s.table) e.time) → Contains (puts (take (c.read k) c.history)) e
      → Contains (outs c.history) e
  pub done : (k : ℕ) (s : Sight) (w : Walk) (e : Event) → IsWalking c k s w → w.bucket ≡ None → head_of s.table e < w.head → IsDue c k e → IsNotBefore w.least e

-- 10. Scarcity

-- the row r, of the caller k, is late for the epoch g: it is listed, or cut under a guard that found more than g, or retired with a tag above g + 1
abbrev pub IsLateRow : Core → ℕ → ℕ → ℕ → Type 0
IsLateRow c k g r = IsHomeRow c.start.layout k r × IsLate c.guard g (c.holding r)

-- A caller's recovery of rows began at a place of the history, with the events that were pending there and an epoch that isn't above the present one. Different home rows of the caller that are late for that
-- epoch are at most two for each of these events and two for each caller. Those that the recovery has counted since the epoch rose by three are in hand or late. The events of a recovery, and those that a
-- refusal keeps, are different, were put, and none was taken before a Begin of the caller
pub record ScarcityHolds (c : Core) : Type 0 where
  pub began : (k : ℕ) (b : Base) → k < c.start.layout.workers → c.base k ≡ Some b → (b.place ≤ length c.history) × (b.events ≡ pending (take b.place c.history)) × (b.epoch ≤ c.words.epoch)
  pub late : (k : ℕ) (b : Base) (rows : List ℕ) → k < c.start.layout.workers → c.base k ≡ Some b → IsOnce rows → ((r : ℕ) → In r rows → IsLateRow c k b.epoch r) → length rows ≤ 2 * length b.events + 2 * c.start.layout.workers
  pub looked : (k r : ℕ) (b : Base) → k < c.start.layout.workers → c.base k ≡ Some b → IsHomeRow c.start.layout k r → r ≤ k * c.start.layout.home + b.looked
      → (b.epoch + 3 ≤ c.words.epoch) × (In r (c.hand k) ⊎ IsLateRow c k b.epoch r)
  pub counted : (k : ℕ) (b : Base) → k < c.start.layout.workers → c.base k ≡ Some b → AreCounted c.history k b.events
  pub refused : (k : ℕ) → k < c.start.layout.workers → AreCounted c.history k (c.refused k)
  -- a listed home row whose event was out at its caller's last Begin, or at any other, stands in no list that this caller has swept since
  pub swept : (k q r : ℕ) (front back : List Entry) → k < c.start.layout.workers → In q (c.clean k) → IsHead q → IsHomeRow c.start.layout k r → In r (c.chain q) → c.history ≡ front ++ Begin k ∷ back
      → Contains (outs front) (c.words.event r) → ⊥

-- 11. Bounds

-- A generation is left, and the epoch of the guards has room. A caller that owes an event has a permit. Current's epoch, the permits, and one epoch more while the table moves and current isn't past the pin of the next one, leave 48 epochs, and each rise of that epoch stands in the history. So does each table: the newest one's generation is the first one and their number
pub record BoundsHold (c : Core) : Type 0 where
  pub generation : c.words.control.generation ≤ 2 ^ 30 - 2
  pub opened : newest c.words.control ≡ c.start.first.generation + table_count c.history
  pub guards : c.words.epoch ≤ 2 ^ 62
  pub owed : (k : ℕ) (d : SettleDebt) → k < c.start.layout.workers → c.settling k ≡ Some d → c.permit k ≡ true
  pub permits : c.words.current.epoch + (permits c.permit c.start.layout.workers + coming c.words.control c.words.current c.words.pin) ≤ 2 ^ 32 - 48
  pub entries : c.words.current.epoch + coming c.words.control c.words.current c.words.pin ≤ c.start.first.epoch + raising_count c.history

-- 12. Helpers

-- A helper found the control word of its move. As long as that goes on, what it has passed is so: once those are all heads, each head of the new table is prepared, each of the old one frozen, or frozen and empty
pub record HelpersHold (c : Core) : Type 0 where
  pub finds : (k : ℕ) (h : Help) → k < c.start.layout.workers → c.help k ≡ Some h → (x : Control) × ((c.found k).control ≡ Some x) × (x.moving ≡ true) × (x.generation ≡ h.generation)
  pub prepared : (k q : ℕ) (h : Help) → k < c.start.layout.workers → c.help k ≡ Some h → h.generation ≡ c.words.control.generation → h.prepared ≡ 2 ^ c.words.control.new_log → IsNext c.words.control q → IsNextHead c.words.control (c.words.head q)
  pub frozen : (k q : ℕ) (h : Help) → k < c.start.layout.workers → c.help k ≡ Some h → h.generation ≡ c.words.control.generation → h.frozen ≡ 2 ^ c.words.control.log → IsOpen c.words.control q → (c.words.head q).mark ≡ Mov
  pub emptied : (k q : ℕ) (h : Help) → k < c.start.layout.workers → c.help k ≡ Some h → h.generation ≡ c.words.control.generation → h.emptied ≡ 2 ^ c.words.control.log → IsOpen c.words.control q
      → ((c.words.head q).mark ≡ Mov) × ((c.words.head q).row ≡ 0)

-- 13. Copies

abbrev pub IsInList : Core → ℕ → Type 0
IsInList c r = (q : ℕ) × (c.holding r ≡ listed q)

-- the listed row r is frozen, and t is its twin
pub record HasTwin (c : Core) (r t : ℕ) : Type 0 where
  pub row : IsRow c.start.layout r
  pub in_list : IsInList c r
  pub frozen : (c.words.link r).mark ≡ Mov
  pub twin : c.words.twin r ≡ t
  pub some : 0 < t

-- the caller k owes the copy t
pub record OwesCopy (c : Core) (k t : ℕ) : Type 0 where
  pub inside : k < c.start.layout.workers
  pub debt : CopyDebt
  pub owes : c.copying k ≡ Some debt
  pub copy : debt.copy ≡ t

-- A twin of a listed MOV row names a listed row of the next table, INV or VAL, with the same event, and no row is named by two. Each INV row that isn't in hand is such a twin, or the copy of exactly one debt. The old row of a debt is MOV, and holds the copy's event. A covered MOV row that isn't listed
-- has a twin that isn't INV
pub record CopiesHold (c : Core) : Type 0 where
  pub twins : (r t : ℕ) → HasTwin c r t → IsInList c t × (((c.words.link t).mark ≡ Invalid) ⊎ ((c.words.link t).mark ≡ Val)) × ((c.words.link t).generation ≡ (c.words.link r).generation + 1) × (c.words.event t ≡ c.words.event r)
  pub one : (r s t : ℕ) → HasTwin c r t → HasTwin c s t → r ≡ s
  pub bound : (t : ℕ) → IsRow c.start.layout t → (IsInHand c t → ⊥) → (c.words.link t).mark ≡ Invalid → ((r : ℕ) × HasTwin c r t) ⊎ ((k : ℕ) × OwesCopy c k t)
  pub apart : (r k t : ℕ) → HasTwin c r t → OwesCopy c k t → ⊥
  pub alone : (j k t : ℕ) → OwesCopy c j t → OwesCopy c k t → j ≡ k
  pub old : (k : ℕ) (d : CopyDebt) → k < c.start.layout.workers → c.copying k ≡ Some d → ((c.words.link d.old).mark ≡ Mov) × (c.words.event d.old ≡ c.words.event d.copy)
  pub left : (k g r : ℕ) → IsCovered c k g r → (c.words.link r).mark ≡ Mov → (IsInList c r → ⊥) → (c.words.twin r ≢ 0) × ((c.words.link (c.words.twin r)).mark ≢ Invalid)

-- 14. The end of a move

-- no take that walks saw an epoch of current above this one
abbrev pub AreBehind : Core → ℕ → Type 0
AreBehind c n = (k : ℕ) (s : Sight) (w : Walk) → IsWalking c k s w → s.current.epoch ≤ n

-- The pin names no later table than the newest, and no earlier one than the open one, if that isn't the first. While it names the next table, all heads of the open one are frozen, its epoch isn't above current's, and no take that walks saw a later epoch. Once that table is open, current's epoch
-- is past the pin's, and above that which each take saw that still walks an older table. Each head of a table that was opened is of that table, or of a later one. Of a helper, as long as its move goes on: no take that walks saw a later epoch than it loaded for the pin, and the pin that it found is the
-- present one, of the next table; where it found current's epoch past that, it is
pub record EndingHolds (c : Core) : Type 0 where
  pub opened : (g q : ℕ) → IsHead q → c.start.first.generation ≤ g → g ≤ c.words.control.generation → IsHeadIn g (c.shape g) q → g ≤ (c.words.head q).generation
  pub low : c.words.pin.generation ≤ newest c.words.control
  pub high : c.start.first.generation < c.words.control.generation → c.words.control.generation ≤ c.words.pin.generation
  pub frozen : c.words.pin.generation ≡ c.words.control.generation + 1 → (q : ℕ) → IsHead q → IsOpen c.words.control q → (c.words.head q).mark ≡ Mov
  pub behind : c.words.pin.generation ≡ c.words.control.generation + 1 → (c.words.pin.epoch ≤ c.words.current.epoch) × AreBehind c c.words.pin.epoch
  pub past : 0 < c.words.pin.generation → c.words.pin.generation ≤ c.words.control.generation → c.words.pin.epoch < c.words.current.epoch
  pub older : (k : ℕ) (s : Sight) (w : Walk) → IsWalking c k s w → s.table.generation < c.words.control.generation → s.current.epoch < c.words.current.epoch
  pub loaded : (k : ℕ) (h : Help) (epoch : ℕ) → k < c.start.layout.workers → c.help k ≡ Some h → h.generation ≡ c.words.control.generation → h.epoch ≡ Some epoch → (epoch ≤ c.words.current.epoch) × AreBehind c epoch
  pub found : (k : ℕ) (h : Help) (pin : Pin) → k < c.start.layout.workers → c.help k ≡ Some h → h.generation ≡ c.words.control.generation → h.pin ≡ Some pin → (c.words.pin ≡ pin) × (pin.generation ≡ c.words.control.generation + 1)
  pub passed : (k : ℕ) (h : Help) (pin : Pin) (y : Current) → k < c.start.layout.workers → c.help k ≡ Some h → h.generation ≡ c.words.control.generation → h.pin ≡ Some pin → (c.found k).current ≡ Some y → pin.epoch < y.epoch
      → c.words.pin.epoch < c.words.current.epoch

-- A state that meets the invariant in which the listed row r is covered by a guard, the row s was cut and has a tag, and the row t is retired
pub record Witness (c : Core) : Type 0 where
  pub r : ℕ
  pub s : ℕ
  pub t : ℕ
  pub q : ℕ
  pub k : ℕ
  pub g : ℕ
  pub j : ℕ
  pub e : ℕ
  pub e' : ℕ
  pub row : IsRow c.start.layout r
  pub is_listed : c.holding r ≡ listed q
  pub is_covered : IsCovered c k g r
  pub row' : IsRow c.start.layout s
  pub is_cut : c.holding s ≡ cut_by j
  pub is_tagged : HasTag c.start.layout.workers c.cut c.holding s e
  pub row'' : IsRow c.start.layout t
  pub is_retired : c.holding t ≡ retired e'
