-- The parts of the invariant. Each is a record over the components that it reads, and no others: a step that leaves these leaves the part as it stands.
use Rattle.std.specs.Prelude.{◌≡◌, ◌⊎◌, true, false, ℕ, ◌+◌, ◌^◌, ◌<◌, ◌≤◌, List, [], ◌∷◌, ◌++◌, Option, Some, None}
use Rattle.crq_base.specs.declared.event.Event.{Event}
use Rattle.crq_base.specs.declared.words.Link.{Link}
use Rattle.crq_base.specs.declared.words.Control.{Control}
use Rattle.crq_base.specs.declared.words.Current.{Current}
use Rattle.crq_base.specs.declared.words.Pin.{Pin}
use Rattle.crq_base.specs.Words.{flag_number, IsLink, IsControl, IsCurrent, IsPin}
use Rattle.crq_base.specs.Lists.{In, IsOnce}
use Rattle.crq_rule.specs.declared.debts.CopyDebt.{CopyDebt}
use Rattle.crq_rule.specs.declared.layout.Layout.{Layout}
use Rattle.crq_rule.specs.declared.layout.Start.{Start}
use Rattle.crq_rule.specs.declared.view.Guard.{Guard}
use Rattle.crq_rule.specs.declared.view.Guard.TheVariants.{Off, Entering, On}
use Rattle.crq_rule.specs.declared.view.Tick.{Tick}
use Rattle.crq_rule.specs.declared.view.CutRow.{CutRow}
use Rattle.crq_rule.specs.declared.view.Found.{Found}
use Rattle.crq_rule.specs.declared.view.Sight.{Sight}
use Rattle.crq_rule.specs.declared.view.Stand.{Stand}
use Rattle.crq_rule.specs.Places.{IsRow, IsHomeRow, IsHead}
use Rattle.crq_rule.specs.Ranks.{Shape, shape_of, next_of}
use Rattle.crq_rule.specs.Core.{Core, Holding, in_hand, listed, cut_by, retired}

-- 1. Spelling: each word has a value

pub record IsEvent (e : Event) : Type 0 where
  pub time : e.time < 2 ^ 32
  pub dst : e.dst < 2 ^ 32
  pub src : e.src < 2 ^ 32
  pub seq : e.seq < 2 ^ 64
  pub load : e.load < 2 ^ 64

pub record Spelled (l : Layout) (control : Control) (current : Current) (pin : Pin) (head link : ℕ → Link) (twin : ℕ → ℕ) (event : ℕ → Event) : Type 0 where
  pub is_control : IsControl control
  pub is_current : IsCurrent current
  pub is_pin : IsPin pin
  pub heads : (q : ℕ) → IsHead q → IsLink (head q)
  pub links : (r : ℕ) → IsRow l r → IsLink (link r)
  pub twins : (r : ℕ) → IsRow l r → twin r ≤ l.all
  pub events : (r : ℕ) → IsRow l r → IsEvent (event r)

-- 2. Reading: what a caller read of the epoch isn't above what the word has now, and what it found of control and current may be told of them still

pub record Reading (n epoch : ℕ) (epochs : ℕ → List ℕ) (tick : ℕ → Tick) (cut : ℕ → Option CutRow) : Type 0 where
  pub limit : epoch ≤ 2 ^ 62
  pub read : (j e : ℕ) → j < n → In e (epochs j) → e ≤ epoch
  pub loaded : (j : ℕ) → j < n → (tick j).loaded ≤ epoch
  pub scanned : (j k a : ℕ) → j < n → In (k, a) (tick j).found → a ≤ epoch + 1
  pub tags : (j t : ℕ) (x : CutRow) → j < n → cut j ≡ Some x → In t x.tags → t ≤ epoch

-- the position a isn't after the position b
abbrev pub NotAfter : Current → Current → Type 0
NotAfter a b = (a.epoch < b.epoch) ⊎ ((a.epoch ≡ b.epoch) × (a.tick ≤ b.tick))

-- the generation of the newest table: while a table moves, that is the one that it moves into
abbrev pub newest : Control → ℕ
newest x = x.generation + flag_number x.moving

-- what a control word that was found says now: its table is no later one, a generation keeps its shape, and a move that hasn't ended has its word still
pub record Fits (start : Start) (control : Control) (shape : ℕ → Shape) (x : Control) : Type 0 where
  pub spelled : IsControl x
  pub first : start.first.generation ≤ x.generation
  pub low : x.generation ≤ control.generation
  pub size : shape x.generation ≡ shape_of x
  pub next : x.moving ≡ true → shape (x.generation + 1) ≡ next_of x
  pub same : x.moving ≡ true → x.generation ≡ control.generation → x ≡ control

pub record Finds (start : Start) (control : Control) (shape : ℕ → Shape) (current : Current) (found : ℕ → Found) (sight : ℕ → Option Sight) : Type 0 where
  pub controls : (j : ℕ) (x : Control) → j < start.layout.workers → (found j).control ≡ Some x → Fits start control shape x
  pub currents : (j : ℕ) (x : Current) → j < start.layout.workers → (found j).current ≡ Some x → NotAfter x current
  pub sights : (j : ℕ) (s : Sight) → j < start.layout.workers → sight j ≡ Some s → Fits start control shape s.table × (s.table.moving ≡ false)
  pub views : (j : ℕ) (s : Sight) → j < start.layout.workers → sight j ≡ Some s → NotAfter s.current current

-- 3. Guards

-- what a guard says of the epoch e and of the word a of its announcement
abbrev pub GuardIs : ℕ → ℕ → Guard → Type 0
GuardIs e a Off = a ≡ 0
GuardIs e a (Entering x) = (a ≡ x + 1) × (x ≤ e)
GuardIs e a (On g) = (0 < a) × (a ≤ g + 1) × (g ≤ e) × (e ≤ g + 1)

-- a guard that is on found at least x
abbrev pub OnSince : ℕ → Guard → Type 0
OnSince x Off = Unit {0}
OnSince x (Entering y) = Unit {0}
OnSince x (On g) = x ≤ g

abbrev pub IsOn : Guard → Type 0
IsOn Off = ⊥
IsOn (Entering x) = ⊥
IsOn (On g) = Unit {0}

-- the word a of an announcement lets the epoch rise from e
abbrev pub LetsRise : ℕ → ℕ → Type 0
LetsRise e a = (a ≡ 0) ⊎ (a ≡ e + 1)

pub record Guards (n epoch : ℕ) (announced : ℕ → ℕ) (guard : ℕ → Guard) (tick : ℕ → Tick) : Type 0 where
  pub each : (j : ℕ) → j < n → GuardIs epoch (announced j) (guard j)
  pub passed : (k j a : ℕ) → k < n → j < n → In (j, a) (tick k).found → LetsRise (tick k).loaded a → OnSince (tick k).loaded (guard j)

-- 4. Holders: each row is held by one

pub record Holders (l : Layout) (hand : ℕ → List ℕ) (cut : ℕ → Option CutRow) (chain : ℕ → List ℕ) (holding : ℕ → Holding) : Type 0 where
  pub once : (j : ℕ) → j < l.workers → IsOnce (hand j)
  pub held : (j r : ℕ) → j < l.workers → In r (hand j) → IsHomeRow l j r × (holding r ≡ in_hand j)
  pub of_hand : (j r : ℕ) → IsRow l r → holding r ≡ in_hand j → (j < l.workers) × In r (hand j)
  pub in_chain : (q r : ℕ) → IsHead q → In r (chain q) → IsRow l r × (holding r ≡ listed q)
  pub of_chain : (q r : ℕ) → IsRow l r → holding r ≡ listed q → IsHead q × In r (chain q)
  pub is_cut : (j : ℕ) (x : CutRow) → j < l.workers → cut j ≡ Some x → IsRow l x.row × (holding x.row ≡ cut_by j)
  pub of_cut : (j r : ℕ) → IsRow l r → holding r ≡ cut_by j → (j < l.workers) × ((x : CutRow) × (cut j ≡ Some x) × (x.row ≡ r))

-- a caller that cut a row and hasn't retired it has its guard on, and the row's tag isn't below what that guard found
pub record Cutting (n : ℕ) (guard : ℕ → Guard) (cut : ℕ → Option CutRow) : Type 0 where
  pub on : (j : ℕ) (x : CutRow) → j < n → cut j ≡ Some x → IsOn (guard j)
  pub tags : (j t g : ℕ) (x : CutRow) → j < n → cut j ≡ Some x → guard j ≡ On g → In t x.tags → g ≤ t

-- the stamp of a row
abbrev pub stamp_of : Holding → ℕ
stamp_of (in_hand j) = 0
stamp_of (listed q) = 0
stamp_of (cut_by j) = 0
stamp_of (retired t) = t + 1

pub record Stamps (l : Layout) (epoch : ℕ) (stamp : ℕ → ℕ) (ripening : ℕ → List (ℕ × ℕ)) (holding : ℕ → Holding) : Type 0 where
  pub shown : (r : ℕ) → IsRow l r → stamp r ≡ stamp_of (holding r)
  pub tag : (r t : ℕ) → IsRow l r → holding r ≡ retired t → t ≤ epoch
  pub ripe : (j r t : ℕ) → j < l.workers → In (r, t) (ripening j) → IsHomeRow l j r × (holding r ≡ retired t)

-- 5. Lists: links lead from each head through its rows to row 0, and the twin of a listed row is 0 or listed

abbrev pub Leads : (ℕ → Link) → ℕ → List ℕ → Type 0
Leads link a [] = a ≡ 0
Leads link a (r ∷ rs) = (a ≡ r) × Leads link (link r).row rs

pub record Chains (head link : ℕ → Link) (twin : ℕ → ℕ) (chain : ℕ → List ℕ) : Type 0 where
  pub leads : (q : ℕ) → IsHead q → Leads link (head q).row (chain q)
  pub twins : (q r : ℕ) → IsHead q → In r (chain q) → (twin r ≡ 0) ⊎ ((p : ℕ) × IsHead p × In (twin r) (chain p))

-- 6. Cover: what the guards keep from being given again

-- the row b is named by the link or the twin word of the row a
abbrev pub Names : (ℕ → Link) → (ℕ → ℕ) → ℕ → ℕ → Type 0
Names link twin a b = (0 < b) × (((link a).row ≡ b) ⊎ (twin a ≡ b))

-- names lead from the row a through the rows xs to b
abbrev pub IsPath : (ℕ → Link) → (ℕ → ℕ) → ℕ → List ℕ → ℕ → Type 0
IsPath link twin a [] b = a ≡ b
IsPath link twin a (x ∷ xs) b = Names link twin a x × IsPath link twin x xs b

pub record Reaches (link : ℕ → Link) (twin : ℕ → ℕ) (a b : ℕ) : Type 0 where
  pub through : List ℕ
  pub path : IsPath link twin a through b

abbrev pub rows_of_copy : Option CopyDebt → List ℕ
rows_of_copy None = []
rows_of_copy (Some d) = d.old ∷ d.copy ∷ []

abbrev pub rows_of_old : Option Stand → List ℕ
rows_of_old None = []
rows_of_old (Some s) = s.row ∷ []

abbrev pub rows_of : List Stand → List ℕ
rows_of [] = []
rows_of (s ∷ ss) = s.row ∷ rows_of ss

-- links lead from the row a to b, or b is a itself: twins play no part
abbrev pub Follows : (ℕ → Link) → ℕ → ℕ → Type 0
Follows link a b = Reaches link (λ _. 0) a b

-- the rows that a caller stands on: of a list, the frozen row whose copy isn't linked yet, and both rows of a copy that it owes
abbrev pub footings : (ℕ → List Stand) → (ℕ → Option Stand) → (ℕ → Option CopyDebt) → ℕ → List ℕ
footings rows old copying k = rows_of (rows k) ++ (rows_of_old (old k) ++ rows_of_copy (copying k))

-- what tells which rows are covered: where each caller stands, what its guard found, and which rows name which
pub record Ground : Type 0 where
  pub workers : ℕ
  pub link : ℕ → Link
  pub twin : ℕ → ℕ
  pub guard : ℕ → Guard
  pub footing : ℕ → List ℕ

abbrev pub ground_of : Core → Ground
ground_of c = record { workers = c.start.layout.workers; link = c.words.link; twin = c.words.twin; guard = c.guard; footing = footings c.rows c.old c.copying }

-- the guard of caller k, which is on and found g, covers the row r
pub record Covers (ground : Ground) (k g r : ℕ) : Type 0 where
  pub inside : k < ground.workers
  pub on : ground.guard k ≡ On g
  pub at : ℕ
  pub stands : In at (ground.footing k)
  pub reaches : Reaches ground.link ground.twin at r

-- some guard covers the row
abbrev pub IsGuarded : Ground → ℕ → Type 0
IsGuarded ground r = (k : ℕ) × (g : ℕ) × Covers ground k g r

-- the row r was retired with the tag t, or its cutter loaded the epoch t since the cut
abbrev pub HasTag : ℕ → (ℕ → Option CutRow) → (ℕ → Holding) → ℕ → ℕ → Type 0
HasTag n cut holding r t = (holding r ≡ retired t) ⊎ ((j : ℕ) × (x : CutRow) × (j < n) × (cut j ≡ Some x) × (x.row ≡ r) × In t x.tags)

pub record Cover (ground : Ground) (cut : ℕ → Option CutRow) (holding : ℕ → Holding) : Type 0 where
  pub free : (k g r j : ℕ) → Covers ground k g r → holding r ≡ in_hand j → ⊥
  pub tags : (k g r t : ℕ) → Covers ground k g r → HasTag ground.workers cut holding r t → g ≤ t
  -- a caller stands on rows only while its guard is on
  pub resting : (k : ℕ) → k < ground.workers → (IsOn (ground.guard k) → ⊥) → ground.footing k ≡ []
