-- Walking a list to a target, with dead rows cut on the way: what is known between two steps, and what each step tells.
use Rattle.std.specs.Prelude.{◌≡◌, ◌≢◌, ◌⊎◌, ℕ, ◌+◌, ◌-◌, ◌*◌, ◌^◌, ◌<◌, ◌≤◌, ◌==◌, ◌/◌, cond, Bool, true, false, length, drop, Some, None}
use Rattle.crq_base.specs.declared.event.Event.{Event}
use Rattle.crq_base.specs.declared.kinds.StepKind.{StepKind}
use Rattle.crq_base.specs.declared.kinds.StepKind.TheVariants.{Walk, Read, Cut, EpochLoad, Retire}
use Rattle.crq_base.specs.declared.words.Mark.TheVariants.{Del}
use Rattle.crq_base.specs.declared.words.Control.{Control}
use Rattle.crq_base.specs.Words.{IsLink}
use Rattle.crq_base.specs.Lists.{In}
use Rattle.crq_rule.specs.declared.pass.Pass.{Pass}
use Rattle.crq_rule.specs.declared.pass.Table.{Table}
use Rattle.crq_rule.specs.declared.debts.CutDebt.{CutDebt}
use Rattle.crq_rule.specs.declared.view.CutRow.{CutRow}
use Rattle.crq_rule.specs.declared.view.Stand.{Stand}
use Rattle.crq_rule.specs.declared.view.Caller.{Caller}
use Rattle.crq_rule.specs.Core.{HasName, names_of}
use Rattle.crq_rule.specs.Parts.{IsOn}
use Rattle.crq_rule.specs.Ranks.{at_head}
use Rattle.crq_rule.specs.ListKinds.{StandsOn}
use Rattle.crq_rows.specs.Passes.{caller, IsPassOf}
use Rattle.crq_list.specs.declared.parts.Spot.{Spot}
use Rattle.crq_list.specs.declared.parts.Spot.TheVariants.{Head, Row}
use Rattle.crq_list.specs.declared.parts.Before.{Before}
use Rattle.crq_list.specs.declared.seek.SeekState.{SeekState}
use Rattle.crq_list.specs.declared.seek.SeekState.TheVariants.{Load, Reading, Passing, Cutting, Tagging, Retiring}
use Rattle.crq_list.specs.declared.seek.Sought.{Sought}
use Rattle.crq_list.specs.declared.seek.SeekEnd.{SeekEnd}
use Rattle.crq_list.specs.declared.seek.SeekEnd.TheVariants.{There, Frozen}
use Rattle.crq_list.specs.declared.parts.Progress.{Progress}
use Rattle.crq_list.specs.declared.parts.Progress.TheVariants.{More, Done}
use Rattle.crq_list.specs.Known.{Works, turns_after}
use Rattle.crq_list.specs.Stretches.{Stretch}
use Rattle.crq_list.specs.Operations.{Operation}
use Rattle.crq_list.specs.Sweeps.{SweepsTo, MetFrozen}
use Rattle.crq_list.specs.Helps.{KeepsCopying}
use Rattle.crq_list.specs.Spots.{cell, Target, IsUpTo, IsAfter, IsReached, IsPassed, IsListOf, IsTarget, left_of}

-- the words of the next row's event that were read are those of the target: the time and source, before the place that is read next
abbrev pub HasRead : ℕ → Event → Event → Type 0
HasRead place e t = (2 < place → e.time ≡ t.time) × (3 < place → e.src ≡ t.src)

-- the next row doesn't come after the target
pub record IsPassing (n : ℕ) (table : Table) (x : Control) (sought : Sought) (b : Before) (p : Caller) : Type 0 where
  pub passed : IsPassed n table.start.layout x sought b p
  pub some_row : 0 < b.link.row
  pub up_to : (e : Event) → StandsOn p.position.rows b.link.row e → IsUpTo sought.target e b.link.row

abbrev pub IsAt : ℕ → Table → Control → Sought → SeekState → Caller → Type 0
IsAt n table x sought (Load spot) p = (p.cut ≡ None) × IsReached x sought.list sought.target spot p
IsAt n table x sought (Reading b place) p = (p.cut ≡ None) × IsPassed n table.start.layout x sought b p × (0 < b.link.row) × (2 ≤ place) × (place < 5)
    × ((t : Event × ℕ) × (sought.target ≡ Some t) × ((e : Event) → StandsOn p.position.rows b.link.row e → HasRead place e t.0))
IsAt n table x sought (Passing b) p = (p.cut ≡ None) × IsPassing n table x sought b p
IsAt n table x sought (Cutting b last) p = (p.cut ≡ None) × IsPassing n table x sought b p × IsLink last × (last.mark ≡ Del) × (last.row ≢ b.link.row) × ((s : Stand) × In s p.position.rows × (s.row ≡ b.link.row) × (s.last ≡ Some last))
IsAt n table x sought (Tagging spot row) p = IsReached x sought.list sought.target spot p × ((y : CutRow) × (p.cut ≡ Some y) × (y.row ≡ row))
IsAt n table x sought (Retiring spot row tag) p = IsReached x sought.list sought.target spot p × ((y : CutRow) × (p.cut ≡ Some y) × (y.row ≡ row) × In tag y.tags)

-- the spot at which the walk is
abbrev pub spot_of : SeekState → Spot
spot_of (Load spot) = spot
spot_of (Reading b place) = b.spot
spot_of (Passing b) = b.spot
spot_of (Cutting b last) = b.spot
spot_of (Tagging spot row) = spot
spot_of (Retiring spot row tag) = spot

-- a caller that walks the list of the target, of a table that the control word tells which it found. Its steps since the first n are a sweep to the spot at which it is
pub record IsSeeking (n : ℕ) (table : Table) (x : Control) (sought : Sought) (seek : SeekState) (p : Caller) : Type 0 where
  pub counted : n ≤ length p.made
  pub on : IsOn p.guard
  pub list_is : IsListOf x sought.list p
  pub target_is : IsTarget x sought.list sought.target
  pub swept : SweepsTo table.start.layout (at_head sought.list.head) (drop n p.made) (cell (spot_of seek))
  pub at : IsAt n table x sought seek p

-- after a spot was passed: what is to be done next, and what is answered
abbrev pub next_seek : Before → Target → SeekState × Progress SeekEnd
next_seek b None = cond (b.link.row == 0) (Load b.spot, Done (There b)) (Passing b, More)
next_seek b (Some t) = cond (b.link.row == 0) (Load b.spot, Done (There b)) (Reading b 2, More)

-- the part of an event's key at a place, and that part of the word that stands there
abbrev pub key_part : Event → ℕ → ℕ
key_part e place = cond (place == 2) e.time (cond (place == 3) e.src e.seq)

abbrev pub part_of : ℕ → ℕ → ℕ
part_of word place = cond (place == 2) (word / 2 ^ 32) word

-- whether its next step is an exchange
abbrev pub seek_exchanges : SeekState → Bool
seek_exchanges (Cutting b last) = true
seek_exchanges _ = false

-- the kind of its next step
abbrev pub seek_kind : SeekState → StepKind
seek_kind (Load spot) = Walk
seek_kind (Reading b place) = Read
seek_kind (Passing b) = Walk
seek_kind (Cutting b last) = Cut
seek_kind (Tagging spot row) = EpochLoad
seek_kind (Retiring spot row tag) = Retire

-- whether it is on the way from a row to its retirement
abbrev pub is_on_way : SeekState → Bool
is_on_way (Load spot) = false
is_on_way (Reading b place) = false
is_on_way (Passing b) = true
is_on_way (Cutting b last) = true
is_on_way (Tagging spot row) = true
is_on_way (Retiring spot row tag) = true

-- what is left to do until the next exchange: of the list, and of the present row
abbrev pub seek_left : SeekState → Caller → ℕ
seek_left (Load (Head q)) p = (2 ^ 160) * 16 + 15
seek_left (Load (Row r)) p = (2 ^ 160) * 16 + 20
seek_left (Reading b place) p = left_of b.spot p * 16 + (14 - place)
seek_left (Passing b) p = left_of b.spot p * 16 + 9
seek_left (Cutting b last) p = left_of b.spot p * 16 + 8
seek_left (Tagging spot row) p = (2 ^ 160) * 16 + 31
seek_left (Retiring spot row tag) p = (2 ^ 160) * 16 + 30

-- the caller passed the spot, and the next row, if there is one, comes after the target
pub record IsThere (n : ℕ) (table : Table) (x : Control) (sought : Sought) (b : Before) (p : Caller) : Type 0 where
  pub none : p.cut ≡ None
  pub passed : IsPassed n table.start.layout x sought b p
  pub after : (b.link.row ≡ 0) ⊎ ((e : Event) × StandsOn p.position.rows b.link.row e × IsAfter sought.target e b.link.row)

abbrev pub SeekAnswers : ℕ → Table → Control → Sought → SeekState → SeekState → Caller → Caller → Progress SeekEnd → Type 0
SeekAnswers n table x sought seek seek' p q More = IsSeeking n table x sought seek' q × ((seek_exchanges seek ≡ true) ⊎ (seek_left seek' q < seek_left seek p))
SeekAnswers n table x sought seek seek' p q (Done (There b)) = IsThere n table x sought b q
SeekAnswers n table x sought seek seek' p q (Done Frozen) = (q.cut ≡ None) × MetFrozen table.start.layout sought.list q

-- What a step leaves of stands and debts, on the way from a dead row to its retirement

-- the row was found dead: all stands are kept
abbrev pub KeepsPassing : Before → SeekState → Caller → Caller → Type 0
KeepsPassing b (Cutting b' last) p q = (b'.link.row ≡ b.link.row) × ((r : ℕ) (f : Event) → StandsOn p.position.rows r f → StandsOn q.position.rows r f)
KeepsPassing b (Load spot) p q = Unit {0}
KeepsPassing b (Reading b' place) p q = Unit {0}
KeepsPassing b (Passing b') p q = Unit {0}
KeepsPassing b (Tagging spot row) p q = Unit {0}
KeepsPassing b (Retiring spot row tag) p q = Unit {0}

-- it was cut: the caller leaves that row alone, and doesn't owe it any more
abbrev pub KeepsCutting : Before → SeekState → Caller → Caller → Type 0
KeepsCutting b (Tagging spot row) p q = ((r : ℕ) (f : Event) → r ≢ b.link.row → StandsOn p.position.rows r f → StandsOn q.position.rows r f) × ((d : CutDebt) → HasName (names_of q.debts) d → d.row ≢ b.link.row)
KeepsCutting b (Load spot) p q = Unit {0}
KeepsCutting b (Reading b' place) p q = Unit {0}
KeepsCutting b (Passing b') p q = Unit {0}
KeepsCutting b (Cutting b' last) p q = Unit {0}
KeepsCutting b (Retiring spot row tag) p q = Unit {0}

-- it was tagged or retired: stands and debts stay
abbrev pub KeepsAll : Caller → Caller → Type 0
KeepsAll p q = (q.position.rows ≡ p.position.rows) × (q.debts ≡ p.debts)

abbrev pub Keeps : SeekState → SeekState → Caller → Caller → Type 0
Keeps (Load spot) seek' p q = Unit {0}
Keeps (Reading b place) seek' p q = Unit {0}
Keeps (Passing b) seek' p q = KeepsPassing b seek' p q
Keeps (Cutting b last) seek' p q = KeepsCutting b seek' p q
Keeps (Tagging spot row) seek' p q = KeepsAll p q
Keeps (Retiring spot row tag) seek' p q = KeepsAll p q × (q.cut ≡ None)

-- one step of it was made: the caller's entries, rows in hand, words written and run-time state stay, but for dead rows that aren't owed any more
pub record SeekStepped (n : ℕ) (table : Table) (x : Control) (sought : Sought) (seek seek' : SeekState) (old new : Pass) (answer : Progress SeekEnd) : Type 0 where
  pub is : IsPassOf table new
  pub works : Works n (seek_exchanges seek) (caller table old) (caller table new)
  pub kind : works.step.kind ≡ seek_kind seek
  pub turns : new.turns ≡ turns_after (seek_exchanges seek) old.turns
  pub number : new.number ≡ old.number
  pub free : new.free.items ≡ old.free.items
  pub debts : new.debts ≡ old.debts
  pub copying : KeepsCopying (caller table old) (caller table new)
  pub own : (caller table new).own ≡ (caller table old).own
  pub written : (caller table new).written ≡ (caller table old).written
  pub owed : (d : CutDebt) → HasName (names_of (caller table new).debts) d → HasName (names_of (caller table old).debts) d
  pub keeps : Keeps seek seek' (caller table old) (caller table new)
  pub answers : SeekAnswers n table x sought seek seek' (caller table old) (caller table new) answer

-- one step of it was made, and then maybe others that are no exchanges
abbrev pub SeekStretch : ℕ → Table → Control → Sought → SeekState → SeekState → Pass → Pass → Progress SeekEnd → Type 0
SeekStretch n table x sought = Stretch SeekState (Progress SeekEnd) (SeekStepped n table x sought) seek_exchanges More

-- the walk, as an operation
abbrev pub the_walk : Sought → Operation SeekState SeekEnd
the_walk sought = record {
  at = λ n table x. IsSeeking n table x sought;
  stepped = λ n table x. SeekStepped n table x sought;
  exchanges = seek_exchanges;
}
