-- Cutting dead rows out of a list: what is known between two steps, and what each step tells.
use Rattle.std.specs.Prelude.{◌≡◌, ◌≢◌, ◌⊎◌, ℕ, ◌<◌, ◌==◌, cond, Bool, true, false, drop, Some, None}
use Rattle.crq_base.specs.declared.event.Event.{Event}
use Rattle.crq_base.specs.declared.words.Link.{Link}
use Rattle.crq_base.specs.declared.words.Mark.TheVariants.{Val}
use Rattle.crq_base.specs.declared.words.Control.{Control}
use Rattle.crq_rule.specs.declared.pass.Pass.{Pass}
use Rattle.crq_rule.specs.declared.pass.Table.{Table}
use Rattle.crq_rule.specs.declared.debts.CutDebt.{CutDebt}
use Rattle.crq_rule.specs.declared.layout.Layout.{Layout}
use Rattle.crq_rule.specs.declared.view.Caller.{Caller}
use Rattle.crq_rule.specs.Core.{HasName, names_of}
use Rattle.crq_rule.specs.Ranks.{at_head, at_row}
use Rattle.crq_rule.specs.ListKinds.{StandsOn}
use Rattle.crq_rows.specs.Passes.{caller, IsPassOf}
use Rattle.crq_list.specs.declared.parts.Progress.{Progress}
use Rattle.crq_list.specs.declared.parts.Progress.TheVariants.{More, Done}
use Rattle.crq_list.specs.declared.cut.CutEnd.{CutEnd}
use Rattle.crq_list.specs.declared.cut.CutEnd.TheVariants.{Clean, Frozen}
use Rattle.crq_list.specs.declared.cut.CutOp.{CutOp}
use Rattle.crq_list.specs.declared.parts.ListAt.{ListAt}
use Rattle.crq_list.specs.declared.parts.Spot.TheVariants.{Head}
use Rattle.crq_list.specs.declared.seek.SeekState.{SeekState}
use Rattle.crq_list.specs.declared.seek.SeekState.TheVariants.{Load, Reading, Passing, Cutting, Tagging, Retiring}
use Rattle.crq_list.specs.declared.seek.Sought.{Sought}
use Rattle.crq_list.specs.declared.seek.SeekEnd.{SeekEnd}
use Rattle.crq_list.specs.declared.seek.SeekEnd.TheVariants.{There, Frozen as FoundFrozen}
use Rattle.crq_list.specs.Known.{Works, turns_after}
use Rattle.crq_list.specs.Stretches.{Stretch}
use Rattle.crq_list.specs.Operations.{Operation}
use Rattle.crq_list.specs.Sweeps.{SweepsTo, MetFrozen}
use Rattle.crq_list.specs.Helps.{KeepsCopying}
use Rattle.crq_list.specs.Spots.{Target, IsAfter, NamesTarget, SweptPast}
use Rattle.crq_list.specs.Seeking.{IsSeeking, seek_exchanges, seek_kind, seek_left}

-- on the way from the dead row r to its retirement
abbrev pub IsOnRow : SeekState → ℕ → Caller → Type 0
IsOnRow (Load spot) r p = ⊥
IsOnRow (Reading b place) r p = ⊥
IsOnRow (Passing b) r p = b.link.row ≡ r
IsOnRow (Cutting b last) r p = b.link.row ≡ r
IsOnRow (Tagging spot row) r p = (d : CutDebt) → HasName (names_of p.debts) d → d.row ≢ r
IsOnRow (Retiring spot row tag) r p = (d : CutDebt) → HasName (names_of p.debts) d → d.row ≢ r

-- the cut is on the way to retire the row asked for, past which the list was swept while it was present
pub record CutsSwept (n : ℕ) (l : Layout) (sought : Sought) (seek : SeekState) (p : Caller) : Type 0 where
  pub event : Event
  pub row : ℕ
  pub target_is : sought.target ≡ Some (event, row)
  pub past : SweptPast n l sought.list.head event row p
  pub at : IsOnRow seek row p

-- a caller that cuts the dead rows of a list
abbrev pub IsCutting : ℕ → Table → Control → CutOp → Caller → Type 0
IsCutting n table x op p = IsSeeking n table x op.sought op.state p × (op.swept ≡ true → CutsSwept n table.start.layout op.sought op.state p)

-- whether a walk that was at the first state before a step, and is at the second after it, is on the way from a dead row to its retirement
abbrev pub is_cutting : SeekState → Bool
is_cutting (Cutting b last) = true
is_cutting _ = false

abbrev pub is_tagging : SeekState → Bool
is_tagging (Tagging spot row) = true
is_tagging _ = false

abbrev pub is_retiring : SeekState → Bool
is_retiring (Retiring spot row tag) = true
is_retiring _ = false

abbrev pub follows : SeekState → SeekState → Bool
follows (Load spot) seek' = false
follows (Reading b place) seek' = false
follows (Passing b) seek' = is_cutting seek'
follows (Cutting b last) seek' = is_tagging seek'
follows (Tagging spot row) seek' = is_retiring seek'
follows (Retiring spot row tag) seek' = false

-- the link of a head of a table of this generation, where it names the row r
abbrev pub head_link : ℕ → ℕ → Link
head_link generation r = record { generation = generation; row = r; mark = Val }

-- where the cut of the row r begins, if the list's head was found to name the row f: at that link, or at the head
abbrev pub cut_begins : ListAt → ℕ → ℕ → SeekState
cut_begins list r f = cond (f == r) (Passing (record { spot = Head list.head; link = head_link list.generation r })) (Load (Head list.head))

-- what a step of the walk says of the cut
abbrev pub progress_of : Progress SeekEnd → Progress CutEnd
progress_of More = More
progress_of (Done (There b)) = Done Clean
progress_of (Done FoundFrozen) = Done Frozen

-- Since its first n steps the caller swept the list q: from its head on to its end, or to a row that comes after the target. Each row on the way was present, or not valid yet, when its link was loaded: so each dead one that was met was cut out
-- of the way before
pub record HasSwept (n : ℕ) (l : Layout) (q : ℕ) (target : Target) (p : Caller) : Type 0 where
  pub row : ℕ
  pub sweeps : SweepsTo l (at_head q) (drop n p.made) (at_row row)
  pub ends : (row ≡ 0) ⊎ ((e : Event) × StandsOn p.position.rows row e × IsAfter target e row)

-- The list was swept up to the row asked for, and without one to its end. A dead row that was the target isn't owed any more
abbrev pub CutAnswers : ℕ → Table → Control → CutOp → CutOp → Caller → Caller → Progress CutEnd → Type 0
CutAnswers n table x op op' p q More = IsCutting n table x op' q × (op' ≡ record op { state = op'.state; swept = op'.swept }) × ((seek_exchanges op.state ≡ true) ⊎ (seek_left op'.state q < seek_left op.state p))
CutAnswers n table x op op' p q (Done Clean) = (q.cut ≡ None) × ((d : CutDebt) → NamesTarget op.sought.target op.sought.list d → HasName (names_of q.debts) d → ⊥) × HasSwept n table.start.layout op.sought.list.head op.sought.target q
CutAnswers n table x op op' p q (Done Frozen) = (q.cut ≡ None) × MetFrozen table.start.layout op.sought.list q

-- one step of it was made
pub record CutStepped (n : ℕ) (table : Table) (x : Control) (op op' : CutOp) (old new : Pass) (answer : Progress CutEnd) : Type 0 where
  pub is : IsPassOf table new
  pub works : Works n (seek_exchanges op.state) (caller table old) (caller table new)
  pub kind : works.step.kind ≡ seek_kind op.state
  pub turns : new.turns ≡ turns_after (seek_exchanges op.state) old.turns
  pub number : new.number ≡ old.number
  pub free : new.free.items ≡ old.free.items
  pub debts : new.debts ≡ old.debts
  pub copying : KeepsCopying (caller table old) (caller table new)
  pub own : (caller table new).own ≡ (caller table old).own
  pub owed : (d : CutDebt) → HasName (names_of (caller table new).debts) d → HasName (names_of (caller table old).debts) d
  pub answers : CutAnswers n table x op op' (caller table old) (caller table new) answer

abbrev pub cut_exchanges : CutOp → Bool
cut_exchanges op = seek_exchanges op.state

-- one step of it was made, and then maybe others that are no exchanges
abbrev pub CutStretch : ℕ → Table → Control → CutOp → CutOp → Pass → Pass → Progress CutEnd → Type 0
CutStretch n table x = Stretch CutOp (Progress CutEnd) (CutStepped n table x) cut_exchanges More

-- the cut, as an operation
abbrev pub the_cut : Operation CutOp CutEnd
the_cut = record { at = IsCutting; stepped = CutStepped; exchanges = cut_exchanges }
