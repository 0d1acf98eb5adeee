-- Emptying the frozen lists of the table that moves: what is known between two steps, and what each step tells.
use Rattle.std.specs.Prelude.{◌≡◌, ◌≢◌, ◌⊎◌, ℕ, ◌+◌, ◌*◌, ◌-◌, ◌^◌, ◌<◌, ◌≤◌, Bool, true, false, [], length, Option, Some, None}
use Rattle.crq_base.specs.declared.kinds.StepKind.{StepKind}
use Rattle.crq_base.specs.declared.kinds.StepKind.TheVariants.{Walk, Read as ReadKind, FreezeNode, TwinLoad, Validate as ValidateKind, Discard as DiscardKind, Pop as PopKind, EpochLoad, Retire as RetireKind}
use Rattle.crq_base.specs.declared.words.Link.{Link}
use Rattle.crq_base.specs.declared.words.Mark.{Mark}
use Rattle.crq_base.specs.declared.words.Mark.TheVariants.{Val, Inv, Mov, Del}
use Rattle.crq_base.specs.declared.words.Control.{Control}
use Rattle.crq_base.specs.Words.{IsLink, link_word}
use Rattle.crq_base.specs.Lists.{In}
use Rattle.crq_rule.specs.declared.debts.CopyDebt.{CopyDebt}
use Rattle.crq_rule.specs.declared.debts.CutDebt.{CutDebt}
use Rattle.crq_rule.specs.declared.debts.Debts.{Debts}
use Rattle.crq_rule.specs.declared.pass.Pass.{Pass}
use Rattle.crq_rule.specs.declared.pass.Table.{Table}
use Rattle.crq_rule.specs.declared.view.CutRow.{CutRow}
use Rattle.crq_rule.specs.declared.view.Help.{Help}
use Rattle.crq_rule.specs.declared.view.Stand.{Stand}
use Rattle.crq_rule.specs.declared.view.Caller.{Caller}
use Rattle.crq_rule.specs.Places.{head, link}
use Rattle.crq_rule.specs.Ranks.{list_by}
use Rattle.crq_rule.specs.Helping.{old_head}
use Rattle.crq_rule.specs.ListKinds.{StandsOn}
use Rattle.crq_rule.specs.MoveKinds.{IsGone}
use Rattle.crq_rule.specs.CopyKinds.{stand_on}
use Rattle.crq_rows.specs.Passes.{caller, IsPassOf}
use Rattle.crq_list.specs.declared.parts.Progress.{Progress}
use Rattle.crq_list.specs.declared.parts.Progress.TheVariants.{More, Done}
use Rattle.crq_list.specs.declared.insert.CopyOf.{CopyOf}
use Rattle.crq_list.specs.declared.cut.CutOp.{CutOp}
use Rattle.crq_list.specs.Known.{Works, turns_after}
use Rattle.crq_list.specs.Operations.{Operation}
use Rattle.crq_list.specs.Sweeps.{MetFrozen}
use Rattle.crq_list.specs.Spots.{NamesTarget}
use Rattle.crq_list.specs.Seeking.{seek_exchanges, seek_kind, seek_left}
use Rattle.crq_list.specs.Inserting.{IsInserting, insert_exchanges, insert_kind, state_left}
use Rattle.crq_list.specs.Cutting.{IsCutting}
use Rattle.crq_move.specs.declared.parts.PartEnd.{PartEnd}
use Rattle.crq_move.specs.declared.parts.PartEnd.TheVariants.{Done as PartDone, NeedRow, Passed}
use Rattle.crq_move.specs.declared.empty.MoveState.{MoveState}
use Rattle.crq_move.specs.declared.empty.MoveState.TheVariants.{Load, First, Freeze, Front, Discard, Twin, Read, Copy, Bind, Cut, TwinLink, Validate, Pop, Tag, Retire}
use Rattle.crq_move.specs.declared.empty.MoveOp.{MoveOp}
use Rattle.crq_move.specs.Helpers.{Knows, IsHelper, AllPrepared, AllFrozen, AllEmptied, FoundLater}
use Rattle.crq_move.specs.Binding.{IsFree, IsBinding, bind_exchanges, bind_kind, bind_left}
use Rattle.crq_move.specs.Reads.{IsRead, unread}

-- What is known of words and rows

-- the next head was last known to have this link, which is frozen, and names a row
pub record IsHeadKnown (n : ℕ) (table : Table) (x : Control) (passed : ℕ) (l : Link) (p : Caller) : Type 0 where
  pub bits : IsLink l
  pub frozen : l.mark ≡ Mov
  pub some_row : 0 < l.row
  pub known : Knows n table (head (old_head x p.number passed)) (link_word l) p

-- the first stand on the row that the head's link l names is this one: it is of the table that moves, and of the front of that head
pub record IsFirst (x : Control) (passed : ℕ) (l : Link) (s : Stand) (p : Caller) : Type 0 where
  pub on : stand_on l.row p.position.rows ≡ Some s
  pub front : s.front ≡ Some (old_head x p.number passed)
  pub now : s.generation ≡ x.generation

-- that row's link was found to be m, and leads to another row
pub record IsFirstLink (x : Control) (l m : Link) : Type 0 where
  pub bits : IsLink m
  pub now : m.generation ≡ x.generation
  pub apart : m.row ≢ l.row

-- it is frozen, with this last link
pub record IsFrozen (x : Control) (l last : Link) (s : Stand) (p : Caller) : Type 0 where
  pub on : stand_on l.row p.position.rows ≡ Some s
  pub now : s.generation ≡ x.generation
  pub last_is : s.last ≡ Some last
  pub frozen : last.mark ≡ Mov
  pub next : IsFirstLink x l last

-- and has the twin t, on which the caller stands too
pub record IsTwinned (x : Control) (l last : Link) (t : ℕ) (p : Caller) : Type 0 where
  pub stand : Stand
  pub on : In stand p.position.rows
  pub row : stand.row ≡ l.row
  pub last_is : stand.last ≡ Some last
  pub frozen : last.mark ≡ Mov
  pub next : IsFirstLink x l last
  pub twin_is : stand.twin ≡ Some t
  pub copy : Stand
  pub copy_on : In copy p.position.rows
  pub copy_row : copy.row ≡ t
  pub copy_next : copy.generation ≡ stand.generation + 1

-- the row was found frozen, with this last link, and without a twin
pub record IsUncopied (x : Control) (row : ℕ) (last : Link) (s : Stand) (p : Caller) : Type 0 where
  pub old : p.position.old ≡ Some s
  pub row_is : s.row ≡ row
  pub on : StandsOn p.position.rows row s.event
  pub last_is : s.last ≡ Some last
  pub now : last.generation ≡ x.generation

-- the row is gone, and may leave the list
pub record IsLeaving (x : Control) (l last : Link) (p : Caller) : Type 0 where
  pub stand : Stand
  pub on : In stand p.position.rows
  pub row : stand.row ≡ l.row
  pub last_is : stand.last ≡ Some last
  pub gone : IsGone last.mark stand p.position.rows
  pub next : IsFirstLink x l last

-- the copy is of its event's list in the new table
pub record IsNextCopy (x : Control) (d : CopyDebt) : Type 0 where
  pub next : d.generation ≡ x.generation + 1
  pub list : list_by x d.generation d.event ≡ d.head

-- At each state

-- the link m of the first row was found, with this mark
pub record FoundFirst (n : ℕ) (table : Table) (x : Control) (passed : ℕ) (l m : Link) (mark : Mark) (s : Stand) (p : Caller) : Type 0 where
  pub head : IsHeadKnown n table x passed l p
  pub first : IsFirst x passed l s p
  pub next : IsFirstLink x l m
  pub mark_is : m.mark ≡ mark
  pub known : Knows n table (link l.row) (link_word m) p

abbrev pub IsAt : ℕ → Table → Control → ℕ → MoveState → Caller → Type 0
IsAt n table x passed Load p = IsFree p
IsAt n table x passed (First l) p = IsFree p × IsHeadKnown n table x passed l p × ((s : Stand) × IsFirst x passed l s p)
IsAt n table x passed (Freeze l m) p = IsFree p × ((s : Stand) × FoundFirst n table x passed l m Val s p)
IsAt n table x passed (Front l m read place) p = IsFree p × ((s : Stand) × FoundFirst n table x passed l m Inv s p × IsRead place read s.event) × (2 ≤ place) × (place < 6)
IsAt n table x passed (Discard l m e) p = IsFree p × ((s : Stand) × FoundFirst n table x passed l m Inv s p × (s.event ≡ e))
IsAt n table x passed (Twin l last) p = IsFree p × IsHeadKnown n table x passed l p × ((s : Stand) × IsFrozen x l last s p)
IsAt n table x passed (Read row last read place) p = IsFree p × ((s : Stand) × IsUncopied x row last s p × IsRead place read s.event) × (2 ≤ place) × (place < 6)
IsAt n table x passed (Copy op) p = IsInserting n table x op p × ((o : CopyOf) × (op.copy_of ≡ Some o))
IsAt n table x passed (Bind op) p = IsBinding n table op p × IsNextCopy x op.debt
IsAt n table x passed (Cut op) p = IsCutting n table x op p × (p.debts.copy ≡ None)
IsAt n table x passed (TwinLink l last t) p = IsFree p × IsHeadKnown n table x passed l p × IsTwinned x l last t p
IsAt n table x passed (Validate l last t m) p = IsFree p × IsHeadKnown n table x passed l p × IsTwinned x l last t p × IsLink m × (m.mark ≡ Inv) × Knows n table (link t) (link_word m) p
IsAt n table x passed (Pop l last) p = IsFree p × IsHeadKnown n table x passed l p × IsLeaving x l last p
IsAt n table x passed (Tag row) p = (p.debts.copy ≡ None) × ((y : CutRow) × (p.cut ≡ Some y) × (y.row ≡ row))
IsAt n table x passed (Retire row tag) p = (p.debts.copy ≡ None) × ((y : CutRow) × (p.cut ≡ Some y) × (y.row ≡ row) × In tag y.tags)

-- a helper that empties the lists of the table that moves, having found all its heads frozen. It found as many empty as it passed, or more
pub record IsEmptying (n : ℕ) (table : Table) (x : Control) (op : MoveOp) (p : Caller) : Type 0 where
  pub counted : n ≤ length p.made
  pub control : op.control ≡ x
  pub helper : IsHelper x p
  pub prepared : AllPrepared x p
  pub frozen : AllFrozen x p
  pub emptied : (h : Help) × (p.help ≡ Some h) × (op.passed ≤ h.emptied)
  pub more : op.passed < 2 ^ x.log
  pub at : IsAt n table x op.passed op.state p

-- The dead rows that the pass names at run time

-- this is the name of the row that is cut
abbrev pub IsCutName : CutOp → Option CutDebt → Type 0
IsCutName op o = (d : CutDebt) × (o ≡ Some d) × NamesTarget op.sought.target op.sought.list d

-- There is room for a second one, but where a copy was discarded that is still listed: that may be the second one. Where a head is loaded it may be a copy that was the first row of a frozen head, and that another helper may have cut
abbrev pub NamesAt : MoveState → Debts → Type 0
NamesAt Load d = (d.second_cut ≡ None) ⊎ ((c : CutDebt) × (d.second_cut ≡ Some c) × (c.front ≡ true))
NamesAt (Cut op) d = ((d.second_cut ≡ None) × IsCutName op d.cut) ⊎ IsCutName op d.second_cut
NamesAt (Pop l last) d = (d.second_cut ≡ None) ⊎ ((c : CutDebt) × (d.second_cut ≡ Some c) × (c.row ≡ l.row) × (c.front ≡ true))
NamesAt _ d = d.second_cut ≡ None

-- Steps

abbrev pub state_exchanges : MoveState → Bool
state_exchanges (Freeze l m) = true
state_exchanges (Discard l m e) = true
state_exchanges (Copy op) = insert_exchanges op
state_exchanges (Bind op) = bind_exchanges op
state_exchanges (Cut op) = seek_exchanges op.state
state_exchanges (Validate l last t m) = true
state_exchanges (Pop l last) = true
state_exchanges _ = false

abbrev pub empty_exchanges : MoveOp → Bool
empty_exchanges op = state_exchanges op.state

abbrev pub state_kind : MoveState → StepKind
state_kind Load = Walk
state_kind (First l) = Walk
state_kind (Freeze l m) = FreezeNode
state_kind (Front l m read place) = ReadKind
state_kind (Discard l m e) = DiscardKind
state_kind (Twin l last) = TwinLoad
state_kind (Read row last read place) = ReadKind
state_kind (Copy op) = insert_kind op.copy_of op.state
state_kind (Bind op) = bind_kind op
state_kind (Cut op) = seek_kind op.state
state_kind (TwinLink l last t) = Walk
state_kind (Validate l last t m) = ValidateKind
state_kind (Pop l last) = PopKind
state_kind (Tag row) = EpochLoad
state_kind (Retire row tag) = RetireKind

abbrev pub empty_kind : MoveOp → StepKind
empty_kind op = state_kind op.state

-- what is left to do of the head at which the emptying is, until the next exchange
abbrev pub state_rank : MoveState → Caller → ℕ
state_rank Load p = 2 ^ 167 + 1
state_rank (First l) p = 2 ^ 167
state_rank (Freeze l m) p = 0
state_rank (Front l m read place) p = 8 - place
state_rank (Discard l m e) p = 0
state_rank (Twin l last) p = 2 ^ 166 + 8
state_rank (Read row last read place) p = 2 ^ 166 + (7 - place)
state_rank (Copy op) p = state_left op.state p
state_rank (Bind op) p = 2 ^ 167 + 1 + bind_left op
state_rank (Cut op) p = 2 ^ 167 + 2 + seek_left op.state p
state_rank (TwinLink l last t) p = 1
state_rank (Validate l last t m) p = 0
state_rank (Pop l last) p = 0
state_rank (Tag row) p = 2 ^ 167 + 3
state_rank (Retire row tag) p = 2 ^ 167 + 2

-- how many steps come at most before the next exchange
abbrev pub empty_left : MoveOp → Caller → ℕ
empty_left op p = (2 ^ op.control.log - op.passed) * 2 ^ 170 + state_rank op.state p

-- what is done next where the link m was found in the row that the head's link l names
abbrev pub first_of : Mark → Link → Link → MoveState
first_of Val l m = Freeze l m
first_of Inv l m = Front l m unread 2
first_of Mov l m = Twin l m
first_of Del l m = Pop l m

abbrev pub after_first : Link → Link → MoveState
after_first l m = first_of m.mark l m

-- where the pass has no free row: after the last word of the event of a row was read, that was found frozen and without a twin
abbrev pub NeedsRow : MoveState → Pass → Type 0
NeedsRow (Read row last read place) new = new.free.items ≡ []
NeedsRow _ new = ⊥

-- why the emptying is given up: the list of the new table was found frozen, into which a copy was to go or out of which a lost one was to be cut; or a head was loaded, and found of a later table, or the pass still names two dead rows
abbrev pub HasPassed : Table → Control → MoveState → Pass → Type 0
HasPassed table x (Copy op) new = MetFrozen table.start.layout op.list (caller table new)
HasPassed table x (Cut op) new = MetFrozen table.start.layout op.sought.list (caller table new)
HasPassed table x Load new = FoundLater table x (caller table new) ⊎ ((d : CutDebt) × (new.debts.second_cut ≡ Some d))
HasPassed table x _ new = ⊥

-- In the end all heads were found frozen and empty, and the pass names no second dead row. Where the pass has no free row for a copy, the emptying may go on once it has one
abbrev pub EmptyAnswers : ℕ → Table → Control → MoveOp → MoveOp → Pass → Pass → Progress PartEnd → Type 0
EmptyAnswers n table x op op' old new More = IsEmptying n table x op' (caller table new) × NamesAt op'.state new.debts × ((empty_exchanges op ≡ true) ⊎ (empty_left op' (caller table new) < empty_left op (caller table old)))
EmptyAnswers n table x op op' old new (Done PartDone) = IsHelper x (caller table new) × AllPrepared x (caller table new) × AllFrozen x (caller table new) × AllEmptied x (caller table new) × IsFree (caller table new) × (new.debts.second_cut ≡ None)
EmptyAnswers n table x op op' old new (Done NeedRow) = IsEmptying n table x op' (caller table new) × (op'.state ≡ Load) × (new.debts.second_cut ≡ None) × NeedsRow op.state new
EmptyAnswers n table x op op' old new (Done Passed) = IsFree (caller table new) × HasPassed table x op.state new

-- one step of it was made. The event that the pass owes stays
pub record EmptyStepped (n : ℕ) (table : Table) (x : Control) (op op' : MoveOp) (old new : Pass) (answer : Progress PartEnd) : Type 0 where
  pub is : IsPassOf table new
  pub works : Works n (empty_exchanges op) (caller table old) (caller table new)
  pub kind_is : works.step.kind ≡ empty_kind op
  pub turns : new.turns ≡ turns_after (empty_exchanges op) old.turns
  pub number : new.number ≡ old.number
  pub settle : new.debts.settle ≡ old.debts.settle
  pub own : (caller table new).own ≡ (caller table old).own
  pub answers : EmptyAnswers n table x op op' old new answer

-- the emptying, as an operation
abbrev pub the_emptying : Operation MoveOp PartEnd
the_emptying = record { at = IsEmptying; stepped = EmptyStepped; exchanges = empty_exchanges }
