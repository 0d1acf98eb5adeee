-- Inserting a row, of a put or as a copy: what is known between two steps, and what each step tells.
use Rattle.std.specs.Prelude.{◌≡◌, ◌⊎◌, ℕ, ◌+◌, ◌-◌, ◌*◌, ◌^◌, ◌<◌, ◌≤◌, Bool, true, false, List, [], ◌∷◌, ◌++◌, length, Option, Some, None}
use Rattle.crq_base.specs.declared.event.Event.{Event}
use Rattle.crq_base.specs.declared.entry.Entry.TheVariants.{Put}
use Rattle.crq_base.specs.declared.kinds.StepKind.{StepKind}
use Rattle.crq_base.specs.declared.kinds.StepKind.TheVariants.{Write, Link, Copy}
use Rattle.crq_base.specs.declared.words.Mark.{Mark}
use Rattle.crq_base.specs.declared.words.Mark.TheVariants.{Val, Inv}
use Rattle.crq_base.specs.declared.words.Control.{Control}
use Rattle.crq_base.specs.Lists.{In}
use Rattle.crq_base.specs.Sources.{IsFresh}
use Rattle.crq_rule.specs.declared.pass.Pass.{Pass}
use Rattle.crq_rule.specs.declared.pass.Table.{Table}
use Rattle.crq_rule.specs.declared.debts.CopyDebt.{CopyDebt}
use Rattle.crq_rule.specs.declared.debts.Debts.{Debts}
use Rattle.crq_rule.specs.declared.view.Help.{Help}
use Rattle.crq_rule.specs.declared.view.Stand.{Stand}
use Rattle.crq_rule.specs.declared.view.Wrote.{Wrote}
use Rattle.crq_rule.specs.declared.view.Caller.{Caller}
use Rattle.crq_rule.specs.declared.debts.CutDebt.{CutDebt}
use Rattle.crq_rule.specs.Core.{HasName, names_of}
use Rattle.crq_rule.specs.Parts.{IsOn, IsEvent}
use Rattle.crq_rule.specs.Ranks.{shape_of}
use Rattle.crq_rule.specs.ListKinds.{IsWritten, event_word, owed_event, unhanded}
use Rattle.crq_rows.specs.Passes.{caller, IsPassOf}
use Rattle.crq_list.specs.declared.parts.Progress.{Progress}
use Rattle.crq_list.specs.declared.parts.Progress.TheVariants.{More, Done}
use Rattle.crq_list.specs.declared.insert.InsertEnd.{InsertEnd}
use Rattle.crq_list.specs.declared.insert.InsertEnd.TheVariants.{Linked, Frozen}
use Rattle.crq_list.specs.declared.insert.CopyOf.{CopyOf}
use Rattle.crq_list.specs.declared.insert.InsertOp.{InsertOp}
use Rattle.crq_list.specs.declared.insert.InsertState.{InsertState}
use Rattle.crq_list.specs.declared.insert.InsertState.TheVariants.{Writing, Seeking, Placing, Linking}
use Rattle.crq_list.specs.declared.parts.ListAt.{ListAt}
use Rattle.crq_list.specs.declared.parts.Before.{Before}
use Rattle.crq_list.specs.declared.parts.Spot.TheVariants.{Head}
use Rattle.crq_list.specs.declared.seek.SeekState.{SeekState}
use Rattle.crq_list.specs.declared.seek.SeekState.TheVariants.{Load}
use Rattle.crq_list.specs.declared.seek.Sought.{Sought}
use Rattle.crq_list.specs.declared.seek.SeekEnd.{SeekEnd}
use Rattle.crq_list.specs.declared.seek.SeekEnd.TheVariants.{There, Frozen as FoundFrozen}
use Rattle.crq_list.specs.Known.{Works, turns_after}
use Rattle.crq_list.specs.Stretches.{Stretch}
use Rattle.crq_list.specs.Operations.{Operation}
use Rattle.crq_list.specs.Sweeps.{MetFrozen}
use Rattle.crq_list.specs.Spots.{IsOfList, IsListOf}
use Rattle.crq_list.specs.Helps.{HelpsOn}
use Rattle.crq_list.specs.Seeking.{IsSeeking, IsThere, seek_exchanges, seek_kind, seek_left}

-- the words at the places 1 to before `upto` were written into the row: no twin, and the event
abbrev pub AreWritten : List Wrote → ℕ → Event → ℕ → Type 0
AreWritten written r e upto = (1 < upto → In (record { row = r; place = 1; word = 0 }) written) × ((place : ℕ) → 2 ≤ place → place < upto → place < 6 → In (record { row = r; place = place; word = event_word e place }) written)

-- what its walk seeks
abbrev pub sought_by : InsertOp → Sought
sought_by op = record { list = op.list; target = Some (op.event, op.row) }

-- the mark of the row's own link: a row that is put is present, and a copy isn't valid yet
abbrev pub own_mark : Option CopyOf → Mark
own_mark None = Val
own_mark (Some o) = Inv

-- what the pass owes once the copy of a row is linked
abbrev pub own_debt : InsertOp → CopyOf → CopyDebt
own_debt op o = record { old = o.old; copy = op.row; event = op.event; generation = op.list.generation; head = op.list.head; last = o.last }

abbrev pub IsInsertingAt : ℕ → Table → Control → InsertOp → InsertState → Caller → Type 0
IsInsertingAt n table x op (Writing place) p = (p.cut ≡ None) × (1 ≤ place) × (place < 6) × AreWritten p.written op.row op.event place
IsInsertingAt n table x op (Seeking seek) p = IsSeeking n table x (sought_by op) seek p × AreWritten p.written op.row op.event 6
IsInsertingAt n table x op (Placing b) p = IsThere n table x (sought_by op) b p × AreWritten p.written op.row op.event 6
IsInsertingAt n table x op (Linking b) p = IsThere n table x (sought_by op) b p × IsWritten (own_mark op.copy_of) p.written op.row op.event b.link

-- A put: the event is a fresh one of the caller's sources, and the list is of the open table. The caller owes no event, and has a permit to raise current's epoch for this one
pub record IsPutting (table : Table) (x : Control) (op : InsertOp) (p : Caller) : Type 0 where
  pub settled : p.debts.settle ≡ None
  pub permit : p.permit ≡ true
  pub opened : op.list.generation ≡ x.generation
  pub fresh : IsFresh table.start.layout.workers p.deal.history p.own p.deal.span p.number op.event

-- A copy of the row `o.old`: that holds the event, and the caller found it frozen and without a copy. The list is of the table that the open one moves into. The caller helps that move, found all heads of the open table frozen,
-- owes no copy, and has room for a second dead row
pub record IsCopying (x : Control) (op : InsertOp) (o : CopyOf) (p : Caller) : Type 0 where
  pub none : p.debts.copy ≡ None
  pub room : p.debts.second_cut ≡ None
  pub moving : x.moving ≡ true
  pub next : op.list.generation ≡ x.generation + 1
  pub helps : (h : Help) × (p.help ≡ Some h) × (h.frozen ≡ 2 ^ x.log)
  pub stand : Stand
  pub old : p.position.old ≡ Some stand
  pub old_row : stand.row ≡ o.old
  pub old_event : stand.event ≡ op.event
  pub last : (stand.last ≡ Some o.last) × (o.last.generation ≡ x.generation)

-- what an insertion asks of its caller, where it is a put, and where it is a copy
abbrev pub InsertAsks : Option CopyOf → Table → Control → InsertOp → Caller → Type 0
InsertAsks None table x op p = IsPutting table x op p
InsertAsks (Some o) table x op p = IsCopying x op o p

-- a caller that inserts its row in hand into the event's list of a table that the control word tells, which it found
pub record IsInserting (n : ℕ) (table : Table) (x : Control) (op : InsertOp) (p : Caller) : Type 0 where
  pub counted : n ≤ length p.made
  pub on : IsOn p.guard
  pub list_is : IsListOf x op.list p
  pub of_list : IsOfList x op.list op.event
  pub held : In op.row p.hand
  pub event : IsEvent op.event
  pub asks : InsertAsks op.copy_of table x op p
  pub at : IsInsertingAt n table x op op.state p

abbrev pub state_exchanges : InsertState → Bool
state_exchanges (Writing place) = false
state_exchanges (Seeking seek) = seek_exchanges seek
state_exchanges (Placing b) = false
state_exchanges (Linking b) = true

abbrev pub insert_exchanges : InsertOp → Bool
insert_exchanges op = state_exchanges op.state

-- the kind of its last exchange
abbrev pub link_kind : Option CopyOf → StepKind
link_kind None = Link
link_kind (Some o) = Copy

-- the kind of its next step
abbrev pub insert_kind : Option CopyOf → InsertState → StepKind
insert_kind o (Writing place) = Write
insert_kind o (Seeking seek) = seek_kind seek
insert_kind o (Placing b) = Write
insert_kind o (Linking b) = link_kind o

abbrev pub state_left : InsertState → Caller → ℕ
state_left (Writing place) p = (2 ^ 160) * 32 + (16 - place)
state_left (Seeking seek) p = seek_left seek p + 8
state_left (Placing b) p = 2
state_left (Linking b) p = 1

-- what follows on steps of the walk, which is there
abbrev pub after_seek : SeekState → Progress SeekEnd → InsertState × Progress InsertEnd
after_seek seek More = (Seeking seek, More)
after_seek seek (Done (There b)) = (Placing b, More)
after_seek seek (Done FoundFrozen) = (Seeking seek, Done Frozen)

-- what follows on the exchange that was to link the row behind the spot, if it was made
abbrev pub after_link : ListAt → Before → Bool → InsertState × Progress InsertEnd
after_link list b true = (Linking b, Done Linked)
after_link list b false = (Seeking (Load (Head list.head)), More)

-- What the pass owes at run time after a step: a copy, once it is linked. It has yet to note the event of a put, since an insertion doesn't know how wide the table's buckets are
abbrev pub copy_noted : Option CopyOf → InsertOp → Debts → Debts
copy_noted None op d = d
copy_noted (Some o) op d = record d { copy = Some (own_debt op o) }

abbrev pub debts_after : InsertOp → Progress InsertEnd → Debts → Debts
debts_after op More d = d
debts_after op (Done Linked) d = copy_noted op.copy_of op d
debts_after op (Done Frozen) d = d

-- once the row is linked, the caller owes the event of a put; or it owes the copy, and still has room for a second dead row
abbrev pub LinkAnswers : Option CopyOf → Control → InsertOp → Pass → Caller → Caller → Type 0
LinkAnswers None x op old p q = (q.own ≡ p.own ++ Put old.number op.event ∷ []) × (q.debts.settle ≡ Some (owed_event x.generation (shape_of x) op.event))
LinkAnswers (Some o) x op old p q = (q.own ≡ p.own) × (q.debts.settle ≡ p.debts.settle) × (q.debts.copy ≡ Some (own_debt op o)) × (q.debts.second_cut ≡ None)

abbrev pub InsertAnswers : ℕ → Table → Control → InsertOp → InsertOp → Pass → Pass → Progress InsertEnd → Type 0
InsertAnswers n table x op op' old new More =
    IsInserting n table x op' (caller table new) × (op' ≡ record op { state = op'.state }) × ((caller table new).own ≡ (caller table old).own) × (new.free.items ≡ old.free.items)
    × ((insert_exchanges op ≡ true) ⊎ (state_left op'.state (caller table new) < state_left op.state (caller table old)))
InsertAnswers n table x op op' old new (Done Linked) =
    LinkAnswers op.copy_of x op old (caller table old) (caller table new) × (new.free.items ≡ unhanded op.row old.free.items) × ((caller table new).cut ≡ None) × (insert_exchanges op ≡ true)
InsertAnswers n table x op op' old new (Done Frozen) =
    ((caller table new).own ≡ (caller table old).own) × (new.free.items ≡ old.free.items) × ((caller table new).cut ≡ None) × InsertAsks op.copy_of table x op (caller table new) × MetFrozen table.start.layout op.list (caller table new)

-- one step of it was made
pub record InsertStepped (n : ℕ) (table : Table) (x : Control) (op op' : InsertOp) (old new : Pass) (answer : Progress InsertEnd) : Type 0 where
  pub is : IsPassOf table new
  pub works : Works n (insert_exchanges op) (caller table old) (caller table new)
  pub kind : works.step.kind ≡ insert_kind op.copy_of op.state
  pub turns : new.turns ≡ turns_after (insert_exchanges op) old.turns
  pub number : new.number ≡ old.number
  pub debts : new.debts ≡ debts_after op answer old.debts
  pub owed : (d : CutDebt) → HasName (names_of (caller table new).debts) d → HasName (names_of (caller table old).debts) d
  pub helps : HelpsOn (caller table old) (caller table new)
  pub answers : InsertAnswers n table x op op' old new answer

-- one step of it was made, and then maybe others that are no exchanges
abbrev pub InsertStretch : ℕ → Table → Control → InsertOp → InsertOp → Pass → Pass → Progress InsertEnd → Type 0
InsertStretch n table x = Stretch InsertOp (Progress InsertEnd) (InsertStepped n table x) insert_exchanges More

-- the insertion, as an operation; and at this state
abbrev pub the_insertion : Operation InsertOp InsertEnd
the_insertion = record { at = IsInserting; stepped = InsertStepped; exchanges = insert_exchanges }

abbrev pub insertion_at : InsertOp → InsertState → InsertOp
insertion_at op state = record op { state = state }
