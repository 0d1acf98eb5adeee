-- A helper's parts in a move, one after another: what is known between two steps, and what each step tells.
use Rattle.std.specs.Prelude.{◌≡◌, ◌⊎◌, ℕ, ◌+◌, ◌^◌, ◌<◌, ◌≤◌, Bool, true, false, [], ◌∷◌, ◌++◌, length, Some, None}
use Rattle.crq_base.specs.declared.kinds.StepKind.{StepKind}
use Rattle.crq_base.specs.declared.kinds.StepKind.TheVariants.{ControlLoad}
use Rattle.crq_base.specs.declared.words.Control.{Control}
use Rattle.crq_base.specs.Words.{IsControl}
use Rattle.crq_rule.specs.declared.debts.Debts.{Debts}
use Rattle.crq_rule.specs.declared.pass.Pass.{Pass}
use Rattle.crq_rule.specs.declared.pass.Table.{Table}
use Rattle.crq_rule.specs.declared.view.Caller.{Caller}
use Rattle.crq_rule.specs.declared.view.Made.{Made}
use Rattle.crq_rows.specs.Passes.{caller, IsPassOf}
use Rattle.crq_list.specs.declared.parts.Progress.{Progress}
use Rattle.crq_list.specs.declared.parts.Progress.TheVariants.{More, Done}
use Rattle.crq_list.specs.Known.{Expects, Works, turns_after}
use Rattle.crq_list.specs.Operations.{Operation}
use Rattle.crq_move.specs.declared.empty.MoveState.TheVariants.{Load}
use Rattle.crq_move.specs.declared.help.HelpPart.{HelpPart}
use Rattle.crq_move.specs.declared.empty.MoveOp.{MoveOp}
use Rattle.crq_move.specs.declared.help.HelpPart.TheVariants.{Prepare, Freeze, Pin, Empty, Finish, Over}
use Rattle.crq_move.specs.declared.help.HelpEnd.{HelpEnd}
use Rattle.crq_move.specs.declared.help.HelpEnd.TheVariants.{Steady, Moving, NeedRow}
use Rattle.crq_move.specs.declared.help.HelpOp.{HelpOp}
use Rattle.crq_move.specs.Preparing.{IsPreparing, prepare_exchanges, prepare_kind, prepare_left}
use Rattle.crq_move.specs.Freezing.{IsFreezing, freeze_exchanges, freeze_kind, freeze_left}
use Rattle.crq_move.specs.Binding.{IsFree}
use Rattle.crq_move.specs.Emptying.{IsEmptying, NamesAt, NeedsRow, empty_exchanges, empty_kind, empty_left}
use Rattle.crq_move.specs.Pinning.{IsPinning, pin_exchanges, pin_kind, pin_left}
use Rattle.crq_move.specs.Finishing.{IsFinishing, finish_exchanges, finish_kind, finish_left}

-- What is known at each part. Up to the emptying and after it the caller has no row that it cut, and owes no copy
abbrev pub IsAtPart : ℕ → Table → Control → HelpPart → Caller → Type 0
IsAtPart n table x (Prepare op) p = IsPreparing n table x op p × IsFree p
IsAtPart n table x (Freeze op) p = IsFreezing n table x op p × IsFree p
IsAtPart n table x (Pin op) p = IsPinning n table x op p × IsFree p
IsAtPart n table x (Empty op) p = IsEmptying n table x op p
IsAtPart n table x (Finish op) p = IsFinishing n table x op p × IsFree p
IsAtPart n table x Over p = (n ≤ length p.made) × IsFree p

-- a helper of the move that the control word x tells
pub record IsHelping (n : ℕ) (table : Table) (x : Control) (op : HelpOp) (p : Caller) : Type 0 where
  pub control : op.control ≡ x
  pub at : IsAtPart n table x op.part p

-- An emptying needs room for a second name of a dead row, from the begin of the help on. After it there is none
abbrev pub RoomAt : HelpPart → Debts → Type 0
RoomAt (Prepare op) d = NamesAt Load d
RoomAt (Freeze op) d = NamesAt Load d
RoomAt (Pin op) d = NamesAt Load d
RoomAt (Empty op) d = NamesAt op.state d
RoomAt (Finish op) d = d.second_cut ≡ None
RoomAt Over d = Unit {0}

abbrev pub part_exchanges : HelpPart → Bool
part_exchanges (Prepare op) = prepare_exchanges op
part_exchanges (Freeze op) = freeze_exchanges op
part_exchanges (Pin op) = pin_exchanges op
part_exchanges (Empty op) = empty_exchanges op
part_exchanges (Finish op) = finish_exchanges op
part_exchanges Over = false

abbrev pub help_exchanges : HelpOp → Bool
help_exchanges op = part_exchanges op.part

abbrev pub part_kind : HelpPart → StepKind
part_kind (Prepare op) = prepare_kind op
part_kind (Freeze op) = freeze_kind op
part_kind (Pin op) = pin_kind op
part_kind (Empty op) = empty_kind op
part_kind (Finish op) = finish_kind op
part_kind Over = ControlLoad

abbrev pub help_kind : HelpOp → StepKind
help_kind op = part_kind op.part

-- how many steps come at most before the next exchange
abbrev pub part_left : HelpPart → Caller → ℕ
part_left (Prepare op) p = 2 ^ 188 + prepare_left op
part_left (Freeze op) p = 2 ^ 187 + freeze_left op
part_left (Pin op) p = 2 ^ 186 + pin_left op
part_left (Empty op) p = empty_left op p
part_left (Finish op) p = 1 + finish_left op
part_left Over p = 0

abbrev pub help_left : HelpOp → Caller → ℕ
help_left op p = part_left op.part p

-- where the pass has no free row: that comes in an emptying alone
abbrev pub PartNeedsRow : HelpPart → Pass → Type 0
PartNeedsRow (Empty op) new = NeedsRow op.state new
PartNeedsRow _ new = ⊥

-- the help ended with a load of the control word, which is w now. No row is cut and not retired, no copy is owed, and the dead rows that the pass names are those of before
pub record IsOver (op : HelpOp) (table : Table) (w : Control) (old new : Pass) : Type 0 where
  pub part : op.part ≡ Over
  pub is_control : IsControl w
  pub found : (caller table new).found.control ≡ Some w
  pub free : IsFree (caller table new)
  pub debts : new.debts ≡ old.debts

-- In the end the control word was found steady, or a move goes on. Where the pass has no free row for a copy, the help may go on once it has one, and is at the load of a head
abbrev pub HelpAnswers : ℕ → Table → Control → HelpOp → HelpOp → Pass → Pass → Progress HelpEnd → Type 0
HelpAnswers n table x op op' old new More = IsHelping n table x op' (caller table new) × RoomAt op'.part new.debts × ((help_exchanges op ≡ true) ⊎ (help_left op' (caller table new) < help_left op (caller table old)))
HelpAnswers n table x op op' old new (Done (Steady g)) = (w : Control) × IsOver op table w old new × (w.moving ≡ false) × (w.generation ≡ g)
HelpAnswers n table x op op' old new (Done (Moving w)) = IsOver op table w old new × (w.moving ≡ true)
HelpAnswers n table x op op' old new (Done NeedRow) = IsHelping n table x op' (caller table new) × RoomAt op'.part new.debts × PartNeedsRow op.part new × ((e : MoveOp) × (op'.part ≡ Empty e) × (e.state ≡ Load))

-- what the steps of the parts on heads and rows leave besides
abbrev pub PartWorks : ℕ → HelpPart → Caller → Caller → Type 0
PartWorks n (Prepare op) p q = Works n (prepare_exchanges op) p q
PartWorks n (Freeze op) p q = Works n (freeze_exchanges op) p q
PartWorks n (Empty op) p q = Works n (empty_exchanges op) p q
PartWorks n _ p q = Unit {0}

-- one step of this part was made; an exchange expected what the caller knew by its steps since the first n. The event that the pass owes stays
pub record PartMade (n : ℕ) (table : Table) (part : HelpPart) (old new : Pass) : Type 0 where
  pub is : IsPassOf table new
  pub step : Made
  pub made : (caller table new).made ≡ (caller table old).made ++ step ∷ []
  pub kind_is : step.kind ≡ part_kind part
  pub expects : Expects n (caller table old).made step
  pub turns : new.turns ≡ turns_after (part_exchanges part) old.turns
  pub number : new.number ≡ old.number
  pub settle : new.debts.settle ≡ old.debts.settle
  pub own : (caller table new).own ≡ (caller table old).own
  pub deal : (caller table new).deal ≡ (caller table old).deal
  pub guard : (caller table new).guard ≡ (caller table old).guard
  pub works : PartWorks n part (caller table old) (caller table new)

pub record HelpStepped (n : ℕ) (table : Table) (x : Control) (op op' : HelpOp) (old new : Pass) (answer : Progress HelpEnd) : Type 0 where
  pub step : PartMade n table op.part old new
  pub answers : HelpAnswers n table x op op' old new answer

-- the help, as an operation
abbrev pub the_help : Operation HelpOp HelpEnd
the_help = record { at = IsHelping; stepped = HelpStepped; exchanges = help_exchanges }
