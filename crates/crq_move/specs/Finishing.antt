-- Opening the next table: what is known between two steps, and what each step tells.
use Rattle.std.specs.Prelude.{◌≡◌, ◌⊎◌, ℕ, ◌<◌, ◌≤◌, Bool, true, false, length, Some}
use Rattle.crq_base.specs.declared.kinds.StepKind.{StepKind}
use Rattle.crq_base.specs.declared.kinds.StepKind.TheVariants.{ControlLoad, CurrentLoad, PinLoad, Pass as PassKind, Finish}
use Rattle.crq_base.specs.declared.words.Control.{Control}
use Rattle.crq_base.specs.declared.words.Current.{Current}
use Rattle.crq_base.specs.declared.words.Pin.{Pin}
use Rattle.crq_base.specs.Words.{control_word, current_word}
use Rattle.crq_rule.specs.declared.pass.Pass.{Pass}
use Rattle.crq_rule.specs.declared.pass.Table.{Table}
use Rattle.crq_rule.specs.declared.view.Caller.{Caller}
use Rattle.crq_rule.specs.Places.{control, current}
use Rattle.crq_rows.specs.Passes.{caller}
use Rattle.crq_list.specs.declared.parts.Progress.{Progress}
use Rattle.crq_list.specs.declared.parts.Progress.TheVariants.{More, Done}
use Rattle.crq_list.specs.Operations.{Operation}
use Rattle.crq_move.specs.declared.parts.PartEnd.{PartEnd}
use Rattle.crq_move.specs.declared.parts.PartEnd.TheVariants.{Done as PartDone, NeedRow, Passed}
use Rattle.crq_move.specs.declared.finish.FinishState.{FinishState}
use Rattle.crq_move.specs.declared.finish.FinishState.TheVariants.{LoadPin, LoadCurrent, Pass as PassState, LoadControl, Open}
use Rattle.crq_move.specs.declared.finish.FinishOp.{FinishOp}
use Rattle.crq_move.specs.Helpers.{Knows, IsHelper, AllEmptied}
use Rattle.crq_move.specs.Endings.{HasPin, FoundOtherPin, FoundOtherControl, EndStepped}

-- the pin of the move was found, and then current past it
pub record IsPast (m : Pin) (y : Current) (p : Caller) : Type 0 where
  pub pin : HasPin m p
  pub found : p.found.current ≡ Some y
  pub past : m.epoch < y.epoch

-- the pin of the move was found, and current, which is past it or isn't
abbrev pub IsAt : ℕ → Table → Control → FinishState → Caller → Type 0
IsAt n table x LoadPin p = Unit {0}
IsAt n table x (LoadCurrent m) p = HasPin m p
IsAt n table x (PassState m y) p = HasPin m p × (y.epoch ≤ m.epoch) × Knows n table current (current_word y) p
IsAt n table x (LoadControl m y) p = IsPast m y p
IsAt n table x (Open m y) p = IsPast m y p × Knows n table control (control_word x) p

-- a helper that opens the next table, having found all lists of the table that moves frozen and empty
pub record IsFinishing (n : ℕ) (table : Table) (x : Control) (op : FinishOp) (p : Caller) : Type 0 where
  pub counted : n ≤ length p.made
  pub control : op.control ≡ x
  pub helper : IsHelper x p
  pub emptied : AllEmptied x p
  pub at : IsAt n table x op.state p

abbrev pub state_exchanges : FinishState → Bool
state_exchanges LoadPin = false
state_exchanges (LoadCurrent m) = false
state_exchanges (PassState m y) = true
state_exchanges (LoadControl m y) = false
state_exchanges (Open m y) = true

abbrev pub finish_exchanges : FinishOp → Bool
finish_exchanges op = state_exchanges op.state

abbrev pub state_kind : FinishState → StepKind
state_kind LoadPin = PinLoad
state_kind (LoadCurrent m) = CurrentLoad
state_kind (PassState m y) = PassKind
state_kind (LoadControl m y) = ControlLoad
state_kind (Open m y) = Finish

abbrev pub finish_kind : FinishOp → StepKind
finish_kind op = state_kind op.state

abbrev pub state_left : FinishState → ℕ
state_left LoadPin = 3
state_left (LoadCurrent m) = 2
state_left (PassState m y) = 0
state_left (LoadControl m y) = 1
state_left (Open m y) = 0

-- how many steps come at most before the next exchange
abbrev pub finish_left : FinishOp → ℕ
finish_left op = state_left op.state

-- In the end an exchange of the control word was made, that opens the table or finds it open; or the pin doesn't name it, or the control word is another one by then
abbrev pub FinishAnswers : ℕ → Table → Control → FinishOp → FinishOp → Caller → Progress PartEnd → Type 0
FinishAnswers n table x op op' q More = IsFinishing n table x op' q × ((finish_exchanges op ≡ true) ⊎ (finish_left op' < finish_left op))
FinishAnswers n table x op op' q (Done PartDone) = IsHelper x q × (finish_kind op ≡ Finish)
FinishAnswers n table x op op' q (Done NeedRow) = ⊥
FinishAnswers n table x op op' q (Done Passed) = FoundOtherPin table x q ⊎ FoundOtherControl table x q

-- one step of it was made
pub record FinishStepped (n : ℕ) (table : Table) (x : Control) (op op' : FinishOp) (old new : Pass) (answer : Progress PartEnd) : Type 0 where
  pub step : EndStepped n table (finish_exchanges op) (finish_kind op) old new
  pub answers : FinishAnswers n table x op op' (caller table new) answer

-- the opening, as an operation
abbrev pub the_finishing : Operation FinishOp PartEnd
the_finishing = record { at = IsFinishing; stepped = FinishStepped; exchanges = finish_exchanges }
