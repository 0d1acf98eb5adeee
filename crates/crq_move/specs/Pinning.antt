-- Setting the pin: what is known between two steps, and what each step tells.
use Rattle.std.specs.Prelude.{◌≡◌, ◌⊎◌, ℕ, ◌<◌, ◌≤◌, Bool, true, false, length}
use Rattle.crq_base.specs.declared.kinds.StepKind.{StepKind}
use Rattle.crq_base.specs.declared.kinds.StepKind.TheVariants.{CurrentLoad, PinLoad, Pin}
use Rattle.crq_base.specs.declared.words.Control.{Control}
use Rattle.crq_base.specs.declared.words.Pin.{Pin as PinWord}
use Rattle.crq_base.specs.Words.{IsPin, pin_word}
use Rattle.crq_rule.specs.declared.pass.Pass.{Pass}
use Rattle.crq_rule.specs.declared.pass.Table.{Table}
use Rattle.crq_rule.specs.declared.view.Caller.{Caller}
use Rattle.crq_rule.specs.Places.{pin}
use Rattle.crq_rows.specs.Passes.{caller}
use Rattle.crq_list.specs.declared.parts.Progress.{Progress}
use Rattle.crq_list.specs.declared.parts.Progress.TheVariants.{More, Done}
use Rattle.crq_list.specs.Operations.{Operation}
use Rattle.crq_move.specs.declared.parts.PartEnd.{PartEnd}
use Rattle.crq_move.specs.declared.parts.PartEnd.TheVariants.{Done as PartDone, NeedRow, Passed}
use Rattle.crq_move.specs.declared.pin.PinState.{PinState}
use Rattle.crq_move.specs.declared.pin.PinState.TheVariants.{LoadCurrent, LoadPin, Set}
use Rattle.crq_move.specs.declared.pin.PinOp.{PinOp}
use Rattle.crq_move.specs.Helpers.{Knows, IsHelper, AllPrepared, AllFrozen}
use Rattle.crq_move.specs.Endings.{HasEpoch, HasPin, FoundOtherPin, EndStepped}

-- the epoch was loaded for the pin, and the pin that was found is of no later table than the one that moves
abbrev pub IsAt : ℕ → Table → Control → PinState → Caller → Type 0
IsAt n table x LoadCurrent p = Unit {0}
IsAt n table x (LoadPin epoch) p = HasEpoch epoch p
IsAt n table x (Set epoch m) p = HasEpoch epoch p × IsPin m × (m.generation ≤ x.generation) × Knows n table pin (pin_word m) p

-- a helper that sets the pin, having found all heads of the table that moves frozen
pub record IsPinning (n : ℕ) (table : Table) (x : Control) (op : PinOp) (p : Caller) : Type 0 where
  pub counted : n ≤ length p.made
  pub control : op.control ≡ x
  pub helper : IsHelper x p
  pub prepared : AllPrepared x p
  pub frozen : AllFrozen x p
  pub at : IsAt n table x op.state p

abbrev pub state_exchanges : PinState → Bool
state_exchanges LoadCurrent = false
state_exchanges (LoadPin epoch) = false
state_exchanges (Set epoch m) = true

abbrev pub pin_exchanges : PinOp → Bool
pin_exchanges op = state_exchanges op.state

abbrev pub state_kind : PinState → StepKind
state_kind LoadCurrent = CurrentLoad
state_kind (LoadPin epoch) = PinLoad
state_kind (Set epoch m) = Pin

abbrev pub pin_kind : PinOp → StepKind
pin_kind op = state_kind op.state

abbrev pub state_left : PinState → ℕ
state_left LoadCurrent = 2
state_left (LoadPin epoch) = 1
state_left (Set epoch m) = 0

-- how many steps come at most before the next exchange
abbrev pub pin_left : PinOp → ℕ
pin_left op = state_left op.state

-- In the end the pin was found to name the next table; or it names a later one
abbrev pub PinAnswers : ℕ → Table → Control → PinOp → PinOp → Caller → Progress PartEnd → Type 0
PinAnswers n table x op op' q More = IsPinning n table x op' q × ((pin_exchanges op ≡ true) ⊎ (pin_left op' < pin_left op))
PinAnswers n table x op op' q (Done PartDone) = IsHelper x q × AllPrepared x q × AllFrozen x q × ((m : PinWord) × HasPin m q)
PinAnswers n table x op op' q (Done NeedRow) = ⊥
PinAnswers n table x op op' q (Done Passed) = (f : FoundOtherPin table x q) × (x.generation < f.found.generation)

-- one step of it was made
pub record PinStepped (n : ℕ) (table : Table) (x : Control) (op op' : PinOp) (old new : Pass) (answer : Progress PartEnd) : Type 0 where
  pub step : EndStepped n table (pin_exchanges op) (pin_kind op) old new
  pub answers : PinAnswers n table x op op' (caller table new) answer

-- the pinning, as an operation
abbrev pub the_pinning : Operation PinOp PartEnd
the_pinning = record { at = IsPinning; stepped = PinStepped; exchanges = pin_exchanges }
