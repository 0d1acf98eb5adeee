-- Freezing the heads of the table that moves: what is known between two steps, and what each step tells.
use Rattle.std.specs.Prelude.{◌≡◌, ◌⊎◌, ℕ, ◌+◌, ◌*◌, ◌-◌, ◌^◌, ◌<◌, ◌≤◌, Bool, true, false, length, Some}
use Rattle.crq_base.specs.declared.kinds.StepKind.{StepKind}
use Rattle.crq_base.specs.declared.kinds.StepKind.TheVariants.{Walk, FreezeHead}
use Rattle.crq_base.specs.declared.words.Link.{Link}
use Rattle.crq_base.specs.declared.words.Mark.TheVariants.{Val}
use Rattle.crq_base.specs.declared.words.Control.{Control}
use Rattle.crq_base.specs.Words.{IsLink, link_word}
use Rattle.crq_rule.specs.declared.pass.Pass.{Pass}
use Rattle.crq_rule.specs.declared.pass.Table.{Table}
use Rattle.crq_rule.specs.declared.view.Help.{Help}
use Rattle.crq_rule.specs.declared.view.Caller.{Caller}
use Rattle.crq_rule.specs.Places.{head}
use Rattle.crq_rule.specs.Helping.{old_head}
use Rattle.crq_rows.specs.Passes.{caller}
use Rattle.crq_list.specs.declared.parts.Progress.{Progress}
use Rattle.crq_list.specs.declared.parts.Progress.TheVariants.{More, Done}
use Rattle.crq_list.specs.Operations.{Operation}
use Rattle.crq_move.specs.declared.parts.PartEnd.{PartEnd}
use Rattle.crq_move.specs.declared.parts.PartEnd.TheVariants.{Done as PartDone, NeedRow, Passed}
use Rattle.crq_move.specs.declared.freeze.FreezeState.{FreezeState}
use Rattle.crq_move.specs.declared.freeze.FreezeState.TheVariants.{Load, Freeze}
use Rattle.crq_move.specs.declared.freeze.FreezeOp.{FreezeOp}
use Rattle.crq_move.specs.Helpers.{Knows, IsHelper, AllPrepared, AllFrozen, FoundLater, PartStepped}

-- the next head, where it is to be frozen: it was last known to have this link, which is present in the table that moves
pub record IsFreezingHead (n : ℕ) (table : Table) (x : Control) (passed : ℕ) (l : Link) (p : Caller) : Type 0 where
  pub bits : IsLink l
  pub present : l.mark ≡ Val
  pub now : l.generation ≡ x.generation
  pub known : Knows n table (head (old_head x p.number passed)) (link_word l) p

abbrev pub IsAt : ℕ → Table → Control → ℕ → FreezeState → Caller → Type 0
IsAt n table x passed Load p = Unit {0}
IsAt n table x passed (Freeze l) p = IsFreezingHead n table x passed l p

-- a helper that freezes the heads of the table that moves, having found all those of the new one open. It found as many frozen as it passed, or more
pub record IsFreezing (n : ℕ) (table : Table) (x : Control) (op : FreezeOp) (p : Caller) : Type 0 where
  pub counted : n ≤ length p.made
  pub control : op.control ≡ x
  pub helper : IsHelper x p
  pub prepared : AllPrepared x p
  pub frozen : (h : Help) × (p.help ≡ Some h) × (op.passed ≤ h.frozen)
  pub more : op.passed < 2 ^ x.log
  pub at : IsAt n table x op.passed op.state p

abbrev pub state_exchanges : FreezeState → Bool
state_exchanges Load = false
state_exchanges (Freeze l) = true

abbrev pub freeze_exchanges : FreezeOp → Bool
freeze_exchanges op = state_exchanges op.state

abbrev pub state_kind : FreezeState → StepKind
state_kind Load = Walk
state_kind (Freeze l) = FreezeHead

abbrev pub freeze_kind : FreezeOp → StepKind
freeze_kind op = state_kind op.state

abbrev pub state_left : FreezeState → ℕ
state_left Load = 1
state_left (Freeze l) = 0

-- how many steps come at most before the next exchange
abbrev pub freeze_left : FreezeOp → ℕ
freeze_left op = 2 * (2 ^ op.control.log - op.passed) + state_left op.state

-- in the end all heads were found frozen; or one was found of a later table
abbrev pub FreezeAnswers : ℕ → Table → Control → FreezeOp → FreezeOp → Caller → Progress PartEnd → Type 0
FreezeAnswers n table x op op' q More = IsFreezing n table x op' q × ((freeze_exchanges op ≡ true) ⊎ (freeze_left op' < freeze_left op))
FreezeAnswers n table x op op' q (Done PartDone) = IsHelper x q × AllPrepared x q × AllFrozen x q
FreezeAnswers n table x op op' q (Done NeedRow) = ⊥
FreezeAnswers n table x op op' q (Done Passed) = FoundLater table x q

-- one step of it was made
pub record FreezeStepped (n : ℕ) (table : Table) (x : Control) (op op' : FreezeOp) (old new : Pass) (answer : Progress PartEnd) : Type 0 where
  pub step : PartStepped n table (freeze_exchanges op) (freeze_kind op) old new
  pub answers : FreezeAnswers n table x op op' (caller table new) answer

-- the freezing, as an operation
abbrev pub the_freezing : Operation FreezeOp PartEnd
the_freezing = record { at = IsFreezing; stepped = FreezeStepped; exchanges = freeze_exchanges }
