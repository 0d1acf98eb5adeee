-- Opening the heads of the new table: what is known between two steps, and what each step tells.
use Rattle.std.specs.Prelude.{◌≡◌, ◌⊎◌, ℕ, ◌+◌, ◌*◌, ◌-◌, ◌^◌, ◌<◌, ◌≤◌, Bool, true, false, length, Some}
use Rattle.crq_base.specs.declared.kinds.StepKind.{StepKind}
use Rattle.crq_base.specs.declared.kinds.StepKind.TheVariants.{Walk, Prepare}
use Rattle.crq_base.specs.declared.words.Link.{Link}
use Rattle.crq_base.specs.declared.words.Control.{Control}
use Rattle.crq_base.specs.Words.{IsLink, link_word}
use Rattle.crq_rule.specs.declared.pass.Pass.{Pass}
use Rattle.crq_rule.specs.declared.pass.Table.{Table}
use Rattle.crq_rule.specs.declared.view.Help.{Help}
use Rattle.crq_rule.specs.declared.view.Caller.{Caller}
use Rattle.crq_rule.specs.Places.{head}
use Rattle.crq_rule.specs.Helping.{new_head}
use Rattle.crq_rows.specs.Passes.{caller}
use Rattle.crq_list.specs.declared.parts.Progress.{Progress}
use Rattle.crq_list.specs.declared.parts.Progress.TheVariants.{More, Done}
use Rattle.crq_list.specs.Operations.{Operation}
use Rattle.crq_move.specs.declared.parts.PartEnd.{PartEnd}
use Rattle.crq_move.specs.declared.parts.PartEnd.TheVariants.{Done as PartDone, NeedRow, Passed}
use Rattle.crq_move.specs.declared.prepare.PrepareState.{PrepareState}
use Rattle.crq_move.specs.declared.prepare.PrepareState.TheVariants.{Load, Open}
use Rattle.crq_move.specs.declared.prepare.PrepareOp.{PrepareOp}
use Rattle.crq_move.specs.Helpers.{Knows, IsHelper, AllPrepared, PartStepped}

-- the next head, where it is to be opened: it was last known to have this link, which is of no newer table than the one that moves
pub record IsOpening (n : ℕ) (table : Table) (x : Control) (passed : ℕ) (l : Link) (p : Caller) : Type 0 where
  pub bits : IsLink l
  pub older : l.generation ≤ x.generation
  pub known : Knows n table (head (new_head x p.number passed)) (link_word l) p

abbrev pub IsAt : ℕ → Table → Control → ℕ → PrepareState → Caller → Type 0
IsAt n table x passed Load p = Unit {0}
IsAt n table x passed (Open l) p = IsOpening n table x passed l p

-- a helper that opens the heads of the new table. It found as many open as it passed, or more
pub record IsPreparing (n : ℕ) (table : Table) (x : Control) (op : PrepareOp) (p : Caller) : Type 0 where
  pub counted : n ≤ length p.made
  pub control : op.control ≡ x
  pub helper : IsHelper x p
  pub prepared : (h : Help) × (p.help ≡ Some h) × (op.passed ≤ h.prepared)
  pub more : op.passed < 2 ^ x.new_log
  pub at : IsAt n table x op.passed op.state p

abbrev pub state_exchanges : PrepareState → Bool
state_exchanges Load = false
state_exchanges (Open l) = true

abbrev pub prepare_exchanges : PrepareOp → Bool
prepare_exchanges op = state_exchanges op.state

abbrev pub state_kind : PrepareState → StepKind
state_kind Load = Walk
state_kind (Open l) = Prepare

abbrev pub prepare_kind : PrepareOp → StepKind
prepare_kind op = state_kind op.state

abbrev pub state_left : PrepareState → ℕ
state_left Load = 1
state_left (Open l) = 0

-- how many steps come at most before the next exchange
abbrev pub prepare_left : PrepareOp → ℕ
prepare_left op = 2 * (2 ^ op.control.new_log - op.passed) + state_left op.state

-- in the end all heads were found open; it ends in no other way
abbrev pub PrepareAnswers : ℕ → Table → Control → PrepareOp → PrepareOp → Caller → Progress PartEnd → Type 0
PrepareAnswers n table x op op' q More = IsPreparing n table x op' q × ((prepare_exchanges op ≡ true) ⊎ (prepare_left op' < prepare_left op))
PrepareAnswers n table x op op' q (Done PartDone) = IsHelper x q × AllPrepared x q
PrepareAnswers n table x op op' q (Done NeedRow) = ⊥
PrepareAnswers n table x op op' q (Done Passed) = ⊥

-- one step of it was made
pub record PrepareStepped (n : ℕ) (table : Table) (x : Control) (op op' : PrepareOp) (old new : Pass) (answer : Progress PartEnd) : Type 0 where
  pub step : PartStepped n table (prepare_exchanges op) (prepare_kind op) old new
  pub answers : PrepareAnswers n table x op op' (caller table new) answer

-- the preparation, as an operation
abbrev pub the_preparing : Operation PrepareOp PartEnd
the_preparing = record { at = IsPreparing; stepped = PrepareStepped; exchanges = prepare_exchanges }
