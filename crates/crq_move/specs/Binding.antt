-- Binding a copy that is owed: what is known between two steps, and what each step tells.
use Rattle.std.specs.Prelude.{◌≡◌, ◌⊎◌, ℕ, ◌<◌, ◌≤◌, Bool, true, false, length, Some, None}
use Rattle.crq_base.specs.declared.kinds.StepKind.{StepKind}
use Rattle.crq_base.specs.declared.kinds.StepKind.TheVariants.{Walk, TwinLoad, Bind as BindKind, Discard as DiscardKind}
use Rattle.crq_base.specs.declared.words.Link.{Link}
use Rattle.crq_base.specs.declared.words.Mark.TheVariants.{Inv}
use Rattle.crq_base.specs.Words.{IsLink, link_word}
use Rattle.crq_base.specs.Lists.{In}
use Rattle.crq_rule.specs.declared.debts.CopyDebt.{CopyDebt}
use Rattle.crq_rule.specs.declared.pass.Pass.{Pass}
use Rattle.crq_rule.specs.declared.pass.Table.{Table}
use Rattle.crq_rule.specs.declared.view.Stand.{Stand}
use Rattle.crq_rule.specs.declared.view.Caller.{Caller}
use Rattle.crq_rule.specs.Places.{link, twin}
use Rattle.crq_rule.specs.CopyKinds.{lost_name}
use Rattle.crq_rows.specs.Passes.{caller, IsPassOf}
use Rattle.crq_list.specs.declared.parts.Progress.{Progress}
use Rattle.crq_list.specs.declared.parts.Progress.TheVariants.{More, Done}
use Rattle.crq_list.specs.Known.{Works, turns_after}
use Rattle.crq_list.specs.Operations.{Operation}
use Rattle.crq_move.specs.declared.bind.BindState.{BindState}
use Rattle.crq_move.specs.declared.bind.BindState.TheVariants.{Twin, Bind, CopyLink, Drop}
use Rattle.crq_move.specs.declared.bind.BindEnd.{BindEnd}
use Rattle.crq_move.specs.declared.bind.BindEnd.TheVariants.{Bound, Dead, Discarded}
use Rattle.crq_move.specs.declared.bind.BindOp.{BindOp}
use Rattle.crq_move.specs.Helpers.{Knows}
use Rattle.crq_move.specs.Names.{names_lost}

-- the caller has no row that it cut, and owes no copy
abbrev pub IsFree : Caller → Type 0
IsFree p = (p.cut ≡ None) × (p.debts.copy ≡ None)

-- the caller found that the old row has a twin
pub record IsLost (d : CopyDebt) (p : Caller) : Type 0 where
  pub stand : Stand
  pub on : In stand p.position.rows
  pub row : stand.row ≡ d.old
  pub twin_is : (t : ℕ) × (stand.twin ≡ Some t)

abbrev pub IsAt : ℕ → Table → CopyDebt → BindState → Caller → Type 0
IsAt n table d Twin p = Unit {0}
IsAt n table d Bind p = Knows n table (twin d.old) 0 p
IsAt n table d CopyLink p = IsLost d p
IsAt n table d (Drop m) p = IsLost d p × IsLink m × (m.mark ≡ Inv) × Knows n table (link d.copy) (link_word m) p

-- a caller that owes the copy, and has no row that it cut
pub record IsBinding (n : ℕ) (table : Table) (op : BindOp) (p : Caller) : Type 0 where
  pub counted : n ≤ length p.made
  pub uncut : p.cut ≡ None
  pub copy : p.debts.copy ≡ Some op.debt
  pub at : IsAt n table op.debt op.state p

abbrev pub state_exchanges : BindState → Bool
state_exchanges Twin = false
state_exchanges Bind = true
state_exchanges CopyLink = false
state_exchanges (Drop m) = true

abbrev pub bind_exchanges : BindOp → Bool
bind_exchanges op = state_exchanges op.state

abbrev pub state_kind : BindState → StepKind
state_kind Twin = TwinLoad
state_kind Bind = BindKind
state_kind CopyLink = Walk
state_kind (Drop m) = DiscardKind

abbrev pub bind_kind : BindOp → StepKind
bind_kind op = state_kind op.state

abbrev pub state_left : BindState → ℕ
state_left Twin = 2
state_left Bind = 0
state_left CopyLink = 1
state_left (Drop m) = 0

-- how many steps come at most before the next exchange
abbrev pub bind_left : BindOp → ℕ
bind_left op = state_left op.state

-- In the end the copy was bound; or it was found dead; or it was discarded, and is one more dead row to cut. It isn't owed any more
abbrev pub BindAnswers : ℕ → Table → BindOp → BindOp → Pass → Pass → Progress BindEnd → Type 0
BindAnswers n table op op' old new More = IsBinding n table op' (caller table new) × (op'.debt ≡ op.debt) × (new.debts ≡ old.debts) × ((bind_exchanges op ≡ true) ⊎ (bind_left op' < bind_left op))
BindAnswers n table op op' old new (Done Bound) = IsFree (caller table new) × (op.state ≡ Bind) × (new.debts ≡ record old.debts { copy = None })
BindAnswers n table op op' old new (Done Dead) = IsFree (caller table new) × (op.state ≡ CopyLink) × (new.debts ≡ record old.debts { copy = None })
BindAnswers n table op op' old new (Done Discarded) = IsFree (caller table new) × ((m : Link) × (op.state ≡ Drop m)) × (new.debts ≡ names_lost (lost_name op.debt) None old.debts)

-- one step of it was made. What the caller knows of a move that it helps stays
pub record BindStepped (n : ℕ) (table : Table) (op op' : BindOp) (old new : Pass) (answer : Progress BindEnd) : Type 0 where
  pub is : IsPassOf table new
  pub works : Works n (bind_exchanges op) (caller table old) (caller table new)
  pub kind_is : works.step.kind ≡ bind_kind op
  pub turns : new.turns ≡ turns_after (bind_exchanges op) old.turns
  pub number : new.number ≡ old.number
  pub free : new.free.items ≡ old.free.items
  pub own : (caller table new).own ≡ (caller table old).own
  pub help : (caller table new).help ≡ (caller table old).help
  pub answers : BindAnswers n table op op' old new answer

-- the binding, as an operation. It goes by no control word
abbrev pub the_binding : Operation BindOp BindEnd
the_binding = record { at = λ n table x. IsBinding n table; stepped = λ n table x. BindStepped n table; exchanges = bind_exchanges }
