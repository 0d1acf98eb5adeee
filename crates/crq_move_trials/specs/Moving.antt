-- Callers of a table that may move, and what they know while they help it.
use Rattle.std.specs.Prelude.{◌≡◌, ℕ, [], List, Option, Some, None, true}
use Rattle.crq_base.specs.declared.words.Control.{Control}
use Rattle.crq_base.specs.Words.{IsControl}
use Rattle.crq_base.specs.Lists.{In}
use Rattle.crq_rule.specs.declared.debts.Debts.{Debts}
use Rattle.crq_rule.specs.declared.pass.Pass.{Pass}
use Rattle.crq_rule.specs.declared.pass.Table.{Table}
use Rattle.crq_rule.specs.declared.pass.Seating.{Seating}
use Rattle.crq_rule.specs.declared.pass.Seating.TheVariants.{Here}
use Rattle.crq_rule.specs.Parts.{IsOn}
use Rattle.crq_rule.specs.Helping.{help_after}
use Rattle.crq_rows.specs.Passes.{caller, IsNew, IsPassOf}
use Rattle.crq_list.specs.Operations.{IsUnderWay}
use Rattle.crq_move.specs.declared.help.HelpOp.{HelpOp}
use Rattle.crq_move.specs.Helping.{the_help, RoomAt}

-- each pass in these places is new
abbrev pub AreNewPlaces : Table → List Seating → Type 0
AreNewPlaces table places = (pass : Pass) → In (Here pass) places → (j : ℕ) × IsNew table j pass

-- the caller owes nothing
abbrev pub nothing_owed : Debts
nothing_owed = record { settle = None; copy = None; cut = None; second_cut = None }

-- the caller's guard is on, it retired each row that it cut, and found the control word x
pub record IsInside (table : Table) (x : Control) (pass : Pass) : Type 0 where
  pub on : IsOn (caller table pass).guard
  pub uncut : (caller table pass).cut ≡ None
  pub control : (caller table pass).found.control ≡ Some x

-- a caller that made no entry, turned its guard on, found the control word x, and may raise current's epoch once
pub record HasEntered (table : Table) (x : Control) (pass : Pass) : Type 0 where
  pub of : IsPassOf table pass
  pub inside : IsInside table x pass
  pub is_control : IsControl x
  pub debts : (caller table pass).debts ≡ nothing_owed
  pub own : (caller table pass).own ≡ []
  pub deal : (caller table pass).deal ≡ record { history = []; span = 1 }
  pub permit : (caller table pass).permit ≡ true
  pub help : (caller table pass).help ≡ help_after x None

-- a caller's help, while it is under way, may make a step
abbrev pub MayStep : Table → Option HelpOp → Pass → Type 0
MayStep table None pass = Unit {0}
MayStep table (Some op) pass = IsUnderWay the_help table (op, pass) × RoomAt op.part pass.debts

abbrev pub MayHelp : Table → Option HelpOp × Pass → Type 0
MayHelp table helper = IsPassOf table helper.1 × MayStep table helper.0 helper.1
