-- What a caller knows that helps a move, and what each step of a part of it tells.
use Rattle.std.specs.Prelude.{◌≡◌, ℕ, ◌^◌, ◌<◌, Bool, true, List, [], ◌∷◌, ◌++◌, drop, Some}
use Rattle.crq_base.specs.declared.kinds.StepKind.{StepKind}
use Rattle.crq_base.specs.declared.kinds.StepKind.TheVariants.{Walk}
use Rattle.crq_base.specs.declared.words.Link.{Link}
use Rattle.crq_base.specs.declared.words.Control.{Control}
use Rattle.crq_base.specs.Words.{IsLink, IsControl, link_word}
use Rattle.crq_rule.specs.declared.debts.CutDebt.{CutDebt}
use Rattle.crq_rule.specs.declared.pass.Pass.{Pass}
use Rattle.crq_rule.specs.declared.pass.Table.{Table}
use Rattle.crq_rule.specs.declared.view.Help.{Help}
use Rattle.crq_rule.specs.declared.view.Made.{Made}
use Rattle.crq_rule.specs.declared.view.Caller.{Caller}
use Rattle.crq_rule.specs.Core.{HasName, names_of}
use Rattle.crq_rule.specs.Parts.{IsOn}
use Rattle.crq_rule.specs.Places.{Place, index, head}
use Rattle.crq_rule.specs.Ranks.{IsOpen}
use Rattle.crq_rows.specs.Passes.{caller, IsPassOf, load_made}
use Rattle.crq_list.specs.Known.{last_known, Works, turns_after}

-- by its steps since the first n, the caller last knew the word at this place to be w
abbrev pub Knows : ℕ → Table → Place → ℕ → Caller → Type 0
Knows n table place w p = last_known (drop n p.made) (index table.start.layout place) ≡ Some w

-- under its guard, the caller helps the move that the control word x tells, and found that word. The new table has a generation
pub record IsHelper (x : Control) (p : Caller) : Type 0 where
  pub on : IsOn p.guard
  pub control : p.found.control ≡ Some x
  pub is_control : IsControl x
  pub moving : x.moving ≡ true
  pub helps : (h : Help) × (p.help ≡ Some h) × (h.generation ≡ x.generation)

-- it found all heads of the new table open
abbrev pub AllPrepared : Control → Caller → Type 0
AllPrepared x p = (h : Help) × (p.help ≡ Some h) × (h.prepared ≡ 2 ^ x.new_log)

-- and all heads of the table that moves frozen
abbrev pub AllFrozen : Control → Caller → Type 0
AllFrozen x p = (h : Help) × (p.help ≡ Some h) × (h.frozen ≡ 2 ^ x.log)

-- and their lists empty
abbrev pub AllEmptied : Control → Caller → Type 0
AllEmptied x p = (h : Help) × (p.help ≡ Some h) × (h.emptied ≡ 2 ^ x.log)

-- the last step loaded a head of the table that moved, and found it of a later table: the move is over
pub record FoundLater (table : Table) (x : Control) (p : Caller) : Type 0 where
  pub at : ℕ
  pub link : Link
  pub before : List Made
  pub bits : IsLink link
  pub opened : IsOpen x at
  pub made : p.made ≡ before ++ load_made Walk (index table.start.layout (head at)) (link_word link) ∷ []
  pub later : x.generation < link.generation

-- one step of a part of a move was made, of this kind. What the pass owes at run time stays, and of the dead rows that are to be cut some may turn out not to be owed any more
pub record PartStepped (n : ℕ) (table : Table) (exchanges : Bool) (kind : StepKind) (old new : Pass) : Type 0 where
  pub is : IsPassOf table new
  pub works : Works n exchanges (caller table old) (caller table new)
  pub kind_is : works.step.kind ≡ kind
  pub turns : new.turns ≡ turns_after exchanges old.turns
  pub number : new.number ≡ old.number
  pub free : new.free.items ≡ old.free.items
  pub debts : new.debts ≡ old.debts
  pub own : (caller table new).own ≡ (caller table old).own
  pub cut : (caller table new).cut ≡ (caller table old).cut
  pub owed : (d : CutDebt) → HasName (names_of (caller table new).debts) d → HasName (names_of (caller table old).debts) d
