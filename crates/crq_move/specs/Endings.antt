-- What single steps that end a move do to a pass.
use Rattle.std.specs.Prelude.{◌≡◌, ◌≢◌, ◌==◌, ℕ, ◌+◌, Bool, List, [], ◌∷◌, ◌++◌, Some}
use Rattle.crq_base.specs.declared.kinds.StepKind.{StepKind}
use Rattle.crq_base.specs.declared.kinds.StepKind.TheVariants.{ControlLoad, CurrentLoad, PinLoad}
use Rattle.crq_base.specs.declared.words.Control.{Control}
use Rattle.crq_base.specs.declared.words.Current.{Current}
use Rattle.crq_base.specs.declared.words.Pin.{Pin}
use Rattle.crq_base.specs.Words.{IsControl, IsCurrent, IsPin, control_word, current_word, pin_word}
use Rattle.crq_rule.specs.declared.pass.Pass.{Pass}
use Rattle.crq_rule.specs.declared.pass.Table.{Table}
use Rattle.crq_rule.specs.declared.view.Caller.{Caller}
use Rattle.crq_rule.specs.declared.view.Help.{Help}
use Rattle.crq_rule.specs.declared.view.Made.{Made}
use Rattle.crq_rule.specs.Parts.{NotAfter}
use Rattle.crq_rule.specs.Places.{index, control, current, pin}
use Rattle.crq_rule.specs.Kinds.{makes}
use Rattle.crq_rule.specs.PinKinds.{loads_for_pin, loads_pin}
use Rattle.crq_rows.specs.Passes.{caller, IsPassOf, load_made, step_made, counted}
use Rattle.crq_list.specs.Known.{Expects, turns_after}

-- a helper found current to be y, whose epoch it is to pin
pub record LoadedForPin (table : Table) (old new : Pass) (y : Current) : Type 0 where
  pub is : IsPassOf table new
  pub same : new ≡ record old { seat = new.seat }
  pub is_current : IsCurrent y
  pub part : caller table new ≡ makes (load_made CurrentLoad (index table.start.layout current) (current_word y)) (loads_for_pin y (caller table old))
  pub later : (x : Current) → (caller table old).found.current ≡ Some x → NotAfter x y

-- the pin was found to be n
pub record PinFound (table : Table) (old new : Pass) (n : Pin) : Type 0 where
  pub is : IsPassOf table new
  pub same : new ≡ record old { seat = new.seat }
  pub is_pin : IsPin n
  pub part : caller table new ≡ makes (load_made PinLoad (index table.start.layout pin) (pin_word n)) (loads_pin n (caller table old))

-- An exchange of a word was made, from `first` to `second`; it won, or found another word. What the caller knows stays
pub record Tried (kind : StepKind) (table : Table) (old new : Pass) (word first second : ℕ) (won : Bool) : Type 0 where
  pub is : IsPassOf table new
  pub same : new ≡ record old { seat = new.seat; turns = new.turns }
  pub turns : new.turns ≡ counted old.turns
  pub found : ℕ
  pub won_is : (found == first) ≡ won
  pub part : caller table new ≡ makes (step_made kind word first second found) (caller table old)

-- a helper loaded this epoch of current for the pin
abbrev pub HasEpoch : ℕ → Caller → Type 0
HasEpoch epoch p = (h : Help) × (p.help ≡ Some h) × (h.epoch ≡ Some epoch)

-- and found this pin of its move
abbrev pub HasPin : Pin → Caller → Type 0
HasPin n p = (h : Help) × (p.help ≡ Some h) × (h.pin ≡ Some n)

-- the last step loaded the pin, and found that it doesn't name the next table
pub record FoundOtherPin (table : Table) (x : Control) (p : Caller) : Type 0 where
  pub found : Pin
  pub before : List Made
  pub bits : IsPin found
  pub made : p.made ≡ before ++ load_made PinLoad (index table.start.layout pin) (pin_word found) ∷ []
  pub other : found.generation ≢ x.generation + 1

-- the last step loaded the control word, and found another one than that of the move
pub record FoundOtherControl (table : Table) (x : Control) (p : Caller) : Type 0 where
  pub found : Control
  pub before : List Made
  pub bits : IsControl found
  pub made : p.made ≡ before ++ load_made ControlLoad (index table.start.layout control) (control_word found) ∷ []
  pub other : found ≢ x

-- One step of a part that ends a move was made, of this kind; an exchange expected what the caller knew by its steps since the first n. What the pass owes stays, and so do its free rows
pub record EndStepped (n : ℕ) (table : Table) (exchanges : Bool) (kind : StepKind) (old new : Pass) : Type 0 where
  pub is : IsPassOf table new
  pub step : Made
  pub made : (caller table new).made ≡ (caller table old).made ++ step ∷ []
  pub kind_is : step.kind ≡ kind
  pub expects : Expects n (caller table old).made step
  pub turns : new.turns ≡ turns_after exchanges old.turns
  pub number : new.number ≡ old.number
  pub free : new.free.items ≡ old.free.items
  pub debts : new.debts ≡ old.debts
  pub own : (caller table new).own ≡ (caller table old).own
  pub deal : (caller table new).deal ≡ (caller table old).deal
  pub guard : (caller table new).guard ≡ (caller table old).guard
  pub cut : (caller table new).cut ≡ (caller table old).cut
  pub owed : (caller table new).debts ≡ (caller table old).debts
