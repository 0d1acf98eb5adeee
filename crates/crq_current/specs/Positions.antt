-- What single steps on current do to a pass.
use Rattle.std.specs.Prelude.{◌≡◌, ◌==◌, cond, ℕ, Bool, Some, None}
use Rattle.crq_base.specs.declared.kinds.StepKind.TheVariants.{CurrentLoad, SettleLoad, Settle, Raise}
use Rattle.crq_base.specs.declared.words.Control.{Control}
use Rattle.crq_base.specs.declared.words.Current.{Current}
use Rattle.crq_base.specs.Words.{IsCurrent, current_word}
use Rattle.crq_rule.specs.declared.debts.SettleDebt.{SettleDebt}
use Rattle.crq_rule.specs.declared.pass.Pass.{Pass}
use Rattle.crq_rule.specs.declared.pass.Table.{Table}
use Rattle.crq_rule.specs.declared.view.Sight.{Sight}
use Rattle.crq_rule.specs.Parts.{NotAfter}
use Rattle.crq_rule.specs.Places.{index, current}
use Rattle.crq_rule.specs.Kinds.{makes}
use Rattle.crq_rule.specs.CurrentKinds.{loads_current, next_position, raises, lies_ahead, settles_back, loads_owed, owed_position}
use Rattle.crq_rows.specs.Passes.{caller, IsPassOf, load_made, step_made, counted}

-- current was found to be y, which isn't before any that the caller found, or saw as its take began
pub record Viewed (table : Table) (old new : Pass) (walks : Bool) (y : Current) : Type 0 where
  pub is : IsPassOf table new
  pub same : new ≡ record old { seat = new.seat }
  pub is_current : IsCurrent y
  pub part : caller table new ≡ makes (load_made CurrentLoad (index table.start.layout current) (current_word y)) (loads_current walks y (caller table old))
  pub later : (x : Current) → (caller table old).found.current ≡ Some x → NotAfter x y
  pub seen : (s : Sight) → (caller table old).sight ≡ Some s → NotAfter s.current y

-- an exchange of current from y to the next bucket of the table was made; it won, or found another word
pub record Raised (table : Table) (old new : Pass) (x : Control) (y : Current) (won : Bool) : Type 0 where
  pub is : IsPassOf table new
  pub same : new ≡ record old { seat = new.seat; turns = new.turns }
  pub turns : new.turns ≡ counted old.turns
  pub found : ℕ
  pub won_is : (found == current_word y) ≡ won
  pub part : caller table new ≡ makes (step_made Raise (index table.start.layout current) (current_word y) (current_word (next_position x y)) found) (cond won (raises (caller table old)) (caller table old))

-- current was found to be y by a pass that owes an event, which is settled with that where it lies ahead
pub record ViewedOwed (table : Table) (old new : Pass) (d : SettleDebt) (y : Current) (ahead : Bool) : Type 0 where
  pub is : IsPassOf table new
  pub same : new ≡ record old { seat = new.seat; debts = new.debts }
  pub debts : new.debts ≡ cond ahead (record old.debts { settle = None }) old.debts
  pub is_current : IsCurrent y
  pub ahead_is : ahead ≡ lies_ahead d y
  pub part : caller table new ≡ makes (load_made SettleLoad (index table.start.layout current) (current_word y)) (loads_owed d y (caller table old))
  pub later : (x : Current) → (caller table old).found.current ≡ Some x → NotAfter x y

-- an exchange of current from y to the bucket of the event that is owed was made; it won, and the event is settled and the permit gone, or it found another word
pub record SettledBack (table : Table) (old new : Pass) (d : SettleDebt) (y : Current) (won : Bool) : Type 0 where
  pub is : IsPassOf table new
  pub same : new ≡ record old { seat = new.seat; turns = new.turns; debts = new.debts }
  pub turns : new.turns ≡ counted old.turns
  pub debts : new.debts ≡ cond won (record old.debts { settle = None }) old.debts
  pub found : ℕ
  pub won_is : (found == current_word y) ≡ won
  pub part : caller table new ≡ makes (step_made Settle (index table.start.layout current) (current_word y) (current_word (owed_position d y)) found) (cond won (settles_back d (caller table old)) (caller table old))
