-- What the announcement of a table answers, with the cause of each answer.
use Rattle.std.specs.Prelude.{◌≡◌, ◌⊎◌, ℕ, ◌+◌, ◌-◌, ◌^◌, ◌<◌, ◌≤◌, true, false}
use Rattle.crq_base.specs.declared.kinds.StepKind.TheVariants.{ControlLoad, CurrentLoad}
use Rattle.crq_base.specs.declared.words.Control.{Control}
use Rattle.crq_base.specs.declared.words.Current.{Current}
use Rattle.crq_base.specs.Words.{IsControl, IsCurrent, control_word, current_word}
use Rattle.crq_base.specs.declared.answers.Announce.{Announce}
use Rattle.crq_base.specs.declared.answers.Announce.TheVariants.{Set, Moving, Tables, Epochs, Memory}
use Rattle.crq_rule.specs.declared.pass.Pass.{Pass}
use Rattle.crq_rule.specs.declared.pass.Table.{Table}
use Rattle.crq_rule.specs.declared.view.Caller.{Caller}
use Rattle.crq_rule.specs.Parts.{newest}
use Rattle.crq_rule.specs.Places.{index, control, current}
use Rattle.crq_rule.specs.Kinds.{makes}
use Rattle.crq_rule.specs.ListKinds.{loads_control}
use Rattle.crq_rule.specs.CurrentKinds.{loads_current}
use Rattle.crq_rule.specs.MoveKinds.{announces}
use Rattle.crq_rows.specs.Passes.{caller, IsPassOf, load_made, counted}
use Rattle.crq_move.specs.Steps.{announcing}

-- what is known of a caller that loaded the control word, and found x
abbrev pub asked : Table → Control → Caller → Caller
asked table x p = makes (load_made ControlLoad (index table.start.layout control) (control_word x)) (loads_control x p)

-- and then current, and found y
abbrev pub looked : Table → Control → Current → Caller → Caller
looked table x y p = makes (load_made CurrentLoad (index table.start.layout current) (current_word y)) (loads_current false y (asked table x p))

-- this control word was found first, steady, of a table that another may follow
pub record IsFree (x : Control) : Type 0 where
  pub is : IsControl x
  pub steady : x.moving ≡ false
  pub room : x.generation < 2 ^ 30 - 2

-- and then this current, with room for epochs: an announcement may be tried
pub record IsTried (x : Control) (y : Current) : Type 0 where
  pub free : IsFree x
  pub is : IsCurrent y
  pub low : y.epoch < 2 ^ 32 - 64

-- The one step found the control word moving to this generation
pub record WasMoving (table : Table) (old new : Pass) (g : ℕ) : Type 0 where
  pub found : Control
  pub is : IsControl found
  pub moving : found.moving ≡ true
  pub to : g ≡ found.generation + 1
  pub turns : new.turns ≡ old.turns
  pub after : caller table new ≡ asked table found (caller table old)

-- The announcement was tried, and its exchange found another control word, whose newest table has this generation. That is later than the one that was found open first
pub record WasOvertaken (table : Table) (log shift : ℕ) (old new : Pass) (g : ℕ) : Type 0 where
  pub first : Control
  pub seen : Current
  pub tried : IsTried first seen
  pub found : Control
  pub is : IsControl found
  pub to : g ≡ newest found
  pub later : first.generation < g
  pub turns : new.turns ≡ counted old.turns
  pub after : caller table new ≡ makes (announcing table first log shift (control_word found)) (loads_control found (looked table first seen (caller table old)))

-- The announcement was tried, and its exchange was made: the table of this generation is announced
pub record WasSet (table : Table) (log shift : ℕ) (old new : Pass) (g : ℕ) : Type 0 where
  pub first : Control
  pub seen : Current
  pub tried : IsTried first seen
  pub to : g ≡ first.generation + 1
  pub turns : new.turns ≡ counted old.turns
  pub after : caller table new ≡ makes (announcing table first log shift (control_word first)) (announces log shift (looked table first seen (caller table old)))

-- The one step found the control word steady, of the last table that there may be
pub record WasLast (table : Table) (old new : Pass) : Type 0 where
  pub found : Control
  pub is : IsControl found
  pub steady : found.moving ≡ false
  pub high : 2 ^ 30 - 2 ≤ found.generation
  pub turns : new.turns ≡ old.turns
  pub after : caller table new ≡ asked table found (caller table old)

-- A table might be announced by the control word, but the other step found current without room for epochs
pub record WasLate (table : Table) (old new : Pass) : Type 0 where
  pub first : Control
  pub free : IsFree first
  pub seen : Current
  pub is : IsCurrent seen
  pub high : 2 ^ 32 - 64 ≤ seen.epoch
  pub turns : new.turns ≡ old.turns
  pub after : caller table new ≡ looked table first seen (caller table old)

abbrev pub AnnounceAnswers : Table → ℕ → ℕ → Pass → Pass → Announce → Type 0
AnnounceAnswers table log shift old new (Set g) = WasSet table log shift old new g
AnnounceAnswers table log shift old new (Moving g) = WasMoving table old new g ⊎ WasOvertaken table log shift old new g
AnnounceAnswers table log shift old new Tables = WasLast table old new
AnnounceAnswers table log shift old new Epochs = WasLate table old new
AnnounceAnswers table log shift old new Memory = ⊥

-- an announcement was made or refused: what the pass has at run time, but the count of its exchanges, is as before
pub record AnnounceEnded (table : Table) (log shift : ℕ) (old new : Pass) (answer : Announce) : Type 0 where
  pub is : IsPassOf table new
  pub same : new ≡ record old { seat = new.seat; turns = new.turns }
  pub answers : AnnounceAnswers table log shift old new answer
