-- What single steps of a move do to a pass.
use Rattle.std.specs.Prelude.{◌≡◌, ◌≢◌, ◌⊎◌, ◌==◌, ◌<◌, cond, ℕ, Bool, None, Result, Ok, Err}
use Rattle.crq_base.specs.declared.kinds.StepKind.{StepKind}
use Rattle.crq_base.specs.declared.kinds.StepKind.TheVariants.{Announce, Walk, Bind}
use Rattle.crq_base.specs.declared.words.Link.{Link}
use Rattle.crq_base.specs.declared.words.Mark.TheVariants.{Inv, Del}
use Rattle.crq_base.specs.declared.words.Control.{Control}
use Rattle.crq_base.specs.Words.{IsLink, IsControl, link_word, control_word}
use Rattle.crq_rule.specs.declared.debts.CopyDebt.{CopyDebt}
use Rattle.crq_rule.specs.declared.debts.Debts.{Debts}
use Rattle.crq_rule.specs.declared.pass.Pass.{Pass}
use Rattle.crq_rule.specs.declared.pass.Table.{Table}
use Rattle.crq_rule.specs.declared.view.Caller.{Caller}
use Rattle.crq_rule.specs.declared.view.Made.{Made}
use Rattle.crq_rule.specs.Parts.{newest}
use Rattle.crq_rule.specs.Places.{index, control, head, link, twin}
use Rattle.crq_rule.specs.Kinds.{makes}
use Rattle.crq_rule.specs.ListKinds.{loads_control}
use Rattle.crq_rule.specs.MoveKinds.{moving_to, announces, leaves_head}
use Rattle.crq_rule.specs.CopyKinds.{copy_after, loads_copy, binds, finds_twin}
use Rattle.crq_rule.specs.Moves.{TellsTwin}
use Rattle.crq_rows.specs.Passes.{caller, IsPassOf, load_made, step_made, counted}

-- the step of an announcement from the control word x, which found this word
abbrev pub announcing : Table → Control → ℕ → ℕ → ℕ → Made
announcing table x log shift found = step_made Announce (index table.start.layout control) (control_word x) (control_word (moving_to x log shift)) found

-- with Ok the table is announced, and with Err control was found to be y in place of x, which tells of a later table
abbrev pub AnnounceTells : Table → Control → ℕ → ℕ → Caller → Caller → Result (Unit {0}) Control → Type 0
AnnounceTells table x log shift p q (Ok u) = q ≡ makes (announcing table x log shift (control_word x)) (announces log shift p)
AnnounceTells table x log shift p q (Err y) = IsControl y × (y ≢ x) × (x.generation < newest y) × (q ≡ makes (announcing table x log shift (control_word y)) (loads_control y p))

-- an exchange of the control word was made, from x to that of a move
pub record Announced (table : Table) (old new : Pass) (x : Control) (log shift : ℕ) (answer : Result (Unit {0}) Control) : Type 0 where
  pub is : IsPassOf table new
  pub same : new ≡ record old { seat = new.seat; turns = new.turns }
  pub turns : new.turns ≡ counted old.turns
  pub tells : AnnounceTells table x log shift (caller table old) (caller table new) answer

-- an exchange of the link l of the head q for `left` was made; it won, or found another word
pub record HeadLeft (kind : StepKind) (table : Table) (old new : Pass) (q : ℕ) (l left : Link) (won : Bool) : Type 0 where
  pub is : IsPassOf table new
  pub same : new ≡ record old { seat = new.seat; turns = new.turns }
  pub turns : new.turns ≡ counted old.turns
  pub found : ℕ
  pub won_is : (found == link_word l) ≡ won
  pub part : caller table new ≡ makes (step_made kind (index table.start.layout (head q)) (link_word l) (link_word left) found) (cond won (leaves_head q left (caller table old)) (caller table old))

-- an exchange of a word was made, from `first` to `second`; it won, or found another word. At run time the pass owes `debts` then
pub record WordLeft (kind : StepKind) (table : Table) (old new : Pass) (word first second : ℕ) (f : Caller → Caller) (debts : Debts) (won : Bool) : Type 0 where
  pub is : IsPassOf table new
  pub same : new ≡ record old { seat = new.seat; turns = new.turns; debts = debts }
  pub turns : new.turns ≡ counted old.turns
  pub found : ℕ
  pub won_is : (found == first) ≡ won
  pub part : caller table new ≡ makes (step_made kind word first second found) (cond won (f (caller table old)) (caller table old))

-- the link l of the copy that the pass owed was found: where it is dead, the pass owes it no more
pub record CopyFound (table : Table) (old new : Pass) (d : CopyDebt) (l : Link) : Type 0 where
  pub is : IsPassOf table new
  pub same : new ≡ record old { seat = new.seat; debts = record old.debts { copy = copy_after l old.debts.copy } }
  pub is_link : IsLink l
  pub part : caller table new ≡ makes (load_made Walk (index table.start.layout (link d.copy)) (link_word l)) (loads_copy l (caller table old))
  pub of : l.generation ≡ d.generation
  pub mark : (l.mark ≡ Inv) ⊎ (l.mark ≡ Del)

-- the copy that the pass owed was to be bound, and the old row's twin was found to be t: where that is 0, it was bound, and isn't owed any more
pub record Bound (table : Table) (old new : Pass) (d : CopyDebt) (t : ℕ) : Type 0 where
  pub is : IsPassOf table new
  pub same : new ≡ record old { seat = new.seat; turns = new.turns; debts = cond (t == 0) (record old.debts { copy = None }) old.debts }
  pub turns : new.turns ≡ counted old.turns
  pub part : caller table new ≡ makes (step_made Bind (index table.start.layout (twin d.old)) 0 d.copy t) (cond (t == 0) (binds d (caller table old)) (finds_twin d t (caller table old)))
  pub told : TellsTwin t (caller table old)
