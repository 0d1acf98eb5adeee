-- What single steps on lists do to a pass.
use Rattle.std.specs.Prelude.{◌≡◌, ℕ, ◌+◌, ◌<◌, ◌==◌, cond, Bool, false, Some, None}
use Rattle.crq_base.specs.declared.event.Event.{Event}
use Rattle.crq_base.specs.declared.kinds.StepKind.{StepKind}
use Rattle.crq_base.specs.declared.kinds.StepKind.TheVariants.{Walk, Link as LinkKind, Mark as MarkKind, Cut as CutKind, Copy as CopyKind}
use Rattle.crq_base.specs.declared.words.Link.{Link}
use Rattle.crq_base.specs.declared.words.Mark.TheVariants.{Del}
use Rattle.crq_base.specs.declared.words.Control.{Control}
use Rattle.crq_base.specs.Words.{IsLink, IsControl, link_word, control_word}
use Rattle.crq_rule.specs.declared.pass.Pass.{Pass}
use Rattle.crq_rule.specs.declared.pass.Table.{Table}
use Rattle.crq_rule.specs.declared.debts.CopyDebt.{CopyDebt}
use Rattle.crq_rule.specs.declared.view.Stand.{Stand}
use Rattle.crq_rule.specs.declared.view.Caller.{Caller}
use Rattle.crq_rule.specs.Places.{index, control, IsRow}
use Rattle.crq_rule.specs.Parts.{IsEvent}
use Rattle.crq_rule.specs.Kinds.{makes}
use Rattle.crq_rule.specs.Ranks.{next_list, Cell, cell_place}
use Rattle.crq_rule.specs.ListKinds.{Aim, walks, links, marks, cuts, unhanded, forgotten, cut_debt}
use Rattle.crq_rule.specs.CopyKinds.{copy_debt, MayCopy}
use Rattle.crq_rule.specs.Moves.{WalksOn, IsWalkable, IsStillFrozen}
use Rattle.crq_rows.specs.Passes.{caller, IsPassOf, load_made, step_made, counted}

-- the link l of the cell was found
pub record Saw (table : Table) (old new : Pass) (cell : Cell) (aim : Aim) (l : Link) : Type 0 where
  pub is : IsPassOf table new
  pub same : new ≡ record old { seat = new.seat }
  pub event : Event
  pub is_link : IsLink l
  pub part : caller table new ≡ makes (load_made Walk (index table.start.layout (cell_place cell)) (link_word l)) (walks cell aim l event (caller table old))
  pub row : 0 < l.row → IsRow table.start.layout l.row × IsEvent event
  pub next : WalksOn cell l event (caller table old)
  pub marked : IsWalkable cell l (caller table old)
  pub frozen : IsStillFrozen cell l (caller table old)

abbrev pub where_won : Bool → (Caller → Caller) → Caller → Caller
where_won won f p = cond won (f p) p

-- an exchange of the link l of the cell for `new_link` was made; it won, or found another word
pub record Swapped (kind : StepKind) (table : Table) (old new : Pass) (cell : Cell) (l new_link : Link) (f : Caller → Caller) (won : Bool) : Type 0 where
  pub is : IsPassOf table new
  pub turns : new.turns ≡ counted old.turns
  pub number : new.number ≡ old.number
  pub found : ℕ
  pub won_is : (found == link_word l) ≡ won
  pub part : caller table new ≡ makes (step_made kind (index table.start.layout (cell_place cell)) (link_word l) (link_word new_link) found) (where_won won f (caller table old))

-- Link: where it won, the row is taken out of the free ones. What the pass owes at run time has yet to follow
pub record LinkSwapped (table : Table) (old new : Pass) (cell : Cell) (l : Link) (x : Control) (r : ℕ) (e : Event) (won : Bool) : Type 0 where
  pub swapped : Swapped LinkKind table old new cell l (record l { row = r }) (links x r e) won
  pub free : new.free.items ≡ cond won (unhanded r old.free.items) old.free.items
  pub debts : new.debts ≡ old.debts

-- what linking a copy changes: it is owed
abbrev pub owes_copy : CopyDebt → Caller → Caller
owes_copy d p = record p { hand = unhanded d.copy p.hand; written = forgotten d.copy p.written; base = None; position = record { rows = p.position.rows; old = None }; debts = record p.debts { copy = Some d } }

-- the caller may link the copy of this debt
abbrev pub MayOweCopy : Cell → Link → CopyDebt → Caller → Type 0
MayOweCopy cell l d p = (x : Control) × (s : Stand) × MayCopy x cell l d.copy s d.last p × (copy_debt s d.last d.copy (x.generation + 1) (next_list x s.event) ≡ d)

-- Copy: where it won, the row is taken out of the free ones, and the pass owes the copy
pub record CopySwapped (table : Table) (old new : Pass) (cell : Cell) (l : Link) (d : CopyDebt) (won : Bool) : Type 0 where
  pub swapped : Swapped CopyKind table old new cell l (record l { row = d.copy }) (owes_copy d) won
  pub free : new.free.items ≡ cond won (unhanded d.copy old.free.items) old.free.items
  pub debts : new.debts ≡ cond won (record old.debts { copy = Some d }) old.debts

-- Mark: where it won, the row is owed to be cut
pub record MarkSwapped (table : Table) (old new : Pass) (cell : Cell) (l : Link) (x : Control) (r : ℕ) (e : Event) (won : Bool) : Type 0 where
  pub swapped : Swapped MarkKind table old new cell l (record l { mark = Del }) (marks x r e) won
  pub free : new.free.items ≡ old.free.items
  pub debts : new.debts ≡ cond won (record old.debts { cut = Some (cut_debt x r e) }) old.debts

-- Cut
pub record CutSwapped (table : Table) (old new : Pass) (cell : Cell) (l last : Link) (won : Bool) : Type 0 where
  pub swapped : Swapped CutKind table old new cell l (record l { row = last.row }) (cuts l.row) won
  pub free : new.free.items ≡ old.free.items
  pub debts : new.debts ≡ old.debts

-- the control word x was found, which is steady unless the table may move
pub record Controlled (kind : StepKind) (table : Table) (old new : Pass) (f : Control → Caller → Caller) (x : Control) : Type 0 where
  pub is : IsPassOf table new
  pub same : new ≡ record old { seat = new.seat }
  pub is_control : IsControl x
  pub part : caller table new ≡ makes (load_made kind (index table.start.layout control) (control_word x)) (f x (caller table old))
  pub steady : table.start.moves ≡ false → x.moving ≡ false
