-- What a helper of a move knows of the heads that it has passed, and the part of the invariant on that.
use Rattle.std.specs.Prelude.{cond, ◌==◌, ◌&&◌, ◌≡◌, nat_lt, bit_xor, Bool, true, false, ℕ, ◌+◌, ◌*◌, ◌%◌, ◌^◌, ◌<◌, ◌≤◌, Option, Some, None}
use Rattle.crq_base.specs.declared.words.Link.{Link}
use Rattle.crq_base.specs.declared.words.Mark.{Mark}
use Rattle.crq_base.specs.declared.words.Mark.TheVariants.{Val, Inv, Mov, Del}
use Rattle.crq_base.specs.declared.words.Control.{Control}
use Rattle.crq_rule.specs.declared.view.Found.{Found}
use Rattle.crq_rule.specs.declared.view.Help.{Help}
use Rattle.crq_rule.specs.Ranks.{first_head_of, Cell, at_head, at_row}
use Rattle.crq_rule.specs.ListParts.{IsPrepared}

abbrev pub is_mov : Mark → Bool
is_mov Val = false
is_mov Inv = false
is_mov Mov = true
is_mov Del = false

-- The order in which the caller j passes the heads of a table with 2 ^ log lists: in blocks of 16 heads, each caller begins with another block, and comes to all of them
abbrev pub woven : ℕ → ℕ → ℕ → ℕ
woven j log i = bit_xor i (16 * j % 2 ^ log)

-- the heads of the table that moves, and of the one that it moves into, in that order
abbrev pub old_head : Control → ℕ → ℕ → ℕ
old_head x j i = first_head_of x.generation + woven j x.log i

abbrev pub new_head : Control → ℕ → ℕ → ℕ
new_head x j i = first_head_of (x.generation + 1) + woven j x.new_log i

-- a helper of the move from generation g that has passed nothing yet
abbrev pub new_help : ℕ → Help
new_help g = record { generation = g; prepared = 0; frozen = 0; emptied = 0; epoch = None; pin = None }

-- a helper of that move goes on, and one of another begins anew
abbrev pub help_of : ℕ → Option Help → Help
help_of g None = new_help g
help_of g (Some h) = cond (h.generation == g) h (new_help g)

-- the control word x was found: a caller helps the move that it tells
abbrev pub help_after : Control → Option Help → Option Help
help_after x o = cond x.moving (Some (help_of x.generation o)) None

-- n heads were passed. Where this is the next one, and it was found as it has to be, that is one more
abbrev pub passed_on : Bool → ℕ → ℕ
passed_on found n = cond found (n + 1) n

abbrev pub is_prepared_next : Control → ℕ → ℕ → Link → ℕ → Bool
is_prepared_next x j q l n = nat_lt n (2 ^ x.new_log) && ((q == new_head x j n) && nat_lt x.generation l.generation)

abbrev pub is_frozen_next : Control → ℕ → ℕ → Link → ℕ → Bool
is_frozen_next x j q l n = nat_lt n (2 ^ x.log) && ((q == old_head x j n) && is_mov l.mark)

abbrev pub is_emptied_next : Control → ℕ → ℕ → Link → ℕ → Bool
is_emptied_next x j q l n = is_frozen_next x j q l n && (l.row == 0)

abbrev pub passes_head : Control → ℕ → ℕ → Link → Help → Help
passes_head x j q l h = record h {
  prepared = passed_on (is_prepared_next x j q l h.prepared) h.prepared;
  frozen = passed_on (is_frozen_next x j q l h.frozen) h.frozen;
  emptied = passed_on (is_emptied_next x j q l h.emptied) h.emptied;
}

-- the helper j, which found the control word, found the link l in the cell, or left it there
abbrev pub helped_by : Option Control → ℕ → Cell → Link → Option Help → Option Help
helped_by None j cell l o = o
helped_by (Some x) j cell l None = None
helped_by (Some x) j (at_head q) l (Some h) = Some (passes_head x j q l h)
helped_by (Some x) j (at_row r) l (Some h) = Some h

-- 24. Helps: what a helper has passed stays so, as long as control hasn't moved on

-- the caller helps the move that the control word x tells
pub record IsHelping (x : Control) (h : Help) : Type 0 where
  pub moving : x.moving ≡ true
  pub same : h.generation ≡ x.generation
  pub prepared : h.prepared ≤ 2 ^ x.new_log
  pub frozen : h.frozen ≤ 2 ^ x.log
  pub emptied : h.emptied ≤ 2 ^ x.log

pub record HasPassed (control : Control) (head : ℕ → Link) (j : ℕ) (h : Help) : Type 0 where
  pub prepared : (i : ℕ) → i < h.prepared → IsPrepared (control.generation + 1) (head (new_head control j i))
  pub frozen : (i : ℕ) → i < h.frozen → (head (old_head control j i)).mark ≡ Mov
  pub emptied : (i : ℕ) → i < h.emptied → ((head (old_head control j i)).mark ≡ Mov) × ((head (old_head control j i)).row ≡ 0)

pub record Helps (n : ℕ) (control : Control) (head : ℕ → Link) (found : ℕ → Found) (help : ℕ → Option Help) : Type 0 where
  pub finds : (k : ℕ) (h : Help) → k < n → help k ≡ Some h → (x : Control) × ((found k).control ≡ Some x) × IsHelping x h
  pub passed : (k : ℕ) (h : Help) → k < n → help k ≡ Some h → h.generation ≡ control.generation → HasPassed control head k h
