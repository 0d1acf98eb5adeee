-- A sweep along a list, as the steps of its caller tell it.
use Rattle.std.specs.Prelude.{◌≡◌, ◌≢◌, ◌⊎◌, true, List, [], ◌∷◌, ◌++◌}
use Rattle.crq_base.specs.declared.kinds.StepKind.TheVariants.{Walk}
use Rattle.crq_base.specs.declared.words.Link.{Link}
use Rattle.crq_base.specs.declared.words.Mark.TheVariants.{Mov}
use Rattle.crq_base.specs.Words.{IsLink, link_word}
use Rattle.crq_rule.specs.declared.layout.Layout.{Layout}
use Rattle.crq_rule.specs.declared.view.Made.{Made}
use Rattle.crq_rule.specs.declared.view.Caller.{Caller}
use Rattle.crq_rule.specs.Places.{index}
use Rattle.crq_rule.specs.Ranks.{Cell, at_head, at_row, cell_place}
use Rattle.crq_rule.specs.ListKinds.{is_cell}
use Rattle.crq_rows.specs.Passes.{load_made}
use Rattle.crq_list.specs.declared.parts.ListAt.{ListAt}

-- the step loaded the link of the cell, and found this one: the cell is present, or not valid yet, which comes only in a table that may move
pub record FindsPresent (l : Layout) (cell : Cell) (m : Made) (found : Link) : Type 0 where
  pub load : m ≡ load_made Walk (index l (cell_place cell)) (link_word found)
  pub bits : IsLink found
  pub present : is_cell found.mark ≡ true

-- These steps lead from the cell a to the cell b. Some of them, in order, each find the cell present at which the sweep is, and take it on to the row that its link names; the others leave it where it is. The row 0 is the end
-- of the list
abbrev pub SweepsTo : Layout → Cell → List Made → Cell → Type 0
SweepsTo l a [] b = a ≡ b
SweepsTo l a (m ∷ ms) b = SweepsTo l a ms b ⊎ ((found : Link) × FindsPresent l a m found × SweepsTo l (at_row found.row) ms b)

-- the last step of the caller loaded a link, and found it frozen, or that of the list's head, which is of another table than the list; either comes only in a table that may move
pub record MetFrozen (l : Layout) (list : ListAt) (p : Caller) : Type 0 where
  pub before : List Made
  pub step : Made
  pub made : p.made ≡ before ++ step ∷ []
  pub kind : step.kind ≡ Walk
  pub link : Link
  pub bits : IsLink link
  pub found : step.found ≡ link_word link
  pub frozen : (link.mark ≡ Mov) ⊎ ((step.word ≡ index l (cell_place (at_head list.head))) × (link.generation ≢ list.generation))
  pub moves : p.start.moves ≡ true
