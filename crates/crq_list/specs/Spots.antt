-- The places at which a link stands, as the operations name them, and what is known of one that was passed.
use Rattle.std.specs.Prelude.{◌≡◌, ◌⊎◌, ℕ, ◌-◌, ◌^◌, ◌<◌, ◌≤◌, ◌==◌, cond, true, List, [], ◌∷◌, drop, Option, Some, None}
use Rattle.crq_base.specs.declared.event.Event.{Event}
use Rattle.crq_base.specs.declared.words.Control.{Control}
use Rattle.crq_base.specs.Words.{IsLink, link_word}
use Rattle.crq_base.specs.Lists.{In}
use Rattle.crq_rule.specs.declared.layout.Layout.{Layout}
use Rattle.crq_rule.specs.declared.debts.CutDebt.{CutDebt}
use Rattle.crq_rule.specs.declared.view.Stand.{Stand}
use Rattle.crq_rule.specs.declared.view.Caller.{Caller}
use Rattle.crq_rule.specs.Places.{index, IsHead}
use Rattle.crq_rule.specs.Core.{HasName, names_of}
use Rattle.crq_rule.specs.Parts.{IsEvent}
use Rattle.crq_rule.specs.Ranks.{rank, Shape, shape_of, next_of, IsTold, list_by, IsHeadIn, Cell, at_head, at_row, cell_place}
use Rattle.crq_rule.specs.ListKinds.{is_cell, StandsOn, Aim, no_take, in_bucket, in_search}
use Rattle.crq_list.specs.declared.parts.ListAt.{ListAt}
use Rattle.crq_list.specs.declared.seek.Sought.{Sought}
use Rattle.crq_list.specs.declared.parts.Place.{Place}
use Rattle.crq_list.specs.declared.parts.Place.TheVariants.{Bucket, Search}
use Rattle.crq_list.specs.declared.parts.Spot.{Spot}
use Rattle.crq_list.specs.declared.parts.Spot.TheVariants.{Head, Row}
use Rattle.crq_list.specs.declared.parts.Before.{Before}
use Rattle.crq_list.specs.Known.{last_known}
use Rattle.crq_list.specs.Sweeps.{SweepsTo}

-- what a walk is for, by what the take that makes it walks; a walk of no take has none
abbrev pub take_aim : Place → Aim
take_aim (Bucket b) = in_bucket
take_aim Search = in_search

abbrev pub aim_of : Option Place → Aim
aim_of None = no_take
aim_of (Some place) = take_aim place

abbrev pub cell : Spot → Cell
cell (Head q) = at_head q
cell (Row r) = at_row r

-- up to which row of which event an operation goes; none is all of the list
abbrev pub Target : Type 0
Target = Option (Event × ℕ)

-- the row r with the event f doesn't come after the target
abbrev pub IsUpTo : Target → Event → ℕ → Type 0
IsUpTo None f r = Unit {0}
IsUpTo (Some t) f r = rank f r ≤ rank t.0 t.1

-- the row r with the event f comes after the target, if that fits its words
abbrev pub IsAfter : Target → Event → ℕ → Type 0
IsAfter None f r = ⊥
IsAfter (Some t) f r = IsEvent t.0 → t.1 < 2 ^ 24 → rank t.0 t.1 < rank f r

-- the caller stands on the row, and knows it to be of the table of this generation
abbrev pub StandsIn : List Stand → ℕ → Event → ℕ → Type 0
StandsIn ss r e g = (s : Stand) × In s ss × (s.row ≡ r) × (s.event ≡ e) × (s.generation ≡ g)

-- the event is of the list, where the control word tells of the list's table
abbrev pub IsOfList : Control → ListAt → Event → Type 0
IsOfList x list e = list_by x list.generation e ≡ list.head

-- the spot is of the list, and doesn't come after the target
abbrev pub IsReached : Control → ListAt → Target → Spot → Caller → Type 0
IsReached x list target (Head h) p = h ≡ list.head
IsReached x list target (Row r) p = (f : Event) × StandsIn p.position.rows r f list.generation × IsOfList x list f × IsUpTo target f r

-- the row with the event e comes after the spot
abbrev pub IsBeyondSpot : Spot → Event → ℕ → Caller → Type 0
IsBeyondSpot (Head h) e r p = Unit {0}
IsBeyondSpot (Row s) e r p = (f : Event) → StandsOn p.position.rows s f → rank f s < rank e r

-- the next row, of which the caller knows the event, is of the list, and comes after the spot
pub record Next (x : Control) (list : ListAt) (b : Before) (p : Caller) : Type 0 where
  pub event : Event
  pub on : StandsIn p.position.rows b.link.row event list.generation
  pub belongs : IsOfList x list event
  pub beyond : IsBeyondSpot b.spot event b.link.row p

-- the name leads to the target, in the list
abbrev pub NamesTarget : Target → ListAt → CutDebt → Type 0
NamesTarget target list d = (target ≡ Some (d.event, d.row)) × (d.head ≡ list.head) × (d.generation ≡ list.generation)

-- a dead row that is still owed, if it is the target, comes no later than the next row
pub record IsOwedAhead (target : Target) (list : ListAt) (b : Before) (p : Caller) : Type 0 where
  pub ahead : (d : CutDebt) → NamesTarget target list d → HasName (names_of p.debts) d → (0 < b.link.row) × ((e : Event) → StandsOn p.position.rows b.link.row e → rank e b.link.row ≤ rank d.event d.row)

-- the spot was passed, and its link, of the list's table, was the last one known. A sweep of the list came there, and is at the next row
pub record IsPassed (n : ℕ) (l : Layout) (x : Control) (sought : Sought) (b : Before) (p : Caller) : Type 0 where
  pub bits : IsLink b.link
  pub present : is_cell b.link.mark ≡ true
  pub generation : b.link.generation ≡ sought.list.generation
  pub known : last_known (drop n p.made) (index l (cell_place (cell b.spot))) ≡ Some (link_word b.link)
  pub reached : IsReached x sought.list sought.target b.spot p
  pub swept : SweepsTo l (at_head sought.list.head) (drop n p.made) (at_row b.link.row)
  pub next : 0 < b.link.row → Next x sought.list b p
  pub owed : IsOwedAhead sought.target sought.list b p

-- Since its first n steps the caller swept the list q past the row r with the event e: each row on the way was present when its link was loaded. It stands on the next row, if there is one
pub record SweptPast (n : ℕ) (l : Layout) (q : ℕ) (e : Event) (r : ℕ) (p : Caller) : Type 0 where
  pub next : ℕ
  pub sweeps : SweepsTo l (at_head q) (drop n p.made) (at_row next)
  pub ends : (next ≡ 0) ⊎ ((f : Event) × StandsOn p.position.rows next f × (rank e r < rank f next))

-- the shape that the control word tells of the table of this generation
abbrev pub shape_by : Control → ℕ → Shape
shape_by x g = cond (g == x.generation) (shape_of x) (next_of x)

-- the list is one of the open table, whose control word the caller found, or of the one that it moves into
pub record IsListOf (x : Control) (list : ListAt) (p : Caller) : Type 0 where
  pub control : p.found.control ≡ Some x
  pub told : IsTold x list.generation
  pub is_head : IsHead list.head
  pub opened : IsHeadIn list.generation (shape_by x list.generation) list.head

-- the target is of the list
abbrev pub IsTarget : Control → ListAt → Target → Type 0
IsTarget x list None = Unit {0}
IsTarget x list (Some t) = IsOfList x list t.0

-- how far the spot lies in the list
abbrev pub rank_at : List Stand → ℕ → ℕ
rank_at [] r = 0
rank_at (s ∷ ss) r = cond (s.row == r) (rank s.event r) (rank_at ss r)

abbrev pub far : Spot → Caller → ℕ
far (Head q) p = 0
far (Row r) p = rank_at p.position.rows r

-- what is left of the list behind the spot, up to the greatest rank there is
abbrev pub left_of : Spot → Caller → ℕ
left_of spot p = 2 ^ 160 - far spot p
