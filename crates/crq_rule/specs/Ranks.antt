-- The order within a list, the list of an event, and the places at which a link stands.
use Rattle.std.specs.Prelude.{◌≡◌, ◌⊎◌, Bool, true, ℕ, ◌+◌, ◌*◌, ◌/◌, ◌%◌, ◌^◌, ◌<◌, ◌≤◌, List, [], ◌∷◌, cond, ◌==◌, ◌||◌, ◌&&◌}
use Rattle.crq_base.specs.declared.event.Event.{Event}
use Rattle.crq_base.specs.declared.words.Link.{Link}
use Rattle.crq_base.specs.declared.words.Control.{Control}
use Rattle.crq_rule.specs.Lists.{put}
use Rattle.crq_rule.specs.Places.{Place, head, link}

-- the place of the row r with the event e in a list: by time, source and number, and then by row
unfoldable pub rank : Event → ℕ → ℕ
rank e r = ((e.time * 2 ^ 32 + e.src) * 2 ^ 64 + e.seq) * 2 ^ 24 + r

-- a table has 2 ^ log lists, and each of its buckets is 2 ^ shift ticks wide
pub record Shape : Type 0 where
  pub log : ℕ
  pub shift : ℕ

-- the shape of the table of a control word, and of the one that it moves into
abbrev pub shape_of : Control → Shape
shape_of x = record { log = x.log; shift = x.shift }

abbrev pub next_of : Control → Shape
next_of x = record { log = x.new_log; shift = x.new_shift }

-- the bucket of a tick
unfoldable pub bucket : Shape → ℕ → ℕ
bucket s t = t / 2 ^ s.shift

-- and the first tick of a bucket
unfoldable pub first_tick : Shape → ℕ → ℕ
first_tick s b = b * 2 ^ s.shift

-- the first of the heads that a table of this generation uses: its bank's
abbrev pub first_head_of : ℕ → ℕ
first_head_of g = g % 2 * 32768

-- the head of a bucket in a table of the generation g: it has the buckets that differ by a multiple of the number of lists
unfoldable pub head_for : ℕ → Shape → ℕ → ℕ
head_for g s b = first_head_of g + b % 2 ^ s.log

-- the head of an event
abbrev pub head_in : ℕ → Shape → Event → ℕ
head_in g s e = head_for g s (bucket s e.time)

-- the same by a control word, and where each generation has its shape
abbrev pub head_of : Control → Event → ℕ
head_of x e = head_in x.generation (shape_of x) e

abbrev pub list_in : (ℕ → Shape) → ℕ → Event → ℕ
list_in shape g e = head_in g (shape g) e

-- the control word tells of the table of this generation: that is the open one, or the one that it moves into
abbrev pub tells_of : Control → ℕ → Bool
tells_of x g = (g == x.generation) || (x.moving && (g == x.generation + 1))

abbrev pub IsTold : Control → ℕ → Type 0
IsTold x g = (g ≡ x.generation) ⊎ ((x.moving ≡ true) × (g ≡ x.generation + 1))

-- then the list of an event there is this
abbrev pub list_by : Control → ℕ → Event → ℕ
list_by x g e = head_in g (cond (g == x.generation) (shape_of x) (next_of x)) e

-- the list of an event in the table that it moves into
abbrev pub next_list : Control → Event → ℕ
next_list x e = head_in (x.generation + 1) (next_of x) e

-- the head q is one of the table
abbrev pub IsHeadIn : ℕ → Shape → ℕ → Type 0
IsHeadIn g s q = (first_head_of g ≤ q) × (q < first_head_of g + 2 ^ s.log)

abbrev pub IsOpen : Control → ℕ → Type 0
IsOpen x q = IsHeadIn x.generation (shape_of x) q

-- where a link stands: in a head, or in a row
pub data Cell : Type 0 where
  at_head : ℕ → Cell
  at_row : ℕ → Cell

abbrev pub cell_place : Cell → Place
cell_place (at_head q) = head q
cell_place (at_row r) = link r

abbrev pub link_at : (ℕ → Link) → (ℕ → Link) → Cell → Link
link_at heads links (at_head q) = heads q
link_at heads links (at_row r) = links r

-- the links where that of the cell is set to l
abbrev pub heads_set : (ℕ → Link) → Cell → Link → ℕ → Link
heads_set heads (at_head q) l = put heads q l
heads_set heads (at_row r) l = heads

abbrev pub links_set : (ℕ → Link) → Cell → Link → ℕ → Link
links_set links (at_head q) l = links
links_set links (at_row r) l = put links r l

-- each rank is above the one before it, and the first above n
abbrev pub Rises : (ℕ → ℕ) → ℕ → List ℕ → Type 0
Rises ranks n [] = Unit {0}
Rises ranks n (r ∷ rs) = (n < ranks r) × Rises ranks (ranks r) rs

-- the row r comes after the row p
abbrev pub after_row : ℕ → ℕ → List ℕ → List ℕ
after_row p r [] = []
after_row p r (x ∷ xs) = cond (x == p) (x ∷ r ∷ xs) (x ∷ after_row p r xs)

-- the row r comes after the cell
abbrev pub after_cell : Cell → ℕ → List ℕ → List ℕ
after_cell (at_head q) r xs = r ∷ xs
after_cell (at_row p) r xs = after_row p r xs

-- without the row x, where it stands first
abbrev pub without_row : ℕ → List ℕ → List ℕ
without_row x [] = []
without_row x (y ∷ ys) = cond (y == x) ys (y ∷ without_row x ys)
