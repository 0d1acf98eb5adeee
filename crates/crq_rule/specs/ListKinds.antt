-- What each kind of step on lists does to what its caller knows, and to the core state.
use Rattle.std.specs.Prelude.{cond, ◌==◌, ◌≡◌, ◌⊎◌, ◌&&◌, ◌||◌, nat_lt, nat_le, ℕ, zero, suc, ◌+◌, ◌*◌, ◌^◌, ◌<◌, ◌≤◌, Bool, true, false, List, [], ◌∷◌, ◌++◌, length, Option, Some, None}
use Rattle.crq_base.specs.declared.event.Event.{Event}
use Rattle.crq_base.specs.declared.entry.Entry.TheVariants.{Begin, Put, Take, Miss}
use Rattle.crq_base.specs.declared.words.Link.{Link}
use Rattle.crq_base.specs.declared.words.Mark.{Mark}
use Rattle.crq_base.specs.declared.words.Mark.TheVariants.{Val, Inv, Mov, Del}
use Rattle.crq_base.specs.declared.words.Control.{Control}
use Rattle.crq_base.specs.declared.words.Current.{Current}
use Rattle.crq_base.specs.Words.{IsLink, link_word}
use Rattle.crq_base.specs.Lists.{In}
use Rattle.crq_base.specs.Sources.{IsFresh}
use Rattle.crq_rule.specs.declared.debts.CutDebt.{CutDebt}
use Rattle.crq_rule.specs.declared.debts.SettleDebt.{SettleDebt}
use Rattle.crq_rule.specs.declared.view.Stand.{Stand}
use Rattle.crq_rule.specs.declared.view.Wrote.{Wrote}
use Rattle.crq_rule.specs.declared.view.Sight.{Sight}
use Rattle.crq_rule.specs.declared.view.Walk.{Walk}
use Rattle.crq_rule.specs.declared.view.Sweep.{Sweep}
use Rattle.crq_rule.specs.declared.view.Caller.{Caller}
use Rattle.crq_rule.specs.Lists.{put}
use Rattle.crq_rule.specs.Places.{Place, IsHead, link, twin, time, source, sequence, load}
use Rattle.crq_rule.specs.Core.{Core, DeadNames, moved_up, names_of, renamed, listed, cut_by}
use Rattle.crq_rule.specs.Parts.{IsEvent, IsOn}
use Rattle.crq_rule.specs.ListParts.{row_word}
use Rattle.crq_rule.specs.Helping.{is_mov, help_after, helped_by}
use Rattle.crq_rule.specs.HistoryParts.{EndsInBegin}
use Rattle.crq_rule.specs.Ranks.{rank, first_head_of, Shape, shape_of, bucket, first_tick, head_for, IsOpen, tells_of, list_by, list_in, head_of, Cell, at_head, at_row, link_at, heads_set, links_set, after_cell, without_row}

-- the word of an event at a place of its row
abbrev pub event_word : Event → ℕ → ℕ
event_word e n = row_word (record { generation = 0; row = 0; mark = Val }) 0 e n

-- Write: what is written into a row in hand

pub data Content : Type 0 where
  new_link : Link → Content
  no_twin : Content
  new_time : ℕ → ℕ → Content
  new_source : ℕ → Content
  new_sequence : ℕ → Content
  new_load : ℕ → Content

abbrev pub IsContent : Content → Type 0
IsContent (new_link l) = IsLink l
IsContent no_twin = Unit {0}
IsContent (new_time t d) = (t < 2 ^ 32) × (d < 2 ^ 32)
IsContent (new_source s) = s < 2 ^ 32
IsContent (new_sequence n) = n < 2 ^ 64
IsContent (new_load n) = n < 2 ^ 64

-- the number of its place in the row, its word, and the place of that word
abbrev pub content_number : Content → ℕ
content_number (new_link l) = 0
content_number no_twin = 1
content_number (new_time t d) = 2
content_number (new_source s) = 3
content_number (new_sequence n) = 4
content_number (new_load n) = 5

abbrev pub content_word : Content → ℕ
content_word (new_link l) = link_word l
content_word no_twin = 0
content_word (new_time t d) = t * 2 ^ 32 + d
content_word (new_source s) = s
content_word (new_sequence n) = n
content_word (new_load n) = n

abbrev pub row_place : ℕ → ℕ → Place
row_place r zero = link r
row_place r (suc zero) = twin r
row_place r (suc (suc zero)) = time r
row_place r (suc (suc (suc zero))) = source r
row_place r (suc (suc (suc (suc zero)))) = sequence r
row_place r (suc (suc (suc (suc (suc n))))) = load r

abbrev pub link_after : Content → Link → Link
link_after (new_link l) old = l
link_after _ old = old

abbrev pub twin_after : Content → ℕ → ℕ
twin_after no_twin old = 0
twin_after _ old = old

abbrev pub event_after : Content → Event → Event
event_after (new_time t d) e = record e { time = t; dst = d }
event_after (new_source s) e = record e { src = s }
event_after (new_sequence n) e = record e { seq = n }
event_after (new_load n) e = record e { load = n }
event_after _ e = e

-- without what was written at this place of the row before
abbrev pub unwritten : ℕ → ℕ → List Wrote → List Wrote
unwritten r p [] = []
unwritten r p (x ∷ xs) = cond ((x.row == r) && (x.place == p)) (unwritten r p xs) (x ∷ unwritten r p xs)

abbrev pub wrote : ℕ → ℕ → ℕ → List Wrote → List Wrote
wrote r p w xs = record { row = r; place = p; word = w } ∷ unwritten r p xs

abbrev pub writes : ℕ → ℕ → ℕ → Caller → Caller
writes r p w c = record c { written = wrote r p w c.written }

abbrev pub written_at : Core → ℕ → ℕ → Content → Core
written_at c j r x = record c {
  words = record c.words {
    link = put c.words.link r (link_after x (c.words.link r));
    twin = put c.words.twin r (twin_after x (c.words.twin r));
    event = put c.words.event r (event_after x (c.words.event r));
  };
  written = put c.written j (wrote r (content_number x) (content_word x) (c.written j));
}

-- Walk: the link l of the cell was found, and where it names a row, that row holds the event e

abbrev pub is_final : Mark → Bool
is_final Val = false
is_final Inv = false
is_final Mov = true
is_final Del = true

-- a take goes past a row with this mark
abbrev pub is_passed : Mark → Bool
is_passed Val = false
is_passed Inv = true
is_passed Mov = false
is_passed Del = true

abbrev pub is_val : Mark → Bool
is_val Val = true
is_val Inv = false
is_val Mov = false
is_val Del = false

abbrev pub is_inv : Mark → Bool
is_inv Val = false
is_inv Inv = true
is_inv Mov = false
is_inv Del = false

-- a cell with this mark may be followed by another row
abbrev pub is_cell : Mark → Bool
is_cell Val = true
is_cell Inv = true
is_cell Mov = false
is_cell Del = false

-- the frozen head of which the row that the cell's link l names is the first
abbrev pub front_of : Cell → Link → Option ℕ
front_of (at_head q) l = cond (is_mov l.mark) (Some q) None
front_of (at_row r) l = None

abbrev pub new_stand : Cell → Link → Event → Stand
new_stand cell l e = record { row = l.row; event = e; generation = l.generation; last = None; twin = None; valid = false; front = front_of cell l }

abbrev pub next_stand : Cell → Link → Event → List Stand
next_stand cell l e = cond (l.row == 0) [] (new_stand cell l e ∷ [])

-- the row r is the copy that was found
abbrev pub is_twin : ℕ → Option ℕ → Bool
is_twin r None = false
is_twin r (Some t) = t == r

-- the stands on the row r and on a row that it copies alone
abbrev pub only_row : ℕ → List Stand → List Stand
only_row r [] = []
only_row r (s ∷ ss) = cond ((s.row == r) || is_twin r s.twin) (s ∷ only_row r ss) (only_row r ss)

-- the link of the row r was found to be l
abbrev pub noted_stand : Link → Stand → Stand
noted_stand l s = record s { last = cond (is_final l.mark) (Some l) s.last; valid = cond (is_inv l.mark) s.valid true }

abbrev pub noted : ℕ → Link → List Stand → List Stand
noted r l [] = []
noted r l (s ∷ ss) = cond (s.row == r) (noted_stand l s) s ∷ noted r l ss

-- What a walk is for: a row's place or dead rows, or a take, which walks the list of current's bucket, or all lists in a search
pub data Aim : Type 0 where
  no_take : Aim
  in_bucket : Aim
  in_search : Aim

abbrev pub is_take : Aim → Bool
is_take no_take = false
is_take in_bucket = true
is_take in_search = true

-- a take leaves all other stands behind, and so does a caller that found a row that may be followed by another
abbrev pub kept_stands : Bool → ℕ → Link → List Stand → List Stand
kept_stands takes r l ss = cond (takes || is_cell l.mark) (only_row r ss) ss

-- but a search keeps those on the least row that it has come by
abbrev pub least_stands : Option (ℕ × Event) → List Stand → List Stand
least_stands None ss = []
least_stands (Some t) ss = only_row t.0 ss

abbrev pub search_stands : Option Walk → List Stand → List Stand
search_stands None ss = []
search_stands (Some w) ss = least_stands w.least ss

-- what the caller stands on, where w is its walk after the step
abbrev pub stands_after : Cell → Aim → Option Walk → Link → Event → List Stand → List Stand
stands_after (at_head q) aim w l e ss = search_stands w ss ++ next_stand (at_head q) l e
stands_after (at_row r) aim w l e ss = search_stands w ss ++ (next_stand (at_row r) l e ++ noted r l (kept_stands (is_take aim) r l ss))

-- a walk that was at the row r, whose link was found to be l
abbrev pub walked : Link → Option Walk → Option Walk
walked l None = None
walked l (Some w) = Some (cond (is_passed l.mark) (record w { at = l.row }) w)

-- the lesser of two rows with their events, by their places in a list
abbrev pub lesser : Option (ℕ × Event) → Option (ℕ × Event) → Option (ℕ × Event)
lesser None b = b
lesser (Some a) None = Some a
lesser (Some a) (Some b) = cond (nat_lt (rank b.1 b.0) (rank a.1 a.0)) (Some b) (Some a)

-- the row, with the event that the caller knows it to hold
abbrev pub stood_at : ℕ → List Stand → Option (ℕ × Event)
stood_at r [] = None
stood_at r (s ∷ ss) = cond (s.row == r) (Some (r, s.event)) (stood_at r ss)

-- the least row that a search has come by, if it counts the one at which it stands
abbrev pub best_of : Walk → List Stand → Option (ℕ × Event)
best_of w ss = lesser w.least (cond (w.at == 0) None (stood_at w.at ss))

-- a search begins at the first head, and at the next one it goes on with what it has come by
abbrev pub least_after : Control → ℕ → Option Walk → List Stand → Option (ℕ × Event)
least_after x q None ss = None
least_after x q (Some w) ss = cond (q == first_head_of x.generation) None (best_of w ss)

-- the bucket of current, as a take saw it
abbrev pub bucket_seen : Sight → ℕ
bucket_seen s = bucket (shape_of s.table) s.current.tick

-- the walk of a take that begins at this head
abbrev pub new_walk : Aim → ℕ → Sight → Link → Option Walk → List Stand → Option Walk
new_walk no_take q s l w ss = None
new_walk in_bucket q s l w ss = Some (record { head = q; at = l.row; bucket = Some (bucket_seen s); least = None })
new_walk in_search q s l w ss = Some (record { head = q; at = l.row; bucket = None; least = least_after s.table q w ss })

-- it begins at a head that is present and of the table that the take saw
abbrev pub begins_walk : Sight → Link → Bool
begins_walk s l = is_val l.mark && (l.generation == s.table.generation)

abbrev pub head_walk : Aim → ℕ → Option Sight → Link → Option Walk → List Stand → Option Walk
head_walk aim q None l w ss = None
head_walk aim q (Some s) l w ss = cond (begins_walk s l) (new_walk aim q s l w ss) None

abbrev pub walk_after : Cell → Aim → Option Sight → Link → Option Walk → List Stand → Option Walk
walk_after (at_head q) aim s l w ss = head_walk aim q s l w ss
walk_after (at_row r) aim s l w ss = cond (is_take aim) (walked l w) None

-- a search reads the table with its first head, when the history had m entries
abbrev pub read_from : ℕ → Option Sight → ℕ → ℕ → ℕ
read_from q None m read = read
read_from q (Some s) m read = cond (q == first_head_of s.table.generation) m read

abbrev pub read_after : Cell → Aim → Option Sight → ℕ → ℕ → ℕ
read_after (at_head q) in_search s m read = read_from q s m read
read_after (at_head q) no_take s m read = read
read_after (at_head q) in_bucket s m read = read
read_after (at_row r) aim s m read = read

-- the take has seen the table of the control word x
abbrev pub HasSeen : Control → Option Sight → Type 0
HasSeen x s = (y : Current) × (s ≡ Some (record { table = x; current = y }))

-- the dead row d is of the cell's list, and stands after the cell, or at it
abbrev pub is_beyond : Option Control → Cell → List Stand → CutDebt → Bool
is_beyond x (at_head q) ss d = d.head == q
is_beyond None (at_row r) ss d = false
is_beyond (Some x) (at_row r) [] d = false
is_beyond (Some x) (at_row r) (s ∷ ss) d = cond (s.row == r) (tells_of x d.generation && ((list_by x d.generation s.event == d.head) && nat_le (rank s.event r) (rank d.event d.row))) (is_beyond (Some x) (at_row r) ss d)

-- and the row that the cell's link l names comes after it: so the dead row isn't listed any more
abbrev pub is_past : Option Control → Cell → List Stand → Link → Event → CutDebt → Bool
is_past x cell ss l e d = is_cell l.mark && ((l.generation == d.generation) && (is_beyond x cell ss d && ((l.row == 0) || nat_lt (rank d.event d.row) (rank e l.row))))

-- another row is the first of the list of a front
abbrev pub is_other_front : Cell → Link → CutDebt → Bool
is_other_front (at_head q) l d = d.front && ((d.head == q) && cond (l.row == d.row) false true)
is_other_front (at_row r) l d = false

-- so it isn't owed
abbrev pub relieved : Option Control → Cell → List Stand → Link → Event → Option CutDebt → Option CutDebt
relieved x cell ss l e None = None
relieved x cell ss l e (Some d) = cond (is_past x cell ss l e d || is_other_front cell l d) None (Some d)

abbrev pub relieved_names : Option Control → Cell → List Stand → Link → Event → DeadNames → DeadNames
relieved_names x cell ss l e names = moved_up (relieved x cell ss l e names.first) (relieved x cell ss l e names.second)

-- The sweep, which each walk but that of a take takes on: at a present head it begins anew, and at a present row up to which it has come it goes on to the row that is named, or ends. A caller has swept a list with that last step

-- the row r is of the sweep's list, and doesn't come after its place
abbrev pub is_passing : Option Control → ℕ → List Stand → Sweep → Bool
is_passing None r ss s = false
is_passing (Some x) r [] s = false
is_passing (Some x) r (t ∷ ss) s = cond (t.row == r) (tells_of x t.generation && ((list_by x t.generation t.event == s.head) && nat_le (rank t.event r) s.rank)) (is_passing (Some x) r ss s)

-- the head of the list whose sweep the cell takes on
abbrev pub swept_head : Option Control → Cell → List Stand → Option Sweep → Option ℕ
swept_head x (at_head q) ss o = Some q
swept_head x (at_row r) ss None = None
swept_head x (at_row r) ss (Some s) = cond (is_passing x r ss s) (Some s.head) None

abbrev pub taken_on : Aim → Option Control → Cell → List Stand → Option Sweep → Option ℕ
taken_on aim x cell ss o = cond (is_take aim) None (swept_head x cell ss o)

abbrev pub sweep_on : Option ℕ → Link → Event → Option Sweep → Option Sweep
sweep_on None l e o = o
sweep_on (Some q) l e o = cond (is_val l.mark) (cond (l.row == 0) None (Some (record { head = q; rank = rank e l.row }))) o

abbrev pub clean_on : Option ℕ → Link → List ℕ → List ℕ
clean_on None l qs = qs
clean_on (Some q) l qs = cond (is_val l.mark && (l.row == 0)) (q ∷ qs) qs

abbrev pub walks : Cell → Aim → Link → Event → Caller → Caller
walks cell aim l e p = record p {
  position = record { rows = stands_after cell aim (walk_after cell aim p.sight l p.walk p.position.rows) l e p.position.rows; old = p.position.old };
  walk = walk_after cell aim p.sight l p.walk p.position.rows;
  sweep = sweep_on (taken_on aim p.found.control cell p.position.rows p.sweep) l e p.sweep;
  clean = clean_on (taken_on aim p.found.control cell p.position.rows p.sweep) l p.clean;
  debts = renamed p.debts (relieved_names p.found.control cell p.position.rows l e (names_of p.debts));
  help = helped_by p.found.control p.number cell l p.help;
}

abbrev pub walked_from : Core → ℕ → Cell → Aim → Core
walked_from c j cell aim = let l = link_at c.words.head c.words.link cell in let e = c.words.event l.row in record c {
  rows = put c.rows j (stands_after cell aim (walk_after cell aim (c.sight j) l (c.walk j) (c.rows j)) l e (c.rows j));
  read = put c.read j (read_after cell aim (c.sight j) (length c.history) (c.read j));
  walk = put c.walk j (walk_after cell aim (c.sight j) l (c.walk j) (c.rows j));
  sweep = put c.sweep j (sweep_on (taken_on aim (c.found j).control cell (c.rows j) (c.sweep j)) l e (c.sweep j));
  clean = put c.clean j (clean_on (taken_on aim (c.found j).control cell (c.rows j) (c.sweep j)) l (c.clean j));
  named = put c.named j (relieved_names (c.found j).control cell (c.rows j) l e (c.named j));
  help = put c.help j (helped_by (c.found j).control j cell l (c.help j));
}

-- Link: the row r, which holds the event e, comes after the cell, whose link was l. The event is put, and its caller owes it to be settled

abbrev pub unhanded : ℕ → List ℕ → List ℕ
unhanded = without_row

-- without what was written into the row
abbrev pub forgotten : ℕ → List Wrote → List Wrote
forgotten r [] = []
forgotten r (x ∷ xs) = cond (x.row == r) (forgotten r xs) (x ∷ forgotten r xs)

-- the debt of an event that is linked in a table of this generation and shape
abbrev pub owed_event : ℕ → Shape → Event → SettleDebt
owed_event g s e = record { event = e; generation = g; shift = s.shift }

abbrev pub links : Control → ℕ → Event → Caller → Caller
links x r e p = record p { hand = unhanded r p.hand; written = forgotten r p.written; base = None; own = p.own ++ Put p.number e ∷ []; debts = record p.debts { settle = Some (owed_event x.generation (shape_of x) e) } }

abbrev pub linked : Core → ℕ → Cell → Link → ℕ → Event → Core
linked c j cell l r e = let q = list_in c.shape l.generation e in let new : Link = record l { row = r } in record c {
  words = record c.words { head = heads_set c.words.head cell new; link = links_set c.words.link cell new };
  history = c.history ++ Put j e ∷ [];
  own = put c.own j (c.own j ++ Put j e ∷ []);
  settling = put c.settling j (Some (owed_event l.generation (c.shape l.generation) e));
  chain = put c.chain q (after_cell cell r (c.chain q));
  holding = put c.holding r (listed q);
  hand = put c.hand j (unhanded r (c.hand j));
  base = put c.base j None;
  written = put c.written j (forgotten r (c.written j));
}

-- Begin: the control word x was found

abbrev pub begins : Control → Caller → Caller
begins x p = record p { position = record { rows = p.position.rows; old = None }; own = p.own ++ Begin p.number ∷ []; base = None; refused = []; sight = None; walk = None; sweep = None; clean = []; found = record p.found { control = Some x }; help = help_after x p.help }

abbrev pub begun_by : Core → ℕ → Core
begun_by c j = record c {
  history = c.history ++ Begin j ∷ [];
  own = put c.own j (c.own j ++ Begin j ∷ []);
  begun = put c.begun j (length c.history);
  base = put c.base j None;
  refused = put c.refused j [];
  sweep = put c.sweep j None;
  clean = put c.clean j [];
  sight = put c.sight j None;
  walk = put c.walk j None;
  old = put c.old j None;
  found = put c.found j (record (c.found j) { control = Some c.words.control });
  help = put c.help j (help_after c.words.control (c.help j));
}

-- ControlLoad: the control word x was found

abbrev pub loads_control : Control → Caller → Caller
loads_control x p = record p { found = record p.found { control = Some x }; help = help_after x p.help }

abbrev pub control_loaded : Core → ℕ → Core
control_loaded c j = record c { found = put c.found j (record (c.found j) { control = Some c.words.control }); help = put c.help j (help_after c.words.control (c.help j)) }

-- Mark: the row r, which holds the event e, is dead from now on, and its event taken

abbrev pub cut_debt : Control → ℕ → Event → CutDebt
cut_debt x r e = record { generation = x.generation; head = head_of x e; event = e; row = r; front = false }

-- the same for a row of the table of generation g
abbrev pub name_in : (ℕ → Shape) → ℕ → ℕ → Event → CutDebt
name_in shape g r e = record { generation = g; head = list_in shape g e; event = e; row = r; front = false }

abbrev pub marks : Control → ℕ → Event → Caller → Caller
marks x r e p = record p { own = p.own ++ Take p.number e ∷ []; walk = None; debts = record p.debts { cut = Some (cut_debt x r e) } }

abbrev pub marked : Core → ℕ → ℕ → Event → Core
marked c j r e = record c {
  words = record c.words { link = put c.words.link r (record (c.words.link r) { mark = Del }) };
  history = c.history ++ Take j e ∷ [];
  own = put c.own j (c.own j ++ Take j e ∷ []);
  walk = put c.walk j None;
  named = put c.named j (record (c.named j) { first = Some (name_in c.shape (c.words.link r).generation r e) });
}

-- Cut: the dead row x, whose last link is l, leaves the list behind the cell

abbrev pub without_stand : ℕ → List Stand → List Stand
without_stand r [] = []
without_stand r (s ∷ ss) = cond (s.row == r) (without_stand r ss) (s ∷ without_stand r ss)

-- the row x isn't owed any more
abbrev pub unnamed : ℕ → Option CutDebt → Option CutDebt
unnamed x None = None
unnamed x (Some d) = cond (d.row == x) None (Some d)

abbrev pub unnamed_row : ℕ → DeadNames → DeadNames
unnamed_row x names = moved_up (unnamed x names.first) (unnamed x names.second)

abbrev pub cuts : ℕ → Caller → Caller
cuts x p = record p {
  cut = Some (record { row = x; tags = [] });
  walk = None;
  position = record p.position { rows = without_stand x p.position.rows };
  debts = renamed p.debts (unnamed_row x (names_of p.debts));
}

abbrev pub cut_from : Core → ℕ → Cell → ℕ → Link → Core
cut_from c j cell x l = let q = list_in c.shape (c.words.link x).generation (c.words.event x) in let new : Link = record (link_at c.words.head c.words.link cell) { row = l.row } in record c {
  words = record c.words { head = heads_set c.words.head cell new; link = links_set c.words.link cell new };
  chain = put c.chain q (without_row x (c.chain q));
  holding = put c.holding x (cut_by j);
  cut = put c.cut j (Some (record { row = x; tags = [] }));
  walk = put c.walk j None;
  rows = put c.rows j (without_stand x (c.rows j));
  named = put c.named j (unnamed_row x (c.named j));
}

-- Miss

abbrev pub misses : ℕ → Control → Caller → Caller
misses limit x p = record p { own = p.own ++ Miss p.number limit ∷ []; walk = None; found = record p.found { control = Some x }; help = help_after x p.help }

abbrev pub missed : Core → ℕ → ℕ → Core
missed c j limit = record c {
  history = c.history ++ Miss j limit ∷ [];
  own = put c.own j (c.own j ++ Miss j limit ∷ []);
  walk = put c.walk j None;
  found = put c.found j (record (c.found j) { control = Some c.words.control });
  help = put c.help j (help_after c.words.control (c.help j));
}

-- Conditions

-- the caller stands on the row
abbrev pub StandsOn : List Stand → ℕ → Event → Type 0
StandsOn ss r e = (s : Stand) × In s ss × (s.row ≡ r) × (s.event ≡ e)

-- a head, or a row on which the caller stands
abbrev pub MayWalk : List Stand → Cell → Type 0
MayWalk ss (at_head q) = IsHead q
MayWalk ss (at_row r) = (e : Event) × StandsOn ss r e

-- the head is the next one of a search: the first of the table, or the one behind that of its walk
abbrev pub IsNextHead : Control → Option Walk → ℕ → Type 0
IsNextHead x w q = (q ≡ first_head_of x.generation) ⊎ ((y : Walk) × (w ≡ Some y) × (y.bucket ≡ None) × (q ≡ y.head + 1) × IsOpen x q)

-- A walk of a take begins at the head of the bucket of current, as the take saw it, or in a search at the next head; and it goes on from its row
abbrev pub MaySeek : Option Sight → Option Walk → Cell → Aim → Type 0
MaySeek s w cell no_take = Unit {0}
MaySeek s w (at_head q) in_bucket = (y : Sight) × (s ≡ Some y) × (q ≡ head_for y.table.generation (shape_of y.table) (bucket_seen y))
MaySeek s w (at_head q) in_search = (y : Sight) × (s ≡ Some y) × IsNextHead y.table w q
MaySeek s w (at_row r) in_bucket = (x : Walk) × (w ≡ Some x) × (x.at ≡ r)
MaySeek s w (at_row r) in_search = (x : Walk) × (w ≡ Some x) × (x.at ≡ r)

-- the words of the row are those of the event, and it is to be followed by the row that the link l names, with this mark of its own
pub record IsWritten (mark : Mark) (written : List Wrote) (r : ℕ) (e : Event) (l : Link) : Type 0 where
  pub link_is : In (record { row = r; place = 0; word = link_word (record l { mark = mark }) }) written
  pub twin_is : In (record { row = r; place = 1; word = 0 }) written
  pub time_is : In (record { row = r; place = 2; word = e.time * 2 ^ 32 + e.dst }) written
  pub source_is : In (record { row = r; place = 3; word = e.src }) written
  pub sequence_is : In (record { row = r; place = 4; word = e.seq }) written
  pub load_is : In (record { row = r; place = 5; word = e.load }) written

-- the row r with the event e comes after the cell, where this says of which list an event is
abbrev pub ComesAfter : (Event → ℕ) → List Stand → Cell → ℕ → Event → Type 0
ComesAfter list ss (at_head q) r e = IsHead q × (list e ≡ q)
ComesAfter list ss (at_row p) r e = (f : Event) × StandsOn ss p f × (rank f p < rank e r) × (list f ≡ list e)

-- and before the row n, if there is one
abbrev pub ComesBefore : List Stand → ℕ → ℕ → Event → Type 0
ComesBefore ss n r e = (n ≡ 0) ⊎ ((f : Event) × StandsOn ss n f × (rank e r < rank f n))

pub record MayLink (n : ℕ) (x : Control) (cell : Cell) (l : Link) (r : ℕ) (e : Event) (p : Caller) : Type 0 where
  pub on : IsOn p.guard
  pub settled : p.debts.settle ≡ None
  pub permit : p.permit ≡ true
  pub control : p.found.control ≡ Some x
  pub in_hand_is : In r p.hand
  pub event : IsEvent e
  pub expected : IsLink l × (is_cell l.mark ≡ true) × (l.generation ≡ x.generation)
  pub written : IsWritten Val p.written r e l
  pub after : ComesAfter (head_of x) p.position.rows cell r e
  pub before : ComesBefore p.position.rows l.row r e
  pub fresh : IsFresh n p.deal.history p.own p.deal.span p.number e

-- the head is the last one of the table
abbrev pub IsLastHead : Control → ℕ → Type 0
IsLastHead x q = q + 1 ≡ first_head_of x.generation + 2 ^ x.log

-- the walk found the row r with the event e to be the first: of its bucket, where it stands there, or of all lists, where it walked them all and that is the least
abbrev pub FoundFirst : Option ℕ → Control → List Stand → Walk → ℕ → Event → Type 0
FoundFirst (Some b) x ss w r e = (w.at ≡ r) × (bucket (shape_of x) e.time ≤ b)
FoundFirst None x ss w r e = IsLastHead x w.head × (best_of w ss ≡ Some (r, e))

-- a take that began may mark the row that its walk found to be the first
pub record MayMark (x : Control) (r : ℕ) (e : Event) (p : Caller) : Type 0 where
  pub began : EndsInBegin p.own
  pub sight : HasSeen x p.sight
  pub on : StandsOn p.position.rows r e
  pub walks : (w : Walk) × (p.walk ≡ Some w) × FoundFirst w.bucket x p.position.rows w r e
  pub free : p.debts.cut ≡ None

-- a caller that has no cut row may cut a row behind a cell, when it found that row dead
pub record MayCut (cell : Cell) (x : ℕ) (l : Link) (p : Caller) : Type 0 where
  pub none : p.cut ≡ None
  pub cell_is : MayWalk p.position.rows cell
  pub on : (s : Stand) × In s p.position.rows × (s.row ≡ x) × (s.last ≡ Some l)
  pub dead : l.mark ≡ Del

-- the walk is past the bucket b: at its list's end, or at a row of a later bucket
abbrev pub IsPast : Shape → ℕ → Walk → List Stand → Type 0
IsPast sh b w ss = (w.at ≡ 0) ⊎ ((e : Event) × StandsOn ss w.at e × (b < bucket sh e.time))

-- the row, if there is one, isn't below the limit
abbrev pub IsNotBelow : Option (ℕ × Event) → ℕ → Type 0
IsNotBelow None limit = Unit {0}
IsNotBelow (Some t) limit = limit ≤ t.1.time

-- the walk found nothing below the limit: the bucket's first row isn't below it, or the walk is past the last bucket that there is; or the search walked all lists, and their least row isn't below it
abbrev pub EndedWalk : Option ℕ → Control → List Stand → Walk → ℕ → Type 0
EndedWalk (Some b) x ss w limit = ((e : Event) × StandsOn ss w.at e × (bucket (shape_of x) e.time ≤ b) × (limit ≤ e.time)) ⊎ (IsPast (shape_of x) b w ss × (2 ^ 32 ≤ first_tick (shape_of x) (b + 1)))
EndedWalk None x ss w limit = IsLastHead x w.head × IsNotBelow (best_of w ss) limit

-- a take that began may miss where current, as it saw it, isn't below the limit, or where its walk found nothing below that
pub record MayMiss (limit : ℕ) (p : Caller) : Type 0 where
  pub began : EndsInBegin p.own
  pub sight : Sight
  pub sees : p.sight ≡ Some sight
  pub nothing : (limit ≤ sight.current.tick) ⊎ ((w : Walk) × (p.walk ≡ Some w) × EndedWalk w.bucket sight.table p.position.rows w limit)
