-- Taking the first present event of a bucket's list or of all lists: what is known between two steps, and what each step tells.
use Rattle.std.specs.Prelude.{◌≡◌, ◌≢◌, ◌⊎◌, ℕ, ◌+◌, ◌-◌, ◌*◌, ◌^◌, ◌<◌, ◌≤◌, ◌==◌, cond, nat_lt, nat_le, Bool, true, false, List, [], ◌∷◌, ◌++◌, length, drop, Option, Some, None}
use Rattle.crq_base.specs.declared.event.Event.{Event}
use Rattle.crq_base.specs.declared.entry.Entry.TheVariants.{Take}
use Rattle.crq_base.specs.declared.kinds.StepKind.{StepKind}
use Rattle.crq_base.specs.declared.kinds.StepKind.TheVariants.{Walk as WalkKind, Read as ReadKind, Mark as MarkKind}
use Rattle.crq_base.specs.declared.words.Link.{Link}
use Rattle.crq_base.specs.declared.words.Mark.TheVariants.{Val}
use Rattle.crq_base.specs.declared.words.Control.{Control}
use Rattle.crq_base.specs.declared.words.Current.{Current}
use Rattle.crq_base.specs.Words.{IsLink, link_word}
use Rattle.crq_rule.specs.declared.layout.Layout.{Layout}
use Rattle.crq_rule.specs.declared.pass.Pass.{Pass}
use Rattle.crq_rule.specs.declared.pass.Table.{Table}
use Rattle.crq_rule.specs.declared.view.Made.{Made}
use Rattle.crq_rule.specs.declared.view.Walk.{Walk}
use Rattle.crq_rule.specs.declared.view.Caller.{Caller}
use Rattle.crq_rule.specs.Places.{index, current as current_place, link as link_place, IsHead}
use Rattle.crq_rule.specs.Parts.{IsOn}
use Rattle.crq_rule.specs.Ranks.{rank, bucket, shape_of, first_head_of, head_for, head_of, IsOpen, at_head, at_row, cell_place}
use Rattle.crq_rule.specs.HistoryParts.{EndsInBegin}
use Rattle.crq_rule.specs.ListKinds.{StandsOn, MayMiss, IsPast, FoundFirst, best_of, cut_debt}
use Rattle.crq_rows.specs.Passes.{caller, IsPassOf}
use Rattle.crq_list.specs.declared.parts.ListAt.{ListAt}
use Rattle.crq_list.specs.declared.parts.Place.{Place}
use Rattle.crq_list.specs.declared.parts.Place.TheVariants.{Bucket, Search}
use Rattle.crq_list.specs.declared.parts.Progress.{Progress}
use Rattle.crq_list.specs.declared.parts.Progress.TheVariants.{More, Done}
use Rattle.crq_list.specs.declared.parts.Spot.TheVariants.{Head}
use Rattle.crq_list.specs.declared.cut.CutOp.{CutOp}
use Rattle.crq_list.specs.declared.seek.SeekState.TheVariants.{Load as Begins}
use Rattle.crq_list.specs.declared.take.MarkEnd.{MarkEnd}
use Rattle.crq_list.specs.declared.take.MarkEnd.TheVariants.{Marked, Beyond, Nothing, Lost, Frozen}
use Rattle.crq_list.specs.declared.take.Candidate.{Candidate}
use Rattle.crq_list.specs.declared.take.TakeOp.{TakeOp}
use Rattle.crq_list.specs.declared.take.TakeState.{TakeState}
use Rattle.crq_list.specs.declared.take.TakeState.TheVariants.{Load, Walking, Reading, Marking}
use Rattle.crq_list.specs.Known.{is_exchange, Works, turns_after, last_known}
use Rattle.crq_list.specs.Stretches.{Stretch}
use Rattle.crq_list.specs.Operations.{Operation}
use Rattle.crq_list.specs.Sweeps.{SweepsTo, MetFrozen}
use Rattle.crq_list.specs.Cutting.{IsCutting, head_link, cut_begins}
use Rattle.crq_list.specs.Spots.{rank_at, StandsIn, SweptPast}

-- Heads and rows

-- the head at which a take begins: that of its bucket, or the table's first one
abbrev pub head_at : Control → Place → ℕ
head_at x (Bucket b) = head_for x.generation (shape_of x) b
head_at x Search = first_head_of x.generation

-- the last head of the table
abbrev pub last_head : Control → ℕ
last_head x = first_head_of x.generation + (2 ^ x.log - 1)

-- the bucket up to which a walk of the take goes; a search has none
abbrev pub bucket_in : Place → Option ℕ
bucket_in (Bucket b) = Some b
bucket_in Search = None

-- the row and the event of a candidate
abbrev pub row_of : Option Candidate → Option (ℕ × Event)
row_of None = None
row_of (Some c) = Some (c.row, c.event)

-- the lesser of a candidate, if there is one, and the next, by their places in a list
abbrev pub lesser_of : Option Candidate → Candidate → Candidate
lesser_of None c = c
lesser_of (Some a) c = cond (nat_lt (rank c.event c.row) (rank a.event a.row)) c a

-- What follows, and what is answered

abbrev pub take_at : TakeOp → TakeState → TakeOp
take_at op state = record op { state = state }

-- the search walked all lists, with this least row
abbrev pub search_ends : TakeOp → Option Candidate → TakeOp × Progress MarkEnd
search_ends op None = (take_at op Load, Done Nothing)
search_ends op (Some c) = cond (nat_le op.limit c.event.time) (take_at op Load, Done (Beyond c.event)) (take_at op (Marking c.row c.link c.event 0), More)

-- the search walked the list at which it is, and its least row is this one
abbrev pub next_list : TakeOp → Option Candidate → TakeOp × Progress MarkEnd
next_list op best = cond (op.head == last_head op.found) (search_ends op best) (record op { head = op.head + 1; best = best; state = Load }, More)

-- the list was walked to its end
abbrev pub list_ends : Place → TakeOp → TakeOp × Progress MarkEnd
list_ends (Bucket b) op = (take_at op Load, Done Nothing)
list_ends Search op = next_list op op.best

-- a head or row was passed, and the list's head was found to name the row f
abbrev pub goes_past : TakeOp → Link → ℕ → TakeOp × Progress MarkEnd
goes_past op l f = cond (l.row == 0) (list_ends op.place op) (take_at op (Walking l.row f), More)

-- the first present row r was found, with the link l and the event e
abbrev pub row_read : Place → TakeOp → ℕ → Link → Event → ℕ → TakeOp × Progress MarkEnd
row_read (Bucket b) op r l e f = cond (nat_lt b (bucket (shape_of op.found) e.time)) (take_at op Load, Done Nothing) (cond (nat_le op.limit e.time) (take_at op Load, Done (Beyond e)) (take_at op (Marking r l e f), More))
row_read Search op r l e f = next_list op (Some (lesser_of op.best (record { row = r; link = l; event = e })))

-- the list at which the take is
abbrev pub list_at : TakeOp → ListAt
list_at op = record { generation = op.found.generation; head = op.head }

-- the list of an event that was taken, and the cut of its row, where the head of a bucket's list was found to name the row f
abbrev pub list_taken : TakeOp → Event → ListAt
list_taken op e = record { generation = op.found.generation; head = head_of op.found e }

abbrev pub cut_in : Place → TakeOp → ℕ → Event → ℕ → CutOp
cut_in (Bucket b) op r e f = record { sought = record { list = list_taken op e; target = Some (e, r) }; state = cut_begins (list_taken op e) r f; swept = f == r }
cut_in Search op r e f = record { sought = record { list = list_taken op e; target = Some (e, r) }; state = Begins (Head (head_of op.found e)); swept = false }

abbrev pub cut_of : TakeOp → ℕ → Event → ℕ → CutOp
cut_of op r e f = cut_in op.place op r e f

-- What is known between two steps

-- the row r, on which the caller stands with the event e, was found present with this link, and nothing else is known of that link since
pub record IsPresent (n : ℕ) (table : Table) (r : ℕ) (l : Link) (e : Event) (p : Caller) : Type 0 where
  pub some_row : 0 < r
  pub bits : IsLink l
  pub present : l.mark ≡ Val
  pub known : last_known (drop n p.made) (index table.start.layout (link_place r)) ≡ Some (link_word l)
  pub on : StandsOn p.position.rows r e

-- the least row of a search is of a list before the one at which the take is
pub record IsBest (n : ℕ) (table : Table) (x : Control) (head : ℕ) (c : Candidate) (p : Caller) : Type 0 where
  pub present : IsPresent n table c.row c.link c.event p
  pub earlier : head_of x c.event < head

abbrev pub KeepsBest : ℕ → Table → Control → TakeOp → Caller → Type 0
KeepsBest n table x op p = (c : Candidate) → op.best ≡ Some c → IsBest n table x op.head c p

-- the walk of the take is at the row r, which is of the list of this head
pub record IsWalkAt (x : Control) (place : Place) (head : ℕ) (best : Option Candidate) (r : ℕ) (p : Caller) : Type 0 where
  pub walk : Walk
  pub walks : p.walk ≡ Some walk
  pub head_is : walk.head ≡ head
  pub bucket : walk.bucket ≡ bucket_in place
  pub least : walk.least ≡ row_of best
  pub at : walk.at ≡ r
  pub some_row : 0 < r
  pub event : Event
  pub on : StandsIn p.position.rows r event x.generation
  pub belongs : head_of x event ≡ head

-- a search goes on at this head: its walk of the list before that is over, and the least row is known
pub record GoesOnAt (head : ℕ) (best : Option Candidate) (p : Caller) : Type 0 where
  pub walk : Walk
  pub walks : p.walk ≡ Some walk
  pub bucket : walk.bucket ≡ None
  pub next : head ≡ walk.head + 1
  pub least : best_of walk p.position.rows ≡ row_of best

-- the take is to load this head
abbrev pub IsAtHead : Control → Place → ℕ → Option Candidate → Caller → Type 0
IsAtHead x (Bucket b) head best p = (head ≡ head_for x.generation (shape_of x) b) × (best ≡ None)
IsAtHead x Search head best p = ((head ≡ first_head_of x.generation) × (best ≡ None)) ⊎ ((first_head_of x.generation < head) × GoesOnAt head best p)

-- the words of the row's event that were read, before this place, are those of `read`
abbrev pub IsRead : ℕ → Event → Event → Type 0
IsRead place read e = (2 < place → (read.time ≡ e.time) × (read.dst ≡ e.dst)) × (3 < place → read.src ≡ e.src) × (4 < place → read.seq ≡ e.seq)

abbrev pub IsTakingAt : ℕ → Table → Control → TakeOp → TakeState → Caller → Type 0
IsTakingAt n table x op Load p = KeepsBest n table x op p × IsAtHead x op.place op.head op.best p
IsTakingAt n table x op (Walking r f) p = KeepsBest n table x op p × IsWalkAt x op.place op.head op.best r p
IsTakingAt n table x op (Reading r l place read f) p = KeepsBest n table x op p × ((w : IsWalkAt x op.place op.head op.best r p) × IsPresent n table r l w.event p × IsRead place read w.event) × (2 ≤ place) × (place < 6)
IsTakingAt n table x op (Marking r l e f) p = IsPresent n table r l e p × ((w : Walk) × (p.walk ≡ Some w) × (w.bucket ≡ bucket_in op.place) × FoundFirst w.bucket x p.position.rows w r e) × (e.time < op.limit)

-- With these steps the head q, of a table of this generation, was last found to name the row f, and a sweep of its list came to that row
pub record NamesFirst (l : Layout) (generation q f : ℕ) (made : List Made) : Type 0 where
  pub bits : IsLink (head_link generation f)
  pub known : last_known made (index l (cell_place (at_head q))) ≡ Some (link_word (head_link generation f))
  pub swept : SweepsTo l (at_head q) made (at_row f)

-- so it was in a bucket, once the head is loaded; and if the row that was found present, which is of the table, is that one, then the list was swept past it
abbrev pub IsFirstKnown : ℕ → Layout → TakeOp → TakeState → Caller → Type 0
IsFirstKnown n l op Load p = Unit {0}
IsFirstKnown n l op (Walking r f) p = NamesFirst l op.found.generation op.head f (drop n p.made)
IsFirstKnown n l op (Reading r link place read f) p = NamesFirst l op.found.generation op.head f (drop n p.made) × (f ≡ r → (e : Event) → StandsOn p.position.rows r e → SweptPast n l op.head e r p)
IsFirstKnown n l op (Marking r link e f) p = NamesFirst l op.found.generation op.head f (drop n p.made) × (head_of op.found e ≡ op.head) × StandsIn p.position.rows r e op.found.generation × (f ≡ r → SweptPast n l op.head e r p)

-- nothing of that is known in a search
abbrev pub IsFirstIn : Place → ℕ → Layout → TakeOp → TakeState → Caller → Type 0
IsFirstIn (Bucket b) n l op state p = IsFirstKnown n l op state p
IsFirstIn Search n l op state p = Unit {0}

-- the bucket is that of current as the take saw it
abbrev pub IsOfCurrent : Control → Place → Current → Type 0
IsOfCurrent x (Bucket b) y = b ≡ bucket (shape_of x) y.tick
IsOfCurrent x Search y = Unit {0}

-- the take saw the table of the control word x, with a current of that bucket
abbrev pub SeesPlace : Control → Place → Caller → Type 0
SeesPlace x place p = (y : Current) × (p.sight ≡ Some (record { table = x; current = y })) × IsOfCurrent x place y

-- a caller that began and takes from a table that it saw, and owes no dead row
pub record IsTaking (n : ℕ) (table : Table) (x : Control) (op : TakeOp) (p : Caller) : Type 0 where
  pub counted : n ≤ length p.made
  pub on : IsOn p.guard
  pub began : EndsInBegin p.own
  pub control : p.found.control ≡ Some x
  pub control_is : op.found ≡ x
  pub is_head : IsHead op.head
  pub opened : IsOpen x op.head
  pub uncut : p.cut ≡ None
  pub free : p.debts.cut ≡ None
  pub sees : SeesPlace x op.place p
  pub first : IsFirstIn op.place n table.start.layout op op.state p
  pub at : IsTakingAt n table x op op.state p

abbrev pub taking_exchanges : TakeState → Bool
taking_exchanges (Marking r l e f) = true
taking_exchanges _ = false

-- the kind of its next step
abbrev pub take_kind : TakeState → StepKind
take_kind Load = WalkKind
take_kind (Walking r f) = WalkKind
take_kind (Reading r l place read f) = ReadKind
take_kind (Marking r l e f) = MarkKind

-- what is left to do of the list at which the take is
abbrev pub list_left : TakeState → Caller → ℕ
list_left Load p = (2 ^ 160) * 16 + 15
list_left (Walking r f) p = (2 ^ 160 - rank_at p.position.rows r) * 16 + 12
list_left (Reading r l place read f) p = (2 ^ 160 - rank_at p.position.rows r) * 16 + (11 - place)
list_left (Marking r l e f) p = 0

-- and of all lists, of which there are at most so many
abbrev pub taking_left : TakeOp → Caller → ℕ
taking_left op p = (2 ^ 20 - op.head) * (2 ^ 165) + list_left op.state p

-- What is answered

-- the one step made was an exchange, which found another word than it expected
abbrev pub FoundAnother : Caller → Caller → Type 0
FoundAnother p q = (m : Made) × (q.made ≡ p.made ++ m ∷ []) × (is_exchange m.kind ≡ true) × (m.found ≢ m.first)

-- the walk stopped at a row that was found present, and its event is e; or that row is the least at which a search stopped
abbrev pub StopsAt : ℕ → Table → Event → Caller → Type 0
StopsAt n table e p = (r : ℕ) × (l : Link) × IsPresent n table r l e p

-- the walk of the bucket b, which is current's as the take saw it, is past that bucket
abbrev pub WalkedPast : Control → ℕ → Caller → Type 0
WalkedPast x b p = (y : Current) × (p.sight ≡ Some (record { table = x; current = y })) × (b ≡ bucket (shape_of x) y.tick)
    × ((w : Walk) × (p.walk ≡ Some w) × (w.bucket ≡ Some b) × IsPast (shape_of x) b w p.position.rows)

-- there is nothing in the bucket, or in the whole table
abbrev pub FoundNothing : Control → Place → Caller → Type 0
FoundNothing x (Bucket b) p = WalkedPast x b p
FoundNothing x Search p = (limit : ℕ) → MayMiss limit p

-- an event that the take stopped at is not of a later bucket
abbrev pub IsUpToBucket : Control → Place → Event → Type 0
IsUpToBucket x (Bucket b) e = bucket (shape_of x) e.time ≤ b
IsUpToBucket x Search e = Unit {0}

abbrev pub TakeAnswers : ℕ → Table → Control → TakeOp → TakeOp → Pass → Pass → Progress MarkEnd → Type 0
TakeAnswers n table x op op' old new More = let p = caller table old in let q = caller table new in
    IsTaking n table x op' q × (op' ≡ record op { head = op'.head; best = op'.best; state = op'.state }) × (q.own ≡ p.own) × (new.debts ≡ old.debts) × ((taking_exchanges op.state ≡ true) ⊎ (taking_left op' q < taking_left op p))
TakeAnswers n table x op op' old new (Done (Marked r e c)) = let p = caller table old in let q = caller table new in
    (q.own ≡ p.own ++ Take old.number e ∷ []) × (e.time < op.limit) × (new.debts ≡ record old.debts { cut = Some (cut_debt x r e) }) × (q.cut ≡ None)
    × IsCutting n table x c q × (c.sought.target ≡ Some (e, r)) × IsUpToBucket x op.place e × (taking_exchanges op.state ≡ true)
TakeAnswers n table x op op' old new (Done (Beyond e)) = let p = caller table old in let q = caller table new in
    (q.own ≡ p.own) × (new.debts ≡ old.debts) × MayMiss op.limit q × (op.limit ≤ e.time) × (q.cut ≡ None) × (q.debts.cut ≡ None) × StopsAt n table e q × IsUpToBucket x op.place e
TakeAnswers n table x op op' old new (Done Nothing) = let p = caller table old in let q = caller table new in
    (q.own ≡ p.own) × (new.debts ≡ old.debts) × FoundNothing x op.place q × (q.cut ≡ None) × (q.debts.cut ≡ None)
TakeAnswers n table x op op' old new (Done Lost) = let p = caller table old in let q = caller table new in
    (q.own ≡ p.own) × (new.debts ≡ old.debts) × (taking_exchanges op.state ≡ true) × (q.cut ≡ None) × (q.debts.cut ≡ None) × FoundAnother p q
TakeAnswers n table x op op' old new (Done Frozen) = let p = caller table old in let q = caller table new in
    (q.own ≡ p.own) × (new.debts ≡ old.debts) × (q.cut ≡ None) × (q.debts.cut ≡ None) × MetFrozen table.start.layout (list_at op) q

-- one step of it was made
pub record TakeStepped (n : ℕ) (table : Table) (x : Control) (op op' : TakeOp) (old new : Pass) (answer : Progress MarkEnd) : Type 0 where
  pub is : IsPassOf table new
  pub works : Works n (taking_exchanges op.state) (caller table old) (caller table new)
  pub kind : works.step.kind ≡ take_kind op.state
  pub elsewhere : works.step.word ≢ index table.start.layout current_place
  pub turns : new.turns ≡ turns_after (taking_exchanges op.state) old.turns
  pub number : new.number ≡ old.number
  pub free : new.free.items ≡ old.free.items
  pub answers : TakeAnswers n table x op op' old new answer

abbrev pub take_exchanges : TakeOp → Bool
take_exchanges op = taking_exchanges op.state

-- one step of it was made, and then maybe others that are no exchanges
abbrev pub TakeStretch : ℕ → Table → Control → TakeOp → TakeOp → Pass → Pass → Progress MarkEnd → Type 0
TakeStretch n table x = Stretch TakeOp (Progress MarkEnd) (TakeStepped n table x) take_exchanges More

-- the take, as an operation
abbrev pub the_take : Operation TakeOp MarkEnd
the_take = record { at = IsTaking; stepped = TakeStepped; exchanges = take_exchanges }
