-- A pass of a table, and what one step does to it.
use Rattle.std.specs.Prelude.{◌≡◌, ◌⊎◌, ℕ, ◌+◌, ◌-◌, ◌^◌, ◌<◌, ◌≤◌, List, [], ◌∷◌, ◌++◌, min, Option, Some, None, Result, Ok, Err, length, slice_get}
use Rattle.std.specs.VecDeque.{deque_capacity}
use Rattle.crq_base.specs.declared.kinds.StepKind.{StepKind}
use Rattle.crq_rule.specs.declared.debts.Debts.{Debts}
use Rattle.crq_rule.specs.declared.view.Made.{Made}
use Rattle.crq_rule.specs.declared.view.Caller.{Caller}
use Rattle.crq_rule.specs.declared.pass.Pass.{Pass}
use Rattle.crq_rule.specs.declared.pass.Table.{Table}
use Rattle.crq_rule.specs.declared.pass.Seating.{Seating}
use Rattle.crq_rule.specs.declared.pass.Seating.TheVariants.{Here}
use Rattle.crq_rule.specs.declared.layout.Start.{Start}
use Rattle.crq_rule.specs.Core.{DeadNames, moved_up, names_of, renamed}
use Rattle.crq_rule.specs.Kinds.{makes}
use Rattle.crq_rule.specs.Rule.{fresh}
use Rattle.crq_rule.specs.Moves.{Lawful}

-- the first part of a view
abbrev pub first_part : Start → List Caller → Caller
first_part start [] = fresh start 0
first_part start (p ∷ ps) = p

-- what is known of the pass's caller
abbrev pub caller : Table → Pass → Caller
caller table pass = first_part table.start pass.seat.me.0.parts

-- the pass's seat is of the table, and carries its caller alone
pub record IsSeated (table : Table) (pass : Pass) : Type 0 where
  pub seated : pass.seat.table_id ≡ table.inner.shared.table_id
  pub bare : pass.seat.me.1 ≡ []
  pub one : pass.seat.me.0.parts ≡ caller table pass ∷ []
  pub numbered : (caller table pass).number ≡ pass.number
  pub inside : pass.number < table.start.layout.workers
  pub started : (caller table pass).start ≡ table.start

-- of the dead rows that the pass names, its caller owes all, or the second or the first alone, or none: the others were cut meanwhile. Where the first was, the second moves up
abbrev pub NamesLag : DeadNames → DeadNames → Type 0
NamesLag run known = ((known ≡ run) ⊎ (known ≡ moved_up None run.second)) ⊎ ((known ≡ record { first = run.first; second = None }) ⊎ (known ≡ record { first = None; second = None }))

-- the pass owes what its caller does, and maybe dead rows that were cut meanwhile. An event that the pass linked just now may have yet to be noted at run time
pub record IsOwed (run known : Debts) : Type 0 where
  pub settle : (run.settle ≡ None) ⊎ (known.settle ≡ run.settle)
  pub copy : known.copy ≡ run.copy
  pub names : NamesLag (names_of run) (names_of known)

-- the pass is of the table: its fields agree with what is known of its caller, and its list of free rows has room for all home rows
pub record IsPassOf (table : Table) (pass : Pass) : Type 0 where
  pub sits : IsSeated table pass
  pub lawful : Lawful (caller table pass)
  pub free : pass.free.items ≡ (caller table pass).hand
  pub room : table.start.layout.home ≤ deque_capacity pass.free
  pub debts : IsOwed pass.debts (caller table pass).debts

-- the step of an exchange of the word `word` from `first` to `second`, which found `found`; of a store of `first`; or of a load
abbrev pub step_made : StepKind → ℕ → ℕ → ℕ → ℕ → Made
step_made kind word first second found = record { kind = kind; word = word; first = first; second = second; found = found }

abbrev pub load_made : StepKind → ℕ → ℕ → Made
load_made kind word found = step_made kind word 0 0 found

abbrev pub store_made : StepKind → ℕ → ℕ → Made
store_made kind word new = step_made kind word new 0 new

-- the one step m was made with the pass, and changed what is known of its caller by f. What the pass has at run time has yet to follow
pub record Steps (table : Table) (old new : Pass) (m : Made) (f : Caller → Caller) : Type 0 where
  pub sits : IsSeated table new
  pub lawful : Lawful (caller table new)
  pub same : new ≡ record old { seat = new.seat }
  pub id : new.seat.id ≡ old.seat.id
  pub part : caller table new ≡ makes m (f (caller table old))

-- the same, and the pass is of the table as before
pub record Stepped (table : Table) (old new : Pass) (m : Made) (f : Caller → Caller) : Type 0 where
  pub is : IsPassOf table new
  pub same : new ≡ record old { seat = new.seat }
  pub id : new.seat.id ≡ old.seat.id
  pub part : caller table new ≡ makes m (f (caller table old))

-- the one step m was made with the pass, and what is known of its caller changed as R says
pub record Turned (table : Table) (old new : Pass) (m : Made) (R : Caller → Caller → Type 0) : Type 0 where
  pub is : IsPassOf table new
  pub same : new ≡ record old { seat = new.seat }
  pub id : new.seat.id ≡ old.seat.id
  pub after : (q : Caller) × R (caller table old) q × (caller table new ≡ makes m q)

-- the same, where what the pass has at run time has yet to follow
pub record Turns (table : Table) (old new : Pass) (m : Made) (R : Caller → Caller → Type 0) : Type 0 where
  pub sits : IsSeated table new
  pub lawful : Lawful (caller table new)
  pub same : new ≡ record old { seat = new.seat }
  pub id : new.seat.id ≡ old.seat.id
  pub after : (q : Caller) × R (caller table old) q × (caller table new ≡ makes m q)

-- one more exchange, up to the type's end
abbrev pub counted : ℕ → ℕ
counted n = min (n + 1) (2 ^ 32 - 1)

-- the one exchange m was made with the pass, and is counted
pub record Exchanged (table : Table) (old new : Pass) (m : Made) (f : Caller → Caller) : Type 0 where
  pub is : IsPassOf table new
  pub same : new ≡ record old { seat = new.seat; turns = new.turns }
  pub turns : new.turns ≡ counted old.turns
  pub id : new.seat.id ≡ old.seat.id
  pub part : caller table new ≡ makes m (f (caller table old))

-- the one exchange m was made with the pass, and is counted; what is known of its caller changed as R says
pub record ExchangedBy (table : Table) (old new : Pass) (m : Made) (R : Caller → Caller → Type 0) : Type 0 where
  pub is : IsPassOf table new
  pub same : new ≡ record old { seat = new.seat; turns = new.turns }
  pub turns : new.turns ≡ counted old.turns
  pub id : new.seat.id ≡ old.seat.id
  pub after : (q : Caller) × R (caller table old) q × (caller table new ≡ makes m q)

-- the one exchange m was made with the pass, and is counted. What else the pass has at run time has yet to follow
pub record Exchanges (table : Table) (old new : Pass) (m : Made) (f : Caller → Caller) : Type 0 where
  pub sits : IsSeated table new
  pub lawful : Lawful (caller table new)
  pub same : new ≡ record old { seat = new.seat; turns = new.turns }
  pub turns : new.turns ≡ counted old.turns
  pub id : new.seat.id ≡ old.seat.id
  pub part : caller table new ≡ makes m (f (caller table old))

-- what the pass has at run time still agrees: the rows in hand stay, and so do the debts, but that some dead rows aren't owed any more
pub record StaysAside (p q : Caller) : Type 0 where
  pub hand : q.hand ≡ p.hand
  pub debts : (q.debts ≡ p.debts) ⊎ ((names : DeadNames) × (q.debts ≡ renamed p.debts names) × NamesLag (names_of p.debts) names)

abbrev pub IsAside : (ℕ → Caller → Caller) → Type 0
IsAside f = (r : ℕ) (p : Caller) → Lawful p → StaysAside p (f r p)

-- the word of an announcement
abbrev pub announcement_word : Option ℕ → ℕ
announcement_word None = 0
announcement_word (Some a) = a + 1

-- what an exchange from `from` found
abbrev pub found_by : ℕ → Result (Unit {0}) ℕ → ℕ
found_by from (Ok u) = from
found_by from (Err found) = found

-- the one step m was made with the pass, and the row that it claimed is the last free one
pub record Claimed (table : Table) (old new : Pass) (row : ℕ) (m : Made) (f : Caller → Caller) : Type 0 where
  pub is : IsPassOf table new
  pub same : new ≡ record old { seat = new.seat; free = new.free }
  pub free : new.free.items ≡ old.free.items ++ row ∷ []
  pub id : new.seat.id ≡ old.seat.id
  pub part : caller table new ≡ makes m (f (caller table old))

-- the pass of the caller j, which has made no step
pub record IsNew (table : Table) (j : ℕ) (pass : Pass) : Type 0 where
  pub is : IsPassOf table pass
  pub number : pass.number ≡ j
  pub part : caller table pass ≡ fresh table.start j
  pub turns : pass.turns ≡ 0

-- all passes are in their places, and none has made a step
pub record AreNew (table : Table) (places : List Seating) : Type 0 where
  pub wide : length places ≡ table.start.layout.workers
  pub each : (j : ℕ) → j < table.start.layout.workers → ((pass : Pass) × (slice_get places j ≡ Some (Here pass)) × IsNew table j pass)
