-- What the stages of a call leave, each made of parts.
use Rattle.std.specs.Prelude.{◌≡◌, ◌⊎◌, ℕ, ◌^◌, ◌<◌, ◌≤◌, List, [], ◌∷◌, ◌++◌, Option, Some, None, Result, Ok, Err}
use Rattle.crq_base.specs.declared.event.Event.{Event}
use Rattle.crq_base.specs.declared.entry.Entry.{Entry}
use Rattle.crq_base.specs.declared.entry.Entry.TheVariants.{Begin, Put, Settled, Take, Miss}
use Rattle.crq_base.specs.declared.words.Control.{Control}
use Rattle.crq_base.specs.declared.words.Current.{Current}
use Rattle.crq_base.specs.Words.{IsControl}
use Rattle.crq_base.specs.declared.answers.Route.TheVariants.{Search as BySearch}
use Rattle.crq_base.specs.declared.answers.Refusal.{Refusal}
use Rattle.crq_base.specs.declared.answers.Refusal.TheVariants.{Again, Held, Rows, Epochs}
use Rattle.crq_base.specs.declared.kinds.StepKind.TheVariants.{Begin as BeginKind}
use Rattle.crq_base.specs.Lists.{In}
use Rattle.crq_rows.specs.Recovering.{CountsRows}
use Rattle.crq_rows.specs.declared.recover.Recover.TheVariants.{Held as IsHeld, Rows as NoRows}
use Rattle.crq_list.specs.declared.cut.CutOp.{CutOp}
use Rattle.crq_list.specs.declared.insert.InsertOp.{InsertOp}
use Rattle.crq_list.specs.Cutting.{IsCutting}
use Rattle.crq_list.specs.Sweeps.{SweepsTo}
use Rattle.crq_list.specs.Taking.{SeesPlace, WalkedPast}
use Rattle.crq_list.specs.Swaps.{Controlled}
use Rattle.crq_rule.specs.declared.debts.CutDebt.{CutDebt}
use Rattle.crq_rule.specs.declared.debts.SettleDebt.{SettleDebt}
use Rattle.crq_rule.specs.declared.view.Made.{Made}
use Rattle.crq_rule.specs.declared.view.Caller.{Caller}
use Rattle.crq_rule.specs.declared.pass.Pass.{Pass}
use Rattle.crq_rule.specs.declared.pass.Table.{Table}
use Rattle.crq_rule.specs.HistoryParts.{EndsInBegin}
use Rattle.crq_rule.specs.Ranks.{shape_of, bucket, IsOpen, at_head, at_row}
use Rattle.crq_rule.specs.ListKinds.{MayMiss, begins, cut_debt, owed_event}
use Rattle.crq_rows.specs.Passes.{caller}
use Rattle.crq_list.specs.declared.parts.Place.TheVariants.{Search as InSearch}
use Rattle.crq_queue.specs.declared.runs.Spent.{Spent}
use Rattle.crq_queue.specs.declared.taking.Round.{Round}
use Rattle.crq_queue.specs.declared.taking.Round.TheVariants.{Marked, Missed, On}
use Rattle.crq_queue.specs.declared.taking.Caught.{Caught}
use Rattle.crq_queue.specs.Wholes.{IsResting}
use Rattle.crq_queue.specs.Runs.{Ran, RanTicks, RanUnraised, RanRaising, KeepsEvent, KeepsOwed, IsInside, IsSwept}
use Rattle.crq_queue.specs.Parts.{SettleNeeds, InsertNeeds, TakeNeeds, RaiseNeeds, CutNeeds, IsUsedUp, UptoNeeds, RowNeeds, MarksBy}
use Rattle.crq_queue.specs.Calls.{Call, Called, OwesNothing, InBucket, IsFoundBy, StoppedSettling, NoRow, settles, steps_before}

-- this cut is under way, and goes up to the one dead row that the pass owes
abbrev pub CutsDebt : ℕ → Table → Control → CutOp → Pass → Type 0
CutsDebt n table x op pass = IsCutting n table x op (caller table pass) × ((d : CutDebt) × (pass.debts.cut ≡ Some d) × (op.sought.target ≡ Some (d.event, d.row))) × (pass.debts.second_cut ≡ None)

-- the pass owes no dead row; or it still owes the one that the old pass owed, and the budget is used up in the cut of that
abbrev pub IsFinished : Table → ℕ → ℕ → Pass → Pass → Result (Unit {0}) Spent → Type 0
IsFinished table n budget old new (Ok u) = new.debts.cut ≡ None
IsFinished table n budget old new (Err s) = (new.debts.cut ≡ old.debts.cut) × IsUsedUp table n budget (CutNeeds n table old.debts.cut) new

pub record CutFinished (table : Table) (n budget : ℕ) (x : Control) (old new : Pass) (result : Result (Unit {0}) Spent) : Type 0 where
  pub ran : Ran table n budget old new []
  pub inside : IsInside table x new
  pub free : new.free.items ≡ old.free.items
  pub event : KeepsEvent table old new
  pub finished : IsFinished table n budget old new result

-- a pass whose exchanges are counted anew
abbrev pub anew : Pass → Pass
anew pass = record pass { turns = 0 }

-- the event that was owed is settled; or it is still owed, and the budget is used up in just that
abbrev pub EventAnswers : Table → ℕ → ℕ → SettleDebt → Pass → Pass → Result (Unit {0}) Spent → Type 0
EventAnswers table n budget d old new (Ok u) = RanUnraised table n budget 0 old new (Settled old.number d.event ∷ []) × (new.debts.settle ≡ None)
EventAnswers table n budget d old new (Err s) = RanUnraised table n budget 0 old new [] × (new.debts.settle ≡ Some d) × IsUsedUp table n budget (SettleNeeds n table d) new

pub record EventSettled (table : Table) (n budget : ℕ) (d : SettleDebt) (old new : Pass) (result : Result (Unit {0}) Spent) : Type 0 where
  pub rests : IsResting table new
  pub cut : new.debts.cut ≡ old.debts.cut
  pub answers : EventAnswers table n budget d old new result

-- the budget is used up in the event that is owed
pub record StopsAtEvent (table : Table) (n budget : ℕ) (old new : Pass) : Type 0 where
  pub debt : SettleDebt
  pub owed : old.debts.settle ≡ Some debt
  pub ran : RanUnraised table n budget 0 old new []
  pub still : new.debts.settle ≡ Some debt
  pub cut : new.debts.cut ≡ old.debts.cut
  pub short : IsUsedUp table n budget (SettleNeeds n table debt) new

-- the event that was owed, if one was, is settled; or it is still owed, and the budget is used up in that
abbrev pub FinishAnswers : Table → ℕ → ℕ → Pass → Pass → Result (Unit {0}) Spent → Type 0
FinishAnswers table n budget old new (Ok u) = RanUnraised table n budget 0 old new (settles old) × (new.debts.settle ≡ None)
FinishAnswers table n budget old new (Err s) = StopsAtEvent table n budget old new

pub record EventFinished (table : Table) (n budget : ℕ) (old new : Pass) (result : Result (Unit {0}) Spent) : Type 0 where
  pub rests : IsResting table new
  pub cut : new.debts.cut ≡ old.debts.cut
  pub idle : old.debts.settle ≡ None → new ≡ old
  pub answers : FinishAnswers table n budget old new result

-- the dead row that was owed is cut, by a resting pass
pub record DebtCut (table : Table) (n budget : ℕ) (old new : Pass) (result : Result (Unit {0}) Spent) : Type 0 where
  pub ran : Ran table n budget old new []
  pub rests : IsResting table new
  pub settle : new.debts.settle ≡ old.debts.settle
  pub finished : IsFinished table n budget old new result

-- or, once the event is settled, in the dead row that is owed
pub record StopsAtCut (table : Table) (n budget : ℕ) (old new : Pass) : Type 0 where
  pub ran : RanUnraised table n budget 0 old new (settles old)
  pub settled : new.debts.settle ≡ None
  pub owes : new.debts.cut ≡ old.debts.cut
  pub short : IsUsedUp table n budget (CutNeeds n table old.debts.cut) new

abbrev pub SettlingAnswers : Table → ℕ → ℕ → Pass → Pass → Result (Unit {0}) Spent → Type 0
SettlingAnswers table n budget old new (Ok u) = RanUnraised table n budget 0 old new (settles old) × OwesNothing new
SettlingAnswers table n budget old new (Err s) = StopsAtEvent table n budget old new ⊎ StopsAtCut table n budget old new

-- what was owed is finished, as far as the budget goes
pub record DebtsSettled (table : Table) (n budget : ℕ) (old new : Pass) (result : Result (Unit {0}) Spent) : Type 0 where
  pub rests : IsResting table new
  pub idle : OwesNothing old → new ≡ old
  pub answers : SettlingAnswers table n budget old new result

-- the call finished what its pass owed, and then made its Begin, which found the control word x
pub record CallBegun (c : Call) (new : Pass) (x : Control) : Type 0 where
  pub settled : Pass
  pub settling : Called c settled (settles c.old)
  pub nothing : OwesNothing settled
  pub begin : Controlled BeginKind c.table settled new begins x
  pub ran : RanUnraised c.table (steps_before c) c.budget 0 (anew c.old) new (settles c.old ++ (Begin c.old.number ∷ []))
  pub rests : IsResting c.table new
  pub free : OwesNothing new

abbrev pub BeginAnswers : Call → Pass → Result Control Spent → Type 0
BeginAnswers c new (Ok x) = CallBegun c new x
BeginAnswers c new (Err s) = StoppedSettling c new (Again c.budget)

-- the dead rows of all lists of the table with this control word are cut, while the guard is on; or the budget is used up in that
abbrev pub ListsAnswers : Table → ℕ → ℕ → Control → Pass → Pass → Result (Unit {0}) Spent → Type 0
ListsAnswers table n budget x old new (Ok u) = (since : List Made) × ((caller table new).made ≡ (caller table old).made ++ since) × ((q : ℕ) → IsOpen x q → SweepsTo table.start.layout (at_head q) since (at_row 0))
ListsAnswers table n budget x old new (Err s) = IsUsedUp table n budget (UptoNeeds n table None) new

pub record ListsSwept (table : Table) (n budget : ℕ) (x : Control) (old new : Pass) (result : Result (Unit {0}) Spent) : Type 0 where
  pub ran : Ran table n budget old new []
  pub inside : IsInside table x new
  pub found : (caller table new).found ≡ (caller table old).found
  pub debts : new.debts ≡ old.debts
  pub event : KeepsEvent table old new
  pub answers : ListsAnswers table n budget x old new result

-- the dead rows of all lists are cut; or the budget is used up, and one more exchange is needed for that
abbrev pub SweepAnswers : Table → ℕ → ℕ → Pass → Pass → Result (Unit {0}) Spent → Type 0
SweepAnswers table n budget old new (Ok u) = IsSwept table old new
SweepAnswers table n budget old new (Err s) = IsUsedUp table n budget (UptoNeeds n table None) new

pub record SweepEnded (table : Table) (n budget : ℕ) (old new : Pass) (result : Result (Unit {0}) Spent) : Type 0 where
  pub ran : Ran table n budget old new []
  pub rests : IsResting table new
  pub found : (caller table new).found ≡ (caller table old).found
  pub debts : new.debts ≡ old.debts
  pub event : KeepsEvent table old new
  pub answers : SweepAnswers table n budget old new result

-- a row in hand; or the budget is used up in the sweep or in the recovery; or no row was to be had, and where none was found ripe enough events are kept
abbrev pub RowAnswers : Table → ℕ → ℕ → Pass → Pass → Result ℕ Refusal → Type 0
RowAnswers table n budget old new (Ok r) = In r (caller table new).hand
RowAnswers table n budget old new (Err (Again turns)) = (turns ≡ budget) × IsUsedUp table n budget (RowNeeds n table) new
RowAnswers table n budget old new (Err (Held h)) = NoRow table old new (IsHeld h)
RowAnswers table n budget old new (Err Rows) = NoRow table old new NoRows × CountsRows table.start.layout (caller table new)
RowAnswers table n budget old new (Err Epochs) = ⊥

pub record RowFound (table : Table) (n budget : ℕ) (old new : Pass) (result : Result ℕ Refusal) : Type 0 where
  pub ran : RanTicks table n budget 3 old new []
  pub rests : IsResting table new
  pub found : (caller table new).found ≡ (caller table old).found
  pub debts : new.debts ≡ old.debts
  pub event : KeepsEvent table old new
  pub answers : RowAnswers table n budget old new result

-- the event was put while the guard is on, and is owed
abbrev pub NoteAnswers : Table → ℕ → ℕ → Control → InsertOp → SettleDebt → Pass → Pass → Result (Unit {0}) Spent → Type 0
NoteAnswers table n budget x op d old new (Ok u) = Ran table n budget old new (Put old.number op.event ∷ []) × (new.debts ≡ record old.debts { settle = Some d })
NoteAnswers table n budget x op d old new (Err s) = Ran table n budget old new [] × (new.debts ≡ old.debts) × IsUsedUp table n budget (InsertNeeds n table op.event) new

pub record EventNoted (table : Table) (n budget : ℕ) (x : Control) (op : InsertOp) (d : SettleDebt) (old new : Pass) (result : Result (Unit {0}) Spent) : Type 0 where
  pub inside : IsInside table x new
  pub agrees : (caller table new).debts.settle ≡ new.debts.settle
  pub answers : NoteAnswers table n budget x op d old new result

-- the event was put, and is owed
abbrev pub EventInserted : Table → ℕ → ℕ → Control → Event → Pass → Pass → Result (Unit {0}) Spent → Type 0
EventInserted table n budget x e old new (Ok u) = Ran table n budget old new (Put old.number e ∷ []) × IsResting table new
    × (new.debts.settle ≡ Some (owed_event x.generation (shape_of x) e)) × (new.debts.cut ≡ old.debts.cut)
EventInserted table n budget x e old new (Err s) = Ran table n budget old new [] × IsResting table new × (new.debts ≡ old.debts) × IsUsedUp table n budget (InsertNeeds n table e) new

-- Rounds of a take

-- the row of the event is marked, and its cut is owed and under way
pub record MarkOwed (n : ℕ) (table : Table) (x : Control) (e : Event) (cut : CutOp) (new : Pass) : Type 0 where
  pub row : ℕ
  pub owes : new.debts.cut ≡ Some (cut_debt x row e)
  pub cuts : CutsDebt n table x cut new

-- the take goes on: the guard is on, all that was owed still is, and the caller's last entry is its Begin
pub record TakesOn (table : Table) (x : Control) (old new : Pass) : Type 0 where
  pub inside : IsInside table x new
  pub debts : new.debts ≡ old.debts
  pub event : KeepsOwed table old new

-- the event was marked, and its row is to be cut
pub record EventMarked (n : ℕ) (table : Table) (x : Control) (limit : ℕ) (e : Event) (cut : CutOp) (old new : Pass) : Type 0 where
  pub inside : IsInside table x new
  pub event : KeepsOwed table old new
  pub below : e.time < limit
  pub owed : MarkOwed n table x e cut new

-- the take found current at y, and walked the list of that bucket past it
pub record WalkedOut (table : Table) (x : Control) (y : Current) (pass : Pass) : Type 0 where
  pub inside : IsInside table x pass
  pub began : EndsInBegin (caller table pass).own
  pub is_control : IsControl x
  pub sight : (caller table pass).sight ≡ Some (record { table = x; current = y })
  pub walked : WalkedPast x (bucket (shape_of x) y.tick) (caller table pass)

-- the take goes on, with so many raises in a row, and has seen its table
pub record RoundGoesOn (table : Table) (n budget : ℕ) (x : Control) (from to : ℕ) (old new : Pass) : Type 0 where
  pub ran : RanRaising table n budget (2 ^ x.log) from to old new []
  pub keeps : TakesOn table x old new
  pub few : to ≤ 2 ^ x.log
  pub more : old.turns < new.turns
  pub sees : SeesPlace x InSearch (caller table new)

-- current was raised, or that failed; or there is no next bucket, and the take has missed; or one more exchange is needed for the raise
abbrev pub RaiseEnded : Table → ℕ → ℕ → Control → ℕ → Pass → Pass → Result Round Spent → Type 0
RaiseEnded table n budget x from old new (Ok (Marked e tick cut)) = ⊥
RaiseEnded table n budget x from old new (Ok Missed) = (new ≡ old) × ((limit : ℕ) → MayMiss limit (caller table new))
RaiseEnded table n budget x from old new (Ok (On to)) = RoundGoesOn table n budget x from to old new
RaiseEnded table n budget x from old new (Err s) = (new ≡ old) × IsUsedUp table n budget (RaiseNeeds n table) new

-- a take needs one more exchange for an event below the limit, or to raise current
abbrev pub CatchNeeds : ℕ → Table → ℕ → Caller → Type 0
CatchNeeds n table limit p = TakeNeeds n table limit p ⊎ RaiseNeeds n table p

-- A round of a take from the list of current's bucket, after so many raises in a row
abbrev pub RoundEnded : Table → ℕ → ℕ → Control → ℕ → ℕ → Pass → Pass → Result Round Spent → Type 0
RoundEnded table n budget x limit from old new (Ok (Marked e tick cut)) = (ran : RanUnraised table n budget 0 old new (Take old.number e ∷ []))
    × EventMarked n table x limit e cut old new × InBucket n table x e ran.since tick new
RoundEnded table n budget x limit from old new (Ok Missed) = RanUnraised table n budget 0 old new [] × TakesOn table x old new × MayMiss limit (caller table new)
RoundEnded table n budget x limit from old new (Ok (On to)) = RoundGoesOn table n budget x from to old new
RoundEnded table n budget x limit from old new (Err s) = RanUnraised table n budget 0 old new [] × TakesOn table x old new × IsUsedUp table n budget (CatchNeeds n table limit) new

-- the take missed
pub record TakeMissed (table : Table) (old new : Pass) : Type 0 where
  pub inside : (y : Control) × IsInside table y new
  pub debts : new.debts ≡ old.debts
  pub event : KeepsOwed table old new

-- a search of all lists after so many raises in a row, which makes no step on current
abbrev pub SearchEnded : Table → ℕ → ℕ → Control → ℕ → ℕ → Pass → Pass → Result (Option Caught) Spent → Type 0
SearchEnded table n budget x limit raises old new (Ok (Some t)) = Ran table n budget old new (Take old.number t.event ∷ [])
    × EventMarked n table x limit t.event t.cut old new × MarksBy n table x InSearch t.event new × (t.route ≡ BySearch raises)
SearchEnded table n budget x limit raises old new (Ok None) = Ran table n budget old new (Miss old.number limit ∷ []) × TakeMissed table old new
SearchEnded table n budget x limit raises old new (Err s) = Ran table n budget old new [] × TakesOn table x old new × IsUsedUp table n budget (TakeNeeds n table limit) new

-- the raises of a take, which come to so many in a row in the end, and never to more than there are buckets
pub record RanTaking (table : Table) (n budget : ℕ) (x : Control) (old new : Pass) (entries : List Entry) : Type 0 where
  pub row : ℕ
  pub few : row ≤ 2 ^ x.log
  pub ran : RanRaising table n budget (2 ^ x.log) 0 row old new entries

-- All rounds of a take, and the search after them
abbrev pub EventTaken : Table → ℕ → ℕ → Control → ℕ → Pass → Pass → Result (Option Caught) Spent → Type 0
EventTaken table n budget x limit old new (Ok (Some t)) = (r : RanTaking table n budget x old new (Take old.number t.event ∷ []))
    × EventMarked n table x limit t.event t.cut old new × IsFoundBy n table x t.event r.ran.since new t.route
EventTaken table n budget x limit old new (Ok None) = RanTaking table n budget x old new (Miss old.number limit ∷ []) × TakeMissed table old new
EventTaken table n budget x limit old new (Err s) = RanTaking table n budget x old new [] × TakesOn table x old new × IsUsedUp table n budget (CatchNeeds n table limit) new
