-- What each part of a call leaves.
use Rattle.std.specs.Prelude.{◌≡◌, ◌⊎◌, ℕ, ◌<◌, true, List, [], ◌∷◌, ◌++◌, drop, Option, Some, None, Result, Ok, Err}
use Rattle.crq_base.specs.declared.event.Event.{Event}
use Rattle.crq_base.specs.declared.entry.Entry.TheVariants.{Put, Take}
use Rattle.crq_base.specs.declared.kinds.StepKind.TheVariants.{Mark as MarkKind}
use Rattle.crq_base.specs.declared.words.Control.{Control}
use Rattle.crq_base.specs.declared.words.Current.{Current}
use Rattle.crq_base.specs.Words.{current_word}
use Rattle.crq_base.specs.Lists.{In}
use Rattle.crq_rule.specs.declared.pass.Pass.{Pass}
use Rattle.crq_rule.specs.declared.pass.Table.{Table}
use Rattle.crq_rule.specs.declared.debts.CutDebt.{CutDebt}
use Rattle.crq_rule.specs.declared.debts.SettleDebt.{SettleDebt}
use Rattle.crq_rule.specs.declared.view.Made.{Made}
use Rattle.crq_rule.specs.declared.view.Caller.{Caller}
use Rattle.crq_rule.specs.declared.view.Guard.TheVariants.{Off}
use Rattle.crq_rule.specs.Parts.{IsOn}
use Rattle.crq_rule.specs.Places.{index, current as current_place}
use Rattle.crq_rule.specs.Ranks.{shape_of}
use Rattle.crq_rule.specs.ListKinds.{MayMiss, cut_debt, owed_event}
use Rattle.crq_rule.specs.CurrentKinds.{MayRaise, MaySettle}
use Rattle.crq_rows.specs.Passes.{caller, IsPassOf}
use Rattle.crq_rows.specs.Known.{last_known}
use Rattle.crq_rows.specs.Owning.{FoundNone}
use Rattle.crq_rows.specs.Recovering.{IsRecovering, RecoverKnows, recover_exchanges}
use Rattle.crq_rows.specs.declared.own.OwnOp.TheVariants.{Load as FirstLook}
use Rattle.crq_rows.specs.declared.own.Own.TheVariants.{Empty}
use Rattle.crq_rows.specs.declared.recover.RecoverOp.{RecoverOp}
use Rattle.crq_rows.specs.declared.recover.RecoverOp.TheVariants.{Ticking}
use Rattle.crq_rows.specs.declared.tick.TickOp.TheVariants.{Load}
use Rattle.crq_rows.specs.declared.recover.Recover.{Recover}
use Rattle.crq_rows.specs.declared.recover.Recover.TheVariants.{More, Ready, Held, Rows}
use Rattle.crq_list.specs.declared.cut.CutOp.{CutOp}
use Rattle.crq_list.specs.declared.insert.InsertOp.{InsertOp}
use Rattle.crq_list.specs.declared.take.TakeOp.{TakeOp}
use Rattle.crq_list.specs.declared.take.MarkEnd.{MarkEnd}
use Rattle.crq_list.specs.declared.take.MarkEnd.TheVariants.{Marked, Beyond, Nothing, Lost, Frozen}
use Rattle.crq_list.specs.declared.parts.Place.{Place}
use Rattle.crq_list.specs.Spots.{Target}
use Rattle.crq_list.specs.Seeking.{seek_exchanges}
use Rattle.crq_list.specs.Cutting.{IsCutting, HasSwept}
use Rattle.crq_list.specs.Inserting.{IsInserting, insert_exchanges}
use Rattle.crq_list.specs.Taking.{IsTaking, FoundNothing, IsUpToBucket, taking_exchanges}
use Rattle.crq_queue.specs.declared.runs.Spent.{Spent}
use Rattle.crq_queue.specs.Runs.{Ran, RanTicks, KeepsEvent, IsInside, Looked, Recovered, exchanges_of}

-- the control word that was found, and the debts to cut that are known, stay; so does a row that was cut, if there is none
pub record Keeps (table : Table) (old new : Pass) : Type 0 where
  pub found : (caller table new).found ≡ (caller table old).found
  pub owed : (caller table new).debts.cut ≡ (caller table old).debts.cut
  pub uncut : (caller table old).cut ≡ None → (caller table new).cut ≡ None
  pub free : new.free.items ≡ old.free.items
  pub debts : new.debts ≡ old.debts
  pub event : KeepsEvent table old new

pub record Entered (table : Table) (n budget : ℕ) (old new : Pass) : Type 0 where
  pub ran : Ran table n budget old new []
  pub keeps : Keeps table old new
  pub on : IsOn (caller table new).guard
  pub turns : new.turns ≡ old.turns

pub record Left (table : Table) (n budget : ℕ) (old new : Pass) : Type 0 where
  pub ran : Ran table n budget old new []
  pub keeps : Keeps table old new
  pub off : (caller table new).guard ≡ Off
  pub turns : new.turns ≡ old.turns

-- What a caller needs one more exchange for. It is within an operation of its call, which began when n steps had been made, and the next step of that is an exchange

-- to settle this event, which doesn't lie ahead of current, where the call last found that
pub record SettleNeeds (n : ℕ) (table : Table) (d : SettleDebt) (p : Caller) : Type 0 where
  pub current : Current
  pub may : MaySettle d current p
  pub known : last_known (drop n p.made) (index table.start.layout current_place) ≡ Some (current_word current)

-- to raise current from where the call last found it, past a bucket that it walked to its end
pub record RaiseNeeds (n : ℕ) (table : Table) (p : Caller) : Type 0 where
  pub control : Control
  pub current : Current
  pub may : MayRaise control current p
  pub known : last_known (drop n p.made) (index table.start.layout current_place) ≡ Some (current_word current)

-- for the insertion of this event
pub record InsertNeeds (n : ℕ) (table : Table) (e : Event) (p : Caller) : Type 0 where
  pub control : Control
  pub op : InsertOp
  pub at : IsInserting n table control op p
  pub event : op.event ≡ e
  pub exchanges : insert_exchanges op ≡ true

-- for a take below this limit
pub record TakeNeeds (n : ℕ) (table : Table) (limit : ℕ) (p : Caller) : Type 0 where
  pub control : Control
  pub op : TakeOp
  pub at : IsTaking n table control op p
  pub limit_is : op.limit ≡ limit
  pub exchanges : taking_exchanges op.state ≡ true

-- for a cut of the dead rows up to this one
pub record UptoNeeds (n : ℕ) (table : Table) (upto : Target) (p : Caller) : Type 0 where
  pub control : Control
  pub op : CutOp
  pub at : IsCutting n table control op p
  pub upto_is : op.sought.target ≡ upto
  pub exchanges : seek_exchanges op.state ≡ true

-- for the cut of the dead row that was owed; where none was, there is no such need
pub record CutNeeds (n : ℕ) (table : Table) (owed : Option CutDebt) (p : Caller) : Type 0 where
  pub debt : CutDebt
  pub owes : owed ≡ Some debt
  pub cuts : UptoNeeds n table (Some (debt.event, debt.row)) p

-- for a recovery of rows
pub record RecoverNeeds (n : ℕ) (table : Table) (p : Caller) : Type 0 where
  pub op : RecoverOp
  pub at : IsRecovering table.start.layout op p
  pub knows : RecoverKnows n table.start.layout op p
  pub exchanges : recover_exchanges table.start.layout op ≡ true

-- for a row: for the sweep of the lists, or for the recovery after it
abbrev pub RowNeeds : ℕ → Table → Caller → Type 0
RowNeeds n table p = UptoNeeds n table None p ⊎ RecoverNeeds n table p

-- The budget is used up, and it ended before an exchange: the caller needed one with the pass `before`. The steps made since are no exchanges
pub record IsUsedUp (table : Table) (n budget : ℕ) (Needs : Caller → Type 0) (new : Pass) : Type 0 where
  pub turns : new.turns ≡ budget
  pub before : Pass
  pub is : IsPassOf table before
  pub number : new.number ≡ before.number
  pub spent : before.turns ≡ budget
  pub needs : Needs (caller table before)
  pub rest : List Made
  pub made : (caller table new).made ≡ (caller table before).made ++ rest
  pub quiet : exchanges_of rest ≡ 0

abbrev pub CutEnded : ℕ → ℕ → Table → CutOp → Pass → Result (Unit {0}) Spent → Type 0
CutEnded n budget table op new (Ok u) = ((d : CutDebt) → op.sought.target ≡ Some (d.event, d.row) → d.head ≡ op.sought.list.head → (caller table new).debts.cut ≡ Some d → ⊥)
    × HasSwept n table.start.layout op.sought.list.head op.sought.target (caller table new)
CutEnded n budget table op new (Err s) = IsUsedUp table n budget (UptoNeeds n table op.sought.target) new

pub record CutRan (table : Table) (n budget : ℕ) (x : Control) (op : CutOp) (old new : Pass) (result : Result (Unit {0}) Spent) : Type 0 where
  pub ran : Ran table n budget old new []
  pub inside : IsInside table x new
  pub found : (caller table new).found ≡ (caller table old).found
  pub free : new.free.items ≡ old.free.items
  pub debts : new.debts ≡ old.debts
  pub event : KeepsEvent table old new
  pub owed : ((caller table new).debts.cut ≡ None) ⊎ ((caller table new).debts.cut ≡ (caller table old).debts.cut)
  pub ended : CutEnded n budget table op new result

-- the event was linked, and is owed from then on, as it is known; or the budget is used up
abbrev pub InsertRan : Table → ℕ → ℕ → Control → InsertOp → Pass → Pass → Result (Unit {0}) Spent → Type 0
InsertRan table n budget x op old new (Ok u) = Ran table n budget old new (Put old.number op.event ∷ []) × IsInside table x new × (new.debts ≡ old.debts)
    × ((caller table new).debts.settle ≡ Some (owed_event x.generation (shape_of x) op.event))
InsertRan table n budget x op old new (Err s) = Ran table n budget old new [] × IsInside table x new × (new.debts ≡ old.debts) × KeepsEvent table old new × IsUsedUp table n budget (InsertNeeds n table op.event) new

-- The event e was marked by a take at this place: the pass `before` was making it, with the words that it had read of the event's row, and the next step was the mark
pub record MarksBy (n : ℕ) (table : Table) (x : Control) (place : Place) (e : Event) (new : Pass) : Type 0 where
  pub before : Pass
  pub op : TakeOp
  pub place_is : op.place ≡ place
  pub at : IsTaking n table x op (caller table before)
  pub ready : taking_exchanges op.state ≡ true
  pub number : new.number ≡ before.number
  pub own : (caller table new).own ≡ (caller table before).own ++ Take before.number e ∷ []
  pub mark : Made
  pub rest : List Made
  pub kind : mark.kind ≡ MarkKind
  pub made : (caller table new).made ≡ (caller table before).made ++ mark ∷ rest

-- a part of a take that ended without a mark leaves what the pass owes, and what it saw and knows of current
pub record TakeKeeps (table : Table) (n : ℕ) (x : Control) (old new : Pass) : Type 0 where
  pub inside : IsInside table x new
  pub debts : new.debts ≡ old.debts
  pub event : KeepsEvent table old new
  pub sight : (caller table new).sight ≡ (caller table old).sight
  pub known : last_known (drop n (caller table new).made) (index table.start.layout current_place) ≡ last_known (drop n (caller table old).made) (index table.start.layout current_place)

abbrev pub TakeRan : Table → ℕ → ℕ → Control → TakeOp → Pass → Pass → Result MarkEnd Spent → Type 0
TakeRan table n budget x op old new (Ok (Marked r e c)) = Ran table n budget old new (Take old.number e ∷ []) × IsInside table x new × KeepsEvent table old new
    × (e.time < op.limit) × (new.debts.cut ≡ Some (cut_debt x r e))
    × IsCutting n table x c (caller table new) × (c.sought.target ≡ Some (e, r)) × IsUpToBucket x op.place e × MarksBy n table x op.place e new
TakeRan table n budget x op old new (Ok (Beyond e)) = Ran table n budget old new [] × TakeKeeps table n x old new × MayMiss op.limit (caller table new)
TakeRan table n budget x op old new (Ok Nothing) = Ran table n budget old new [] × TakeKeeps table n x old new × FoundNothing x op.place (caller table new)
TakeRan table n budget x op old new (Ok Lost) = Ran table n budget old new [] × TakeKeeps table n x old new × ((caller table new).debts.cut ≡ None) × (old.turns < new.turns)
TakeRan table n budget x op old new (Ok Frozen) = ⊥
TakeRan table n budget x op old new (Err s) = Ran table n budget old new [] × TakeKeeps table n x old new × IsUsedUp table n budget (TakeNeeds n table op.limit) new

abbrev pub OwnEnded : Table → Pass → Pass → Option ℕ → Type 0
OwnEnded table old new (Some r) = In r (caller table new).hand
OwnEnded table old new None = Looked table FirstLook old new Empty × FoundNone table.start.layout (caller table new)

pub record OwnRan (table : Table) (n budget : ℕ) (old new : Pass) (result : Option ℕ) : Type 0 where
  pub ran : Ran table n budget old new []
  pub found : (caller table new).found ≡ (caller table old).found
  pub guard : (caller table new).guard ≡ (caller table old).guard
  pub owed : (caller table new).debts.cut ≡ (caller table old).debts.cut
  pub uncut : (caller table old).cut ≡ None → (caller table new).cut ≡ None
  pub debts : new.debts ≡ old.debts
  pub event : KeepsEvent table old new
  pub turns : new.turns ≡ old.turns
  pub ended : OwnEnded table old new result

abbrev pub RecoverEnded : Table → ℕ → ℕ → Pass → Pass → Result Recover Spent → Type 0
RecoverEnded table n budget old new (Ok More) = ⊥
RecoverEnded table n budget old new (Ok Ready) = (r : ℕ) × (rest : List ℕ) × ((caller table new).hand ≡ r ∷ rest)
RecoverEnded table n budget old new (Ok (Held h)) = Recovered table (Ticking 0 Load) old new (Held h)
RecoverEnded table n budget old new (Ok Rows) = Recovered table (Ticking 0 Load) old new Rows
RecoverEnded table n budget old new (Err s) = IsUsedUp table n budget (RecoverNeeds n table) new

pub record RecoverRan (table : Table) (n budget : ℕ) (old new : Pass) (result : Result Recover Spent) : Type 0 where
  pub ran : RanTicks table n budget 3 old new []
  pub found : (caller table new).found ≡ (caller table old).found
  pub guard : (caller table new).guard ≡ (caller table old).guard
  pub owed : (caller table new).debts.cut ≡ (caller table old).debts.cut
  pub uncut : (caller table old).cut ≡ None → (caller table new).cut ≡ None
  pub debts : new.debts ≡ old.debts
  pub event : KeepsEvent table old new
  pub ended : RecoverEnded table n budget old new result
