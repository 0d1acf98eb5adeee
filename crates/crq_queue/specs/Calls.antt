-- What the calls of a calendar answer, why they refuse, and what is owed afterwards.
use Rattle.std.specs.Prelude.{◌≡◌, ◌⊎◌, ℕ, ◌+◌, ◌-◌, ◌*◌, ◌^◌, ◌<◌, ◌≤◌, List, [], ◌∷◌, ◌++◌, length, Option, Some, None, Result, Ok, Err}
use Rattle.crq_base.specs.declared.event.Event.{Event}
use Rattle.crq_base.specs.declared.entry.Entry.{Entry}
use Rattle.crq_base.specs.declared.entry.Entry.TheVariants.{Begin, Put, Settled, Take, Miss}
use Rattle.crq_base.specs.declared.kinds.StepKind.TheVariants.{Begin as BeginKind, CurrentLoad}
use Rattle.crq_base.specs.declared.words.Control.{Control}
use Rattle.crq_base.specs.declared.words.Current.{Current}
use Rattle.crq_base.specs.Words.{IsCurrent, current_word}
use Rattle.crq_base.specs.declared.answers.PutEnd.{PutEnd}
use Rattle.crq_base.specs.declared.answers.PutEnd.TheVariants.{Settled as IsSettled, Owed}
use Rattle.crq_base.specs.declared.answers.TakeEnd.{TakeEnd}
use Rattle.crq_base.specs.declared.answers.TakeEnd.TheVariants.{Taken, Missed}
use Rattle.crq_base.specs.declared.answers.Route.{Route}
use Rattle.crq_base.specs.declared.answers.Route.TheVariants.{Bucket, Search}
use Rattle.crq_base.specs.declared.answers.Refusal.{Refusal}
use Rattle.crq_base.specs.declared.answers.Refusal.TheVariants.{Again, Held, Rows, Epochs}
use Rattle.crq_rule.specs.declared.debts.SettleDebt.{SettleDebt}
use Rattle.crq_rule.specs.declared.pass.Pass.{Pass}
use Rattle.crq_rule.specs.declared.pass.Table.{Table}
use Rattle.crq_rule.specs.declared.view.Made.{Made}
use Rattle.crq_rule.specs.declared.view.Caller.{Caller}
use Rattle.crq_rule.specs.Places.{index, current as current_place}
use Rattle.crq_rule.specs.Ranks.{shape_of, bucket}
use Rattle.crq_rule.specs.ListKinds.{begins, cut_debt, owed_event}
use Rattle.crq_rows.specs.Passes.{caller, load_made}
use Rattle.crq_rows.specs.Owning.{FoundNone}
use Rattle.crq_rows.specs.Recovering.{CountsRows}
use Rattle.crq_rows.specs.declared.own.OwnOp.TheVariants.{Load as FirstLook}
use Rattle.crq_rows.specs.declared.own.Own.TheVariants.{Empty}
use Rattle.crq_rows.specs.declared.recover.RecoverOp.TheVariants.{Ticking}
use Rattle.crq_rows.specs.declared.tick.TickOp.TheVariants.{Load}
use Rattle.crq_rows.specs.declared.recover.Recover.{Recover}
use Rattle.crq_rows.specs.declared.recover.Recover.TheVariants.{Held as IsHeld, Rows as NoRows}
use Rattle.crq_list.specs.declared.parts.Place.TheVariants.{Bucket as OfBucket, Search as InSearch}
use Rattle.crq_list.specs.Swaps.{Controlled}
use Rattle.crq_queue.specs.Wholes.{IsResting}
use Rattle.crq_queue.specs.Runs.{exchanges_of, ticks_of, raises_of, raises_won, failures_of, raises_in_row, current_known, IsFair, ToldMore, Follows, IsSwept, Looked, Recovered}
use Rattle.crq_queue.specs.Parts.{SettleNeeds, InsertNeeds, TakeNeeds, RaiseNeeds, CutNeeds, RowNeeds, IsUsedUp, MarksBy}

-- A call: the table, its budget of exchanges, and the pass as it begins
pub record Call : Type 0 where
  pub table : Table
  pub budget : ℕ
  pub old : Pass

abbrev pub call : Table → ℕ → Pass → Call
call table budget old = record { table = table; budget = budget; old = old }

-- how many steps the pass had made as the call began
abbrev pub steps_before : Call → ℕ
steps_before c = length (caller c.table c.old).made

-- A call was made with the pass: it added these entries, and rests again. Each exchange that it made expected the word that the call had last read, found or written there, and another one was to stand there.
-- It made no more than three ticks, and of its raises of current `Raises` says what there were
pub record CalledAs (Raises : List Made → Type 0) (c : Call) (new : Pass) (entries : List Entry) : Type 0 where
  pub rests : IsResting c.table new
  pub number : new.number ≡ c.old.number
  pub deal : (caller c.table new).deal ≡ (caller c.table c.old).deal
  pub own : (caller c.table new).own ≡ (caller c.table c.old).own ++ entries
  pub told : ToldMore (caller c.table c.old) (caller c.table new)
  pub since : List Made
  pub made : (caller c.table new).made ≡ (caller c.table c.old).made ++ since
  pub fair : IsFair (steps_before c) (caller c.table c.old).made since
  pub turns : new.turns ≡ exchanges_of since
  pub within : exchanges_of since ≤ c.budget
  pub ticks : ticks_of since ≤ 3
  pub raises : Raises since

-- no raise was tried
abbrev pub NoRaise : List Made → Type 0
NoRaise ms = raises_of ms ≡ 0

-- current was raised so often at most by each exchange that failed, and once more
abbrev pub FewRaises : ℕ → List Made → Type 0
FewRaises most ms = raises_won ms ≤ most * (1 + failures_of ms)

abbrev pub Called : Call → Pass → List Entry → Type 0
Called = CalledAs NoRaise

-- a resting pass owes nothing: there is no event that it has to settle, and no dead row that it has to cut
abbrev pub OwesNothing : Pass → Type 0
OwesNothing pass = (pass.debts.settle ≡ None) × (pass.debts.cut ≡ None)

-- what is added where the event that is owed is settled, if one is
abbrev pub settled_entries : ℕ → Option SettleDebt → List Entry
settled_entries number None = []
settled_entries number (Some d) = Settled number d.event ∷ []

abbrev pub settles : Pass → List Entry
settles pass = settled_entries pass.number pass.debts.settle

-- the budget is used up by exchanges of this call, and it needs one more, for what `Needs` says
abbrev pub IsShort : Call → (ℕ → Table → Caller → Type 0) → Pass → Type 0
IsShort c Needs new = IsUsedUp c.table (steps_before c) c.budget (Needs (steps_before c) c.table) new

-- The call stopped at the event that its pass owed: it added nothing, still owes that and all else, and needs one more exchange to settle just that event
pub record StoppedAtEvent (c : Call) (new : Pass) : Type 0 where
  pub debt : SettleDebt
  pub owed : c.old.debts.settle ≡ Some debt
  pub called : Called c new []
  pub still : new.debts.settle ≡ Some debt
  pub cut : new.debts.cut ≡ c.old.debts.cut
  pub short : IsShort c (λ n table. SettleNeeds n table debt) new

-- The call stopped at the dead row that its pass owed: it settled the event, if one was owed, still owes that row, and needs one more exchange to cut just that
pub record StoppedAtCut (c : Call) (new : Pass) : Type 0 where
  pub called : Called c new (settles c.old)
  pub settled : new.debts.settle ≡ None
  pub owes : new.debts.cut ≡ c.old.debts.cut
  pub short : IsShort c (λ n table. CutNeeds n table c.old.debts.cut) new

-- the call stopped while it finished what its pass owed, at one of the two
pub record StoppedSettling (c : Call) (new : Pass) (refusal : Refusal) : Type 0 where
  pub again : refusal ≡ Again c.budget
  pub stopped : StoppedAtEvent c new ⊎ StoppedAtCut c new

-- the call finished what its pass owed, began then, and since its Begin went on to add these entries. By the control word found there `Raises` says what raises of current the call made
pub record WentOnAs (Raises : Control → List Made → Type 0) (c : Call) (new : Pass) (entries : List Entry) : Type 0 where
  pub settled : Pass
  pub settling : Called c settled (settles c.old)
  pub nothing : OwesNothing settled
  pub begun : Pass
  pub control : Control
  pub begin : Controlled BeginKind c.table settled begun begins control
  pub follows : Follows c.table begun new
  pub called : CalledAs (Raises control) c new (settles c.old ++ (Begin c.old.number ∷ entries))

-- a put makes no raise, and a take up to so many at a time as there are buckets
abbrev pub PutOn : Call → Pass → List Entry → Type 0
PutOn = WentOnAs (λ x. NoRaise)

abbrev pub TakeOn : Call → Pass → List Entry → Type 0
TakeOn = WentOnAs (λ x. FewRaises (2 ^ x.log))

-- No row was to be had: since its Begin the call looked for a free or ripe row and found none, then swept all lists of the open table, and then its recovery gave this answer. No step came after that
pub record NoRow (table : Table) (begun new : Pass) (answer : Recover) : Type 0 where
  pub looked : Pass
  pub looks : Looked table FirstLook begun looked Empty
  pub look_follows : Follows table begun looked
  pub none : FoundNone table.start.layout (caller table looked)
  pub swept : Pass
  pub sweeps : IsSwept table looked swept
  pub recovers : Recovered table (Ticking 0 Load) swept new answer
  pub recovery_follows : Follows table swept new

-- the epoch of current has no room left: the one step since the Begin found it so, and so the caller was told of as many entries
pub record NoEpoch (table : Table) (begun new : Pass) : Type 0 where
  pub current : Current
  pub is : IsCurrent current
  pub high : 2 ^ 32 - 64 ≤ current.epoch
  pub load : (caller table new).made ≡ (caller table begun).made ++ load_made CurrentLoad (index table.start.layout current_place) (current_word current) ∷ []
  pub told : 2 ^ 32 - 64 ≤ table.start.first.epoch + (caller table new).told.settled

-- current was found with room left by the one step since the Begin, and the put looked for a row after that
pub record RowSought (table : Table) (begun new : Pass) : Type 0 where
  pub current : Current
  pub is : IsCurrent current
  pub low : current.epoch < 2 ^ 32 - 64
  pub load : (caller table new).made ≡ (caller table begun).made ++ load_made CurrentLoad (index table.start.layout current_place) (current_word current) ∷ []

-- why a put was refused after its Begin: it needs one more exchange, to sweep the lists, to recover rows or to insert its event; or no row was to be had; or the epoch has no room left. Where no home row was found ripe,
-- the events that were pending as the recovery of this call first loaded the epoch are kept, and twice their number is at least that of the caller's rows
abbrev pub PutWants : Call → Event → Pass → Pass → Refusal → Type 0
PutWants c e begun new (Again turns) = (turns ≡ c.budget) × IsShort c (λ n table p. RowNeeds n table p ⊎ InsertNeeds n table e p) new
PutWants c e begun new (Held h) = (seeking : Pass) × RowSought c.table begun seeking × NoRow c.table seeking new (IsHeld h)
PutWants c e begun new Rows = (seeking : Pass) × RowSought c.table begun seeking × NoRow c.table seeking new NoRows × CountsRows c.table.start.layout (caller c.table new)
PutWants c e begun new Epochs = NoEpoch c.table begun new

-- a put was refused after its Begin, which is all that it added
pub record PutRefused (c : Call) (e : Event) (new : Pass) (refusal : Refusal) : Type 0 where
  pub on : PutOn c new []
  pub nothing : OwesNothing new
  pub wants : PutWants c e on.begun new refusal

-- the pass owes the event that the call put, in the table with this control word, and nothing else: the budget is used up, and the call needed one more exchange to settle just that event
pub record EventOwed (c : Call) (x : Control) (e : Event) (new : Pass) : Type 0 where
  pub owes : new.debts.settle ≡ Some (owed_event x.generation (shape_of x) e)
  pub cut : new.debts.cut ≡ None
  pub short : IsShort c (λ n table. SettleNeeds n table (owed_event x.generation (shape_of x) e)) new

-- a put: the event was put and settled, and nothing is owed; or it was put, and is still to be settled; or the put stopped in its settling; or it was refused after its Begin
abbrev pub PutAnswers : Call → Event → Pass → Result PutEnd Refusal → Type 0
PutAnswers c e new (Ok IsSettled) = PutOn c new (Put c.old.number e ∷ Settled c.old.number e ∷ []) × OwesNothing new
PutAnswers c e new (Ok Owed) = (on : PutOn c new (Put c.old.number e ∷ [])) × EventOwed c on.control e new
PutAnswers c e new (Err refusal) = StoppedSettling c new refusal ⊎ PutRefused c e new refusal

-- a take was refused after its Begin, which is all that it added. It needs one more exchange to take an event below its limit or to raise current; it needs no row
pub record TakeRefused (c : Call) (limit : ℕ) (new : Pass) (refusal : Refusal) : Type 0 where
  pub again : refusal ≡ Again c.budget
  pub on : TakeOn c new []
  pub nothing : OwesNothing new
  pub short : IsShort c (λ n table p. TakeNeeds n table limit p ⊎ RaiseNeeds n table p) new

-- the pass owes the cut of the row whose event the call took, and nothing else: the budget is used up, and the call needed one more exchange to cut just that row. The control word x was found at the Begin
pub record CutOwed (c : Call) (x : Control) (e : Event) (new : Pass) : Type 0 where
  pub row : ℕ
  pub settled : new.debts.settle ≡ None
  pub owes : new.debts.cut ≡ Some (cut_debt x row e)
  pub short : IsShort c (λ n table. CutNeeds n table new.debts.cut) new

-- The last step on current since the Begin found it at this tick, and a take of the list of that tick's bucket marked the event, which isn't of a later bucket
pub record InBucket (n : ℕ) (table : Table) (x : Control) (e : Event) (since : List Made) (tick : ℕ) (new : Pass) : Type 0 where
  pub current : Current
  pub is : IsCurrent current
  pub at : current.tick ≡ tick
  pub last : current_known since ≡ Some (current_word current)
  pub up_to : bucket (shape_of x) e.time ≤ bucket (shape_of x) tick
  pub marks : MarksBy n table x (OfBucket (bucket (shape_of x) tick)) e new

-- since the Begin current was raised so many times in a row, as many as there are buckets, and then a search of all lists marked the event
pub record BySearch (n : ℕ) (table : Table) (x : Control) (e : Event) (since : List Made) (raises : ℕ) (new : Pass) : Type 0 where
  pub row : raises ≡ raises_in_row since
  pub all : raises ≡ 2 ^ x.log
  pub marks : MarksBy n table x InSearch e new

-- how the event was found by a call that began when n steps had been made, where the control word x was found at the Begin, and these steps were made since
abbrev pub IsFoundBy : ℕ → Table → Control → Event → List Made → Pass → Route → Type 0
IsFoundBy n table x e since new (Bucket tick) = InBucket n table x e since tick new
IsFoundBy n table x e since new (Search raises) = BySearch n table x e since raises new

-- a take: an event below the limit was taken, and its row was cut, or the budget ended before; or there was none; or it stopped in its settling; or it was refused after its Begin
abbrev pub TakeAnswers : Call → ℕ → Pass → Result TakeEnd Refusal → Type 0
TakeAnswers c limit new (Ok (Taken e route)) = (on : TakeOn c new (Take c.old.number e ∷ [])) × (e.time < limit)
    × IsFoundBy (steps_before c) c.table on.control e on.follows.0 new route × (OwesNothing new ⊎ CutOwed c on.control e new)
TakeAnswers c limit new (Ok Missed) = TakeOn c new (Miss c.old.number limit ∷ []) × OwesNothing new
TakeAnswers c limit new (Err refusal) = StoppedSettling c new refusal ⊎ TakeRefused c limit new refusal

-- a settlement: the event that was owed is settled, and the pass owes nothing; or it stopped
abbrev pub SettleAnswers : Call → Pass → Result (Unit {0}) Refusal → Type 0
SettleAnswers c new (Ok u) = Called c new (settles c.old) × OwesNothing new
SettleAnswers c new (Err refusal) = StoppedSettling c new refusal
