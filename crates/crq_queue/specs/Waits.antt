-- What the calls that wait do: tries, each after one that was refused for a while, and then settling until nothing is owed.
use Rattle.std.specs.Prelude.{◌≡◌, ◌⊎◌, ℕ, ◌+◌, ◌-◌, ◌^◌, ◌<◌, ◌≤◌, List, [], ◌∷◌, ◌++◌, Option, Some, None, Result, Ok, Err}
use Rattle.crq_base.specs.declared.event.Event.{Event}
use Rattle.crq_base.specs.declared.entry.Entry.{Entry}
use Rattle.crq_base.specs.declared.entry.Entry.TheVariants.{Begin, Put, Settled, Take, Miss}
use Rattle.crq_base.specs.declared.answers.PutEnd.{PutEnd}
use Rattle.crq_base.specs.declared.answers.TakeEnd.{TakeEnd}
use Rattle.crq_base.specs.declared.answers.TakeEnd.TheVariants.{Taken, Missed}
use Rattle.crq_base.specs.declared.answers.Refusal.{Refusal}
use Rattle.crq_base.specs.declared.answers.Refusal.TheVariants.{Again, Held, Rows, Epochs}
use Rattle.crq_base.specs.declared.answers.Short.{Short}
use Rattle.crq_base.specs.declared.answers.Short.TheVariants.{Rows as NoRows, Epochs as NoEpochs, Memory}
use Rattle.crq_rule.specs.declared.debts.SettleDebt.{SettleDebt}
use Rattle.crq_rule.specs.declared.pass.Pass.{Pass}
use Rattle.crq_rule.specs.declared.pass.Table.{Table}
use Rattle.crq_base.specs.Sources.{IsFresh}
use Rattle.crq_rows.specs.Passes.{caller}
use Rattle.crq_rows.specs.Recovering.{CountsRows}
use Rattle.crq_set.specs.Answers.{AreBegins}
use Rattle.crq_queue.specs.Wholes.{IsResting}
use Rattle.crq_queue.specs.Runs.{ToldMore}
use Rattle.crq_queue.specs.Calls.{call, settles, OwesNothing, PutAnswers, TakeAnswers, SettleAnswers}

-- the pass may put the event: it is of the pass's sources, and no event of that source and number is in what the pass has seen
abbrev pub MayPut : Table → Pass → Event → Type 0
MayPut table pass e = IsFresh table.start.layout.workers (caller table pass).deal.history (caller table pass).own (caller table pass).deal.span pass.number e

-- the budget of exchanges of each try
abbrev pub try_budget : ℕ
try_budget = 1024

-- what a call that waits answers where a try was refused so. None: it tries again, since other callers or one more try may end that
abbrev pub short_of : Refusal → Option Short
short_of (Again turns) = None
short_of (Held holder) = None
short_of Rows = Some NoRows
short_of Epochs = Some NoEpochs

-- Tries of a call, each after one that was refused for a while, the last of which gave this answer. `Answers` tells what one try does
pub data Tried {A : Type 0} (Answers : Pass → Pass → Result A Refusal → Type 0) : Pass → Pass → Result A Refusal → Type 0 where
  tried_last : (old new : Pass) (answer : Result A Refusal) → Answers old new answer → Tried Answers old new answer
  tried_again : (old mid new : Pass) (refusal : Refusal) (answer : Result A Refusal) → short_of refusal ≡ None → Answers old mid (Err refusal) → Tried Answers mid new answer → Tried Answers old new answer

-- what one try to put the event does, to take an event below the limit, and to settle
abbrev pub PutTries : Table → Event → Pass → Pass → Result PutEnd Refusal → Type 0
PutTries table e old new answer = PutAnswers (call table try_budget old) e new answer

abbrev pub TakeTries : Table → ℕ → Pass → Pass → Result TakeEnd Refusal → Type 0
TakeTries table limit old new answer = TakeAnswers (call table try_budget old) limit new answer

abbrev pub SettleTries : Table → Pass → Pass → Result (Unit {0}) Refusal → Type 0
SettleTries table old new answer = SettleAnswers (call table try_budget old) new answer

-- the last answer of the tries is that of the call, where its value is as `Is` says
abbrev pub Becomes : {A B : Type 0} → (A → B → Type 0) → Result A Refusal → Result B Short → Type 0
Becomes Is (Ok a) (Ok b) = Is a b
Becomes Is (Ok a) (Err short) = ⊥
Becomes Is (Err refusal) (Ok b) = ⊥
Becomes Is (Err refusal) (Err short) = short_of refusal ≡ Some short

-- the tries of a put came to this answer, whether the event is settled or still to be settled
pub record PutTried (table : Table) (e : Event) (old new : Pass) (result : Result (Unit {0}) Short) : Type 0 where
  pub answer : Result PutEnd Refusal
  pub tries : Tried (PutTries table e) old new answer
  pub becomes : Becomes (λ end u. Unit {0}) answer result

-- the tries of a take came to this answer
pub record TakeTried (table : Table) (limit : ℕ) (old new : Pass) (result : Result TakeEnd Short) : Type 0 where
  pub answer : Result TakeEnd Refusal
  pub tries : Tried (TakeTries table limit) old new answer
  pub becomes : Becomes (λ taken end. taken ≡ end) answer result

-- the tries to settle came to an end, with which nothing is owed
pub record SettleTried (table : Table) (old new : Pass) : Type 0 where
  pub tries : Tried (SettleTries table) old new (Ok tt)
  pub nothing : OwesNothing new

-- a put that waits tried first to put, and then to settle; and so did a take
pub record PutWaited (table : Table) (e : Event) (old new : Pass) (result : Result (Unit {0}) Short) : Type 0 where
  pub mid : Pass
  pub puts : PutTried table e old mid result
  pub settles : SettleTried table mid new

pub record TakeWaited (table : Table) (limit : ℕ) (old new : Pass) (result : Result TakeEnd Short) : Type 0 where
  pub mid : Pass
  pub takes : TakeTried table limit old mid result
  pub settles : SettleTried table mid new

-- the pass rests, and these entries were added. Its number and what was dealt to it stay, and what it was told doesn't fall
pub record Adds (table : Table) (old new : Pass) (entries : List Entry) : Type 0 where
  pub rests : IsResting table new
  pub number : new.number ≡ old.number
  pub deal : (caller table new).deal ≡ (caller table old).deal
  pub own : (caller table new).own ≡ (caller table old).own ++ entries
  pub told : ToldMore (caller table old) (caller table new)

-- the event that was owed was settled, if one was, then one or more Begins of the caller were added, and then these entries
abbrev pub AddsBegun : Table → Pass → Pass → List Entry → Type 0
AddsBegun table old new entries = (begins : List Entry) × AreBegins old.number begins × Adds table old new (settles old ++ (begins ++ (Begin old.number ∷ entries)))

-- the epoch of current has no room left, so many entries was the caller told of
abbrev pub LacksEpochs : Table → Pass → Type 0
LacksEpochs table pass = 2 ^ 32 - 64 ≤ table.start.first.epoch + (caller table pass).told.settled

-- What a put that waits added: the event was put and settled; or no row was to be had, and twice the number of the events that the last try counted is at least that of the caller's rows; or the epoch has no room left
abbrev pub PutAdded : Table → Event → Pass → Pass → Result (Unit {0}) Short → Type 0
PutAdded table e old new (Ok u) = AddsBegun table old new (Put old.number e ∷ Settled old.number e ∷ [])
PutAdded table e old new (Err NoRows) = AddsBegun table old new [] × CountsRows table.start.layout (caller table new)
PutAdded table e old new (Err NoEpochs) = AddsBegun table old new [] × LacksEpochs table new
PutAdded table e old new (Err Memory) = ⊥

-- the tries of a put left it so, or with the event, and nothing else, still to be settled
abbrev pub PutLeft : Table → Event → Pass → Pass → Result (Unit {0}) Short → Type 0
PutLeft table e old new (Ok u) = (PutAdded table e old new (Ok u) × OwesNothing new)
    ⊎ (AddsBegun table old new (Put old.number e ∷ []) × ((d : SettleDebt) × (new.debts.settle ≡ Some d) × (d.event ≡ e) × (new.debts.cut ≡ None)))
PutLeft table e old new (Err short) = PutAdded table e old new (Err short) × OwesNothing new

-- what a take that waits added: an event below the limit was taken; or there was none. It gives no error
abbrev pub TakeAdded : Table → ℕ → Pass → Pass → Result TakeEnd Short → Type 0
TakeAdded table limit old new (Ok (Taken e route)) = AddsBegun table old new (Take old.number e ∷ []) × (e.time < limit)
TakeAdded table limit old new (Ok Missed) = AddsBegun table old new (Miss old.number limit ∷ [])
TakeAdded table limit old new (Err short) = ⊥
