-- What parts of a call do: the steps made, the exchanges among them, and the entries added.
use Rattle.std.specs.Prelude.{◌≡◌, ℕ, ◌+◌, ◌*◌, ◌<◌, ◌≤◌, ◌==◌, cond, Bool, true, false, List, [], ◌∷◌, ◌++◌, length, Option, Some, None}
use Rattle.crq_base.specs.declared.entry.Entry.{Entry}
use Rattle.crq_base.specs.declared.kinds.StepKind.{StepKind}
use Rattle.crq_base.specs.declared.kinds.StepKind.TheVariants.{Claim, CurrentLoad, SettleLoad, Settle, Raise}
use Rattle.crq_base.specs.declared.words.Control.{Control}
use Rattle.crq_rule.specs.declared.pass.Pass.{Pass}
use Rattle.crq_rule.specs.declared.pass.Table.{Table}
use Rattle.crq_rule.specs.declared.view.Made.{Made}
use Rattle.crq_rule.specs.declared.view.Caller.{Caller}
use Rattle.crq_rule.specs.Places.{IsHead}
use Rattle.crq_rule.specs.Parts.{IsOn}
use Rattle.crq_rule.specs.Ranks.{IsOpen, at_head, at_row}
use Rattle.crq_rows.specs.Passes.{caller, IsPassOf}
use Rattle.crq_rows.specs.Known.{is_exchange, is_tick, known_by, rather, Expects}
use Rattle.crq_rows.specs.declared.own.OwnOp.{OwnOp}
use Rattle.crq_rows.specs.declared.own.Own.{Own}
use Rattle.crq_rows.specs.declared.own.Own.TheVariants.{More as LooksOn}
use Rattle.crq_rows.specs.Owning.{OwnStepped}
use Rattle.crq_rows.specs.declared.recover.RecoverOp.{RecoverOp}
use Rattle.crq_rows.specs.declared.recover.Recover.{Recover}
use Rattle.crq_rows.specs.declared.recover.Recover.TheVariants.{More}
use Rattle.crq_rows.specs.Recovering.{RecoverStepped}
use Rattle.crq_list.specs.Sweeps.{SweepsTo}

-- how many of these steps are exchanges
abbrev pub exchanges_of : List Made → ℕ
exchanges_of [] = 0
exchanges_of (m ∷ ms) = cond (is_exchange m.kind) 1 0 + exchanges_of ms

abbrev pub is_claim : StepKind → Bool
is_claim Claim = true
is_claim _ = false

-- how many of them raise the epoch of the guards, or try to, and how many claim a row
abbrev pub ticks_of : List Made → ℕ
ticks_of [] = 0
ticks_of (m ∷ ms) = cond (is_tick m.kind) 1 0 + ticks_of ms

abbrev pub claims_of : List Made → ℕ
claims_of [] = 0
claims_of (m ∷ ms) = cond (is_claim m.kind) 1 0 + claims_of ms

-- the kinds that load current or exchange it, and of these the one that raises it
abbrev pub is_on_current : StepKind → Bool
is_on_current CurrentLoad = true
is_on_current SettleLoad = true
is_on_current Settle = true
is_on_current Raise = true
is_on_current _ = false

abbrev pub is_raise : StepKind → Bool
is_raise Raise = true
is_raise _ = false

-- how many of these steps are on current, how many raise it or try to, and how many did raise it
abbrev pub on_current : List Made → ℕ
on_current [] = 0
on_current (m ∷ ms) = cond (is_on_current m.kind) 1 0 + on_current ms

abbrev pub raises_of : List Made → ℕ
raises_of [] = 0
raises_of (m ∷ ms) = cond (is_raise m.kind) 1 0 + raises_of ms

abbrev pub raises_won : List Made → ℕ
raises_won [] = 0
raises_won (m ∷ ms) = cond (is_raise m.kind) (cond (m.found == m.first) 1 0) 0 + raises_won ms

-- how many of the exchanges among them found another word than they expected
abbrev pub failures_of : List Made → ℕ
failures_of [] = 0
failures_of (m ∷ ms) = cond (is_exchange m.kind) (cond (m.found == m.first) 0 1) 0 + failures_of ms

-- How many raises in a row the caller has made after these steps, where it had made r before them: one that wins is one more, one that fails ends the row, and all other steps leave it
abbrev pub row_after : ℕ → Made → ℕ
row_after r m = cond (is_raise m.kind) (cond (m.found == m.first) (r + 1) 0) r

abbrev pub raises_after : ℕ → List Made → ℕ
raises_after r [] = r
raises_after r (m ∷ ms) = raises_after (row_after r m) ms

abbrev pub raises_in_row : List Made → ℕ
raises_in_row ms = raises_after 0 ms

-- what the last of these steps on current made known of it
abbrev pub current_known : List Made → Option ℕ
current_known [] = None
current_known (m ∷ ms) = rather (current_known ms) (cond (is_on_current m.kind) (Some (known_by m)) None)

-- each exchange among these steps, made after those of `made`, expects what the steps since the first n made known of its word
abbrev pub IsFair : ℕ → List Made → List Made → Type 0
IsFair n made [] = Unit {0}
IsFair n made (m ∷ ms) = Expects n made m × IsFair n (made ++ m ∷ []) ms

-- what answers told the caller of the history doesn't fall
pub record ToldMore (p q : Caller) : Type 0 where
  pub tables : p.told.tables ≤ q.told.tables
  pub settled : p.told.settled ≤ q.told.settled

-- A part of a call that began when n steps had been made: the steps that it made, which add these entries, and of which this is said. With it the call makes no more exchanges than the budget allows
pub record RanAs (Makes : List Made → Type 0) (table : Table) (n budget : ℕ) (old new : Pass) (entries : List Entry) : Type 0 where
  pub is : IsPassOf table new
  pub number : new.number ≡ old.number
  pub deal : (caller table new).deal ≡ (caller table old).deal
  pub own : (caller table new).own ≡ (caller table old).own ++ entries
  pub told : ToldMore (caller table old) (caller table new)
  pub copy : new.debts.copy ≡ old.debts.copy
  pub second_cut : new.debts.second_cut ≡ old.debts.second_cut
  pub since : List Made
  pub made : (caller table new).made ≡ (caller table old).made ++ since
  pub fair : IsFair n (caller table old).made since
  pub turns : new.turns ≡ old.turns + exchanges_of since
  pub makes : Makes since
  pub within : new.turns ≤ budget
  pub counted : n ≤ length (caller table new).made

-- no more ticks than these are made, and no step on current; or no raise of it
abbrev pub Apart : ℕ → List Made → Type 0
Apart most ms = (ticks_of ms ≤ most) × (on_current ms ≡ 0)

abbrev pub Unraised : ℕ → List Made → Type 0
Unraised most ms = (ticks_of ms ≤ most) × (raises_of ms ≡ 0)

-- No tick is made, and the raises in a row go from so many to so many. For each exchange that failed at most a whole row of them was raised and ended
abbrev pub Raising : ℕ → ℕ → ℕ → List Made → Type 0
Raising most from to ms = (ticks_of ms ≡ 0) × (raises_after from ms ≡ to) × (raises_won ms + from ≤ most * failures_of ms + to)

-- a part with no step on current, and with so many ticks at most; or with none
abbrev pub RanTicks : Table → ℕ → ℕ → ℕ → Pass → Pass → List Entry → Type 0
RanTicks table n budget most = RanAs (Apart most) table n budget

abbrev pub Ran : Table → ℕ → ℕ → Pass → Pass → List Entry → Type 0
Ran table n budget old new entries = RanTicks table n budget 0 old new entries

-- a part that doesn't raise current, with so many ticks at most
abbrev pub RanUnraised : Table → ℕ → ℕ → ℕ → Pass → Pass → List Entry → Type 0
RanUnraised table n budget most = RanAs (Unraised most) table n budget

-- a part that raises current so often in a row, after so many before
abbrev pub RanRaising : Table → ℕ → ℕ → ℕ → ℕ → ℕ → Pass → Pass → List Entry → Type 0
RanRaising table n budget most from to = RanAs (Raising most from to) table n budget

-- what the pass owes of an event stays, as it is known and at run time
pub record KeepsOwed (table : Table) (old new : Pass) : Type 0 where
  pub run : new.debts.settle ≡ old.debts.settle
  pub known : (caller table new).debts.settle ≡ (caller table old).debts.settle

-- and so does its permit
pub record KeepsEvent (table : Table) (old new : Pass) : Type 0 where
  pub run : new.debts.settle ≡ old.debts.settle
  pub known : (caller table new).debts.settle ≡ (caller table old).debts.settle
  pub permit : (caller table new).permit ≡ (caller table old).permit

-- what a part of a call asks: the call began when n steps had been made, and its budget isn't passed
pub record MayRun (table : Table) (n budget : ℕ) (pass : Pass) : Type 0 where
  pub counted : n ≤ length (caller table pass).made
  pub within : pass.turns ≤ budget
  pub low : budget < 4294967296

-- the guard is on, no row is cut and not retired, and the control word x is the one that the caller found
pub record IsInside (table : Table) (x : Control) (pass : Pass) : Type 0 where
  pub on : IsOn (caller table pass).guard
  pub uncut : (caller table pass).cut ≡ None
  pub control : (caller table pass).found.control ≡ Some x

-- the second pass made its steps after those of the first
abbrev pub Follows : Table → Pass → Pass → Type 0
Follows table old new = (since : List Made) × ((caller table new).made ≡ (caller table old).made ++ since)

-- Between the two passes the caller swept each list of the open table, whose control word it had found before: from the head to the end, and each row on the way was present when its link was loaded
pub record IsSwept (table : Table) (old new : Pass) : Type 0 where
  pub control : Control
  pub found : (caller table old).found.control ≡ Some control
  pub since : List Made
  pub made : (caller table new).made ≡ (caller table old).made ++ since
  pub lists : (q : ℕ) → IsHead q → IsOpen control q → SweepsTo table.start.layout (at_head q) since (at_row 0)

-- A look for a free row from this state of it on ended with this answer: a list of steps of the operation
pub data Looked (table : Table) : OwnOp → Pass → Pass → Own → Type 0 where
  looks_last : (op op' : OwnOp) (old new : Pass) (answer : Own) → (answer ≡ LooksOn → ⊥) → OwnStepped table op op' old new answer → Looked table op old new answer
  looks_on : (op op' : OwnOp) (old mid new : Pass) (answer : Own) → OwnStepped table op op' old mid LooksOn → Looked table op' mid new answer → Looked table op old new answer

-- A recovery from this state of it on ended with this answer: a list of steps of the operation
pub data Recovered (table : Table) : RecoverOp → Pass → Pass → Recover → Type 0 where
  ends : (op op' : RecoverOp) (old new : Pass) (answer : Recover) → (answer ≡ More → ⊥) → RecoverStepped table op op' old new answer → Recovered table op old new answer
  goes_on : (op op' : RecoverOp) (old mid new : Pass) (answer : Recover) → RecoverStepped table op op' old mid More → Recovered table op' mid new answer → Recovered table op old new answer
