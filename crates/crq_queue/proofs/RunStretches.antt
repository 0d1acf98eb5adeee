-- The same loops where an operation makes several steps in one go.
use Rattle.std.proofs.Common.{◌≡◌, ℕ, ◌<◌, Bool, true, false, Ok, sym, ◌∙◌, arith}
use Rattle.std.proofs.lemmas.Bool.{false≢true}
use Rattle.crq_base.specs.declared.words.Control.{Control}
use Rattle.crq_rule.specs.declared.pass.Pass.{Pass}
use Rattle.crq_rule.specs.declared.pass.Table.{Table}
use Rattle.crq_rows.specs.Passes.{caller}
use Rattle.crq_list.specs.declared.parts.Progress.TheVariants.{More, Done}
use Rattle.crq_list.specs.declared.cut.CutOp.{CutOp}
use Rattle.crq_list.specs.declared.cut.CutEnd.TheVariants.{Clean, Frozen as CutFrozen}
use Rattle.crq_list.specs.declared.insert.InsertOp.{InsertOp}
use Rattle.crq_list.specs.declared.insert.InsertEnd.TheVariants.{Linked, Frozen as InsertFrozen}
use Rattle.crq_list.specs.declared.take.TakeOp.{TakeOp}
use Rattle.crq_list.specs.declared.take.MarkEnd.{MarkEnd}
use Rattle.crq_list.specs.Stretches.{ends, goes_on}
use Rattle.crq_list.specs.Seeking.{seek_left}
use Rattle.crq_list.specs.Cutting.{CutStretch, cut_exchanges}
use Rattle.crq_list.specs.Inserting.{InsertStretch, insert_exchanges, state_left}
use Rattle.crq_list.specs.Taking.{TakeStretch, take_exchanges, taking_left}
use Rattle.crq_queue.specs.Parts.{CutRan, InsertRan, TakeRan}
use Rattle.crq_queue.proofs.RunLoops.{unmet, all_left, CutGoes, cut_goes, cut_falls, cut_ends, InsertGoes, insert_goes, insert_falls, insert_ends, TakeGoes, take_goes, take_falls, take_ends}

-- in a table that doesn't move nothing is found frozen

pub cut_unfrozen : (n : ℕ) (table : Table) (x : Control) (now after : CutOp) (old new : Pass) → table.start.moves ≡ false → CutStretch n table x now after old new (Done CutFrozen) → ⊥
cut_unfrozen n table x now after old new still (ends _ _ _ _ _ s) = unmet still s.is s.answers.1
cut_unfrozen n table x now after old new still (goes_on _ next _ _ between _ _ s plain rest) = cut_unfrozen n table x next after between new still rest

pub insert_unfrozen : (n : ℕ) (table : Table) (x : Control) (now after : InsertOp) (old new : Pass) → table.start.moves ≡ false → InsertStretch n table x now after old new (Done InsertFrozen) → ⊥
insert_unfrozen n table x now after old new still (ends _ _ _ _ _ s) = unmet still s.is s.answers.4
insert_unfrozen n table x now after old new still (goes_on _ next _ _ between _ _ s plain rest) = insert_unfrozen n table x next after between new still rest

-- a step that is no exchange needs no room in the budget
no_room : {exchanges : Bool} {turns budget : ℕ} → exchanges ≡ false → exchanges ≡ true → turns < budget
no_room plain swaps = absurd (false≢true (sym plain ∙ swaps))

module _ (table : Table) (n budget : ℕ) (x : Control) (op : CutOp) (old : Pass) (low : budget < 4294967296) (still : table.start.moves ≡ false) where
  pub cut_runs_on : (now after : CutOp) (mid new : Pass) → CutGoes table n budget x op now old mid → (cut_exchanges now ≡ true → mid.turns < budget) → CutStretch n table x now after mid new More
      → CutGoes table n budget x op after old new × (all_left budget new.turns (seek_left after.state (caller table new)) < all_left budget mid.turns (seek_left now.state (caller table mid)))
  cut_runs_on now after mid new g room (ends _ _ _ _ _ s) = (cut_goes table n budget x op old low still now mid g room after new s, cut_falls table n budget x op old low still now mid g room after new s)
  cut_runs_on now after mid new g room (goes_on _ next _ _ between _ _ s plain rest) = let on = cut_goes table n budget x op old low still now mid g room next between s in
      let less = cut_falls table n budget x op old low still now mid g room next between s in let then = cut_runs_on next after between new on (no_room plain) rest in (then.0, let fell = then.1 in omega arith)

  pub cut_runs_out : (now after : CutOp) (mid new : Pass) → CutGoes table n budget x op now old mid → (cut_exchanges now ≡ true → mid.turns < budget) → CutStretch n table x now after mid new (Done Clean) → CutRan table n budget x op old new (Ok tt)
  cut_runs_out now after mid new g room (ends _ _ _ _ _ s) = cut_ends table n budget x op old low still now mid g room after new s
  cut_runs_out now after mid new g room (goes_on _ next _ _ between _ _ s plain rest) = cut_runs_out next after between new (cut_goes table n budget x op old low still now mid g room next between s) (no_room plain) rest

module _ (table : Table) (n budget : ℕ) (x : Control) (op : InsertOp) (old : Pass) (low : budget < 4294967296) (still : table.start.moves ≡ false) where
  pub insert_runs_on : (now after : InsertOp) (mid new : Pass) → InsertGoes table n budget x op now old mid → (insert_exchanges now ≡ true → mid.turns < budget) → InsertStretch n table x now after mid new More
      → InsertGoes table n budget x op after old new × (all_left budget new.turns (state_left after.state (caller table new)) < all_left budget mid.turns (state_left now.state (caller table mid)))
  insert_runs_on now after mid new g room (ends _ _ _ _ _ s) = (insert_goes table n budget x op old low still now mid g room after new s, insert_falls table n budget x op old low still now mid g room after new s)
  insert_runs_on now after mid new g room (goes_on _ next _ _ between _ _ s plain rest) = let on = insert_goes table n budget x op old low still now mid g room next between s in
      let less = insert_falls table n budget x op old low still now mid g room next between s in let then = insert_runs_on next after between new on (no_room plain) rest in (then.0, let fell = then.1 in omega arith)

  pub insert_runs_out : (now after : InsertOp) (mid new : Pass) → InsertGoes table n budget x op now old mid → (insert_exchanges now ≡ true → mid.turns < budget) → InsertStretch n table x now after mid new (Done Linked) → InsertRan table n budget x op old new (Ok tt)
  insert_runs_out now after mid new g room (ends _ _ _ _ _ s) = insert_ends table n budget x op old low still now mid g room after new s
  insert_runs_out now after mid new g room (goes_on _ next _ _ between _ _ s plain rest) = insert_runs_out next after between new (insert_goes table n budget x op old low still now mid g room next between s) (no_room plain) rest

module _ (table : Table) (n budget : ℕ) (x : Control) (op : TakeOp) (old : Pass) (low : budget < 4294967296) where
  pub take_runs_on : (now after : TakeOp) (mid new : Pass) → TakeGoes table n budget x op now old mid → (take_exchanges now ≡ true → mid.turns < budget) → TakeStretch n table x now after mid new More
      → TakeGoes table n budget x op after old new × (all_left budget new.turns (taking_left after (caller table new)) < all_left budget mid.turns (taking_left now (caller table mid)))
  take_runs_on now after mid new g room (ends _ _ _ _ _ s) = (take_goes table n budget x op old low now mid g room after new s, take_falls table n budget x op old low now mid g room after new s)
  take_runs_on now after mid new g room (goes_on _ next _ _ between _ _ s plain rest) = let on = take_goes table n budget x op old low now mid g room next between s in
      let less = take_falls table n budget x op old low now mid g room next between s in let then = take_runs_on next after between new on (no_room plain) rest in (then.0, let fell = then.1 in omega arith)

  pub take_runs_out : table.start.moves ≡ false → (now after : TakeOp) (mid new : Pass) (end : MarkEnd) → TakeGoes table n budget x op now old mid → (take_exchanges now ≡ true → mid.turns < budget) → TakeStretch n table x now after mid new (Done end) → TakeRan table n budget x op old new (Ok end)
  take_runs_out still now after mid new end g room (ends _ _ _ _ _ s) = take_ends table n budget x op old low now mid g room still after new end s
  take_runs_out still now after mid new end g room (goes_on _ next _ _ between _ _ s plain rest) = take_runs_out still next after between new end (take_goes table n budget x op old low now mid g room next between s) (no_room plain) rest
