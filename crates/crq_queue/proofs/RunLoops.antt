-- The loops over an operation's steps, within a budget.
use Rattle.std.proofs.Common.{◌≡◌, ◌⊎◌, ⊎_elim, inl, inr, ℕ, ◌+◌, ◌-◌, ◌*◌, ◌^◌, ◌<◌, ◌≤◌, cond, Bool, true, false, List, [], ◌∷◌, ◌++◌, drop, Option, Some, None, Ok, Err, sym, refl, ap, ◌∙◌, subst, arith}
use Rattle.std.proofs.lemmas.Bool.{false≢true}
use Rattle.std.proofs.lemmas.List.{append-nil}
use Rattle.crq_base.specs.declared.entry.Entry.{Entry}
use Rattle.crq_base.specs.declared.entry.Entry.TheVariants.{Put, Take}
use Rattle.crq_base.specs.declared.event.Event.{Event}
use Rattle.crq_base.specs.declared.kinds.StepKind.TheVariants.{Mark as MarkKind}
use Rattle.crq_base.specs.declared.words.Control.{Control}
use Rattle.crq_rule.specs.declared.debts.CutDebt.{CutDebt}
use Rattle.crq_rule.specs.declared.layout.Start.{Start}
use Rattle.crq_rule.specs.declared.pass.Pass.{Pass}
use Rattle.crq_rule.specs.declared.pass.Table.{Table}
use Rattle.crq_rule.specs.declared.view.Caller.{Caller}
use Rattle.crq_rule.specs.Parts.{IsOn}
use Rattle.crq_rule.specs.Places.{index, current}
use Rattle.crq_rule.specs.Core.{HasName, names_of}
use Rattle.crq_rule.specs.Ranks.{shape_of, head_of}
use Rattle.crq_rule.specs.ListKinds.{cut_debt, owed_event, MayMiss}
use Rattle.crq_rows.specs.Passes.{caller, IsPassOf}
use Rattle.crq_rows.specs.Known.{is_link, last_known, Stays, Works, turns_after}
use Rattle.crq_rows.proofs.Knowing.{known_else}
use Rattle.crq_list.specs.declared.cut.CutOp.{CutOp}
use Rattle.crq_list.specs.declared.seek.SeekState.{SeekState}
use Rattle.crq_list.specs.declared.seek.SeekState.TheVariants.{Load, Reading, Passing, Cutting, Tagging, Retiring}
use Rattle.crq_list.specs.declared.seek.Sought.{Sought}
use Rattle.crq_list.specs.declared.parts.ListAt.{ListAt}
use Rattle.crq_list.specs.declared.parts.Spot.TheVariants.{Head, Row}
use Rattle.crq_list.specs.Spots.{IsListOf}
use Rattle.crq_list.specs.declared.insert.CopyOf.{CopyOf}
use Rattle.crq_list.specs.declared.insert.InsertOp.{InsertOp}
use Rattle.crq_list.specs.declared.insert.InsertState.{InsertState}
use Rattle.crq_list.specs.declared.insert.InsertState.TheVariants.{Writing, Seeking, Placing, Linking}
use Rattle.crq_list.specs.declared.insert.InsertEnd.{InsertEnd}
use Rattle.crq_list.specs.declared.insert.InsertEnd.TheVariants.{Linked}
use Rattle.crq_list.specs.declared.take.TakeOp.{TakeOp}
use Rattle.crq_list.specs.declared.take.TakeState.{TakeState}
use Rattle.crq_list.specs.declared.take.TakeState.TheVariants.{Load as LoadHead, Walking, Reading as ReadingRow, Marking}
use Rattle.crq_list.specs.declared.take.MarkEnd.{MarkEnd}
use Rattle.crq_list.specs.declared.take.MarkEnd.TheVariants.{Marked, Beyond, Nothing, Lost, Frozen}
use Rattle.crq_list.specs.declared.parts.Progress.{Progress}
use Rattle.crq_list.specs.declared.parts.Progress.TheVariants.{More, Done}
use Rattle.crq_list.specs.declared.cut.CutEnd.{CutEnd}
use Rattle.crq_list.specs.declared.cut.CutEnd.TheVariants.{Clean}
use Rattle.crq_list.specs.Sweeps.{MetFrozen}
use Rattle.crq_list.specs.Seeking.{IsSeeking, seek_exchanges, seek_kind, seek_left}
use Rattle.crq_list.specs.Cutting.{IsCutting, CutStepped, HasSwept}
use Rattle.crq_list.specs.Inserting.{sought_by, IsInsertingAt, IsPutting, InsertAsks, IsInserting, state_exchanges, insert_exchanges, link_kind, insert_kind, state_left, copy_noted, LinkAnswers, InsertStepped}
use Rattle.crq_list.specs.Taking.{IsTaking, FoundNothing, IsUpToBucket, taking_exchanges, take_kind, list_left, taking_left, TakeStepped}
use Rattle.crq_list.proofs.SeekSteps.{now_list}
use Rattle.crq_queue.specs.declared.runs.Spent.{Spent}
use Rattle.crq_queue.specs.Runs.{is_on_current, Ran, KeepsEvent, IsInside}
use Rattle.crq_queue.specs.Parts.{CutRan, InsertRan, TakeKeeps, TakeRan, MarksBy}
use Rattle.crq_queue.proofs.RunLaws.{ran_none, ran_trans, ran_inside, may_run_on, used_up, stays_none, stays_trans, keeps_none, keeps_trans, counts}

-- A table that doesn't move

module _ {table : Table} {pass : Pass} (still : table.start.moves ≡ false) (of : IsPassOf table pass) where
  unmoved : (caller table pass).start.moves ≡ false
  unmoved = ap (λ (s : Start). s.moves) of.sits.started ∙ still

  -- no link is frozen
  pub unmet : {list : ListAt} → MetFrozen table.start.layout list (caller table pass) → ⊥
  unmet met = false≢true (sym unmoved ∙ met.moves)

  -- no control word that was found is moving
  unmoving : {x : Control} → (caller table pass).found.control ≡ Some x → x.moving ≡ true → ⊥
  unmoving {x} found moving = false≢true (sym ((of.lawful.controlled x found).1 unmoved) ∙ moving)

  -- a list that it tells is of the open table
  pub open_told : {x : Control} {list : ListAt} → IsListOf x list (caller table pass) → list.generation ≡ x.generation
  open_told {x} {list} is = ⊎_elim (λ now. now) (λ (next : (x.moving ≡ true) × (list.generation ≡ x.generation + 1)). absurd (unmoving is.control next.0)) is.told

  -- a dead row that the caller owes is of the open table, and its list is one of that
  pub owed_open : {x : Control} {d : CutDebt} → (caller table pass).found.control ≡ Some x → (caller table pass).debts.cut ≡ Some d → (d.generation ≡ x.generation) × (d.head ≡ head_of x d.event)
  owed_open {x} {d} found owes = let now = of.lawful.owed_now d x unmoved (inl owes) found in (now, of.lawful.owed_at d x (inl owes) found (inl now) ∙ now_list x d.generation d.event now)

  -- the caller owes one dead row at most: where each that is owed after a step was owed before, it is the same, or none
  pub one_left : (new : Pass) → ((d : CutDebt) → HasName (names_of (caller table new).debts) d → HasName (names_of (caller table pass).debts) d) → ((caller table new).debts.cut ≡ None) ⊎ ((caller table new).debts.cut ≡ (caller table pass).debts.cut)
  one_left new named = go (caller table new).debts.cut refl
    where
      none_some : {d : CutDebt} → None ≡ Some d → ⊥
      none_some e = cc

      go : (o : Option CutDebt) → (caller table new).debts.cut ≡ o → (o ≡ None) ⊎ (o ≡ (caller table pass).debts.cut)
      go None is = inl refl
      go (Some d) is = ⊎_elim (λ first. inr (sym first)) (λ second. absurd (none_some (sym (of.lawful.one_name unmoved) ∙ second))) (named d (inl is))

  -- an insertion is of a put
  pub is_put : {n : ℕ} {x : Control} {op : InsertOp} → IsInserting n table x op (caller table pass) → op.copy_of ≡ None
  is_put {n} {x} {op} i = go op.copy_of i.asks
    where
      go : (o : Option CopyOf) → InsertAsks o table x op (caller table pass) → o ≡ None
      go None asks = refl
      go (Some o) asks = absurd (unmoving i.list_is.control asks.moving)

  pub puts : {n : ℕ} {x : Control} {op : InsertOp} → IsInserting n table x op (caller table pass) → IsPutting table x op (caller table pass)
  puts {n} {x} {op} i = subst (λ o. InsertAsks o table x op (caller table pass)) (is_put i) i.asks

  -- and what the pass owes of an event at run time, which is none, agrees
  pub put_agrees : {n : ℕ} {x : Control} {op : InsertOp} → IsInserting n table x op (caller table pass) → (caller table pass).debts.settle ≡ pass.debts.settle
  put_agrees i = ⊎_elim (λ none. (puts i).settled ∙ sym none) (λ same. same) of.debts.settle

-- What is left, of exchanges and then of other steps, where `big` is above what is left of these

abbrev pub big : ℕ
big = 2 ^ 190

abbrev pub all_left : ℕ → ℕ → ℕ → ℕ
all_left budget turns left = (budget - turns) * big + left

falls_by_exchange : (budget turns left less : ℕ) → turns < budget → less < big → all_left budget (turns + 1) less < all_left budget turns left
falls_by_exchange budget turns left less room low = let d : ℕ = budget - (turns + 1) in let is : budget - turns ≡ d + 1 = omega arith in subst (λ z. d * big + less < z * big + left) (sym is) (omega arith)

-- a step falls: an exchange where the budget allows, or what is left falls
falls : (exchanges : Bool) (budget turns after left less : ℕ) → after ≡ turns_after exchanges turns → turns ≤ budget → budget < 4294967296 → (exchanges ≡ true → turns < budget) → less < big → (exchanges ≡ true) ⊎ (less < left)
    → all_left budget after less < all_left budget turns left
falls true budget turns after left less is within low room small _ = let b = room refl in let c = (counts true turns budget within low room).0 in
    subst (λ t. all_left budget t less < all_left budget turns left) (sym (is ∙ c)) (falls_by_exchange budget turns left less b small)
falls false budget turns after left less is within low room small (inl e) = absurd (false≢true e)
falls false budget turns after left less is within low room small (inr fewer) = subst (λ t. all_left budget t less < all_left budget turns left) (sym is) (omega arith)

-- A walk of a list

seek_small : (seek : SeekState) (p : Caller) → seek_left seek p < 2 ^ 166
seek_small (Load (Head q)) p = omega arith
seek_small (Load (Row r)) p = omega arith
seek_small (Reading b place) p = omega arith
seek_small (Passing b) p = omega arith
seek_small (Cutting b last) p = omega arith
seek_small (Tagging spot row) p = omega arith
seek_small (Retiring spot row tag) p = omega arith

-- where the next step of a walk is an exchange, it has no cut row
seek_uncut : (n : ℕ) (table : Table) (x : Control) (sought : Sought) (seek : SeekState) (p : Caller) → IsSeeking n table x sought seek p → seek_exchanges seek ≡ true → p.cut ≡ None
seek_uncut n table x sought (Cutting b last) p i e = i.at.0
seek_uncut n table x sought (Load spot) p i e = i.at.0
seek_uncut n table x sought (Reading b place) p i e = i.at.0
seek_uncut n table x sought (Passing b) p i e = i.at.0
seek_uncut n table x sought (Tagging spot row) p i e = absurd (false≢true e)
seek_uncut n table x sought (Retiring spot row tag) p i e = absurd (false≢true e)

state_small : (state : InsertState) (p : Caller) → state_left state p < big
state_small (Writing place) p = omega arith
state_small (Seeking seek) p = let small = seek_small seek p in omega arith
state_small (Placing b) p = omega arith
state_small (Linking b) p = omega arith

list_small : (state : TakeState) (p : Caller) → list_left state p < 2 ^ 165
list_small LoadHead p = omega arith
list_small (Walking r f) p = omega arith
list_small (ReadingRow r l place read f) p = omega arith
list_small (Marking r l e f) p = omega arith

taking_small : (op : TakeOp) (p : Caller) → taking_left op p < big
taking_small op p = let small = list_small op.state p in omega arith

state_uncut : (n : ℕ) (table : Table) (x : Control) (op : InsertOp) (state : InsertState) (p : Caller) → IsInsertingAt n table x op state p → state_exchanges state ≡ true → p.cut ≡ None
state_uncut n table x op (Writing place) p at e = at.0
state_uncut n table x op (Seeking seek) p at e = seek_uncut n table x (sought_by op) seek p at.0 e
state_uncut n table x op (Placing b) p at e = at.0.none
state_uncut n table x op (Linking b) p at e = at.0.none

-- no step of these operations is on current, and but for the one that links a row none makes an event owed

seek_apart : (seek : SeekState) → (is_on_current (seek_kind seek) ≡ false) × (is_link (seek_kind seek) ≡ false)
seek_apart (Load spot) = (refl, refl)
seek_apart (Reading b place) = (refl, refl)
seek_apart (Passing b) = (refl, refl)
seek_apart (Cutting b last) = (refl, refl)
seek_apart (Tagging spot row) = (refl, refl)
seek_apart (Retiring spot row tag) = (refl, refl)

link_apart : (o : Option CopyOf) → is_on_current (link_kind o) ≡ false
link_apart None = refl
link_apart (Some c) = refl

insert_apart : (o : Option CopyOf) (state : InsertState) → is_on_current (insert_kind o state) ≡ false
insert_apart o (Writing place) = refl
insert_apart o (Seeking seek) = (seek_apart seek).0
insert_apart o (Placing b) = refl
insert_apart o (Linking b) = link_apart o

take_apart : (state : TakeState) → (is_on_current (take_kind state) ≡ false) × (is_link (take_kind state) ≡ false)
take_apart LoadHead = (refl, refl)
take_apart (Walking r f) = (refl, refl)
take_apart (ReadingRow r l place read f) = (refl, refl)
take_apart (Marking r l e f) = (refl, refl)

marks_kind : (state : TakeState) → taking_exchanges state ≡ true → take_kind state ≡ MarkKind
marks_kind LoadHead e = absurd (false≢true e)
marks_kind (Walking r f) e = absurd (false≢true e)
marks_kind (ReadingRow r l place read f) e = absurd (false≢true e)
marks_kind (Marking r l e f) is = refl

-- what a step leaves of what is owed of an event
step_keeps : {n : ℕ} {exchanges : Bool} {table : Table} {old new : Pass} (works : Works n exchanges (caller table old) (caller table new)) → new.debts.settle ≡ old.debts.settle → is_link works.step.kind ≡ false → KeepsEvent table old new
step_keeps works run plain = record { run = run; known = works.settle plain; permit = works.stays.permit }

-- no entry was added
pub nothing_added : {xs ys : List Entry} → ys ≡ xs → ys ≡ xs ++ []
nothing_added {xs} {ys} e = e ∙ sym (append-nil xs)

-- what the caller found and its guard stay
pub inside_of : {table : Table} {x : Control} {new : Pass} (mid : Pass) → Stays (caller table mid) (caller table new) → IsOn (caller table mid).guard → (caller table mid).found.control ≡ Some x → (caller table new).cut ≡ None → IsInside table x new
inside_of mid stays on control uncut = record { on = subst IsOn (sym stays.guard) on; uncut = uncut; control = ap (λ f. f.control) stays.found ∙ control }

-- A cut

pub record CutGoes (table : Table) (n budget : ℕ) (x : Control) (op now : CutOp) (old new : Pass) : Type 0 where
  pub ran : Ran table n budget old new []
  pub stays : Stays (caller table old) (caller table new)
  pub at : IsCutting n table x now (caller table new)
  pub op_is : now ≡ record op { state = now.state; swept = now.swept }
  pub free : new.free.items ≡ old.free.items
  pub debts : new.debts ≡ old.debts
  pub event : KeepsEvent table old new
  pub owed : ((caller table new).debts.cut ≡ None) ⊎ ((caller table new).debts.cut ≡ (caller table old).debts.cut)

-- what a step leaves owed, after other steps
pub owed_on : {a b c : Option CutDebt} → (b ≡ None) ⊎ (b ≡ a) → (c ≡ None) ⊎ (c ≡ b) → (c ≡ None) ⊎ (c ≡ a)
owed_on first (inl none) = inl none
owed_on (inl none) (inr same) = inl (same ∙ none)
owed_on (inr was) (inr same) = inr (same ∙ was)

module _ (table : Table) (n budget : ℕ) (x : Control) (op : CutOp) (old : Pass) (low : budget < 4294967296) (still : table.start.moves ≡ false) where
  pub cut_begins : IsPassOf table old → old.turns ≤ budget → IsCutting n table x op (caller table old) → CutGoes table n budget x op op old old
  cut_begins of within at = record { ran = ran_none of (record { counted = at.0.counted; within = within; low = low }); stays = stays_none (caller table old); at = at; op_is = refl; free = refl; debts = refl; event = keeps_none table old; owed = inr refl }

  module _ (now : CutOp) (mid : Pass) (g : CutGoes table n budget x op now old mid) (room : seek_exchanges now.state ≡ true → mid.turns < budget) where
    cut_ran : {after : CutOp} {new : Pass} {answer : Progress CutEnd} → CutStepped n table x now after mid new answer → Ran table n budget old new []
    cut_ran s = ran_trans g.ran (ran_inside g.at.0.on (seek_exchanges now.state) [] (may_run_on low g.ran) room s.is s.number (ap (λ d. d.copy) s.debts) (ap (λ d. d.second_cut) s.debts) s.works (ap is_on_current s.kind ∙ (seek_apart now.state).0) s.turns (nothing_added s.own))

    cut_keeps : {after : CutOp} {new : Pass} {answer : Progress CutEnd} → CutStepped n table x now after mid new answer → KeepsEvent table old new
    cut_keeps s = keeps_trans g.event (step_keeps s.works (ap (λ d. d.settle) s.debts) (ap is_link s.kind ∙ (seek_apart now.state).1))

    pub cut_goes : (after : CutOp) (new : Pass) → CutStepped n table x now after mid new More → CutGoes table n budget x op after old new
    cut_goes after new s = record {
      ran = cut_ran s;
      stays = stays_trans g.stays s.works.stays;
      at = s.answers.0;
      op_is = s.answers.1 ∙ ap (λ (o : CutOp). record o { state = after.state; swept = after.swept }) g.op_is;
      free = s.free ∙ g.free;
      debts = s.debts ∙ g.debts;
      event = cut_keeps s;
      owed = owed_on g.owed (one_left still g.ran.is new s.owed);
    }

    pub cut_falls : (after : CutOp) (new : Pass) → CutStepped n table x now after mid new More → all_left budget new.turns (seek_left after.state (caller table new)) < all_left budget mid.turns (seek_left now.state (caller table mid))
    cut_falls after new s = let small = seek_small after.state (caller table new) in falls (seek_exchanges now.state) budget mid.turns new.turns (seek_left now.state (caller table mid)) (seek_left after.state (caller table new)) s.turns g.ran.within low room (omega arith) s.answers.2

    pub cut_ends : (after : CutOp) (new : Pass) → CutStepped n table x now after mid new (Done Clean) → CutRan table n budget x op old new (Ok tt)
    cut_ends after new s = let inside = inside_of mid s.works.stays g.at.0.on g.at.0.list_is.control s.answers.0 in record {
      ran = cut_ran s;
      inside = inside;
      found = (stays_trans g.stays s.works.stays).found;
      free = s.free ∙ g.free;
      debts = s.debts ∙ g.debts;
      event = cut_keeps s;
      owed = owed_on g.owed (one_left still g.ran.is new s.owed);
      ended = (
        λ d upto head owes. s.answers.1 d (ap (λ (o : CutOp). o.sought.target) g.op_is ∙ upto, head ∙ sym (ap (λ (o : CutOp). o.sought.list.head) g.op_is), (owed_open still s.is inside.control owes).0 ∙ sym (open_told still g.ran.is g.at.0.list_is)) (inl owes),
        subst (λ (o : CutOp). HasSwept n table.start.layout o.sought.list.head o.sought.target (caller table new)) g.op_is s.answers.2,
      );
    }

  pub cut_spent : (now : CutOp) (new : Pass) (s : Spent) → CutGoes table n budget x op now old new → seek_exchanges now.state ≡ true → budget ≤ new.turns → CutRan table n budget x op old new (Err s)
  cut_spent now new s g exchanges used = record {
    ran = g.ran;
    inside = record { on = g.at.0.on; uncut = seek_uncut n table x now.sought now.state (caller table new) g.at.0 exchanges; control = g.at.0.list_is.control };
    found = g.stays.found;
    free = g.free;
    debts = g.debts;
    event = g.event;
    owed = g.owed;
    ended = used_up g.ran.is g.ran.within used (record { control = x; op = now; at = g.at; upto_is = ap (λ (o : CutOp). o.sought.target) g.op_is; exchanges = exchanges });
  }

-- An insertion

pub record InsertGoes (table : Table) (n budget : ℕ) (x : Control) (op now : InsertOp) (old new : Pass) : Type 0 where
  pub ran : Ran table n budget old new []
  pub stays : Stays (caller table old) (caller table new)
  pub at : IsInserting n table x now (caller table new)
  pub op_is : now ≡ record op { state = now.state }
  pub debts : new.debts ≡ old.debts

module _ (table : Table) (n budget : ℕ) (x : Control) (op : InsertOp) (old : Pass) (low : budget < 4294967296) (still : table.start.moves ≡ false) where
  pub insert_begins : IsPassOf table old → old.turns ≤ budget → IsInserting n table x op (caller table old) → InsertGoes table n budget x op op old old
  insert_begins of within at = record { ran = ran_none of (record { counted = at.counted; within = within; low = low }); stays = stays_none (caller table old); at = at; op_is = refl; debts = refl }

  module _ (now : InsertOp) (mid : Pass) (g : InsertGoes table n budget x op now old mid) (room : insert_exchanges now ≡ true → mid.turns < budget) where
    insert_ran : {after : InsertOp} {new : Pass} {answer : Progress InsertEnd} (entries : List Entry) → InsertStepped n table x now after mid new answer → new.debts ≡ mid.debts → (caller table new).own ≡ (caller table mid).own ++ entries → Ran table n budget old new entries
    insert_ran entries s debts own = ran_trans g.ran (ran_inside g.at.on (insert_exchanges now) entries (may_run_on low g.ran) room s.is s.number (ap (λ d. d.copy) debts) (ap (λ d. d.second_cut) debts) s.works (ap is_on_current s.kind ∙ insert_apart now.copy_of now.state) s.turns own)

    pub insert_goes : (after : InsertOp) (new : Pass) → InsertStepped n table x now after mid new More → InsertGoes table n budget x op after old new
    insert_goes after new s = record {
      ran = insert_ran [] s s.debts (nothing_added s.answers.2);
      stays = stays_trans g.stays s.works.stays;
      at = s.answers.0;
      op_is = s.answers.1 ∙ ap (λ (o : InsertOp). record o { state = after.state }) g.op_is;
      debts = s.debts ∙ g.debts;
    }

    pub insert_falls : (after : InsertOp) (new : Pass) → InsertStepped n table x now after mid new More → all_left budget new.turns (state_left after.state (caller table new)) < all_left budget mid.turns (state_left now.state (caller table mid))
    insert_falls after new s = falls (insert_exchanges now) budget mid.turns new.turns (state_left now.state (caller table mid)) (state_left after.state (caller table new)) s.turns g.ran.within low room (state_small after.state (caller table new)) s.answers.4

    pub insert_ends : (after : InsertOp) (new : Pass) → InsertStepped n table x now after mid new (Done Linked) → InsertRan table n budget x op old new (Ok tt)
    insert_ends after new s = let event = ap (λ (o : InsertOp). o.event) g.op_is in let put = is_put still g.ran.is g.at in
        let debts : new.debts ≡ mid.debts = s.debts ∙ ap (λ o. copy_noted o now mid.debts) put in
        let linked : LinkAnswers None x now mid (caller table mid) (caller table new) = subst (λ o. LinkAnswers o x now mid (caller table mid) (caller table new)) put s.answers.0 in (
          insert_ran (Put old.number op.event ∷ []) s debts (linked.0 ∙ ap (λ es. (caller table mid).own ++ es) (λ i. Put (g.ran.number i) (event i) ∷ [])),
          inside_of mid s.works.stays g.at.on g.at.list_is.control s.answers.2,
          debts ∙ g.debts,
          linked.1 ∙ ap (λ e. Some (owed_event x.generation (shape_of x) e)) event,
        )

  -- an insertion that is under way has left what was owed of an event
  insert_keeps : (now : InsertOp) (new : Pass) → IsPassOf table old → IsInserting n table x op (caller table old) → InsertGoes table n budget x op now old new → KeepsEvent table old new
  insert_keeps now new of begun g = record { run = ap (λ d. d.settle) g.debts; known = (puts still g.ran.is g.at).settled ∙ sym (puts still of begun).settled; permit = g.stays.permit }

  pub insert_spent : (now : InsertOp) (new : Pass) (s : Spent) → IsPassOf table old → IsInserting n table x op (caller table old) → InsertGoes table n budget x op now old new → insert_exchanges now ≡ true → budget ≤ new.turns → InsertRan table n budget x op old new (Err s)
  insert_spent now new s of begun g exchanges used = (
    g.ran,
    record { on = g.at.on; uncut = state_uncut n table x now now.state (caller table new) g.at.at exchanges; control = g.at.list_is.control },
    g.debts,
    insert_keeps now new of begun g,
    used_up g.ran.is g.ran.within used (record { control = x; op = now; at = g.at; event = ap (λ (o : InsertOp). o.event) g.op_is; exchanges = exchanges }),
  )

-- A take

pub record TakeGoes (table : Table) (n budget : ℕ) (x : Control) (op now : TakeOp) (old new : Pass) : Type 0 where
  pub ran : Ran table n budget old new []
  pub stays : Stays (caller table old) (caller table new)
  pub at : IsTaking n table x now (caller table new)
  pub op_is : now ≡ record op { head = now.head; best = now.best; state = now.state }
  pub debts : new.debts ≡ old.debts
  pub event : KeepsEvent table old new
  pub known : last_known (drop n (caller table new).made) (index table.start.layout current) ≡ last_known (drop n (caller table old).made) (index table.start.layout current)

module _ (table : Table) (n budget : ℕ) (x : Control) (op : TakeOp) (old : Pass) (low : budget < 4294967296) where
  pub take_begins : IsPassOf table old → old.turns ≤ budget → IsTaking n table x op (caller table old) → TakeGoes table n budget x op op old old
  take_begins of within at = record { ran = ran_none of (record { counted = at.counted; within = within; low = low }); stays = stays_none (caller table old); at = at; op_is = refl; debts = refl; event = keeps_none table old; known = refl }

  module _ (now : TakeOp) (mid : Pass) (g : TakeGoes table n budget x op now old mid) (room : taking_exchanges now.state ≡ true → mid.turns < budget) where
    take_ran : {after : TakeOp} {new : Pass} {answer : Progress MarkEnd} (entries : List Entry) (cut : Option CutDebt) → TakeStepped n table x now after mid new answer → new.debts ≡ record mid.debts { cut = cut } → (caller table new).own ≡ (caller table mid).own ++ entries → Ran table n budget old new entries
    take_ran entries cut s debts own = ran_trans g.ran (ran_inside g.at.on (taking_exchanges now.state) entries (may_run_on low g.ran) room s.is s.number (ap (λ d. d.copy) debts) (ap (λ d. d.second_cut) debts) s.works (ap is_on_current s.kind ∙ (take_apart now.state).0) s.turns own)

    take_keeps : {after : TakeOp} {new : Pass} {answer : Progress MarkEnd} (cut : Option CutDebt) → TakeStepped n table x now after mid new answer → new.debts ≡ record mid.debts { cut = cut } → KeepsEvent table old new
    take_keeps cut s debts = keeps_trans g.event (step_keeps s.works (ap (λ d. d.settle) debts) (ap is_link s.kind ∙ (take_apart now.state).1))

    -- and of what is known of current
    take_known : {after : TakeOp} {new : Pass} {answer : Progress MarkEnd} → TakeStepped n table x now after mid new answer → last_known (drop n (caller table new).made) (index table.start.layout current) ≡ last_known (drop n (caller table old).made) (index table.start.layout current)
    take_known s = ap (λ ms. last_known (drop n ms) (index table.start.layout current)) s.works.made ∙ (known_else n (caller table mid).made s.works.step (index table.start.layout current) g.at.counted s.elsewhere ∙ g.known)

    pub take_goes : (after : TakeOp) (new : Pass) → TakeStepped n table x now after mid new More → TakeGoes table n budget x op after old new
    take_goes after new s = let a = s.answers in record {
      ran = take_ran [] mid.debts.cut s a.3 (nothing_added a.2);
      stays = stays_trans g.stays s.works.stays;
      at = a.0;
      op_is = a.1 ∙ ap (λ (o : TakeOp). record o { head = after.head; best = after.best; state = after.state }) g.op_is;
      debts = a.3 ∙ g.debts;
      event = take_keeps mid.debts.cut s a.3;
      known = take_known s;
    }

    pub take_falls : (after : TakeOp) (new : Pass) → TakeStepped n table x now after mid new More → all_left budget new.turns (taking_left after (caller table new)) < all_left budget mid.turns (taking_left now (caller table mid))
    take_falls after new s = falls (taking_exchanges now.state) budget mid.turns new.turns (taking_left now (caller table mid)) (taking_left after (caller table new)) s.turns g.ran.within low room (taking_small after (caller table new)) s.answers.4

    limit_is : now.limit ≡ op.limit
    limit_is = ap (λ (o : TakeOp). o.limit) g.op_is

    place_is : now.place ≡ op.place
    place_is = ap (λ (o : TakeOp). o.place) g.op_is

    -- a step without a mark leaves what is owed and seen
    take_left : {after : TakeOp} {new : Pass} {answer : Progress MarkEnd} → TakeStepped n table x now after mid new answer → new.debts ≡ mid.debts → (caller table new).cut ≡ None → TakeKeeps table n x old new
    take_left s debts cut = record { inside = inside_of mid s.works.stays g.at.on g.at.control cut; debts = debts ∙ g.debts; event = take_keeps mid.debts.cut s debts; sight = s.works.stays.sight ∙ g.stays.sight; known = take_known s }

    take_marks : {after : TakeOp} {new : Pass} (r : ℕ) (e : Event) (c : CutOp) → TakeStepped n table x now after mid new (Done (Marked r e c)) → taking_exchanges now.state ≡ true → MarksBy n table x op.place e new
    take_marks r e c s ready = record {
      before = mid;
      op = now;
      place_is = place_is;
      at = g.at;
      ready = ready;
      number = s.number;
      own = s.answers.0;
      mark = s.works.step;
      rest = [];
      kind = s.kind ∙ marks_kind now.state ready;
      made = s.works.made;
    }

    pub take_ends : table.start.moves ≡ false → (after : TakeOp) (new : Pass) (end : MarkEnd) → TakeStepped n table x now after mid new (Done end) → TakeRan table n budget x op old new (Ok end)
    take_ends still after new (Marked r e c) s = let a = s.answers in (
      take_ran (Take old.number e ∷ []) (Some (cut_debt x r e)) s a.2 (a.0 ∙ ap (λ j. (caller table mid).own ++ Take j e ∷ []) g.ran.number),
      inside_of mid s.works.stays g.at.on g.at.control a.3,
      take_keeps (Some (cut_debt x r e)) s a.2,
      subst (λ l. e.time < l) limit_is a.1,
      ap (λ d. d.cut) a.2,
      a.4,
      a.5,
      subst (λ p. IsUpToBucket x p e) place_is a.6,
      take_marks r e c s (a.7),
    )
    take_ends still after new (Beyond e) s = let a = s.answers in (take_ran [] mid.debts.cut s a.1 (nothing_added a.0), take_left s a.1 a.4, subst (λ l. MayMiss l (caller table new)) limit_is a.2)
    take_ends still after new Nothing s = let a = s.answers in (take_ran [] mid.debts.cut s a.1 (nothing_added a.0), take_left s a.1 a.3, subst (λ p. FoundNothing x p (caller table new)) place_is a.2)
    take_ends still after new Lost s = let a = s.answers in (
      take_ran [] mid.debts.cut s a.1 (nothing_added a.0),
      take_left s a.1 a.3,
      a.4,
      let more = (counts (taking_exchanges now.state) mid.turns budget g.ran.within low room).0 in let t = s.turns in let one : cond {A = ℕ} (taking_exchanges now.state) 1 0 ≡ 1 = ap (λ (b : Bool). cond {A = ℕ} b 1 0) a.2 in let before = g.ran.turns in omega arith,
    )
    take_ends still after new Frozen s = absurd (unmet still s.is s.answers.4)

  pub take_spent : (now : TakeOp) (new : Pass) (s : Spent) → TakeGoes table n budget x op now old new → taking_exchanges now.state ≡ true → budget ≤ new.turns → TakeRan table n budget x op old new (Err s)
  take_spent now new s g exchanges used = (
    g.ran,
    record { inside = record { on = g.at.on; uncut = g.at.uncut; control = g.at.control }; debts = g.debts; event = g.event; sight = g.stays.sight; known = g.known },
    used_up g.ran.is g.ran.within used (record { control = x; op = now; at = g.at; limit_is = ap (λ (o : TakeOp). o.limit) g.op_is; exchanges = exchanges }),
  )
