-- The stages of a call, each made of parts.
use Rattle.std.proofs.Common.{◌≡◌, ⊎_elim, inl, inr, ℕ, ◌+◌, ◌-◌, ◌*◌, ◌%◌, ◌^◌, ◌<◌, ◌≤◌, true, false, List, [], ◌∷◌, ◌++◌, length, drop, le_refl, Option, Some, None, Result, Ok, Err, get_or, refl, sym, ap, ◌∙◌, subst, arith}
use Rattle.std.proofs.lemmas.List.{append-nil, append_assoc}
use Rattle.std.proofs.Math.Seq.{drop-append_seam}
use mathlib.Core.Logic.{dite}
use native.Mathlib.Decide.{ℕ_discrete}
use Rattle.crq_base.specs.declared.entry.Entry.{Entry}
use Rattle.crq_base.specs.declared.entry.Entry.TheVariants.{Put}
use Rattle.crq_base.specs.declared.answers.Refusal.{Refusal}
use Rattle.crq_base.specs.declared.answers.Refusal.TheVariants.{Again, Held, Rows}
use Rattle.crq_base.specs.declared.holder.Holder.{Holder}
use Rattle.crq_base.specs.declared.event.Event.{Event}
use Rattle.crq_base.specs.declared.kinds.StepKind.TheVariants.{ControlLoad}
use Rattle.crq_base.specs.declared.words.Control.{Control}
use Rattle.crq_base.specs.Lists.{In}
use Rattle.crq_base.specs.Sources.{IsFresh}
use Rattle.crq_rule.specs.declared.debts.Debts.{Debts}
use Rattle.crq_rule.specs.declared.debts.SettleDebt.{SettleDebt}
use Rattle.crq_rule.specs.declared.layout.Layout.{Layout}
use Rattle.crq_rule.specs.declared.pass.Pass.{Pass}
use Rattle.crq_rule.specs.declared.pass.Table.{Table}
use Rattle.crq_rule.specs.declared.view.Deal.{Deal}
use Rattle.crq_rule.specs.declared.view.Made.{Made}
use Rattle.crq_rule.specs.Parts.{IsEvent}
use Rattle.crq_rule.specs.Places.{IsHead}
use Rattle.crq_rule.specs.Ranks.{head_of, shape_of, IsOpen, Cell, at_head, at_row}
use Rattle.crq_rule.specs.ListKinds.{loads_control, owed_event}
use Rattle.crq_rows.specs.declared.recover.Recover.{Recover}
use Rattle.crq_rows.specs.declared.recover.RecoverOp.{RecoverOp}
use Rattle.crq_rows.specs.Recovering.{CountsRows, RecoverAnswer}
use Rattle.crq_rows.specs.declared.recover.Recover.TheVariants.{Held as IsHeld, Rows as NoRows}
use Rattle.crq_rows.specs.declared.recover.RecoverOp.TheVariants.{Ticking}
use Rattle.crq_rows.specs.declared.tick.TickOp.TheVariants.{Load}
use Rattle.crq_rows.specs.Passes.{caller, IsPassOf}
use Rattle.crq_list.specs.declared.parts.ListAt.{ListAt}
use Rattle.crq_list.specs.declared.parts.Spot.TheVariants.{Head}
use Rattle.crq_list.specs.declared.seek.SeekState.TheVariants.{Load as SeekHead}
use Rattle.crq_list.specs.declared.cut.CutOp.{CutOp}
use Rattle.crq_list.specs.declared.insert.InsertOp.{InsertOp}
use Rattle.crq_list.specs.declared.insert.InsertState.TheVariants.{Writing}
use Rattle.crq_list.specs.Spots.{IsAfter}
use Rattle.crq_list.specs.Sweeps.{SweepsTo}
use Rattle.crq_list.specs.Cutting.{IsCutting}
use Rattle.crq_list.specs.Inserting.{IsInserting}
use Rattle.crq_list.specs.Swaps.{Controlled}
use Rattle.crq_queue.specs.declared.runs.Spent.{Spent}
use Rattle.crq_queue.specs.Wholes.{IsResting}
use Rattle.crq_queue.specs.Runs.{Ran, RanTicks, KeepsEvent, MayRun, IsInside, Recovered, ends, goes_on}
use Rattle.crq_queue.specs.Calls.{NoRow}
use Rattle.crq_queue.specs.Parts.{Entered, Left, InsertNeeds, CutNeeds, UptoNeeds, IsUsedUp, CutRan, InsertRan, OwnRan, RecoverRan}
use Rattle.crq_queue.specs.Stages.{CutFinished, DebtCut, EventNoted, EventInserted, IsFinished, ListsSwept, SweepAnswers, SweepEnded, RowAnswers, RowFound}
use Rattle.crq_list.proofs.SweepLaws.{sweep_begins}
use Rattle.crq_queue.proofs.RunLaws.{ran_none, ran_trans, ran_both, ran_ticks, keeps_none, keeps_trans, used_on, used_for}
use Rattle.crq_queue.proofs.CallSteps.{IsAtWork, agrees_on, seated_anew, may_go, goes_inside, works_on, comes_to_rest, list_open, load_rests, load_found, load_ran}
use Rattle.crq_queue.proofs.CallOps.{may_sweep, may_insert}

-- what a part leaves, wherever its call began
abbrev pub Leaves : Table → ℕ → Pass → (ℕ → Type 0) → Type 0
Leaves table budget old P = (n : ℕ) → MayRun table n budget old → P n

-- Cutting the dead row that is owed

-- what a cut leaves may also be said from an earlier pass on, which owed the same, and of a later one, whose guard is off
still_finished : (table : Table) (n budget : ℕ) (old start end new : Pass) (result : Result (Unit {0}) Spent) → start.debts.cut ≡ old.debts.cut → Left table n budget end new → IsFinished table n budget start end result → IsFinished table n budget old new result
still_finished table n budget old start end new (Ok u) same l f = ap (λ (d : Debts). d.cut) l.keeps.debts ∙ f
still_finished table n budget old start end new (Err s) same l f = (ap (λ (d : Debts). d.cut) l.keeps.debts ∙ (f.0 ∙ same), used_on (subst (λ owed. IsUsedUp table n budget (CutNeeds n table owed) end) same f.1) l.ran l.turns)

module _ {table : Table} {budget : ℕ} {a b c : Pass} {x : Control} (r : IsResting table a) (load : Controlled ControlLoad table a b loads_control x) (enter : (n budget : ℕ) → MayRun table n budget b → Entered table n budget b c) where
  -- inside, after a load of the control word
  pub load_enter : {n : ℕ} → MayRun table n budget a → Ran table n budget a c [] × IsAtWork table x c
  load_enter {n} may = let one = load_ran load may in let e = enter n budget (may_go may one) in (ran_trans one e.ran, goes_inside (load_rests load r) (load_found load) e)

  module _ {d : Pass} {result : Result (Unit {0}) Spent} (cut : (n : ℕ) → MayRun table n budget c → CutFinished table n budget x c d result) where
    pub load_cut : {n : ℕ} → MayRun table n budget a → Ran table n budget a d [] × IsAtWork table x d × IsFinished table n budget c d result × (d.debts.settle ≡ a.debts.settle)
    load_cut {n} may = let one = load_enter may in let f = cut n (may_go may one.0) in
        (ran_trans one.0 f.ran, works_on one.1 f.ran f.inside f.event, f.finished, f.event.run ∙ (ap (λ (d : Debts). d.settle) (enter n budget (may_go may (load_ran load may))).keeps.debts ∙ ap (λ (p : Pass). p.debts.settle) load.same))

    -- what is owed stays until the cut
    still_owed : {n : ℕ} → MayRun table n budget a → c.debts.cut ≡ a.debts.cut
    still_owed {n} may = ap (λ (d : Debts). d.cut) (enter n budget (may_go may (load_ran load may))).keeps.debts ∙ ap (λ (p : Pass). p.debts.cut) load.same

    pub debt_cut : {e : Pass} → ((n budget : ℕ) → MayRun table n budget d → Left table n budget d e) → {n : ℕ} → MayRun table n budget a → DebtCut table n budget a e result
    debt_cut {e} leave {n} may = let one = load_cut may in let l = leave n budget (may_go may one.0) in record {
      ran = ran_trans one.0 l.ran;
      rests = comes_to_rest one.1 l;
      settle = ap (λ (d : Debts). d.settle) l.keeps.debts ∙ one.3;
      finished = still_finished table n budget a c d e result (still_owed may) l one.2;
    }

-- Inserting an event

pub fresh_on : (w : ℕ) (e : Event) (d d' : Deal) (own own' : List Entry) (j j' : ℕ) → d' ≡ d → own' ≡ own → j' ≡ j → IsFresh w d.history own d.span j e → IsFresh w d'.history own' d'.span j' e
fresh_on w e d d' own own' j j' deal same number fresh = subst (λ (z : Deal). IsFresh w z.history own' z.span j' e) (sym deal) (subst (λ z. IsFresh w d.history z d.span j' e) (sym same) (subst (λ z. IsFresh w d.history own d.span z e) (sym number) fresh))

-- what the pass comes to owe is of the operation's event
pub debt_same : (x : Control) {op : InsertOp} {list : ListAt} {row : ℕ} {event : Event} → op ≡ record { list = list; row = row; event = event; copy_of = None; state = Writing 1 } → (d : SettleDebt) → d ≡ owed_event x.generation (shape_of x) event → d ≡ owed_event x.generation (shape_of x) op.event
debt_same x is d owes = owes ∙ ap (λ (o : InsertOp). owed_event x.generation (shape_of x) o.event) (sym is)

module _ {table : Table} {budget : ℕ} {a b : Pass} {x : Control} (r : IsResting table a) (found : (caller table a).found.control ≡ Some x) (enter : (n budget : ℕ) → MayRun table n budget a → Entered table n budget a b) where
  pub enter_inside : {n : ℕ} → MayRun table n budget a → Ran table n budget a b [] × IsAtWork table x b
  enter_inside {n} may = let e = enter n budget may in (e.ran, goes_inside r found e)

  module _ {op : InsertOp} {list : ListAt} {row : ℕ} {event : Event} (names : (list.generation ≡ x.generation) × (list.head ≡ head_of x event)) (fits : IsEvent op.event) (settled : a.debts.settle ≡ None) (permit : (caller table a).permit ≡ true) (held : In row (caller table a).hand)
      (fresh : IsFresh table.start.layout.workers (caller table a).deal.history (caller table a).own (caller table a).deal.span a.number event) (is : op ≡ record { list = list; row = row; event = event; copy_of = None; state = Writing 1 }) where
    pub enter_insert : {n : ℕ} → MayRun table n budget a → IsInserting n table x op (caller table b)
    enter_insert {n} may = let e = enter n budget may in let w = goes_inside r found e in
        may_insert w.is w.inside op list event row e.ran.counted names fits (w.settle ∙ (e.keeps.event.run ∙ settled)) (e.keeps.event.permit ∙ permit) (subst (In row) (sym r.is.free ∙ (sym e.keeps.free ∙ w.is.free)) held)
        (fresh_on table.start.layout.workers event (caller table a).deal (caller table b).deal (caller table a).own (caller table b).own a.number (caller table b).number e.ran.deal (e.ran.own ∙ append-nil (caller table a).own) (w.is.sits.numbered ∙ e.ran.number) fresh) is

    module _ {c : Pass} {d : SettleDebt} (owes : d ≡ owed_event x.generation (shape_of x) event) where
      -- the guard is on, and what is owed agrees
      noted_work : (n : ℕ) (answer : Result (Unit {0}) Spent) → IsAtWork table x b → EventNoted table n budget x op d b c answer → IsAtWork table x c
      noted_work n (Ok u) w i = record { is = i.answers.0.is; inside = i.inside; settle = i.agrees; copy = ap (λ (d : Debts). d.copy) i.answers.1 ∙ w.copy; second_cut = ap (λ (d : Debts). d.second_cut) i.answers.1 ∙ w.second_cut }
      noted_work n (Err s) w i = record { is = i.answers.0.is; inside = i.inside; settle = i.agrees; copy = ap (λ (d : Debts). d.copy) i.answers.1 ∙ w.copy; second_cut = ap (λ (d : Debts). d.second_cut) i.answers.1 ∙ w.second_cut }

      pub enter_noted : (result : Result (Unit {0}) Spent) → ((n : ℕ) (y : Control) → IsInserting n table y op (caller table b) → d ≡ owed_event y.generation (shape_of y) op.event → EventNoted table n budget y op d b c result) → {n : ℕ} → MayRun table n budget a → IsAtWork table x c
      enter_noted result insert {n} may = noted_work n result (enter_inside may).1 (insert n x (enter_insert may) (debt_same x is d owes))

      inserted : (n : ℕ) (e : Pass) (answer : Result (Unit {0}) Spent) → Ran table n budget a b [] × IsAtWork table x b → b.debts ≡ a.debts → EventNoted table n budget x op d b c answer → (MayRun table n budget c → Left table n budget c e) → MayRun table n budget a → EventInserted table n budget x event a e answer
      inserted n e (Ok u) one kept i leave may = let ran = one.0 in let l = leave (may_go (may_go may ran) i.answers.0) in (
        subst (λ (p : ℕ × Event). Ran table n budget a e (Put p.0 p.1 ∷ [])) (λ k. (ran.number k, ap (λ (o : InsertOp). o.event) is k)) (ran_trans ran (ran_trans i.answers.0 l.ran)),
        comes_to_rest (noted_work n (Ok u) one.1 i) l,
        ap (λ (d : Debts). d.settle) (l.keeps.debts ∙ i.answers.1) ∙ ap Some owes,
        ap (λ (d : Debts). d.cut) (l.keeps.debts ∙ i.answers.1) ∙ ap (λ (d : Debts). d.cut) kept,
      )
      inserted n e (Err s) one kept i leave may = let ran = one.0 in let l = leave (may_go (may_go may ran) i.answers.0) in (
        ran_trans ran (ran_trans i.answers.0 l.ran),
        comes_to_rest (noted_work n (Err s) one.1 i) l,
        l.keeps.debts ∙ (i.answers.1 ∙ kept),
        subst (λ (o : InsertOp). IsUsedUp table n budget (InsertNeeds n table o.event) e) is (used_on i.answers.2 l.ran l.turns),
      )

      pub event_inserted : (e : Pass) (result : Result (Unit {0}) Spent) → ((n : ℕ) (y : Control) → IsInserting n table y op (caller table b) → d ≡ owed_event y.generation (shape_of y) op.event → EventNoted table n budget y op d b c result) → ((n budget : ℕ) → MayRun table n budget c → Left table n budget c e)
          → {n : ℕ} → MayRun table n budget a → EventInserted table n budget x event a e result
      event_inserted e result insert leave {n} may = inserted n e result (enter_inside may) (enter n budget may).keeps.debts (insert n x (enter_insert may) (debt_same x is d owes)) (leave n budget) may

-- the insertion that was made is noted

noted_pass : {table : Table} {d : SettleDebt} {mid : Pass} → IsPassOf table mid → (caller table mid).debts.settle ≡ Some d → IsPassOf table (record mid { debts = record mid.debts { settle = Some d } })
noted_pass {table} {d} {mid} of known = record { sits = seated_anew (record mid.debts { settle = Some d }) mid.turns of.sits; lawful = of.lawful; free = of.free; room = of.room; debts = record { settle = inr known; copy = of.debts.copy; names = of.debts.names } }

module _ {table : Table} {n budget : ℕ} {x : Control} {op : InsertOp} {d : SettleDebt} {old mid : Pass} (owes : d ≡ owed_event x.generation (shape_of x) op.event) where
  pub event_noted : {u v : Unit {0}} → InsertRan table n budget x op old mid (Ok u) → EventNoted table n budget x op d old (record mid { debts = record mid.debts { settle = Some d } }) (Ok v)
  event_noted i = let known = i.3 ∙ ap Some (sym owes) in let r = i.0 in record {
    inside = record { on = i.1.on; uncut = i.1.uncut; control = i.1.control };
    agrees = known;
    answers = (
      record { is = noted_pass r.is known; number = r.number; deal = r.deal; own = r.own; told = r.told; copy = r.copy; second_cut = r.second_cut; since = r.since; made = r.made; fair = r.fair; turns = r.turns; makes = r.makes; within = r.within; counted = r.counted },
      ap (λ (z : Debts). record z { settle = Some d }) i.2,
    );
  }

  pub not_noted : {s t : Spent} → (caller table old).debts.settle ≡ old.debts.settle → InsertRan table n budget x op old mid (Err s) → EventNoted table n budget x op d old mid (Err t)
  not_noted agrees i = record { inside = i.1; agrees = agrees_on agrees i.3; answers = (i.0, i.2, i.4) }

-- A row to put an event into

first_in : (xs : List ℕ) (r : ℕ) → 0 < length xs → ((d : ℕ) → r ≡ get_or xs 0 d) → In r xs
first_in [] r some first = absurd (omega arith)
first_in (x ∷ xs) r some first = inl (first 0)

stays_at_rest : {table : Table} {n budget most : ℕ} {old new : Pass} {es : List Entry} → IsResting table old → RanTicks table n budget most old new es → (caller table new).guard ≡ (caller table old).guard → ((caller table old).cut ≡ None → (caller table new).cut ≡ None) → KeepsEvent table old new → IsResting table new
stays_at_rest r ran guard cut event = record { is = ran.is; guard = guard ∙ r.guard; cut = cut r.cut; settle = agrees_on r.settle event; copy = ran.copy ∙ r.copy; second_cut = ran.second_cut ∙ r.second_cut }

-- a recovery that found no row counted events
counts_rows : (table : Table) (op : RecoverOp) (old new : Pass) (answer : Recover) → Recovered table op old new answer → answer ≡ NoRows → CountsRows table.start.layout (caller table new)
counts_rows table op old new answer (ends _ op' _ _ _ done s) is = (subst (λ (z : Recover). RecoverAnswer table.start.layout op' (caller table new) z) is s.facts.answer).2
counts_rows table op old new answer (goes_on _ op' _ mid _ _ s rest) is = counts_rows table op' mid new answer rest is

module _ {table : Table} {n budget : ℕ} {a b : Pass} (r : IsResting table a) where
  pub own_rests : {result : Option ℕ} → OwnRan table n budget a b result → IsResting table b
  own_rests o = stays_at_rest r o.ran o.guard o.uncut o.event

  pub own_found : {row : ℕ} → OwnRan table n budget a b (Some row) → RowFound table n budget a b (Ok row)
  own_found o = record { ran = ran_ticks o.ran (let none = o.ran.makes.0 in omega arith); rests = own_rests o; found = o.found; debts = o.debts; event = o.event; answers = o.ended }

  -- the budget ended in the sweep, after no row was found
  pub swept_late : {s : Pass} {spent : Spent} → OwnRan table n budget a b None → SweepEnded table n budget b s (Err spent) → RowFound table n budget a s (Err (Again budget))
  swept_late o w = record {
    ran = let both = ran_trans o.ran w.ran in ran_ticks both (let none = both.makes.0 in omega arith);
    rests = w.rests;
    found = w.found ∙ o.found;
    debts = w.debts ∙ o.debts;
    event = keeps_trans o.event w.event;
    answers = (refl, used_for (λ p needs. inl needs) w.answers);
  }

  module _ {s c : Pass} {u : Unit {0}} (o : OwnRan table n budget a b None) (w : SweepEnded table n budget b s (Ok u)) where
    -- after a recovery
    recovered : {result : Result Recover Spent} (answer : Result ℕ Refusal) → RecoverRan table n budget s c result → RowAnswers table n budget a c answer → RowFound table n budget a c answer
    recovered answer v answers = record { ran = ran_both (ran_trans o.ran w.ran) v.ran; rests = stays_at_rest w.rests v.ran v.guard v.uncut v.event; found = v.found ∙ (w.found ∙ o.found); debts = v.debts ∙ (w.debts ∙ o.debts); event = keeps_trans o.event (keeps_trans w.event v.event); answers = answers }

    -- it recovered no row, after none was found
    no_row : {answer : Recover} {result : Result Recover Spent} → RecoverRan table n budget s c result → Recovered table (Ticking 0 Load) s c answer → NoRow table a c answer
    no_row v recovers = record { looked = b; looks = o.ended.0; look_follows = (o.ran.since, o.ran.made); none = o.ended.1; swept = s; sweeps = w.answers; recovers = recovers; recovery_follows = (v.ran.since, v.ran.made) }

    pub recovered_held : {holder : Holder} → RecoverRan table n budget s c (Ok (IsHeld holder)) → RowFound table n budget a c (Err (Held holder))
    recovered_held {holder} v = recovered (Err (Held holder)) v (no_row v v.ended)

    pub recovered_none : RecoverRan table n budget s c (Ok NoRows) → RowFound table n budget a c (Err Rows)
    recovered_none v = recovered (Err Rows) v (no_row v v.ended, counts_rows table (Ticking 0 Load) s c NoRows v.ended refl)

    pub recovered_late : {spent : Spent} → RecoverRan table n budget s c (Err spent) → RowFound table n budget a c (Err (Again budget))
    recovered_late v = recovered (Err (Again budget)) v (refl, used_for (λ p needs. inr needs) v.ended)

    pub recovered_row : {end : Recover} (row : ℕ) → RecoverRan table n budget s c (Ok end) → 0 < length c.free.items → ((d : ℕ) → row ≡ get_or c.free.items 0 d) → RowFound table n budget a c (Ok row)
    recovered_row row v some first = recovered (Ok row) v (subst (In row) v.ran.is.free (first_in c.free.items row some first))

-- Sweeping the lists

-- a sweep is where it was after more steps, and goes on from where it begins after others
still_swept : (l : Layout) (a b : Cell) (xs ys : List Made) → SweepsTo l a xs b → SweepsTo l a (xs ++ ys) b
still_swept l a b [] ys is = subst (SweepsTo l a ys) is (sweep_begins l a ys)
still_swept l a b (m ∷ xs) ys is = ⊎_elim (λ s. inl (still_swept l a b xs ys s)) (λ t. inr (t.0, t.1, still_swept l (at_row t.0.row) b xs ys t.2)) is

then_swept : (l : Layout) (a b : Cell) (xs ys : List Made) → SweepsTo l a ys b → SweepsTo l a (xs ++ ys) b
then_swept l a b [] ys s = s
then_swept l a b (m ∷ xs) ys s = inl (then_swept l a b xs ys s)

-- the lists of the first heads are swept, while the guard is on
pub record IsSweeping (table : Table) (budget : ℕ) (x : Control) (k : ℕ) (start pass : Pass) : Type 0 where
  pub of : IsPassOf table pass
  pub inside : IsInside table x pass
  pub within : pass.turns ≤ budget
  pub found : (caller table pass).found ≡ (caller table start).found
  pub debts : pass.debts ≡ start.debts
  pub event : KeepsEvent table start pass
  pub since : List Made
  pub made : (caller table pass).made ≡ (caller table start).made ++ since
  pub swept : (j : ℕ) → j < k → SweepsTo table.start.layout (at_head (x.generation % 2 * 32768 + j)) since (at_row 0)
  pub ran : (n : ℕ) → MayRun table n budget start → Ran table n budget start pass []

pub sweeping_begins : {table : Table} {budget : ℕ} {x : Control} {pass : Pass} → IsPassOf table pass → IsInside table x pass → pass.turns ≤ budget → IsSweeping table budget x 0 pass pass
sweeping_begins {table} {budget} {x} {pass} of inside within = record {
  of = of;
  inside = inside;
  within = within;
  found = refl;
  debts = refl;
  event = keeps_none table pass;
  since = [];
  made = sym (append-nil (caller table pass).made);
  swept = λ j low. absurd (omega arith);
  ran = λ n may. ran_none of may;
}

module _ {table : Table} {budget : ℕ} {x : Control} {k : ℕ} {start a : Pass} (low : budget < 4294967296) (s : IsSweeping table budget x k start a) {op : CutOp} {list : ListAt} (number : k < 2 ^ x.log) (generation : list.generation ≡ x.generation) (head : list.head ≡ x.generation % 2 * 32768 + k)
    (is : op ≡ record { sought = record { list = list; target = None }; state = SeekHead (Head list.head); swept = false }) where
  pub sweep_one : {n : ℕ} → n ≤ length (caller table a).made → IsCutting n table x op (caller table a)
  sweep_one counted = let opens = list_open x k (s.of.lawful.controlled x s.inside.control).0 number in may_sweep s.of s.inside op list counted (let there = subst (λ q. IsHead q × IsOpen x q) (sym head) opens in (generation, there.0, there.1)) is

  module _ {b : Pass} where
    -- the list was swept to its end
    one_swept : {u : Unit {0}} → CutRan table (length (caller table a).made) budget x op a b (Ok u) → (ms : List Made) → (caller table b).made ≡ (caller table a).made ++ ms → SweepsTo table.start.layout (at_head (x.generation % 2 * 32768 + k)) ms (at_row 0)
    one_swept c ms made = let h = c.ended.1 in let steps : drop (length (caller table a).made) (caller table b).made ≡ ms = ap (drop (length (caller table a).made)) made ∙ drop-append_seam (caller table a).made ms in
        let at : op.sought.list.head ≡ x.generation % 2 * 32768 + k = ap (λ (o : CutOp). o.sought.list.head) is ∙ head in
        let end : h.row ≡ 0 = ⊎_elim (λ z. z) (λ t. absurd (subst (λ target. IsAfter target t.0 h.row) (ap (λ (o : CutOp). o.sought.target) is) t.2)) h.ends in
        subst (λ (z : ℕ × (ℕ × List Made)). SweepsTo table.start.layout (at_head z.0) z.1.1 (at_row z.1.0)) (λ i. (at i, (end i, steps i))) h.sweeps

    pub sweeping_on : {u : Unit {0}} → ((n : ℕ) (y : Control) → IsCutting n table y op (caller table a) → CutRan table n budget y op a b (Ok u)) → IsSweeping table budget x (k + 1) start b
    sweeping_on cut = let n : ℕ = length (caller table a).made in let c = cut n x (sweep_one (le_refl n)) in record {
      of = c.ran.is;
      inside = c.inside;
      within = c.ran.within;
      found = c.found ∙ s.found;
      debts = c.debts ∙ s.debts;
      event = keeps_trans s.event c.event;
      since = s.since ++ c.ran.since;
      made = c.ran.made ∙ (ap (λ ms. ms ++ c.ran.since) s.made ∙ append_assoc (caller table start).made s.since c.ran.since);
      swept = λ j less. dite (ℕ_discrete j k)
          (λ here. subst (λ j. SweepsTo table.start.layout (at_head (x.generation % 2 * 32768 + j)) (s.since ++ c.ran.since) (at_row 0)) (sym here) (then_swept table.start.layout (at_head (x.generation % 2 * 32768 + k)) (at_row 0) s.since c.ran.since (one_swept c c.ran.since c.ran.made)))
          (λ apart. still_swept table.start.layout (at_head (x.generation % 2 * 32768 + j)) (at_row 0) s.since c.ran.since (s.swept j (omega arith)));
      ran = λ n may. let r = s.ran n may in ran_trans r (cut n x (sweep_one r.counted)).ran;
    }

    pub sweeping_late : {t u : Spent} → ((n : ℕ) (y : Control) → IsCutting n table y op (caller table a) → CutRan table n budget y op a b (Err t)) → {n : ℕ} → MayRun table n budget start → ListsSwept table n budget x start b (Err u)
    sweeping_late cut {n} may = let r = s.ran n may in let c = cut n x (sweep_one r.counted) in record {
      ran = ran_trans r c.ran;
      inside = c.inside;
      found = c.found ∙ s.found;
      debts = c.debts ∙ s.debts;
      event = keeps_trans s.event c.event;
      answers = subst (λ target. IsUsedUp table n budget (UptoNeeds n table target) b) (ap (λ (o : CutOp). o.sought.target) is) c.ended;
    }

-- all lists are swept
pub all_swept : {table : Table} {budget : ℕ} {x : Control} {k : ℕ} {start pass : Pass} {u : Unit {0}} → 2 ^ x.log ≤ k → IsSweeping table budget x k start pass → {n : ℕ} → MayRun table n budget start → ListsSwept table n budget x start pass (Ok u)
all_swept {table} {budget} {x} {k} {start} {pass} every s {n} may = record {
  ran = s.ran n may;
  inside = s.inside;
  found = s.found;
  debts = s.debts;
  event = s.event;
  answers = (s.since, s.made, λ q opened. let from = opened.0 in let upto = opened.1 in let j : ℕ = q - x.generation % 2 * 32768 in let at : x.generation % 2 * 32768 + j ≡ q = omega arith in subst (λ q. SweepsTo table.start.layout (at_head q) s.since (at_row 0)) at (s.swept j (omega arith)));
}

module _ {table : Table} {budget : ℕ} {a b : Pass} {x : Control} (r : IsResting table a) (found : (caller table a).found.control ≡ Some x) (enter : (n budget : ℕ) → MayRun table n budget a → Entered table n budget a b) where
  module _ {c : Pass} (result : Result (Unit {0}) Spent) (sweep : (n : ℕ) → MayRun table n budget b → ListsSwept table n budget x b c result) where
    pub enter_swept : {n : ℕ} → MayRun table n budget a → Ran table n budget a c [] × IsAtWork table x c
    enter_swept {n} may = let one = enter_inside r found enter may in let s = sweep n (may_go may one.0) in (ran_trans one.0 s.ran, works_on one.1 s.ran s.inside s.event)

    sweep_answers : (d : Pass) (result : Result (Unit {0}) Spent) {n : ℕ} → Entered table n budget a b → ListsSwept table n budget x b c result → Left table n budget c d → SweepAnswers table n budget a d result
    sweep_answers d (Ok u) e s l = let after = s.answers.0 ++ l.ran.since in let l' = table.start.layout in record {
      control = x;
      found = found;
      since = e.ran.since ++ after;
      made = l.ran.made ∙ (ap (λ ms. ms ++ l.ran.since) s.answers.1 ∙ (append_assoc (caller table b).made s.answers.0 l.ran.since ∙ (ap (λ ms. ms ++ after) e.ran.made ∙ append_assoc (caller table a).made e.ran.since after)));
      lists = λ q head opened. then_swept l' (at_head q) (at_row 0) e.ran.since after (still_swept l' (at_head q) (at_row 0) s.answers.0 l.ran.since (s.answers.2 q opened));
    }
    sweep_answers d (Err t) e s l = used_on s.answers l.ran l.turns

    pub sweep_ended : (d : Pass) → ((n budget : ℕ) → MayRun table n budget c → Left table n budget c d) → {n : ℕ} → MayRun table n budget a → SweepEnded table n budget a d result
    sweep_ended d leave {n} may = let e = enter n budget may in let s = sweep n (may_go may e.ran) in let both = enter_swept may in let l = leave n budget (may_go may both.0) in record {
      ran = ran_trans both.0 l.ran;
      rests = comes_to_rest both.1 l;
      found = l.keeps.found ∙ (s.found ∙ e.keeps.found);
      debts = l.keeps.debts ∙ (s.debts ∙ e.keeps.debts);
      event = keeps_trans e.keeps.event (keeps_trans s.event l.keeps.event);
      answers = sweep_answers d result e s l;
    }
