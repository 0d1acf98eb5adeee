-- The operations of a call: what they begin with, and what the stage made of one leaves.
use Rattle.std.proofs.Common.{◌≡◌, ⊎_elim, inl, ℕ, ◌+◌, ◌*◌, ◌%◌, ◌^◌, ◌≤◌, true, false, length, drop, Some, None, Ok, Err, refl, sym, ap, ◌∙◌, subst, arith}
use Rattle.std.proofs.lemmas.Bool.{false≢true}
use Rattle.std.proofs.lemmas.Nat.{pow_pos}
use Rattle.crq_base.specs.Words.{IsControl}
use Rattle.crq_base.specs.declared.event.Event.{Event}
use Rattle.crq_base.specs.declared.words.Control.{Control}
use Rattle.crq_base.specs.Lists.{In}
use Rattle.crq_base.specs.Sources.{IsFresh}
use Rattle.crq_rule.specs.declared.debts.CutDebt.{CutDebt}
use Rattle.crq_rule.specs.declared.debts.Debts.{Debts}
use Rattle.crq_rule.specs.declared.pass.Pass.{Pass}
use Rattle.crq_rule.specs.declared.pass.Table.{Table}
use Rattle.crq_rule.specs.Parts.{IsEvent}
use Rattle.crq_rule.specs.Places.{IsHead}
use Rattle.crq_rule.specs.declared.layout.Layout.{Layout}
use Rattle.crq_rule.specs.Ranks.{head_for, head_of, IsOpen, at_head}
use Rattle.crq_rule.specs.HistoryParts.{EndsInBegin}
use Rattle.crq_rows.specs.Passes.{caller, IsPassOf}
use Rattle.crq_list.specs.declared.parts.ListAt.{ListAt}
use Rattle.crq_list.specs.declared.parts.Spot.TheVariants.{Head}
use Rattle.crq_list.specs.declared.seek.SeekState.TheVariants.{Load}
use Rattle.crq_list.specs.declared.cut.CutOp.{CutOp}
use Rattle.crq_list.specs.declared.insert.InsertOp.{InsertOp}
use Rattle.crq_list.specs.declared.insert.InsertState.TheVariants.{Writing}
use Rattle.crq_list.specs.declared.take.TakeOp.{TakeOp}
use Rattle.crq_list.specs.declared.take.TakeState.TheVariants.{Load as LoadHead}
use Rattle.crq_list.specs.Spots.{Target, IsListOf, IsTarget}
use Rattle.crq_list.specs.Cutting.{IsCutting}
use Rattle.crq_list.specs.Inserting.{IsInserting}
use Rattle.crq_list.specs.declared.parts.Place.{Place}
use Rattle.crq_list.specs.declared.parts.Place.TheVariants.{Bucket, Search}
use Rattle.crq_list.specs.declared.take.Candidate.{Candidate}
use Rattle.crq_list.specs.Taking.{IsTaking, IsTakingAt, IsFirstIn, SeesPlace, head_at}
use Rattle.crq_queue.specs.declared.runs.Spent.{Spent}
use Rattle.crq_queue.specs.Runs.{IsInside}
use Rattle.crq_queue.specs.Parts.{CutRan, UptoNeeds}
use Rattle.crq_queue.specs.Stages.{CutsDebt, CutFinished}
use Rattle.crq_list.proofs.SweepLaws.{sweep_begins}
use Rattle.crq_list.proofs.SeekSteps.{now_open, now_list}
use Rattle.crq_rows.proofs.Passing.{one_name_owed}
use Rattle.crq_queue.proofs.RunLaws.{used_for}
use Rattle.crq_queue.proofs.RunLoops.{open_told, owed_open}
use Rattle.crq_queue.proofs.CallSteps.{head_open, list_open, is_uncut, uncut_ran}

-- the head at which a take begins
place_open : (x : Control) (place : Place) → IsControl x → IsHead (head_at x place) × IsOpen x (head_at x place)
unfolding head_for
place_open x (Bucket b) is = list_open x (b % 2 ^ x.log) is (let some = pow_pos x.log in omega arith)
place_open x Search is = let some = pow_pos x.log in let z : x.generation % 2 * 32768 + 0 ≡ x.generation % 2 * 32768 = omega arith in subst (λ q. IsHead q × IsOpen x q) z (list_open x 0 is (omega arith))

module _ {table : Table} {x : Control} {pass : Pass} (of : IsPassOf table pass) (inside : IsInside table x pass) where
  event_list : (list : ListAt) (e : Event) → list.generation ≡ x.generation → list.head ≡ head_of x e → IsListOf x list (caller table pass)
  event_list list e generation head = let heads = head_open x e (of.lawful.controlled x inside.control).0 in record {
    control = inside.control;
    told = inl generation;
    is_head = subst IsHead (sym head) heads.0;
    opened = now_open x list.generation list.head generation (subst (IsOpen x) (sym head) heads.1);
  }

  -- a cut up to a row of an event
  pub may_cut : {n : ℕ} (op : CutOp) (list : ListAt) (e : Event) (r : ℕ) → n ≤ length (caller table pass).made → (list.generation ≡ x.generation) × (list.head ≡ head_of x e)
      → op ≡ record { sought = record { list = list; target = Some (e, r) }; state = Load (Head list.head); swept = false } → IsCutting n table x op (caller table pass)
  may_cut {n} op list e r counted names is = subst (λ op. IsCutting n table x op (caller table pass)) (sym is) (
    record {
      counted = counted;
      on = inside.on;
      list_is = event_list list e names.0 names.1;
      target_is = now_list x list.generation e names.0 ∙ sym names.1;
      swept = sweep_begins table.start.layout (at_head list.head) (drop n (caller table pass).made);
      at = (inside.uncut, refl);
    },
    λ swept. absurd (false≢true swept),
  )

  -- a sweep of a list of the table
  pub may_sweep : {n : ℕ} (op : CutOp) (list : ListAt) → n ≤ length (caller table pass).made → (list.generation ≡ x.generation) × IsHead list.head × IsOpen x list.head
      → op ≡ record { sought = record { list = list; target = None }; state = Load (Head list.head); swept = false } → IsCutting n table x op (caller table pass)
  may_sweep {n} op list counted names is = subst (λ op. IsCutting n table x op (caller table pass)) (sym is) (
    record {
      counted = counted;
      on = inside.on;
      list_is = record { control = inside.control; told = inl names.0; is_head = names.1; opened = now_open x list.generation list.head names.0 names.2 };
      target_is = tt;
      swept = sweep_begins table.start.layout (at_head list.head) (drop n (caller table pass).made);
      at = (inside.uncut, refl);
    },
    λ swept. absurd (false≢true swept),
  )

  -- an insertion of an event in a row in hand
  pub may_insert : {n : ℕ} (op : InsertOp) (list : ListAt) (e : Event) (r : ℕ) → n ≤ length (caller table pass).made → (list.generation ≡ x.generation) × (list.head ≡ head_of x e) → IsEvent op.event → (caller table pass).debts.settle ≡ None → (caller table pass).permit ≡ true → In r (caller table pass).hand
      → IsFresh table.start.layout.workers (caller table pass).deal.history (caller table pass).own (caller table pass).deal.span (caller table pass).number e
      → op ≡ record { list = list; row = r; event = e; copy_of = None; state = Writing 1 } → IsInserting n table x op (caller table pass)
  may_insert {n} op list e r counted names event settled permit held fresh is = subst (λ op. IsInserting n table x op (caller table pass)) (sym is) record {
    counted = counted;
    on = inside.on;
    list_is = event_list list e names.0 names.1;
    of_list = now_list x list.generation e names.0 ∙ sym names.1;
    held = held;
    event = subst IsEvent (ap (λ (o : InsertOp). o.event) is) event;
    asks = record { settled = settled; permit = permit; opened = names.0; fresh = fresh };
    at = (inside.uncut, omega arith, omega arith, (λ b. absurd (omega arith), λ place low high _. absurd (omega arith)));
  }

  -- a take from a bucket's list, or from all lists, that has seen the table
  pub may_take : {n : ℕ} (op : TakeOp) (place : Place) (limit : ℕ) → n ≤ length (caller table pass).made → EndsInBegin (caller table pass).own → pass.debts.cut ≡ None → pass.debts.second_cut ≡ None → SeesPlace x place (caller table pass)
      → op ≡ record { found = x; place = place; head = head_at x place; limit = limit; best = None; state = LoadHead } → IsTaking n table x op (caller table pass)
  may_take {n} op place limit counted began free one sees is = let heads = place_open x place (of.lawful.controlled x inside.control).0 in subst (λ op. IsTaking n table x op (caller table pass)) (sym is) record {
    counted = counted;
    on = inside.on;
    began = began;
    control = inside.control;
    control_is = refl;
    is_head = heads.0;
    opened = heads.1;
    uncut = inside.uncut;
    free = ⊎_elim (λ q. q) (λ q. q ∙ free) (one_name_owed pass.debts (caller table pass).debts of.debts one).0;
    sees = sees;
    first = at_first place n table.start.layout limit;
    at = at_begin place n limit;
  }
    where
      none_best : {c : Candidate} → None ≡ Some c → ⊥
      none_best e = cc

      at_first : (place : Place) (n : ℕ) (l : Layout) (limit : ℕ) → IsFirstIn place n l (record { found = x; place = place; head = head_at x place; limit = limit; best = None; state = LoadHead }) LoadHead (caller table pass)
      at_first (Bucket b) n l limit = tt
      at_first Search n l limit = tt

      at_begin : (place : Place) (n limit : ℕ) → IsTakingAt n table x (record { found = x; place = place; head = head_at x place; limit = limit; best = None; state = LoadHead }) LoadHead (caller table pass)
      at_begin (Bucket b) n limit = (λ c e. absurd (none_best e), (refl, refl))
      at_begin Search n limit = (λ c e. absurd (none_best e), inl (refl, refl))

  -- the cut of the row that is owed, from the head on
  pub may_cut_owed : {n : ℕ} (op : CutOp) (list : ListAt) (d : CutDebt) → n ≤ length (caller table pass).made → (list.generation ≡ x.generation) × (list.head ≡ head_of x d.event)
      → op ≡ record { sought = record { list = list; target = Some (d.event, d.row) }; state = Load (Head list.head); swept = false } → pass.debts.cut ≡ Some d → pass.debts.second_cut ≡ None → CutsDebt n table x op pass
  may_cut_owed op list d counted names is owes one = (may_cut op list d.event d.row counted names is, (d, owes, ap (λ (o : CutOp). o.sought.target) is), one)

-- The dead row that was owed is cut

-- its list is that of the cut
owed_list : (x : Control) (list : ListAt) (target : Target) (d : CutDebt) → list.generation ≡ x.generation → target ≡ Some (d.event, d.row) → IsTarget x list target → list.head ≡ head_of x d.event
owed_list x list target d now is of = sym (subst (IsTarget x list) is of) ∙ now_list x list.generation d.event now

module _ {table : Table} {n budget : ℕ} {x : Control} {op : CutOp} {old mid : Pass} (still : table.start.moves ≡ false) (d : CutDebt) (one : old.debts.second_cut ≡ None) where
  -- it isn't known as owed any more
  cut_known : CutRan table n budget x op old mid (Ok tt) → old.debts.cut ≡ Some d → op.sought.target ≡ Some (d.event, d.row) → op.sought.list.head ≡ head_of x d.event → (caller table mid).debts.cut ≡ None
  cut_known c owes upto head = ⊎_elim (λ q. q) (λ q. let known : (caller table mid).debts.cut ≡ Some d = q ∙ (ap (λ (d : Debts). d.cut) c.debts ∙ owes) in
      absurd (c.ended.0 d upto ((owed_open still c.ran.is c.inside.control known).1 ∙ sym head) known)) (one_name_owed mid.debts (caller table mid).debts c.ran.is.debts (c.ran.second_cut ∙ one)).0

  finished : {u : Unit {0}} → CutRan table n budget x op old mid (Ok u) → old.debts.cut ≡ Some d → op.sought.target ≡ Some (d.event, d.row) → op.sought.list.head ≡ head_of x d.event
      → CutFinished table n budget x old (record mid { debts = record mid.debts { cut = None } }) (Ok tt)
  finished c owes upto head = let of = is_uncut c.ran.is (cut_known c owes upto head) in record {
    ran = uncut_ran c.ran of;
    inside = record { on = c.inside.on; uncut = c.inside.uncut; control = c.inside.control };
    free = c.free;
    event = record { run = c.event.run; known = c.event.known; permit = c.event.permit };
    finished = refl;
  }

module _ {table : Table} {n budget : ℕ} {x : Control} {op : CutOp} {old new : Pass} (still : table.start.moves ≡ false) (of : IsPassOf table old) (owed : CutsDebt n table x op old) where
  pub cut_finished : {u : Unit {0}} → CutRan table n budget x op old new (Ok u) → CutFinished table n budget x old (record new { debts = record new.debts { cut = None } }) (Ok tt)
  cut_finished c = let d = owed.1.0 in finished still d owed.2 c owed.1.1 owed.1.2 (owed_list x op.sought.list op.sought.target d (open_told still of owed.0.0.list_is) owed.1.2 owed.0.0.target_is)

  pub cut_unfinished : {s t : Spent} → CutRan table n budget x op old new (Err s) → CutFinished table n budget x old new (Err t)
  cut_unfinished c = let d = owed.1.0 in let owes = owed.1.1 in let upto = owed.1.2 in record { ran = c.ran; inside = c.inside; free = c.free; event = c.event; finished = (ap (λ (d : Debts). d.cut) c.debts, used_for (λ p needs. record { debt = d; owes = owes; cuts = subst (λ u. UptoNeeds n table u p) upto needs }) c.ended) }
