-- Takes that are made step by step: what holds of a caller that stops in one.
use Rattle.std.proofs.Common.{◌≡◌, ℕ, ◌/◌, ◌^◌, ◌<◌, true, Some, None, refl, sym, ap, ◌∙◌, subst, arith}
use Rattle.crq_base.specs.declared.kinds.StepKind.TheVariants.{Begin as BeginKind}
use Rattle.crq_base.specs.declared.words.Control.{Control}
use Rattle.crq_base.specs.declared.words.Current.{Current}
use Rattle.crq_rule.specs.declared.pass.Pass.{Pass}
use Rattle.crq_rule.specs.declared.pass.Table.{Table}
use Rattle.crq_rule.specs.declared.view.Found.{Found}
use Rattle.crq_rule.specs.declared.view.Caller.{Caller}
use Rattle.crq_rule.specs.Parts.{IsOn}
use Rattle.crq_rule.specs.CurrentKinds.{table_seen, next_position, MayRaise}
use Rattle.crq_rule.specs.HistoryParts.{EndsInBegin}
use Rattle.crq_rule.specs.Ranks.{bucket, shape_of}
use Rattle.crq_rule.specs.ListKinds.{begins}
use Rattle.crq_rows.specs.Passes.{caller}
use Rattle.crq_list.specs.declared.parts.Progress.TheVariants.{Done}
use Rattle.crq_list.specs.declared.take.MarkEnd.{MarkEnd}
use Rattle.crq_list.specs.declared.take.MarkEnd.TheVariants.{Marked, Beyond, Nothing, Lost, Frozen}
use Rattle.crq_list.specs.declared.take.TakeOp.{TakeOp}
use Rattle.crq_list.specs.declared.take.TakeState.TheVariants.{Load as LoadHead}
use Rattle.crq_list.specs.declared.parts.Place.{Place}
use Rattle.crq_list.specs.declared.parts.Place.TheVariants.{Bucket}
use Rattle.crq_list.specs.Taking.{IsTaking, FoundNothing, TakeAnswers, TakeStepped, head_at}
use Rattle.crq_queue.proofs.CallOps.{may_take}
use Rattle.crq_list.specs.Swaps.{Controlled}
use Rattle.crq_current.specs.Positions.{Viewed}
use Rattle.crq_queue.specs.Wholes.{IsResting}
use Rattle.crq_queue.specs.Runs.{IsInside}

-- a take that has ended leaves no row that was cut
take_uncut : (n : ℕ) (table : Table) (x : Control) (op op' : TakeOp) (old new : Pass) (end : MarkEnd) → TakeAnswers n table x op op' old new (Done end) → (caller table new).cut ≡ None
take_uncut n table x op op' old new (Marked r e c) a = a.3
take_uncut n table x op op' old new (Beyond e) a = a.4
take_uncut n table x op op' old new Nothing a = a.3
take_uncut n table x op op' old new Lost a = a.3
take_uncut n table x op op' old new Frozen a = a.2

-- and the guard on
pub take_ended_inside : {n : ℕ} {table : Table} {x : Control} {op op' : TakeOp} {old new : Pass} (end : MarkEnd) → IsTaking n table x op (caller table old) → TakeStepped n table x op op' old new (Done end) → IsInside table x new
take_ended_inside {n} {table} {x} {op} {op'} {old} {new} end t s = record {
  on = subst IsOn (sym s.works.stays.guard) t.on;
  uncut = take_uncut n table x op op' old new end s.answers;
  control = ap (λ (f : Found). f.control) s.works.stays.found ∙ t.control;
}

-- so does one that is under way
pub taking_inside : {n : ℕ} {table : Table} {x : Control} {op : TakeOp} {pass : Pass} → IsTaking n table x op (caller table pass) → IsInside table x pass
taking_inside t = record { on = t.on; uncut = t.uncut; control = t.control }

-- a resting pass that begins rests
pub begin_rests : {table : Table} {old new : Pass} {x : Control} → Controlled BeginKind table old new begins x → IsResting table old → IsResting table new
begin_rests c r = record {
  is = c.is;
  guard = ap (λ (p : Caller). p.guard) c.part ∙ r.guard;
  cut = ap (λ (p : Caller). p.cut) c.part ∙ r.cut;
  settle = ap (λ (p : Caller). p.debts.settle) c.part ∙ (r.settle ∙ sym (ap (λ (p : Pass). p.debts.settle) c.same));
  copy = ap (λ (p : Pass). p.debts.copy) c.same ∙ r.copy;
  second_cut = ap (λ (p : Pass). p.debts.second_cut) c.same ∙ r.second_cut;
}

-- a take that has loaded current is inside its call, and sees the table
module _ {table : Table} {x : Control} {old new : Pass} {y : Current} (v : Viewed table old new true y) (inside : IsInside table x old) where
  pub viewed_inside : IsInside table x new
  viewed_inside = record {
    on = subst IsOn (sym (ap (λ (p : Caller). p.guard) v.part)) inside.on;
    uncut = ap (λ (p : Caller). p.cut) v.part ∙ inside.uncut;
    control = ap (λ (p : Caller). p.found.control) v.part ∙ inside.control;
  }

  -- the take of current's bucket begins
  pub takes_here : (op : TakeOp) (limit : ℕ) → EndsInBegin (caller table old).own → old.debts.cut ≡ None → old.debts.second_cut ≡ None
      → op ≡ record { found = x; place = Bucket (y.tick / 2 ^ x.shift); head = head_at x (Bucket (y.tick / 2 ^ x.shift)); limit = limit; best = None; state = LoadHead }
      → IsTaking 0 table x op (caller table new) × (op.place ≡ Bucket (bucket (shape_of x) y.tick))
  unfolding bucket
  takes_here op limit began free one is = (
    may_take v.is viewed_inside op (Bucket (y.tick / 2 ^ x.shift)) limit (omega arith) (subst EndsInBegin (sym (ap (λ (p : Caller). p.own) v.part)) began) (ap (λ (p : Pass). p.debts.cut) v.same ∙ free) (ap (λ (p : Pass). p.debts.second_cut) v.same ∙ one)
        (y, ap (λ (p : Caller). p.sight) v.part ∙ ap (λ c. table_seen c y) inside.control, refl) is,
    ap (λ (o : TakeOp). o.place) is,
  )

  pub viewed_sight : (caller table new).sight ≡ Some (record { table = x; current = y })
  viewed_sight = ap (λ (p : Caller). p.sight) v.part ∙ ap (λ c. table_seen c y) inside.control

-- a walk that found nothing in current's bucket lets current be raised
pub may_raise : (table : Table) (x : Control) (y to : Current) (place : Place) (new : Pass) → place ≡ Bucket (bucket (shape_of x) y.tick) → (caller table new).sight ≡ Some (record { table = x; current = y }) → FoundNothing x place (caller table new)
    → to ≡ next_position x y → to.tick < 2 ^ 32 → MayRaise x y (caller table new)
may_raise table x y to place new is sight nothing next low = let past = subst (λ p. FoundNothing x p (caller table new)) is nothing in record {
  sight = sight;
  walks = past.3;
  room = subst (λ (z : Current). z.tick < 2 ^ 32) next low;
}
