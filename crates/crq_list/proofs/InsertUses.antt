-- What a step of an insertion tells, where that is known to be of a put, or of a copy.
use Rattle.std.proofs.Common.{◌≡◌, ℕ, [], ◌∷◌, ◌++◌, Option, Some, None, ap, ◌∙◌, subst}
use Rattle.crq_base.specs.declared.entry.Entry.TheVariants.{Put}
use Rattle.crq_base.specs.declared.words.Control.{Control}
use Rattle.crq_rule.specs.declared.pass.Pass.{Pass}
use Rattle.crq_rule.specs.declared.pass.Table.{Table}
use Rattle.crq_rule.specs.declared.view.Caller.{Caller}
use Rattle.crq_rule.specs.Ranks.{shape_of}
use Rattle.crq_rule.specs.ListKinds.{owed_event, unhanded}
use Rattle.crq_rows.specs.Passes.{caller}
use Rattle.crq_list.specs.declared.parts.Progress.{Progress}
use Rattle.crq_list.specs.declared.parts.Progress.TheVariants.{More, Done}
use Rattle.crq_list.specs.declared.insert.CopyOf.{CopyOf}
use Rattle.crq_list.specs.declared.insert.InsertEnd.{InsertEnd}
use Rattle.crq_list.specs.declared.insert.InsertEnd.TheVariants.{Linked, Frozen}
use Rattle.crq_list.specs.declared.insert.InsertOp.{InsertOp}
use Rattle.crq_list.specs.Sweeps.{MetFrozen}
use Rattle.crq_list.specs.Inserting.{own_debt, IsPutting, IsCopying, InsertAsks, IsInserting, copy_noted, LinkAnswers, InsertStepped}

module _ (n : ℕ) (table : Table) (x : Control) (op : InsertOp) where
  module _ (put : op.copy_of ≡ None) where
    -- what a put asks of its caller
    pub put_asks : (p : Caller) → IsInserting n table x op p → IsPutting table x op p
    put_asks p i = subst (λ (o : Option CopyOf). InsertAsks o table x op p) put i.asks

    module _ (op' : InsertOp) (old new : Pass) where
      -- what the pass owes at run time stays
      pub put_debts : (answer : Progress InsertEnd) → InsertStepped n table x op op' old new answer → new.debts ≡ old.debts
      put_debts More s = s.debts
      put_debts (Done Linked) s = s.debts ∙ ap (λ (o : Option CopyOf). copy_noted o op old.debts) put
      put_debts (Done Frozen) s = s.debts

      -- the event was put, and the caller owes it
      pub put_linked : InsertStepped n table x op op' old new (Done Linked)
          → ((caller table new).own ≡ (caller table old).own ++ Put old.number op.event ∷ []) × (new.free.items ≡ unhanded op.row old.free.items) × ((caller table new).cut ≡ None) × ((caller table new).debts.settle ≡ Some (owed_event x.generation (shape_of x) op.event))
      put_linked s = let l = subst (λ (o : Option CopyOf). LinkAnswers o x op old (caller table old) (caller table new)) put s.answers.0 in (l.0, s.answers.1, s.answers.2, l.1)

      -- nothing was put, and the caller owes no event
      pub put_frozen : InsertStepped n table x op op' old new (Done Frozen)
          → ((caller table new).own ≡ (caller table old).own) × (new.free.items ≡ old.free.items) × ((caller table new).cut ≡ None) × ((caller table new).debts.settle ≡ None) × MetFrozen table.start.layout op.list (caller table new)
      put_frozen s = let a = subst (λ (o : Option CopyOf). InsertAsks o table x op (caller table new)) put s.answers.3 in (s.answers.0, s.answers.1, s.answers.2, a.settled, s.answers.4)

  module _ (o : CopyOf) (copy : op.copy_of ≡ Some o) where
    -- what a copy asks of its caller
    pub copy_asks : (p : Caller) → IsInserting n table x op p → IsCopying x op o p
    copy_asks p i = subst (λ (z : Option CopyOf). InsertAsks z table x op p) copy i.asks

    module _ (op' : InsertOp) (old new : Pass) where
      -- the copy was linked, and is owed, at run time too
      pub copy_linked : InsertStepped n table x op op' old new (Done Linked)
          → (new.debts ≡ record old.debts { copy = Some (own_debt op o) }) × (new.free.items ≡ unhanded op.row old.free.items) × ((caller table new).cut ≡ None) × LinkAnswers (Some o) x op old (caller table old) (caller table new)
      copy_linked s = (s.debts ∙ ap (λ (z : Option CopyOf). copy_noted z op old.debts) copy, s.answers.1, s.answers.2, subst (λ (z : Option CopyOf). LinkAnswers z x op old (caller table old) (caller table new)) copy s.answers.0)

      -- nothing was copied, and the caller may begin the copy anew
      pub copy_frozen : InsertStepped n table x op op' old new (Done Frozen)
          → ((caller table new).own ≡ (caller table old).own) × (new.free.items ≡ old.free.items) × ((caller table new).cut ≡ None) × IsCopying x op o (caller table new) × MetFrozen table.start.layout op.list (caller table new)
      copy_frozen s = (s.answers.0, s.answers.1, s.answers.2, subst (λ (z : Option CopyOf). InsertAsks z table x op (caller table new)) copy s.answers.3, s.answers.4)
