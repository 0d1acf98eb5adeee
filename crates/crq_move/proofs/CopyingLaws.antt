-- What a step of an emptying tells by which a copy is linked.
use Rattle.std.proofs.Common.{◌≡◌, ⊎_elim, inl, inr, ℕ, ◌*◌, ◌-◌, ◌^◌, Some, None, sym, ap, ◌∙◌, subst}
use Rattle.std.proofs.lemmas.Option.{same_Some}
use Rattle.crq_base.specs.declared.words.Control.{Control}
use Rattle.crq_rule.specs.declared.debts.CopyDebt.{CopyDebt}
use Rattle.crq_rule.specs.declared.debts.Debts.{Debts}
use Rattle.crq_rule.specs.declared.pass.Pass.{Pass}
use Rattle.crq_rule.specs.declared.pass.Table.{Table}
use Rattle.crq_rows.specs.Passes.{caller}
use Rattle.crq_list.specs.declared.parts.Progress.{Progress}
use Rattle.crq_list.specs.declared.parts.Progress.TheVariants.{More, Done}
use Rattle.crq_list.specs.declared.insert.CopyOf.{CopyOf}
use Rattle.crq_list.specs.declared.insert.InsertEnd.{InsertEnd}
use Rattle.crq_list.specs.declared.insert.InsertEnd.TheVariants.{Linked, Frozen}
use Rattle.crq_list.specs.declared.insert.InsertOp.{InsertOp}
use Rattle.crq_list.specs.Inserting.{own_debt, IsCopying, IsInserting, insert_exchanges, state_left, InsertStepped}
use Rattle.crq_list.proofs.InsertUses.{copy_asks, copy_linked, copy_frozen}
use Rattle.crq_move.specs.declared.parts.PartEnd.{PartEnd}
use Rattle.crq_move.specs.declared.parts.PartEnd.TheVariants.{Passed}
use Rattle.crq_move.specs.declared.empty.MoveState.{MoveState}
use Rattle.crq_move.specs.declared.empty.MoveState.TheVariants.{Load, Copy, Bind}
use Rattle.crq_move.specs.declared.empty.MoveOp.{MoveOp}
use Rattle.crq_move.specs.declared.bind.BindState.TheVariants.{Twin as BindTwin}
use Rattle.crq_move.specs.Binding.{IsBinding}
use Rattle.crq_move.specs.Emptying.{IsAt, IsNextCopy, IsEmptying, NamesAt, EmptyAnswers, EmptyStepped}
use Rattle.crq_move.proofs.HelperLaws.{counted_on}
use Rattle.crq_move.proofs.BindingLaws.{binding_begins}
use Rattle.crq_move.proofs.EmptyLaws.{works_on}
use Rattle.crq_move.proofs.RowLaws.{sum_less}

module _ (n : ℕ) (table : Table) (x : Control) (op : MoveOp) (old : Pass) (is : IsEmptying n table x op (caller table old)) (i : InsertOp) (state : op.state ≡ Copy i) (room : NamesAt op.state old.debts) where
  -- the copy's insertion is under way
  pub copying : IsInserting n table x i (caller table old) × ((o : CopyOf) × (i.copy_of ≡ Some o))
  copying = subst (λ z. IsAt n table x op.passed z (caller table old)) state is.at

  has_room : old.debts.second_cut ≡ None
  has_room = subst (λ z. NamesAt z old.debts) state room

  abbrev of_copy : CopyOf
  of_copy = copying.1.0

  asks : IsCopying x i of_copy (caller table old)
  asks = copy_asks n table x i of_copy copying.1.1 (caller table old) copying.0

  module _ (i' : InsertOp) (new : Pass) where
    abbrev at_copy : MoveOp
    at_copy = record op { state = Copy i }

    -- its step is one of the emptying
    copy_told : (told : Progress InsertEnd) (op' : MoveOp) (answer : Progress PartEnd) → InsertStepped n table x i i' old new told → new.debts.settle ≡ old.debts.settle → (caller table new).own ≡ (caller table old).own
        → EmptyAnswers n table x at_copy op' old new answer → EmptyStepped n table x op op' old new answer
    copy_told told op' answer s settle own answers = subst (λ (z : MoveState). EmptyStepped n table x (record op { state = z }) op' old new answer) (sym state)
        (record { is = s.is; works = s.works; kind_is = s.kind; turns = s.turns; number = s.number; settle = settle; own = own; answers = answers })

    next_at : (told : Progress InsertEnd) → InsertStepped n table x i i' old new told → (next : MoveState) → IsAt n table x op.passed next (caller table new) → IsEmptying n table x (record op { state = next }) (caller table new)
    next_at told s next at = works_on n table x op (caller table old) (caller table new) (insert_exchanges i) is s.is.lawful s.works s.helps.help next at

    -- it goes on
    pub copy_goes : InsertStepped n table x i i' old new More → EmptyStepped n table x op (record op { state = Copy i' }) old new More
    copy_goes s = let a = s.answers in copy_told More (record op { state = Copy i' }) More s (ap (λ (z : Debts). z.settle) s.debts) a.2 (
      next_at More s (Copy i') (a.0, (of_copy, ap (λ (z : InsertOp). z.copy_of) a.1 ∙ copying.1.1)),
      ap (λ (z : Debts). z.second_cut) s.debts ∙ has_room,
      ⊎_elim inl (λ low. inr (sum_less ((2 ^ op.control.log - op.passed) * 2 ^ 170) (state_left i'.state (caller table new)) (state_left i.state (caller table old)) low)) a.4,
    )

    -- the copy was linked, and is owed
    pub copy_owed : (d : CopyDebt) → new.debts.copy ≡ Some d → InsertStepped n table x i i' old new (Done Linked) → EmptyStepped n table x op (record op { state = Bind (record { debt = d; state = BindTwin }) }) old new More
    copy_owed d owes s = let l = copy_linked n table x i of_copy copying.1.1 i' old new s in let debts = l.0 in
        let one : own_debt i of_copy ≡ d = same_Some (own_debt i of_copy) d (sym (ap (λ (z : Debts). z.copy) debts) ∙ owes) in
        copy_told (Done Linked) (record op { state = Bind (record { debt = d; state = BindTwin }) }) More s (ap (λ (z : Debts). z.settle) debts) l.3.0 (
          next_at (Done Linked) s (Bind (record { debt = d; state = BindTwin })) (subst (λ z. IsBinding n table (record { debt = z; state = BindTwin }) (caller table new) × IsNextCopy x z) one (
            binding_begins n table (own_debt i of_copy) (caller table new) (counted_on n (insert_exchanges i) (caller table old) (caller table new) s.works is.counted) l.2 l.3.2,
            record { next = asks.next; list = copying.0.of_list },
          )),
          ap (λ (z : Debts). z.second_cut) debts ∙ has_room,
          inl s.answers.3,
        )

    -- or its list is frozen
    pub copy_over : InsertStepped n table x i i' old new (Done Frozen) → EmptyStepped n table x op (record op { state = Load }) old new (Done Passed)
    copy_over s = let f = copy_frozen n table x i of_copy copying.1.1 i' old new s in
        copy_told (Done Frozen) (record op { state = Load }) (Done Passed) s (ap (λ (z : Debts). z.settle) s.debts) f.0 ((f.2, f.3.none), f.4)
