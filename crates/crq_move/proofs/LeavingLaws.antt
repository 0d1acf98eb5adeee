-- What the steps of an emptying tell by which the first row leaves its list and is retired.
use Rattle.std.proofs.Common.{◌≡◌, ◌≢◌, ◌⊎◌, ⊎_elim, inl, inr, ℕ, ◌+◌, ◌*◌, ◌-◌, ◌^◌, ◌<◌, cond, true, false, [], ◌∷◌, Option, Some, None, drop, eq-eqb, refl, sym, ap, ◌∙◌, subst, arith}
use Rattle.std.proofs.lemmas.Bool.{false≢true}
use Rattle.crq_base.specs.declared.kinds.StepKind.TheVariants.{Pop as PopKind, EpochLoad, Retire as RetireKind}
use Rattle.crq_base.specs.declared.words.Link.{Link}
use Rattle.crq_base.specs.declared.words.Control.{Control}
use Rattle.crq_base.specs.Words.{link_word}
use Rattle.crq_rule.specs.declared.debts.CutDebt.{CutDebt}
use Rattle.crq_rule.specs.declared.debts.Debts.{Debts}
use Rattle.crq_rule.specs.declared.pass.Pass.{Pass}
use Rattle.crq_rule.specs.declared.pass.Table.{Table}
use Rattle.crq_rule.specs.declared.view.Made.{Made}
use Rattle.crq_rule.specs.declared.view.Caller.{Caller}
use Rattle.crq_rule.specs.Core.{names_of, renamed}
use Rattle.crq_rule.specs.Places.{index, epoch, head, stamp, IsHead}
use Rattle.crq_rule.specs.Kinds.{tagged, loads_epoch, retires}
use Rattle.crq_rule.specs.Helping.{old_head}
use Rattle.crq_rule.specs.ListKinds.{unnamed, unnamed_row, cuts}
use Rattle.crq_rule.specs.MoveKinds.{MayPop}
use Rattle.crq_rule.proofs.NameLaws.{moved_second}
use Rattle.crq_rows.specs.Passes.{caller, IsOwed, IsPassOf, Stepped, load_made, store_made, step_made}
use Rattle.crq_list.specs.declared.parts.Progress.TheVariants.{More}
use Rattle.crq_list.specs.Known.{last_known, turns_after}
use Rattle.crq_list.proofs.StepLaws.{rows_apart}
use Rattle.crq_move.specs.declared.empty.MoveState.TheVariants.{Load, Pop, Tag, Retire}
use Rattle.crq_move.specs.declared.empty.MoveOp.{MoveOp}
use Rattle.crq_move.specs.Steps.{WordLeft}
use Rattle.crq_move.specs.Emptying.{IsAt, IsEmptying, NamesAt, empty_exchanges, state_exchanges, state_kind, state_rank, EmptyStepped}
use Rattle.crq_move.proofs.EmptySteps.{owes_on}
use Rattle.crq_move.proofs.EmptyLaws.{Aside, grows_none, nothing_aside, goes_on, empty_stepped}
use Rattle.crq_move.proofs.NameLaws.{left_lags}
use Rattle.crq_move.proofs.RowLaws.{at_low}

-- What the steps leave aside

-- a row that is cut
cut_aside : (r : ℕ) (p : Caller) → Aside p (cuts r p)
cut_aside r p = record {
  stays = record { number = refl; start = refl; deal = refl; found = refl; guard = refl; permit = refl; sight = refl; told = refl };
  made = refl;
  own = refl;
  settle = refl;
  help = λ h is. (h, is, grows_none h);
}

-- an epoch that is found
epoch_aside : (e : ℕ) (p : Caller) → Aside p (loads_epoch e p)
epoch_aside e p = record {
  stays = record { number = refl; start = refl; deal = refl; found = refl; guard = refl; permit = refl; sight = refl; told = refl };
  made = refl;
  own = refl;
  settle = refl;
  help = λ h is. (h, is, grows_none h);
}

-- and a row that is retired
retire_aside : (p : Caller) → Aside p (retires p)
retire_aside p = record {
  stays = record { number = refl; start = refl; deal = refl; found = refl; guard = refl; permit = refl; sight = refl; told = refl };
  made = refl;
  own = refl;
  settle = refl;
  help = λ h is. (h, is, grows_none h);
}

-- without the row that was cut the pass names no second one, where that was the second one
unnamed_second : (r : ℕ) (o : Option CutDebt) → (o ≡ None) ⊎ ((c : CutDebt) × (o ≡ Some c) × (c.row ≡ r)) → unnamed r o ≡ None
unnamed_second r o (inl none) = ap (unnamed r) none
unnamed_second r o (inr named) = ap (unnamed r) named.1 ∙ ap (λ b. cond b None (Some named.0)) (eq-eqb named.0.row r named.2)

module _ (n : ℕ) (table : Table) (x : Control) (op : MoveOp) (old : Pass) (is : IsEmptying n table x op (caller table old)) where
  -- The first row leaves the list
  module _ (of : IsPassOf table old) (l last : Link) (state : op.state ≡ Pop l last) (q : ℕ) (q_is : q ≡ old_head op.control old.number op.passed) where
    popping : IsAt n table x op.passed (Pop l last) (caller table old)
    popping = subst (λ z. IsAt n table x op.passed z (caller table old)) state is.at

    front_is : q ≡ old_head x (caller table old).number op.passed
    front_is = q_is ∙ (λ i. old_head (is.control i) (sym of.sits.numbered i) op.passed)

    -- it may
    pub may_pop : MayPop q l.row last (caller table old)
    may_pop = let leaving = popping.2 in record { none = popping.0.0; head = subst IsHead (sym front_is) (at_low n table x op old is); on = (leaving.stand, leaving.on, leaving.row, leaving.last_is, leaving.gone) }

    abbrev next_link : Link
    next_link = record l { row = last.row }

    abbrev pop_made : ℕ → Made
    pop_made found = step_made PopKind (index table.start.layout (head q)) (link_word l) (link_word next_link) found

    -- the exchange expects the head's link as it was last found, and leads on to another row
    pop_expects : (last_known (drop n (caller table old).made) (index table.start.layout (head q)) ≡ Some (link_word l)) × (link_word l ≢ link_word next_link)
    pop_expects = (subst (λ z. last_known (drop n (caller table old).made) (index table.start.layout (head z)) ≡ Some (link_word l)) (sym front_is) popping.1.known, rows_apart l last.row popping.2.next.apart)

    -- it left the list, and the pass doesn't name it any more
    pub pop_won : (mid : Pass) (debts : Debts) → NamesAt op.state old.debts → WordLeft PopKind table old mid (index table.start.layout (head q)) (link_word l) (link_word next_link) (cuts l.row) old.debts true
        → debts ≡ renamed mid.debts (unnamed_row l.row (names_of mid.debts)) → EmptyStepped n table x op (record op { state = Tag l.row }) old (record mid { debts = debts }) More
    pop_won mid debts room left names = let p : Caller = caller table old in let new : Pass = record mid { debts = debts } in let r : Caller = cuts l.row p in let m = pop_made left.found in
        let named : debts ≡ renamed old.debts (unnamed_row l.row (names_of old.debts)) = names ∙ ap (λ (a : Pass). renamed a.debts (unnamed_row l.row (names_of a.debts))) left.same in
        let owed : IsOwed debts r.debts = subst (λ d. IsOwed d r.debts) (sym named) (record { settle = of.debts.settle; copy = of.debts.copy; names = left_lags (unnamed l.row) (names_of old.debts) (names_of p.debts) refl of.debts.names }) in
        let is_new : IsPassOf table new = owes_on table old mid new m r debts of left.is.sits left.is.lawful (ap (λ (a : Pass). a.free) left.same) left.part refl owed refl in
        empty_stepped n table x op old new is is_new m r left.part (cut_aside l.row p) (record op { state = Tag l.row }) More (sym (ap state_kind state)) (sym (ap state_exchanges state)) refl (λ _. pop_expects)
        (left.turns ∙ ap (λ b. turns_after b old.turns) (sym (ap state_exchanges state))) (ap (λ (a : Pass). a.number) left.same) (ap (λ (d : Debts). d.settle) named) (
          goes_on n table x op old new is is_new m r left.part (cut_aside l.row p) (Tag l.row) (ap (λ (c : Caller). c.debts.copy) left.part ∙ popping.0.1, (record { row = l.row; tags = [] }, ap (λ (c : Caller). c.cut) left.part, refl)),
          ap (λ (d : Debts). d.second_cut) named ∙ moved_second (unnamed l.row old.debts.cut) (unnamed l.row old.debts.second_cut) (unnamed_second l.row old.debts.second_cut (second (subst (λ z. NamesAt z old.debts) state room))),
          inl (ap state_exchanges state),
        )
      where
        second : NamesAt (Pop l last) old.debts → (old.debts.second_cut ≡ None) ⊎ ((c : CutDebt) × (old.debts.second_cut ≡ Some c) × (c.row ≡ l.row))
        second names = ⊎_elim inl (λ c. inr (c.0, c.1, c.2)) names

    -- or the head's link was another one
    pub pop_lost : (new : Pass) → NamesAt op.state old.debts → WordLeft PopKind table old new (index table.start.layout (head q)) (link_word l) (link_word next_link) (cuts l.row) old.debts false → EmptyStepped n table x op (record op { state = Load }) old new More
    pop_lost new room left = let p : Caller = caller table old in let m = pop_made left.found in let debts : new.debts ≡ old.debts = ap (λ (a : Pass). a.debts) left.same in
        empty_stepped n table x op old new is left.is m p left.part (nothing_aside p) (record op { state = Load }) More (sym (ap state_kind state)) (sym (ap state_exchanges state)) refl (λ _. pop_expects)
        (left.turns ∙ ap (λ b. turns_after b old.turns) (sym (ap state_exchanges state))) (ap (λ (a : Pass). a.number) left.same) (ap (λ (d : Debts). d.settle) debts) (
          goes_on n table x op old new is left.is m p left.part (nothing_aside p) Load (ap (λ (c : Caller). c.cut) left.part ∙ popping.0.0, ap (λ (c : Caller). c.debts.copy) left.part ∙ popping.0.1),
          subst (NamesAt Load) (sym debts) (⊎_elim inl (λ c. inr (c.0, c.1, c.3)) (subst (λ z. NamesAt z old.debts) state room)),
          inl (ap state_exchanges state),
        )

  -- The epoch is loaded, with which the row is to be retired
  module _ (row : ℕ) (state : op.state ≡ Tag row) (new : Pass) (e : ℕ) (t : Stepped table old new (load_made EpochLoad (index table.start.layout epoch) e) (loads_epoch e)) where
    tagging : IsAt n table x op.passed (Tag row) (caller table old)
    tagging = subst (λ z. IsAt n table x op.passed z (caller table old)) state is.at

    pub tag_told : NamesAt op.state old.debts → EmptyStepped n table x op (record op { state = Retire row e }) old new More
    tag_told room = let p : Caller = caller table old in let m : Made = load_made EpochLoad (index table.start.layout epoch) e in let still : empty_exchanges op ≡ false = ap state_exchanges state in
        let debts : new.debts ≡ old.debts = ap (λ (a : Pass). a.debts) t.same in let y = tagging.1 in
        empty_stepped n table x op old new is t.is m (loads_epoch e p) t.part (epoch_aside e p) (record op { state = Retire row e }) More (sym (ap state_kind state)) (sym still) refl (λ yes. absurd (false≢true (sym still ∙ yes)))
        (ap (λ (a : Pass). a.turns) t.same ∙ ap (λ b. turns_after b old.turns) (sym still)) (ap (λ (a : Pass). a.number) t.same) (ap (λ (d : Debts). d.settle) debts) (
          goes_on n table x op old new is t.is m (loads_epoch e p) t.part (epoch_aside e p) (Retire row e)
              (ap (λ (c : Caller). c.debts.copy) t.part ∙ tagging.0, (record y.0 { tags = e ∷ y.0.tags }, ap (λ (c : Caller). c.cut) t.part ∙ ap (tagged e) y.1, y.2, inl refl)),
          ap (λ (d : Debts). d.second_cut) debts ∙ subst (λ z. NamesAt z old.debts) state room,
          inr (subst (λ z. (2 ^ op.control.log - op.passed) * 2 ^ 170 + state_rank (Retire row e) (caller table new) < (2 ^ op.control.log - op.passed) * 2 ^ 170 + state_rank z p) (sym state) (omega arith)),
        )

  -- The row is retired
  module _ (row e : ℕ) (state : op.state ≡ Retire row e) where
    retiring : IsAt n table x op.passed (Retire row e) (caller table old)
    retiring = subst (λ z. IsAt n table x op.passed z (caller table old)) state is.at

    pub retire_told : (new : Pass) → NamesAt op.state old.debts → Stepped table old new (store_made RetireKind (index table.start.layout (stamp row)) (e + 1)) retires → EmptyStepped n table x op (record op { state = Load }) old new More
    retire_told new room t = let p : Caller = caller table old in let m : Made = store_made RetireKind (index table.start.layout (stamp row)) (e + 1) in let still : empty_exchanges op ≡ false = ap state_exchanges state in
        let debts : new.debts ≡ old.debts = ap (λ (a : Pass). a.debts) t.same in
        empty_stepped n table x op old new is t.is m (retires p) t.part (retire_aside p) (record op { state = Load }) More (sym (ap state_kind state)) (sym still) refl (λ yes. absurd (false≢true (sym still ∙ yes)))
        (ap (λ (a : Pass). a.turns) t.same ∙ ap (λ b. turns_after b old.turns) (sym still)) (ap (λ (a : Pass). a.number) t.same) (ap (λ (d : Debts). d.settle) debts) (
          goes_on n table x op old new is t.is m (retires p) t.part (retire_aside p) Load (ap (λ (c : Caller). c.cut) t.part, ap (λ (c : Caller). c.debts.copy) t.part ∙ retiring.0),
          inl (ap (λ (d : Debts). d.second_cut) debts ∙ subst (λ z. NamesAt z old.debts) state room),
          inr (subst (λ z. (2 ^ op.control.log - op.passed) * 2 ^ 170 + state_rank Load (caller table new) < (2 ^ op.control.log - op.passed) * 2 ^ 170 + state_rank z p) (sym state) (omega arith)),
        )
