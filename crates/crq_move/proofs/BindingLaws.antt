-- What the steps tell by which a copy that is owed is bound, or found to be lost.
use Rattle.std.proofs.Common.{◌≡◌, ◌≢◌, ⊎_elim, inl, inr, ℕ, ◌≤◌, ◌<◌, ◌==◌, cond, true, false, [], ◌∷◌, ◌++◌, length, Some, None, eq-eqb, ne_eqb, refl, sym, ap, ◌∙◌, subst, arith}
use Rattle.std.proofs.lemmas.Bool.{false≢true}
use Rattle.crq_base.specs.declared.kinds.StepKind.TheVariants.{Walk, TwinLoad, Bind as BindKind, Discard as DiscardKind}
use Rattle.crq_base.specs.declared.words.Link.{Link}
use Rattle.crq_base.specs.declared.words.Mark.TheVariants.{Inv, Del}
use Rattle.crq_base.specs.Words.{link_word}
use Rattle.crq_base.specs.Lists.{In}
use Rattle.crq_rule.specs.declared.debts.CopyDebt.{CopyDebt}
use Rattle.crq_rule.specs.declared.pass.Pass.{Pass}
use Rattle.crq_rule.specs.declared.pass.Table.{Table}
use Rattle.crq_rule.specs.declared.view.Made.{Made}
use Rattle.crq_rule.specs.declared.view.Caller.{Caller}
use Rattle.crq_rule.specs.Places.{index, link, twin}
use Rattle.crq_rule.specs.Kinds.{makes}
use Rattle.crq_rule.specs.CopyKinds.{is_del, old_stand, plain_stand, finds_twin, binds, loads_copy, dead_link, lost_name, discards, MayDrop}
use Rattle.crq_rows.specs.Known.{is_exchange, is_tick}
use Rattle.crq_rows.specs.Passes.{caller, IsPassOf, Stepped, load_made, step_made}
use Rattle.crq_rows.proofs.Knowing.{found_known, longer}
use Rattle.crq_list.specs.declared.parts.Progress.{Progress}
use Rattle.crq_list.specs.declared.parts.Progress.TheVariants.{More, Done}
use Rattle.crq_list.specs.Known.{Expects, turns_after}
use Rattle.crq_move.specs.declared.bind.BindState.{BindState}
use Rattle.crq_move.specs.declared.bind.BindState.TheVariants.{Twin, Bind, CopyLink, Drop}
use Rattle.crq_move.specs.declared.bind.BindEnd.{BindEnd}
use Rattle.crq_move.specs.declared.bind.BindEnd.TheVariants.{Bound as IsBound, Dead, Discarded}
use Rattle.crq_move.specs.declared.bind.BindOp.{BindOp}
use Rattle.crq_move.specs.Names.{names_lost}
use Rattle.crq_move.specs.Steps.{WordLeft, CopyFound, Bound}
use Rattle.crq_move.specs.Binding.{IsAt, IsLost, IsBinding, state_exchanges, state_kind, state_left, BindAnswers, BindStepped}
use Rattle.crq_move.proofs.EmptyLaws.{Aside, nothing_aside, grows_none, made_works}
use Rattle.crq_move.proofs.RowLaws.{discard_aside, dead_apart}

-- What the steps leave aside

-- a twin that is found
twin_aside : (d : CopyDebt) (t : ℕ) (p : Caller) → Aside p (finds_twin d t p)
twin_aside d t p = record {
  stays = record { number = refl; start = refl; deal = refl; found = refl; guard = refl; permit = refl; sight = refl; told = refl };
  made = refl;
  own = refl;
  settle = refl;
  help = λ h is. (h, is, grows_none h);
}

-- a copy that is bound
bind_aside : (d : CopyDebt) (p : Caller) → Aside p (binds d p)
bind_aside d p = record {
  stays = record { number = refl; start = refl; deal = refl; found = refl; guard = refl; permit = refl; sight = refl; told = refl };
  made = refl;
  own = refl;
  settle = refl;
  help = λ h is. (h, is, grows_none h);
}

-- and a copy whose link is found
copy_aside : (l : Link) (p : Caller) → Aside p (loads_copy l p)
copy_aside l p = record {
  stays = record { number = refl; start = refl; deal = refl; found = refl; guard = refl; permit = refl; sight = refl; told = refl };
  made = refl;
  own = refl;
  settle = refl;
  help = λ h is. (h, is, grows_none h);
}

-- where a binding begins
pub binding_begins : (n : ℕ) (table : Table) (d : CopyDebt) (p : Caller) → n ≤ length p.made → p.cut ≡ None → p.debts.copy ≡ Some d → IsBinding n table (record { debt = d; state = Twin }) p
binding_begins n table d p counted uncut copy = record { counted = counted; uncut = uncut; copy = copy; at = tt }

module _ (n : ℕ) (table : Table) (op : BindOp) (old new : Pass) (is : IsBinding n table op (caller table old)) where
  abbrev p : Caller
  p = caller table old

  abbrev d : CopyDebt
  d = op.debt

  -- one step m was made, which is one of the binding, with what it answers
  module _ (is_new : IsPassOf table new) (m : Made) (r : Caller) (part : caller table new ≡ makes m r) (aside : Aside p r) (help : r.help ≡ p.help) (now : BindState) (state : op.state ≡ now) where
    counted_on : n ≤ length (caller table new).made
    counted_on = subst (λ ms. n ≤ length ms) (sym (ap (λ (c : Caller). c.made) part ∙ ap (λ ms. ms ++ m ∷ []) aside.made)) (longer n p.made m is.counted)

    -- the copy is owed still
    owing_on : r.cut ≡ p.cut → r.debts.copy ≡ p.debts.copy → (next : BindState) → IsAt n table d next (makes m r) → IsBinding n table (record op { state = next }) (caller table new)
    owing_on cut copy next at = record {
      counted = counted_on;
      uncut = ap (λ (c : Caller). c.cut) part ∙ cut ∙ is.uncut;
      copy = ap (λ (c : Caller). c.debts.copy) part ∙ copy ∙ is.copy;
      at = subst (IsAt n table d next) (sym part) at;
    }

    bind_stepped : (op' : BindOp) (answer : Progress BindEnd) → m.kind ≡ state_kind now → is_exchange m.kind ≡ state_exchanges now → is_tick m.kind ≡ false → Expects n p.made m → new.turns ≡ turns_after (state_exchanges now) old.turns
        → new.number ≡ old.number → new.free.items ≡ old.free.items → BindAnswers n table (record op { state = now }) op' old new answer → BindStepped n table op op' old new answer
    bind_stepped op' answer kind swaps no_tick expects turns number free answers = subst (λ (z : BindState). BindStepped n table (record op { state = z }) op' old new answer) (sym state)
        (let w = made_works n (state_exchanges now) m p r (caller table new) part aside swaps no_tick (λ yes. expects (swaps ∙ yes)) in record {
          is = is_new;
          works = w.0;
          kind_is = ap (λ (s : Made). s.kind) w.1 ∙ kind;
          turns = turns;
          number = number;
          free = free;
          own = ap (λ (c : Caller). c.own) part ∙ aside.own;
          help = ap (λ (c : Caller). c.help) part ∙ help;
          answers = answers;
        })

  -- where another twin is found, the copy is lost
  lost_on : (t : ℕ) (m : Made) → t ≢ 0 → IsLost d (makes m (finds_twin d t p))
  lost_on t m some = let rows = p.position.rows in record {
    stand = old_stand d t;
    on = subst (λ b. In (old_stand d t) (cond b rows (old_stand d t ∷ plain_stand t d.event d.generation ∷ rows))) (sym (ne_eqb t 0 some)) (inl refl);
    row = refl;
    twin_is = (t, refl);
  }

  -- The twin of the old row is loaded
  module _ (state : op.state ≡ Twin) (t : ℕ) (s : Stepped table old new (load_made TwinLoad (index table.start.layout (twin d.old)) t) (finds_twin d t)) where
    abbrev twin_load : Made
    twin_load = load_made TwinLoad (index table.start.layout (twin d.old)) t

    twin_goes : (next : BindState) → IsAt n table d next (makes twin_load (finds_twin d t p)) → state_left next < 2 → BindStepped n table op (record op { state = next }) old new More
    twin_goes next at low = bind_stepped s.is twin_load (finds_twin d t p) s.part (twin_aside d t p) refl Twin state (record op { state = next }) More refl refl refl (λ yes. absurd (false≢true yes))
        (ap (λ (a : Pass). a.turns) s.same) (ap (λ (a : Pass). a.number) s.same) (ap (λ (a : Pass). a.free.items) s.same)
        (owing_on s.is twin_load (finds_twin d t p) s.part (twin_aside d t p) refl Twin state refl refl next at, refl, ap (λ (a : Pass). a.debts) s.same, inr low)

    -- there is none: the copy is to be bound
    pub twin_none : t ≡ 0 → BindStepped n table op (record op { state = Bind }) old new More
    twin_none none = twin_goes Bind (found_known n p.made twin_load (index table.start.layout (twin d.old)) is.counted refl refl ∙ ap (λ z. Some z) none) (omega arith)

    -- there is another one
    pub twin_other : t ≢ 0 → BindStepped n table op (record op { state = CopyLink }) old new More
    twin_other some = twin_goes CopyLink (lost_on t twin_load some) (omega arith)

  -- The copy is to be bound
  module _ (of : IsPassOf table old) (state : op.state ≡ Bind) (t : ℕ) (b : Bound table old new d t) where
    abbrev bind_made : Made
    bind_made = step_made BindKind (index table.start.layout (twin d.old)) 0 d.copy t

    -- the copy is a row
    copy_some : 0 ≢ d.copy
    copy_some none = let row = (of.lawful.copying d is.copy).copy in let low = row.0 in omega arith

    bind_told : (r : Caller) (aside : Aside p r) → r.help ≡ p.help → caller table new ≡ makes bind_made r → (op' : BindOp) (answer : Progress BindEnd) → BindAnswers n table (record op { state = Bind }) op' old new answer → BindStepped n table op op' old new answer
    bind_told r aside help part op' answer answers = bind_stepped b.is bind_made r part aside help Bind state op' answer refl refl refl (λ _. (subst (λ z. IsAt n table d z p) state is.at, copy_some))
        b.turns (ap (λ (a : Pass). a.number) b.same) (ap (λ (a : Pass). a.free.items) b.same) answers

    -- it was bound, and isn't owed any more
    pub bind_won : t ≡ 0 → BindStepped n table op op old new (Done IsBound)
    bind_won none = let hit : (t == 0) ≡ true = eq-eqb t 0 none in let part = b.part ∙ ap (λ z. makes bind_made (cond z (binds d p) (finds_twin d t p))) hit in
        bind_told (binds d p) (bind_aside d p) refl part op (Done IsBound) (
          (ap (λ (c : Caller). c.cut) part ∙ is.uncut, ap (λ (c : Caller). c.debts.copy) part),
          refl,
          ap (λ (a : Pass). a.debts) b.same ∙ ap (λ z. cond z (record old.debts { copy = None }) old.debts) hit,
        )

    -- or the old row has another twin
    pub bind_lost : t ≢ 0 → BindStepped n table op (record op { state = CopyLink }) old new More
    bind_lost some = let other : (t == 0) ≡ false = ne_eqb t 0 some in let part = b.part ∙ ap (λ z. makes bind_made (cond z (binds d p) (finds_twin d t p))) other in
        bind_told (finds_twin d t p) (twin_aside d t p) refl part (record op { state = CopyLink }) More (
          owing_on b.is bind_made (finds_twin d t p) part (twin_aside d t p) refl Bind state refl refl CopyLink (lost_on t bind_made some),
          refl,
          ap (λ (a : Pass). a.debts) b.same ∙ ap (λ z. cond z (record old.debts { copy = None }) old.debts) other,
          inl refl,
        )

  -- The link of a copy that is lost is loaded
  module _ (state : op.state ≡ CopyLink) (l : Link) (f : CopyFound table old new d l) where
    lost : IsLost d p
    lost = subst (λ z. IsAt n table d z p) state is.at

    abbrev copy_load : Made
    copy_load = load_made Walk (index table.start.layout (link d.copy)) (link_word l)

    copy_told : (op' : BindOp) (answer : Progress BindEnd) → BindAnswers n table (record op { state = CopyLink }) op' old new answer → BindStepped n table op op' old new answer
    copy_told op' answer answers = bind_stepped f.is copy_load (loads_copy l p) f.part (copy_aside l p) refl CopyLink state op' answer refl refl refl (λ yes. absurd (false≢true yes))
        (ap (λ (a : Pass). a.turns) f.same) (ap (λ (a : Pass). a.number) f.same) (ap (λ (a : Pass). a.free.items) f.same) answers

    -- it is dead, and isn't owed any more
    pub copy_dead : l.mark ≡ Del → BindStepped n table op op old new (Done Dead)
    copy_dead dead = copy_told op (Done Dead) (
      (ap (λ (c : Caller). c.cut) f.part ∙ is.uncut, ap (λ (c : Caller). c.debts.copy) f.part ∙ ap (λ k. cond (is_del k) None p.debts.copy) dead),
      refl,
      ap (λ (a : Pass). a.debts) f.same ∙ ap (λ k. record old.debts { copy = cond (is_del k) None old.debts.copy }) dead,
    )

    -- or it is to be discarded
    pub copy_stands : l.mark ≢ Del → BindStepped n table op (record op { state = Drop l }) old new More
    copy_stands alive = let inv : l.mark ≡ Inv = ⊎_elim (λ k. k) (λ dead. absurd (alive dead)) f.mark in copy_told (record op { state = Drop l }) More (
      owing_on f.is copy_load (loads_copy l p) f.part (copy_aside l p) refl CopyLink state refl (ap (λ k. cond (is_del k) None p.debts.copy) inv) (Drop l) (
        record { stand = lost.stand; on = lost.on; row = lost.row; twin_is = lost.twin_is },
        f.is_link,
        inv,
        found_known n p.made copy_load (index table.start.layout (link d.copy)) is.counted refl refl,
      ),
      refl,
      ap (λ (a : Pass). a.debts) f.same ∙ ap (λ k. record old.debts { copy = cond (is_del k) None old.debts.copy }) inv,
      inr (omega arith),
    )

  -- The copy is discarded
  module _ (m : Link) (state : op.state ≡ Drop m) where
    dropping : IsAt n table d (Drop m) p
    dropping = subst (λ z. IsAt n table d z p) state is.at

    pub drop_bits : IsAt n table d (Drop m) p
    drop_bits = dropping

    pub may_drop : MayDrop d m p
    may_drop = record { owes = is.copy; lost = (dropping.0.stand, dropping.0.on, dropping.0.row, dropping.0.twin_is); copy = dropping.2 }

    abbrev drop_made : ℕ → Made
    drop_made found = step_made DiscardKind (index table.start.layout (link d.copy)) (link_word m) (link_word (dead_link m)) found

    -- it was discarded, and is to be cut
    pub drop_won : WordLeft DiscardKind table old new (index table.start.layout (link d.copy)) (link_word m) (link_word (dead_link m)) (discards d.copy m (lost_name d) None) (names_lost (lost_name d) None old.debts) true → BindStepped n table op op old new (Done Discarded)
    drop_won left = bind_stepped left.is (drop_made left.found) (discards d.copy m (lost_name d) None p) left.part (discard_aside d.copy m (lost_name d) None p) refl (Drop m) state op (Done Discarded) refl refl refl (λ _. (dropping.3, dead_apart m dropping.2))
        left.turns (ap (λ (a : Pass). a.number) left.same) (ap (λ (a : Pass). a.free.items) left.same)
        ((ap (λ (c : Caller). c.cut) left.part ∙ is.uncut, ap (λ (c : Caller). c.debts.copy) left.part), (m, refl), ap (λ (a : Pass). a.debts) left.same)

    -- or its link was another one
    pub drop_lost : WordLeft DiscardKind table old new (index table.start.layout (link d.copy)) (link_word m) (link_word (dead_link m)) (discards d.copy m (lost_name d) None) old.debts false → BindStepped n table op (record op { state = CopyLink }) old new More
    drop_lost left = bind_stepped left.is (drop_made left.found) p left.part (nothing_aside p) refl (Drop m) state (record op { state = CopyLink }) More refl refl refl (λ _. (dropping.3, dead_apart m dropping.2))
        left.turns (ap (λ (a : Pass). a.number) left.same) (ap (λ (a : Pass). a.free.items) left.same) (
          owing_on left.is (drop_made left.found) p left.part (nothing_aside p) refl (Drop m) state refl refl CopyLink (let l = dropping.0 in record { stand = l.stand; on = l.on; row = l.row; twin_is = l.twin_is }),
          refl,
          ap (λ (a : Pass). a.debts) left.same,
          inl refl,
        )
