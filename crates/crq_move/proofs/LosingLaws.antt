-- What the steps of an emptying tell by which a copy is bound, or was lost and is cut out of its list.
use Rattle.std.proofs.Common.{◌≡◌, ◌⊎◌, ⊎_elim, inl, inr, ℕ, ◌+◌, ◌*◌, ◌-◌, ◌^◌, ◌<◌, false, Option, Some, None, drop, refl, sym, ap, ◌∙◌, subst, arith}
use Rattle.std.proofs.lemmas.Bool.{false≢true}
use Rattle.crq_base.specs.declared.words.Control.{Control}
use Rattle.crq_rule.specs.declared.debts.CopyDebt.{CopyDebt}
use Rattle.crq_rule.specs.declared.debts.CutDebt.{CutDebt}
use Rattle.crq_rule.specs.declared.debts.Debts.{Debts}
use Rattle.crq_rule.specs.declared.pass.Pass.{Pass}
use Rattle.crq_rule.specs.declared.pass.Table.{Table}
use Rattle.crq_rule.specs.Core.{DeadNames, HasName, moved_up, names_of, renamed}
use Rattle.crq_rule.specs.Ranks.{at_head, list_by}
use Rattle.crq_rule.specs.CopyKinds.{lost_name, also_named}
use Rattle.crq_rows.specs.Passes.{caller, IsPassOf, NamesLag}
use Rattle.crq_list.specs.declared.parts.Progress.{Progress}
use Rattle.crq_list.specs.declared.parts.Progress.TheVariants.{More, Done}
use Rattle.crq_list.specs.declared.parts.Spot.TheVariants.{Head}
use Rattle.crq_list.specs.declared.seek.SeekState.TheVariants.{Load as SeekLoad}
use Rattle.crq_list.specs.declared.seek.Sought.{Sought}
use Rattle.crq_list.specs.declared.cut.CutEnd.{CutEnd}
use Rattle.crq_list.specs.declared.cut.CutEnd.TheVariants.{Clean, Frozen}
use Rattle.crq_list.specs.declared.cut.CutOp.{CutOp}
use Rattle.crq_list.specs.Spots.{NamesTarget, IsListOf}
use Rattle.crq_list.specs.Seeking.{seek_exchanges, seek_left}
use Rattle.crq_list.specs.Cutting.{IsCutting, CutStepped}
use Rattle.crq_list.proofs.InsertLaws.{moved_list}
use Rattle.crq_list.proofs.SweepLaws.{sweep_begins}
use Rattle.crq_move.specs.declared.parts.PartEnd.{PartEnd}
use Rattle.crq_move.specs.declared.parts.PartEnd.TheVariants.{Passed}
use Rattle.crq_move.specs.declared.empty.MoveState.{MoveState}
use Rattle.crq_move.specs.declared.empty.MoveState.TheVariants.{Load, Bind, Cut}
use Rattle.crq_move.specs.declared.empty.MoveOp.{MoveOp}
use Rattle.crq_move.specs.Names.{names_lost, without_last, without_lost}
use Rattle.crq_move.specs.declared.bind.BindEnd.{BindEnd}
use Rattle.crq_move.specs.declared.bind.BindEnd.TheVariants.{Bound, Dead, Discarded}
use Rattle.crq_move.specs.declared.bind.BindOp.{BindOp}
use Rattle.crq_move.specs.Helpers.{IsHelper}
use Rattle.crq_move.specs.Binding.{IsBinding, state_exchanges as bind_swaps, state_left as left_at, bind_exchanges, bind_left, BindAnswers, BindStepped}
use Rattle.crq_move.specs.Emptying.{IsAt, IsNextCopy, IsEmptying, NamesAt, EmptyAnswers, EmptyStepped}
use Rattle.crq_move.proofs.HelperLaws.{counted_on}
use Rattle.crq_move.proofs.EmptyLaws.{grows_none, helper_on, works_on}
use Rattle.crq_move.proofs.RowLaws.{sum_less}
use Rattle.crq_move.proofs.BeginLaws.{list_next, next_is_list}

-- the cut of a copy that is lost
abbrev pub lost_cut : CopyDebt → CutOp
lost_cut d = record { sought = record { list = record { generation = d.generation; head = d.head }; target = Some (d.event, d.copy) }; state = SeekLoad (Head d.head); swept = false }

-- the pass names it last
lost_named : (d : CopyDebt) (debts : Debts) → debts.second_cut ≡ None → NamesAt (Cut (lost_cut d)) (names_lost (lost_name d) None debts)
lost_named d debts none = go debts.cut
  where
    go : (first : Option CutDebt) → (((also_named (lost_name d) first debts.second_cut).second ≡ None) × ((e : CutDebt) × ((also_named (lost_name d) first debts.second_cut).first ≡ Some e) × NamesTarget (lost_cut d).sought.target (lost_cut d).sought.list e))
        ⊎ ((e : CutDebt) × ((also_named (lost_name d) first debts.second_cut).second ≡ Some e) × NamesTarget (lost_cut d).sought.target (lost_cut d).sought.list e)
    go None = inl (none, (lost_name d, refl, (refl, refl, refl)))
    go (Some f) = inr (lost_name d, refl, (refl, refl, refl))

-- a list of the new table is told by the generation and event of the copy that is owed
owed_list : (x : Control) (d : CopyDebt) → IsNextCopy x d → list_next x d.event ≡ record { generation = d.generation; head = d.head }
owed_list x d o = λ i. record { generation = sym o.next i; head = (sym (moved_list x (x.generation + 1) d.event refl) ∙ (ap (λ g. list_by x g d.event) (sym o.next) ∙ o.list)) i }

-- once a name is gone that the pass had last, what is left of its names still lags behind those that its caller owes
lost_lags : (run known : DeadNames) (first second : Option CutDebt) → run.first ≡ first → run.second ≡ second → (d : CutDebt) → ((second ≡ None) × (first ≡ Some d)) ⊎ (second ≡ Some d) → (HasName known d → ⊥) → NamesLag run known → NamesLag (without_lost run) known
lost_lags run known first second is_first is_second d (inl only) gone lag = let none : run.second ≡ None = is_second ∙ only.0 in let named : run.first ≡ Some d = is_first ∙ only.1 in
    let left : without_lost run ≡ record { first = None; second = None } = ap (without_last run.first) none in
    let empty : known ≡ record { first = None; second = None } → NamesLag (without_lost run) known = λ is. inl (inl (is ∙ sym left)) in
    ⊎_elim
    (⊎_elim (λ same. absurd (gone (inl (ap (λ (z : DeadNames). z.first) same ∙ named)))) (λ up. empty (up ∙ ap (moved_up None) none)))
    (⊎_elim (λ one. absurd (gone (inl (ap (λ (z : DeadNames). z.first) one ∙ named)))) empty)
    lag
lost_lags run known first second is_first is_second d (inr last) gone lag = let named : run.second ≡ Some d = is_second ∙ last in
    let left : without_lost run ≡ record { first = run.first; second = None } = ap (without_last run.first) named in
    ⊎_elim
    (⊎_elim (λ same. absurd (gone (inr (ap (λ (z : DeadNames). z.second) same ∙ named)))) (λ up. absurd (gone (inl (ap (λ (z : DeadNames). z.first) up ∙ named)))))
    (⊎_elim (λ one. inl (inl (one ∙ sym left))) (λ none. inr (inr none)))
    lag

-- no second name is left
lost_second : (first second : Option CutDebt) → (without_last first second).second ≡ None
lost_second first None = refl
lost_second first (Some d) = refl

module _ (n : ℕ) (table : Table) (x : Control) (op : MoveOp) (old : Pass) (is : IsEmptying n table x op (caller table old)) (room : NamesAt op.state old.debts) where
  -- A step by which the copy is bound
  module _ (b : BindOp) (state : op.state ≡ Bind b) where
    pub binding_now : IsBinding n table b (caller table old) × IsNextCopy x b.debt
    binding_now = subst (λ z. IsAt n table x op.passed z (caller table old)) state is.at

    pub bind_room : old.debts.second_cut ≡ None
    bind_room = subst (λ z. NamesAt z old.debts) state room

    module _ (b' : BindOp) (new : Pass) where
      abbrev at_bind : MoveOp
      at_bind = record op { state = Bind b }

      -- it is one of the emptying
      bind_told : (told : Progress BindEnd) (op' : MoveOp) → BindStepped n table b b' old new told → new.debts.settle ≡ old.debts.settle → EmptyAnswers n table x at_bind op' old new More → EmptyStepped n table x op op' old new More
      bind_told told op' s settle answers = subst (λ (z : MoveState). EmptyStepped n table x (record op { state = z }) op' old new More) (sym state)
          (record { is = s.is; works = s.works; kind_is = s.kind_is; turns = s.turns; number = s.number; settle = settle; own = s.own; answers = answers })

      bound_at : (told : Progress BindEnd) → BindStepped n table b b' old new told → (next : MoveState) → IsAt n table x op.passed next (caller table new) → IsEmptying n table x (record op { state = next }) (caller table new)
      bound_at told s next at = works_on n table x op (caller table old) (caller table new) (bind_exchanges b) is s.is.lawful s.works (λ h helps. (h, s.help ∙ helps, grows_none h)) next at

      -- it goes on
      pub bind_goes : BindStepped n table b b' old new More → EmptyStepped n table x op (record op { state = Bind b' }) old new More
      bind_goes s = let a = s.answers in bind_told More (record op { state = Bind b' }) s (ap (λ (z : Debts). z.settle) a.2) (
        bound_at More s (Bind b') (a.0, subst (IsNextCopy x) (sym a.1) (record { next = binding_now.1.next; list = binding_now.1.list })),
        ap (λ (z : Debts). z.second_cut) a.2 ∙ bind_room,
        ⊎_elim inl (λ low. inr (sum_less ((2 ^ op.control.log - op.passed) * 2 ^ 170) (2 ^ 167 + 1 + bind_left b') (2 ^ 167 + 1 + bind_left b) (sum_less (2 ^ 167 + 1) (bind_left b') (bind_left b) low))) a.3,
      )

      -- the copy is bound, or dead
      pub bind_bound : BindStepped n table b b' old new (Done Bound) → EmptyStepped n table x op (record op { state = Load }) old new More
      bind_bound s = let a = s.answers in bind_told (Done Bound) (record op { state = Load }) s (ap (λ (z : Debts). z.settle) a.2)
          (bound_at (Done Bound) s Load a.0, inl (ap (λ (z : Debts). z.second_cut) a.2 ∙ bind_room), inl (ap bind_swaps a.1))

      pub bind_dead : BindStepped n table b b' old new (Done Dead) → EmptyStepped n table x op (record op { state = Load }) old new More
      bind_dead s = let a = s.answers in bind_told (Done Dead) (record op { state = Load }) s (ap (λ (z : Debts). z.settle) a.2) (
        bound_at (Done Dead) s Load a.0,
        inl (ap (λ (z : Debts). z.second_cut) a.2 ∙ bind_room),
        inr (sum_less ((2 ^ op.control.log - op.passed) * 2 ^ 170) (2 ^ 167 + 1) (2 ^ 167 + 1 + bind_left b) (subst (λ z. 2 ^ 167 + 1 < 2 ^ 167 + 1 + left_at z) (sym a.1) (omega arith))),
      )

      -- or it was discarded, and is to be cut
      pub bind_discarded : (cut : CutOp) → cut ≡ lost_cut b.debt → BindStepped n table b b' old new (Done Discarded) → EmptyStepped n table x op (record op { state = Cut cut }) old new More
      bind_discarded cut cut_is s = subst (λ z. EmptyStepped n table x op (record op { state = Cut z }) old new More) (sym cut_is) told
        where
          d : CopyDebt
          d = b.debt

          a : BindAnswers n table b b' old new (Done Discarded)
          a = s.answers

          helper : IsHelper x (caller table new)
          helper = helper_on x (caller table old) (caller table new) is.helper s.is.lawful s.works.stays (λ h helps. (h, s.help ∙ helps, grows_none h))

          cutting : IsCutting n table x (lost_cut d) (caller table new)
          cutting = (
            record {
              counted = counted_on n (bind_exchanges b) (caller table old) (caller table new) s.works is.counted;
              on = helper.on;
              list_is = subst (λ z. IsListOf x z (caller table new)) (owed_list x d (record { next = binding_now.1.next; list = binding_now.1.list })) (next_is_list x d.event (caller table new) helper);
              target_is = binding_now.1.list;
              swept = sweep_begins table.start.layout (at_head d.head) (drop n (caller table new).made);
              at = (a.0.0, refl);
            },
            λ yes. absurd (false≢true yes),
          )

          told : EmptyStepped n table x op (record op { state = Cut (lost_cut d) }) old new More
          told = bind_told (Done Discarded) (record op { state = Cut (lost_cut d) }) s (ap (λ (z : Debts). z.settle) a.2)
              (bound_at (Done Discarded) s (Cut (lost_cut d)) (cutting, a.0.1), subst (NamesAt (Cut (lost_cut d))) (sym a.2) (lost_named d old.debts bind_room), inl (ap bind_swaps a.1.1))

  -- A step of its cut
  module _ (c : CutOp) (state : op.state ≡ Cut c) where
    pub cutting_now : IsCutting n table x c (caller table old) × ((caller table old).debts.copy ≡ None)
    cutting_now = subst (λ z. IsAt n table x op.passed z (caller table old)) state is.at

    names_now : NamesAt (Cut c) old.debts
    names_now = subst (λ z. NamesAt z old.debts) state room

    module _ (c' : CutOp) (mid : Pass) where
      abbrev at_cut : MoveOp
      at_cut = record op { state = Cut c }

      -- it is one of the emptying, whatever dead rows the pass names then
      cut_told : (told : Progress CutEnd) (debts : Debts) (op' : MoveOp) (answer : Progress PartEnd) → CutStepped n table x c c' old mid told → IsPassOf table (record mid { debts = debts }) → debts.settle ≡ old.debts.settle
          → EmptyAnswers n table x at_cut op' old (record mid { debts = debts }) answer → EmptyStepped n table x op op' old (record mid { debts = debts }) answer
      cut_told told debts op' answer s is_new settle answers = subst (λ (z : MoveState). EmptyStepped n table x (record op { state = z }) op' old (record mid { debts = debts }) answer) (sym state)
          (record { is = is_new; works = s.works; kind_is = s.kind; turns = s.turns; number = s.number; settle = settle; own = s.own; answers = answers })

      next_at : (told : Progress CutEnd) → CutStepped n table x c c' old mid told → (next : MoveState) → IsAt n table x op.passed next (caller table mid) → IsEmptying n table x (record op { state = next }) (caller table mid)
      next_at told s next at = works_on n table x op (caller table old) (caller table mid) (seek_exchanges c.state) is s.is.lawful s.works s.copying.on.help next at

      -- it goes on
      pub cut_goes : CutStepped n table x c c' old mid More → EmptyStepped n table x op (record op { state = Cut c' }) old mid More
      cut_goes s = let a = s.answers in let sought : c'.sought ≡ c.sought = ap (λ (z : CutOp). z.sought) a.1 in cut_told More mid.debts (record op { state = Cut c' }) More s s.is (ap (λ (z : Debts). z.settle) s.debts) (
        next_at More s (Cut c') (a.0, s.copying.copying ∙ cutting_now.1),
        subst (λ (z : Sought × Debts). ((z.1.second_cut ≡ None) × ((e : CutDebt) × (z.1.cut ≡ Some e) × NamesTarget z.0.target z.0.list e)) ⊎ ((e : CutDebt) × (z.1.second_cut ≡ Some e) × NamesTarget z.0.target z.0.list e)) (λ i. (sym sought i, sym s.debts i)) names_now,
        ⊎_elim inl (λ low. inr (sum_less ((2 ^ op.control.log - op.passed) * 2 ^ 170) (2 ^ 167 + 2 + seek_left c'.state (caller table mid)) (2 ^ 167 + 2 + seek_left c.state (caller table old))
            (sum_less (2 ^ 167 + 2) (seek_left c'.state (caller table mid)) (seek_left c.state (caller table old)) low))) a.2,
      )

      -- it was cut, and the pass doesn't name it any more
      pub cut_clean : (debts : Debts) → debts ≡ renamed mid.debts (without_lost (names_of mid.debts)) → CutStepped n table x c c' old mid (Done Clean) → EmptyStepped n table x op (record op { state = Load }) old (record mid { debts = debts }) More
      cut_clean debts names s = let a = s.answers in let named : debts ≡ renamed old.debts (without_lost (names_of old.debts)) = names ∙ ap (λ (z : Debts). renamed z (without_lost (names_of z))) s.debts in
          cut_told (Done Clean) debts (record op { state = Load }) More s is_new (ap (λ (z : Debts). z.settle) named) (
            next_at (Done Clean) s Load (a.0, s.copying.copying ∙ cutting_now.1),
            inl (ap (λ (z : Debts). z.second_cut) named ∙ lost_second old.debts.cut old.debts.second_cut),
            inr (sum_less ((2 ^ op.control.log - op.passed) * 2 ^ 170) (2 ^ 167 + 1) (2 ^ 167 + 2 + seek_left c.state (caller table old)) (omega arith)),
          )
        where
          last_one : (d : Debts) → NamesAt (Cut c) d → (e : CutDebt) × (((d.second_cut ≡ None) × (d.cut ≡ Some e)) ⊎ (d.second_cut ≡ Some e)) × NamesTarget c.sought.target c.sought.list e
          last_one d (inl one) = (one.1.0, inl (one.0, one.1.1), one.1.2)
          last_one d (inr two) = (two.0, inr two.1, two.2)

          lag : NamesLag (without_lost (names_of mid.debts)) (names_of (caller table mid).debts)
          lag = let last = last_one mid.debts (subst (NamesAt (Cut c)) (sym s.debts) names_now) in
              lost_lags (names_of mid.debts) (names_of (caller table mid).debts) mid.debts.cut mid.debts.second_cut refl refl last.0 last.1 (s.answers.1 last.0 last.2) s.is.debts.names

          is_new : IsPassOf table (record mid { debts = debts })
          is_new = let i = s.is in subst (λ (z : Debts). IsPassOf table (record mid { debts = z })) (sym names) record {
            sits = record { seated = i.sits.seated; bare = i.sits.bare; one = i.sits.one; numbered = i.sits.numbered; inside = i.sits.inside; started = i.sits.started };
            lawful = i.lawful;
            free = i.free;
            room = i.room;
            debts = record { settle = i.debts.settle; copy = i.debts.copy; names = lag };
          }

      -- or its list is frozen
      pub cut_over : CutStepped n table x c c' old mid (Done Frozen) → EmptyStepped n table x op (record op { state = Load }) old mid (Done Passed)
      cut_over s = let a = s.answers in cut_told (Done Frozen) mid.debts (record op { state = Load }) (Done Passed) s s.is (ap (λ (z : Debts). z.settle) s.debts) ((a.0, s.copying.copying ∙ cutting_now.1), a.1)
