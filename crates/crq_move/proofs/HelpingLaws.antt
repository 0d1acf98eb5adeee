-- A step of a part of a move is one of the help.
use Rattle.std.proofs.Common.{◌≡◌, ⊎_elim, inl, inr, true, false, ℕ, ◌^◌, ◌≤◌, refl, sym, ap, ◌∙◌, subst, arith}
use Rattle.crq_base.specs.declared.words.Control.{Control}
use Rattle.crq_base.specs.Words.{control_word}
use Rattle.crq_rule.specs.Places.{index, control}
use Rattle.crq_rule.specs.declared.pass.Pass.{Pass}
use Rattle.crq_rule.specs.declared.pass.Table.{Table}
use Rattle.crq_rows.specs.Passes.{caller, load_made, IsPassOf}
use Rattle.crq_list.specs.declared.parts.Progress.{Progress}
use Rattle.crq_list.specs.declared.parts.Progress.TheVariants.{More, Done}
use Rattle.crq_move.specs.declared.parts.PartEnd.{PartEnd}
use Rattle.crq_move.specs.declared.parts.PartEnd.TheVariants.{Done as PartDone, NeedRow, Passed}
use Rattle.crq_move.specs.declared.prepare.PrepareOp.{PrepareOp}
use Rattle.crq_move.specs.declared.freeze.FreezeOp.{FreezeOp}
use Rattle.crq_move.specs.declared.freeze.FreezeState.TheVariants.{Load as FreezeLoad}
use Rattle.crq_move.specs.declared.empty.MoveOp.{MoveOp}
use Rattle.crq_move.specs.declared.empty.MoveState.{MoveState}
use Rattle.crq_move.specs.declared.empty.MoveState.TheVariants.{Load as EmptyLoad}
use Rattle.crq_move.specs.declared.help.HelpPart.{HelpPart}
use Rattle.crq_move.specs.declared.pin.PinOp.{PinOp}
use Rattle.crq_move.specs.declared.pin.PinState.TheVariants.{LoadCurrent}
use Rattle.crq_move.specs.declared.finish.FinishOp.{FinishOp}
use Rattle.crq_move.specs.declared.finish.FinishState.TheVariants.{LoadPin}
use Rattle.crq_move.specs.declared.help.HelpPart.TheVariants.{Prepare, Freeze, Pin, Empty, Finish, Over}
use Rattle.crq_move.specs.declared.help.HelpEnd.{HelpEnd}
use Rattle.crq_move.specs.declared.help.HelpEnd.TheVariants.{Steady, Moving, NeedRow as HelpNeedsRow}
use Rattle.crq_move.specs.declared.help.HelpOp.{HelpOp}
use Rattle.crq_move.specs.Helpers.{PartStepped}
use Rattle.crq_move.specs.Preparing.{PrepareStepped, prepare_exchanges, prepare_kind}
use Rattle.crq_move.specs.Freezing.{FreezeStepped, freeze_exchanges, freeze_kind}
use Rattle.crq_move.specs.Binding.{IsFree}
use Rattle.crq_move.specs.Emptying.{NamesAt, IsEmptying, empty_exchanges, empty_left, EmptyStepped}
use Rattle.crq_move.specs.Endings.{EndStepped}
use Rattle.crq_move.specs.Pinning.{PinStepped, pin_exchanges, pin_kind}
use Rattle.crq_move.specs.Finishing.{FinishStepped, finish_exchanges, finish_kind}
use Rattle.crq_move.specs.Helping.{IsAtPart, IsHelping, RoomAt, IsOver, PartMade, HelpAnswers, HelpStepped}
use Rattle.crq_move.proofs.Orders.{banked}
use Rattle.crq_move.proofs.HelperLaws.{counted_on}
use Rattle.crq_move.proofs.FreezeLaws.{freeze_begins}
use Rattle.crq_move.proofs.EmptyLaws.{empty_begins}
use Rattle.crq_move.proofs.EndingLaws.{expects_none, still_counted}
use Rattle.crq_move.proofs.PinningLaws.{pinning_begins}
use Rattle.crq_move.proofs.FinishingLaws.{finishing_begins}
use Rattle.crq_list.specs.Swaps.{Controlled}
use Rattle.crq_rule.specs.ListKinds.{loads_control}
use Rattle.crq_base.specs.declared.kinds.StepKind.{StepKind}
use Rattle.crq_base.specs.declared.kinds.StepKind.TheVariants.{ControlLoad}
use Rattle.crq_rule.specs.declared.view.Caller.{Caller}
use Rattle.std.specs.Prelude.{Bool}

-- a help at this part
abbrev at_part : HelpOp → HelpPart → HelpOp
at_part op part = record op { part = part }

module _ (n : ℕ) (table : Table) (x : Control) (op : HelpOp) (old new : Pass) where
  abbrev p : Caller
  p = caller table old

  abbrev q : Caller
  q = caller table new

  -- what is known at a part
  pub part_known : (part : HelpPart) → op.part ≡ part → IsHelping n table x op p → IsAtPart n table x part p
  part_known part is i = subst (λ z. IsAtPart n table x z p) is i.at

  -- a step of this part is one of the help
  helped : (part : HelpPart) (op' : HelpOp) (answer : Progress HelpEnd) → op.part ≡ part → PartMade n table part old new → HelpAnswers n table x (at_part op part) op' old new answer → HelpStepped n table x op op' old new answer
  helped part op' answer is s a = subst (λ z. HelpStepped n table x (at_part op z) op' old new answer) (sym is) record { step = s; answers = a }

  -- What a step of each part made

  prepare_made : (e : PrepareOp) → PartStepped n table (prepare_exchanges e) (prepare_kind e) old new → PartMade n table (Prepare e) old new
  prepare_made e s = record { is = s.is; step = s.works.step; made = s.works.made; kind_is = s.kind_is; expects = s.works.expects; turns = s.turns; number = s.number; settle = ap (λ d. d.settle) s.debts; own = s.own; deal = s.works.stays.deal; guard = s.works.stays.guard; works = s.works }

  freeze_made : (e : FreezeOp) → PartStepped n table (freeze_exchanges e) (freeze_kind e) old new → PartMade n table (Freeze e) old new
  freeze_made e s = record { is = s.is; step = s.works.step; made = s.works.made; kind_is = s.kind_is; expects = s.works.expects; turns = s.turns; number = s.number; settle = ap (λ d. d.settle) s.debts; own = s.own; deal = s.works.stays.deal; guard = s.works.stays.guard; works = s.works }

  pin_made : (e : PinOp) → EndStepped n table (pin_exchanges e) (pin_kind e) old new → PartMade n table (Pin e) old new
  pin_made e s = record { is = s.is; step = s.step; made = s.made; kind_is = s.kind_is; expects = s.expects; turns = s.turns; number = s.number; settle = ap (λ d. d.settle) s.debts; own = s.own; deal = s.deal; guard = s.guard; works = tt }

  empty_made : (e e' : MoveOp) (answer : Progress PartEnd) → EmptyStepped n table x e e' old new answer → PartMade n table (Empty e) old new
  empty_made e e' answer s = record { is = s.is; step = s.works.step; made = s.works.made; kind_is = s.kind_is; expects = s.works.expects; turns = s.turns; number = s.number; settle = s.settle; own = s.own; deal = s.works.stays.deal; guard = s.works.stays.guard; works = s.works }

  finish_made : (e : FinishOp) → EndStepped n table (finish_exchanges e) (finish_kind e) old new → PartMade n table (Finish e) old new
  finish_made e s = record { is = s.is; step = s.step; made = s.made; kind_is = s.kind_is; expects = s.expects; turns = s.turns; number = s.number; settle = ap (λ d. d.settle) s.debts; own = s.own; deal = s.deal; guard = s.guard; works = tt }

  -- the caller still has no row that it cut, and owes no copy
  heads_free : (exchanges : Bool) (kind : StepKind) → PartStepped n table exchanges kind old new → IsPassOf table old → IsFree p → IsFree q
  heads_free exchanges kind s of free = (s.cut ∙ free.0, s.is.debts.copy ∙ ap (λ d. d.copy) s.debts ∙ sym of.debts.copy ∙ free.1)

  end_free : (exchanges : Bool) (kind : StepKind) → EndStepped n table exchanges kind old new → IsFree p → IsFree q
  end_free exchanges kind s free = (s.cut ∙ free.0, ap (λ d. d.copy) s.owed ∙ free.1)

  -- The emptying
  module _ (e e' : MoveOp) (is : op.part ≡ Empty e) (i : IsHelping n table x op p) where
    at_empty : IsEmptying n table x e p
    at_empty = part_known (Empty e) is i

    -- something is left to do
    some_left : 2 ^ 170 ≤ empty_left e p
    some_left = let more = at_empty.more in let size : 2 ^ e.control.log ≡ 2 ^ x.log = ap (λ (z : Control). 2 ^ z.log) at_empty.control in omega arith

    pub empty_goes : EmptyStepped n table x e e' old new More → HelpStepped n table x op (at_part op (Empty e')) old new More
    empty_goes s = let a = s.answers in helped (Empty e) (at_part op (Empty e')) More is (empty_made e e' More s) (record { control = i.control; at = a.0 }, a.1, a.2)

    pub empty_needs : EmptyStepped n table x e e' old new (Done NeedRow) → HelpStepped n table x op (at_part op (Empty e')) old new (Done HelpNeedsRow)
    empty_needs s = let a = s.answers in helped (Empty e) (at_part op (Empty e')) (Done HelpNeedsRow) is (empty_made e e' (Done NeedRow) s)
        (record { control = i.control; at = a.0 }, subst (λ (z : MoveState). NamesAt z new.debts) (sym a.1) (inl a.2), a.3, (e', refl, a.1))

    -- the opening begins
    pub empty_ends : EmptyStepped n table x e e' old new (Done PartDone) → HelpStepped n table x op (at_part op (Finish (record { control = op.control; state = LoadPin }))) old new More
    empty_ends s = let a = s.answers in let counted = counted_on n (empty_exchanges e) p q s.works at_empty.counted in let low = some_left in
        helped (Empty e) (at_part op (Finish (record { control = op.control; state = LoadPin }))) More is (empty_made e e' (Done PartDone) s)
        (subst (λ (z : Control). HelpAnswers n table x (at_part op (Empty e)) (at_part op (Finish (record { control = z; state = LoadPin }))) old new More) (sym i.control)
        (record { control = i.control; at = (finishing_begins n table x q counted a.0 a.3, a.4) }, a.5, inr (omega arith)))

    -- or it is given up
    pub empty_over : EmptyStepped n table x e e' old new (Done Passed) → HelpStepped n table x op (at_part op Over) old new More
    empty_over s = let a = s.answers in let counted = counted_on n (empty_exchanges e) p q s.works at_empty.counted in let low = some_left in
        helped (Empty e) (at_part op Over) More is (empty_made e e' (Done Passed) s) (record { control = i.control; at = (counted, a.0) }, tt, inr (omega arith))

  module _ (of : IsPassOf table old) (i : IsHelping n table x op p) (room : RoomAt op.part old.debts) where
    -- The preparation
    module _ (e e' : PrepareOp) (is : op.part ≡ Prepare e) where
      -- there still is room for a name
      prepare_room : (s : PartStepped n table (prepare_exchanges e) (prepare_kind e) old new) → NamesAt EmptyLoad new.debts
      prepare_room s = subst (NamesAt EmptyLoad) (sym s.debts) (subst (λ z. RoomAt z old.debts) is room)

      pub at_prepare : IsAtPart n table x (Prepare e) p
      at_prepare = part_known (Prepare e) is i

      pub prepare_goes : PrepareStepped n table x e e' old new More → HelpStepped n table x op (at_part op (Prepare e')) old new More
      prepare_goes s = let a = s.answers in helped (Prepare e) (at_part op (Prepare e')) More is (prepare_made e s.step)
          (record { control = i.control; at = (a.0, heads_free _ _ s.step of at_prepare.1) }, prepare_room s.step, ⊎_elim inl (λ low. inr (omega arith)) a.1)

      -- the freezing begins
      pub prepare_ends : (end : PartEnd) → PrepareStepped n table x e e' old new (Done end) → HelpStepped n table x op (at_part op (Freeze (record { control = op.control; passed = 0; state = FreezeLoad }))) old new More
      prepare_ends NeedRow s = absurd s.answers
      prepare_ends Passed s = absurd s.answers
      prepare_ends PartDone s = let a = s.answers in let known = at_prepare in
          let counted = counted_on n (prepare_exchanges e) p q s.step.works known.0.counted in let low = banked x.log a.0.is_control.log in
          helped (Prepare e) (at_part op (Freeze (record { control = op.control; passed = 0; state = FreezeLoad }))) More is (prepare_made e s.step) (subst
          (λ (z : Control). HelpAnswers n table x (at_part op (Prepare e)) (at_part op (Freeze (record { control = z; passed = 0; state = FreezeLoad }))) old new More) (sym i.control)
          (record { control = i.control; at = (freeze_begins n table x q counted a.0 a.1, heads_free _ _ s.step of known.1) }, prepare_room s.step, inr (omega arith)))

    -- The freezing
    module _ (e e' : FreezeOp) (is : op.part ≡ Freeze e) where
      freeze_room : (s : PartStepped n table (freeze_exchanges e) (freeze_kind e) old new) → NamesAt EmptyLoad new.debts
      freeze_room s = subst (NamesAt EmptyLoad) (sym s.debts) (subst (λ z. RoomAt z old.debts) is room)

      pub at_freeze : IsAtPart n table x (Freeze e) p
      at_freeze = part_known (Freeze e) is i

      pub freeze_goes : FreezeStepped n table x e e' old new More → HelpStepped n table x op (at_part op (Freeze e')) old new More
      freeze_goes s = let a = s.answers in helped (Freeze e) (at_part op (Freeze e')) More is (freeze_made e s.step)
          (record { control = i.control; at = (a.0, heads_free _ _ s.step of at_freeze.1) }, freeze_room s.step, ⊎_elim inl (λ low. inr (omega arith)) a.1)

      -- the pinning begins
      pub freeze_ends : FreezeStepped n table x e e' old new (Done PartDone) → HelpStepped n table x op (at_part op (Pin (record { control = op.control; state = LoadCurrent }))) old new More
      freeze_ends s = let a = s.answers in let known = at_freeze in let counted = counted_on n (freeze_exchanges e) p q s.step.works known.0.counted in
          helped (Freeze e) (at_part op (Pin (record { control = op.control; state = LoadCurrent }))) More is (freeze_made e s.step) (subst
          (λ (z : Control). HelpAnswers n table x (at_part op (Freeze e)) (at_part op (Pin (record { control = z; state = LoadCurrent }))) old new More) (sym i.control)
          (record { control = i.control; at = (pinning_begins n table x q counted a.0 a.1 a.2, heads_free _ _ s.step of known.1) }, freeze_room s.step, inr (omega arith)))

      -- or the move is over
      pub freeze_over : (end : PartEnd) → FreezeStepped n table x e e' old new (Done end) → HelpStepped n table x op (at_part op Over) old new More
      freeze_over end s = let known = at_freeze in let counted = counted_on n (freeze_exchanges e) p q s.step.works known.0.counted in
          helped (Freeze e) (at_part op Over) More is (freeze_made e s.step) (record { control = i.control; at = (counted, heads_free _ _ s.step of known.1) }, tt, inr (omega arith))

    -- The pin
    module _ (e e' : PinOp) (is : op.part ≡ Pin e) where
      pin_room : (s : EndStepped n table (pin_exchanges e) (pin_kind e) old new) → NamesAt EmptyLoad new.debts
      pin_room s = subst (NamesAt EmptyLoad) (sym s.debts) (subst (λ z. RoomAt z old.debts) is room)

      pub at_pin : IsAtPart n table x (Pin e) p
      at_pin = part_known (Pin e) is i

      pub pin_goes : PinStepped n table x e e' old new More → HelpStepped n table x op (at_part op (Pin e')) old new More
      pin_goes s = let a = s.answers in helped (Pin e) (at_part op (Pin e')) More is (pin_made e s.step)
          (record { control = i.control; at = (a.0, end_free _ _ s.step at_pin.1) }, pin_room s.step, ⊎_elim inl (λ low. inr (omega arith)) a.1)

      -- the emptying begins
      pub pin_ends : PinStepped n table x e e' old new (Done PartDone) → HelpStepped n table x op (at_part op (Empty (record { control = op.control; passed = 0; state = EmptyLoad }))) old new More
      pin_ends s = let a = s.answers in let known = at_pin in let counted = still_counted n table old new _ _ s.step known.0.counted in let low = banked x.log a.0.is_control.log in
          helped (Pin e) (at_part op (Empty (record { control = op.control; passed = 0; state = EmptyLoad }))) More is (pin_made e s.step) (subst
          (λ (z : Control). HelpAnswers n table x (at_part op (Pin e)) (at_part op (Empty (record { control = z; passed = 0; state = EmptyLoad }))) old new More) (sym i.control)
          (record { control = i.control; at = empty_begins n table x q counted a.0 a.1 a.2 (end_free _ _ s.step known.1) }, pin_room s.step, inr (omega arith)))

      -- or the move is over
      pub pin_over : (end : PartEnd) → PinStepped n table x e e' old new (Done end) → HelpStepped n table x op (at_part op Over) old new More
      pin_over end s = let known = at_pin in let counted = still_counted n table old new _ _ s.step known.0.counted in
          helped (Pin e) (at_part op Over) More is (pin_made e s.step) (record { control = i.control; at = (counted, end_free _ _ s.step known.1) }, tt, inr (omega arith))

    -- The opening
    module _ (e e' : FinishOp) (is : op.part ≡ Finish e) where
      pub at_finish : IsAtPart n table x (Finish e) p
      at_finish = part_known (Finish e) is i

      pub finish_goes : FinishStepped n table x e e' old new More → HelpStepped n table x op (at_part op (Finish e')) old new More
      finish_goes s = let a = s.answers in helped (Finish e) (at_part op (Finish e')) More is (finish_made e s.step)
          (record { control = i.control; at = (a.0, end_free _ _ s.step at_finish.1) }, ap (λ d. d.second_cut) s.step.debts ∙ subst (λ z. RoomAt z old.debts) is room, ⊎_elim inl (λ low. inr (omega arith)) a.1)

      pub finish_over : (end : PartEnd) → FinishStepped n table x e e' old new (Done end) → HelpStepped n table x op (at_part op Over) old new More
      finish_over end s = let known = at_finish in let counted = still_counted n table old new _ _ s.step known.0.counted in
          helped (Finish e) (at_part op Over) More is (finish_made e s.step) (record { control = i.control; at = (counted, end_free _ _ s.step known.1) }, tt, inr (omega arith))

  -- The control word is loaded
  module _ (i : IsHelping n table x op p) (is : op.part ≡ Over) (w : Control) (s : Controlled ControlLoad table old new loads_control w) where
    over_made : PartMade n table Over old new
    over_made = record {
      is = s.is;
      step = _;
      made = ap (λ (c : Caller). c.made) s.part;
      kind_is = refl;
      expects = expects_none n p.made (load_made ControlLoad (index table.start.layout control) (control_word w)) refl;
      turns = ap (λ (r : Pass). r.turns) s.same;
      number = ap (λ (r : Pass). r.number) s.same;
      settle = ap (λ (r : Pass). r.debts.settle) s.same;
      own = ap (λ (c : Caller). c.own) s.part;
      deal = ap (λ (c : Caller). c.deal) s.part;
      guard = ap (λ (c : Caller). c.guard) s.part;
      works = tt;
    }

    is_over : IsOver (at_part op Over) table w old new
    is_over = let known = part_known Over is i in record {
      part = refl;
      is_control = s.is_control;
      found = ap (λ (c : Caller). c.found.control) s.part;
      free = (ap (λ (c : Caller). c.cut) s.part ∙ known.1.0, ap (λ (c : Caller). c.debts.copy) s.part ∙ known.1.1);
      debts = ap (λ (r : Pass). r.debts) s.same;
    }

    pub over_moving : w.moving ≡ true → HelpStepped n table x op op old new (Done (Moving w))
    over_moving moves = helped Over op (Done (Moving w)) is over_made (is_over, moves)

    pub over_steady : w.moving ≡ false → HelpStepped n table x op op old new (Done (Steady w.generation))
    over_steady steady = helped Over op (Done (Steady w.generation)) is over_made (w, is_over, steady, refl)
