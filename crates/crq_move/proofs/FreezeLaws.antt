-- Each step of a freezing tells what it is to tell.
use Rattle.std.proofs.Common.{◌≡◌, ◌≢◌, ⊎_elim, inl, inr, ℕ, ◌+◌, ◌*◌, ◌-◌, ◌^◌, ◌<◌, ◌≤◌, ◌==◌, cond, Bool, true, false, length, drop, Some, eq-eqb, ne_eqb, refl, sym, ap, ◌∙◌, subst, arith}
use Rattle.std.proofs.lemmas.Option.{same_Some}
use Rattle.std.proofs.lemmas.Nat.{pow_pos}
use mathlib.Core.Logic.{dite}
use native.Mathlib.Decide.{ℕ_discrete}
use Rattle.crq_base.specs.declared.kinds.StepKind.TheVariants.{FreezeHead}
use Rattle.crq_base.specs.declared.words.Link.{Link}
use Rattle.crq_base.specs.declared.words.Mark.TheVariants.{Val, Mov}
use Rattle.crq_base.specs.declared.words.Control.{Control}
use Rattle.crq_base.specs.Words.{IsLink, mark_number, link_word}
use Rattle.crq_rule.specs.declared.pass.Pass.{Pass}
use Rattle.crq_rule.specs.declared.pass.Table.{Table}
use Rattle.crq_rule.specs.declared.view.Help.{Help}
use Rattle.crq_rule.specs.declared.view.Caller.{Caller}
use Rattle.crq_rule.specs.Places.{index, head, IsHead}
use Rattle.crq_rule.specs.Ranks.{shape_of, IsOpen, at_head}
use Rattle.crq_rule.specs.Helping.{old_head, passes_head, is_prepared_next, is_frozen_next}
use Rattle.crq_rule.specs.ListKinds.{no_take}
use Rattle.crq_rule.specs.MoveKinds.{MayFreezeHead, frozen_link}
use Rattle.crq_rule.specs.Moves.{Lawful}
use Rattle.crq_rows.specs.Passes.{caller, IsPassOf}
use Rattle.crq_list.specs.declared.parts.Progress.TheVariants.{More, Done}
use Rattle.crq_list.specs.Known.{last_known}
use Rattle.crq_list.specs.Swaps.{Saw}
use Rattle.crq_move.specs.declared.parts.PartEnd.TheVariants.{Done as PartDone, Passed}
use Rattle.crq_move.specs.declared.freeze.FreezeState.TheVariants.{Load, Freeze}
use Rattle.crq_move.specs.declared.freeze.FreezeOp.{FreezeOp}
use Rattle.crq_move.specs.Steps.{HeadLeft}
use Rattle.crq_move.specs.Helpers.{IsHelper, AllPrepared, PartStepped}
use Rattle.crq_move.specs.Freezing.{IsFreezing, IsFreezingHead, IsAt, state_exchanges, state_kind, state_left, freeze_left, FreezeAnswers, FreezeStepped}
use Rattle.crq_move.proofs.Orders.{head_low, old_in}
use Rattle.crq_move.proofs.HelperLaws.{help_fits, helper_stays, counted_on, passed_stays, frozen_more, loaded_part, loaded_known, left_part, loaded_help, won_help, lost_help}

-- a present link has another word than a frozen one
pub frozen_apart : (l : Link) → l.mark ≡ Val → link_word l ≢ link_word (frozen_link l)
unfolding link_word
frozen_apart l val same = let none = ap mark_number val in absurd (omega arith)

-- where a freezing begins
pub freeze_begins : (n : ℕ) (table : Table) (x : Control) (p : Caller) → n ≤ length p.made → IsHelper x p → AllPrepared x p → IsFreezing n table x (record { control = x; passed = 0; state = Load }) p
freeze_begins n table x p counted helper opened = let more = pow_pos x.log in record { counted = counted; control = refl; helper = helper; prepared = opened; frozen = (helper.helps.0, helper.helps.1, omega arith); more = more; at = tt }

-- a head that is found, or left, leaves all heads of the new table found open
all_stays : (x : Control) (p q : Caller) (h : Help) (at : ℕ) (l : Link) → Lawful q → q.found.control ≡ Some x → AllPrepared x p → p.help ≡ Some h → q.help ≡ Some (passes_head x p.number at l h) → AllPrepared x q
all_stays x p q h at l law found all helps now = let h' : Help = passes_head x p.number at l h in let before : h.prepared ≡ 2 ^ x.new_log = ap (λ (z : Help). z.prepared) (same_Some h all.0 (sym helps ∙ all.1)) ∙ all.2 in
    let low = passed_stays (is_prepared_next x p.number at l h.prepared) h.prepared in let top = (help_fits x q h' law found now).prepared in (h', now, omega arith)

module _ (n : ℕ) (table : Table) (x : Control) (op : FreezeOp) (old new : Pass) (q : ℕ) (of : IsPassOf table old) (is : IsFreezing n table x op (caller table old)) where
  -- the next head is the one of the operation
  pub next_is : q ≡ old_head op.control old.number op.passed → q ≡ old_head x (caller table old).number op.passed
  next_is at = at ∙ (λ i. old_head (is.control i) (sym of.sits.numbered i) op.passed)

  next_in : q ≡ old_head op.control old.number op.passed → IsOpen x q
  next_in at = subst (IsOpen x) (sym (next_is at)) (old_in x (caller table old).number op.passed is.more)

  -- and it is one of the two banks
  pub next_low : q ≡ old_head op.control old.number op.passed → IsHead q
  next_low at = head_low x.generation (shape_of x) q is.helper.is_control.log (next_in at)

  -- one more head was passed
  passed_one : (is_new : IsPassOf table new) → n ≤ length (caller table new).made → IsHelper x (caller table new) → AllPrepared x (caller table new) → (h : Help) → (caller table new).help ≡ Some h → op.passed + 1 ≤ h.frozen
      → FreezeAnswers n table x op (record op { passed = op.passed + 1; state = Load }) (caller table new) (cond (op.passed + 1 == 2 ^ op.control.log) (Done PartDone) More)
  passed_one is_new counted helper opened h helps more = let fits = help_fits x (caller table new) h is_new.lawful helper.control helps in let size : 2 ^ op.control.log ≡ 2 ^ x.log = ap (λ (z : Control). 2 ^ z.log) is.control in
      let op' : FreezeOp = record op { passed = op.passed + 1; state = Load } in
      dite (ℕ_discrete (op.passed + 1) (2 ^ op.control.log))
      (λ last. let all : h.frozen ≡ 2 ^ x.log = let top = fits.frozen in omega arith in
      subst (λ b. FreezeAnswers n table x op op' (caller table new) (cond b (Done PartDone) More)) (sym (eq-eqb (op.passed + 1) (2 ^ op.control.log) last)) (helper, opened, (h, helps, all)))
      (λ other. let low = is.more in let less : op.passed + 1 < 2 ^ x.log = omega arith in
      subst (λ b. FreezeAnswers n table x op op' (caller table new) (cond b (Done PartDone) More)) (sym (ne_eqb (op.passed + 1) (2 ^ op.control.log) other))
      (record { counted = counted; control = is.control; helper = helper; prepared = opened; frozen = (h, helps, more); more = less; at = tt }, inr (omega arith)))

  -- a head was found frozen already
  pub load_passed : (l : Link) → op.state ≡ Load → q ≡ old_head op.control old.number op.passed → Saw table old new (at_head q) no_take l → l.mark ≡ Mov
      → FreezeStepped n table x op (record op { passed = op.passed + 1; state = Load }) old new (cond (op.passed + 1 == 2 ^ op.control.log) (Done PartDone) More)
  load_passed l state at s mov = let p : Caller = caller table old in let h = is.helper.helps.0 in let helps = is.helper.helps.1 in let part = loaded_part n table old new q l of s in let place = next_is at in
      let low : op.passed ≤ h.frozen = subst (λ (z : Help). op.passed ≤ z.frozen) (same_Some is.frozen.0 h (sym is.frozen.1 ∙ helps)) is.frozen.2 in
      let now = loaded_help table old new x q l h is.helper.control helps s in let h' : Help = passes_head x p.number q l h in let helper = helper_stays x p (caller table new) is.helper part.works.stays (h', now, is.helper.helps.2) in record {
        step = subst (λ z. PartStepped n table (state_exchanges z) (state_kind z) old new) (sym state) part;
        answers = passed_one s.is (counted_on n false p (caller table new) part.works is.counted) helper (all_stays x p (caller table new) h q l s.is.lawful helper.control is.prepared helps now) h' now
            (frozen_more x p.number q l h.frozen op.passed low is.more place mov);
      }

  -- or of a later table
  pub load_later : (l : Link) → op.state ≡ Load → q ≡ old_head op.control old.number op.passed → Saw table old new (at_head q) no_take l → l.generation ≢ op.control.generation → FreezeStepped n table x op op old new (Done Passed)
  load_later l state at s other = let part = loaded_part n table old new q l of s in let low = (s.marked.1 x is.helper.control (next_in at)).generation in let same = ap (λ (z : Control). z.generation) is.control in record {
    step = subst (λ z. PartStepped n table (state_exchanges z) (state_kind z) old new) (sym state) part;
    answers = record { at = q; link = l; before = (caller table old).made; bits = s.is_link; opened = next_in at; made = ap (λ (c : Caller). c.made) s.part; later = omega arith };
  }

  -- or it is to be frozen
  pub load_freeze : (l : Link) → op.state ≡ Load → q ≡ old_head op.control old.number op.passed → Saw table old new (at_head q) no_take l → l.generation ≡ op.control.generation → l.mark ≢ Mov → FreezeStepped n table x op (record op { state = Freeze l }) old new More
  load_freeze l state at s now_is other = let p : Caller = caller table old in let h = is.helper.helps.0 in let helps = is.helper.helps.1 in let part = loaded_part n table old new q l of s in let place = next_is at in
      let low : op.passed ≤ h.frozen = subst (λ (z : Help). op.passed ≤ z.frozen) (same_Some is.frozen.0 h (sym is.frozen.1 ∙ helps)) is.frozen.2 in
      let now = loaded_help table old new x q l h is.helper.control helps s in let h' : Help = passes_head x p.number q l h in let helper = helper_stays x p (caller table new) is.helper part.works.stays (h', now, is.helper.helps.2) in
      let val : l.mark ≡ Val = ⊎_elim (λ v. v) (λ mov. absurd (other mov)) s.marked.0 in record {
        step = subst (λ z. PartStepped n table (state_exchanges z) (state_kind z) old new) (sym state) part;
        answers = (
          record {
            counted = counted_on n false p (caller table new) part.works is.counted;
            control = is.control;
            helper = helper;
            prepared = all_stays x p (caller table new) h q l s.is.lawful helper.control is.prepared helps now;
            frozen = (h', now, stays h low);
            more = is.more;
            at = record {
              bits = s.is_link;
              present = val;
              now = now_is ∙ ap (λ (z : Control). z.generation) is.control;
              known = subst (λ z. last_known (drop n (caller table new).made) (index table.start.layout (head z)) ≡ Some (link_word l)) (place ∙ ap (λ j. old_head x j op.passed) (sym part.works.stays.number)) (loaded_known n table old new q l is.counted s);
            };
          },
          inr (subst (λ z. freeze_left (record op { state = Freeze l }) < 2 * (2 ^ op.control.log - op.passed) + state_left z) (sym state) (omega arith)),
        );
      }
    where
      stays : (h : Help) → op.passed ≤ h.frozen → op.passed ≤ (passes_head x (caller table old).number q l h).frozen
      stays h low = let more = passed_stays (is_frozen_next x (caller table old).number q l h.frozen) h.frozen in omega arith

  module _ (l : Link) (state : op.state ≡ Freeze l) where
    freezing : IsFreezingHead n table x op.passed l (caller table old)
    freezing = subst (λ z. IsAt n table x op.passed z (caller table old)) state is.at

    -- the next head may be frozen
    pub may_freeze : q ≡ old_head op.control old.number op.passed → MayFreezeHead op.control q l (caller table old)
    may_freeze at = subst (λ z. MayFreezeHead z q l (caller table old)) (sym is.control) record {
      control = is.helper.control;
      moving = is.helper.moving;
      helps = is.prepared;
      head = next_in at;
      present = freezing.present;
      now = freezing.now;
    }

    pub freeze_bits : IsLink l
    freeze_bits = freezing.bits

    freeze_part : (won : Bool) → q ≡ old_head op.control old.number op.passed → HeadLeft FreezeHead table old new q l (frozen_link l) won → PartStepped n table true FreezeHead old new
    freeze_part won at s = left_part n table FreezeHead old new q l (frozen_link l) won refl refl
        (subst (λ z. last_known (drop n (caller table old).made) (index table.start.layout (head z)) ≡ Some (link_word l)) (sym (next_is at)) freezing.known) (frozen_apart l freezing.present) s

    -- it was frozen
    pub freeze_won : q ≡ old_head op.control old.number op.passed → HeadLeft FreezeHead table old new q l (frozen_link l) true
        → FreezeStepped n table x op (record op { passed = op.passed + 1; state = Load }) old new (cond (op.passed + 1 == 2 ^ op.control.log) (Done PartDone) More)
    freeze_won at s = let p : Caller = caller table old in let h = is.helper.helps.0 in let helps = is.helper.helps.1 in let part = freeze_part true at s in let place = next_is at in
        let low : op.passed ≤ h.frozen = subst (λ (z : Help). op.passed ≤ z.frozen) (same_Some is.frozen.0 h (sym is.frozen.1 ∙ helps)) is.frozen.2 in
        let now = won_help FreezeHead table old new x q l (frozen_link l) h is.helper.control helps s in let h' : Help = passes_head x p.number q (frozen_link l) h in
        let helper = helper_stays x p (caller table new) is.helper part.works.stays (h', now, is.helper.helps.2) in record {
          step = subst (λ z. PartStepped n table (state_exchanges z) (state_kind z) old new) (sym state) part;
          answers = passed_one s.is (counted_on n true p (caller table new) part.works is.counted) helper (all_stays x p (caller table new) h q (frozen_link l) s.is.lawful helper.control is.prepared helps now) h' now
              (frozen_more x p.number q (frozen_link l) h.frozen op.passed low is.more place refl);
        }

    -- or its link was another one, and is to be loaded again
    pub freeze_lost : q ≡ old_head op.control old.number op.passed → HeadLeft FreezeHead table old new q l (frozen_link l) false → FreezeStepped n table x op (record op { state = Load }) old new More
    freeze_lost at s = let p : Caller = caller table old in let part = freeze_part false at s in let now = lost_help FreezeHead table old new q l (frozen_link l) s in record {
      step = subst (λ z. PartStepped n table (state_exchanges z) (state_kind z) old new) (sym state) part;
      answers = (
        record {
          counted = counted_on n true p (caller table new) part.works is.counted;
          control = is.control;
          helper = helper_stays x p (caller table new) is.helper part.works.stays (is.helper.helps.0, now ∙ is.helper.helps.1, is.helper.helps.2);
          prepared = (is.prepared.0, now ∙ is.prepared.1, is.prepared.2);
          frozen = (is.frozen.0, now ∙ is.frozen.1, is.frozen.2);
          more = is.more;
          at = tt;
        },
        inl (ap state_exchanges state),
      );
    }
