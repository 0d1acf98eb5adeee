-- Each step of a preparation tells what it is to tell.
use Rattle.std.proofs.Common.{◌≡◌, ◌≢◌, inl, inr, ℕ, ◌+◌, ◌*◌, ◌-◌, ◌^◌, ◌<◌, ◌≤◌, ◌==◌, cond, Bool, true, false, length, drop, Some, eq-eqb, ne_eqb, refl, sym, ap, ◌∙◌, subst, arith}
use Rattle.std.proofs.lemmas.Option.{same_Some}
use Rattle.std.proofs.lemmas.Nat.{pow_pos}
use mathlib.Core.Logic.{dite}
use native.Mathlib.Decide.{ℕ_discrete}
use Rattle.crq_base.specs.declared.kinds.StepKind.TheVariants.{Prepare}
use Rattle.crq_base.specs.declared.words.Link.{Link}
use Rattle.crq_base.specs.declared.words.Mark.{Mark}
use Rattle.crq_base.specs.declared.words.Mark.TheVariants.{Val, Inv, Mov, Del}
use Rattle.crq_base.specs.declared.words.Control.{Control}
use Rattle.crq_base.specs.Words.{IsLink, mark_number, link_word}
use Rattle.crq_rule.specs.declared.pass.Pass.{Pass}
use Rattle.crq_rule.specs.declared.pass.Table.{Table}
use Rattle.crq_rule.specs.declared.view.Help.{Help}
use Rattle.crq_rule.specs.declared.view.Caller.{Caller}
use Rattle.crq_rule.specs.Places.{index, head, IsHead}
use Rattle.crq_rule.specs.Ranks.{next_of, IsHeadIn, at_head}
use Rattle.crq_rule.specs.Helping.{new_head, passes_head, is_prepared_next}
use Rattle.crq_rule.specs.ListKinds.{no_take}
use Rattle.crq_rule.specs.MoveKinds.{MayPrepare, prepared_link}
use Rattle.crq_rows.specs.Passes.{caller, IsPassOf}
use Rattle.crq_list.specs.declared.parts.Progress.TheVariants.{More, Done}
use Rattle.crq_list.specs.Known.{last_known}
use Rattle.crq_list.specs.Swaps.{Saw}
use Rattle.crq_move.specs.declared.parts.PartEnd.TheVariants.{Done as PartDone}
use Rattle.crq_move.specs.declared.prepare.PrepareState.TheVariants.{Load, Open}
use Rattle.crq_move.specs.declared.prepare.PrepareOp.{PrepareOp}
use Rattle.crq_move.specs.Steps.{HeadLeft}
use Rattle.crq_move.specs.Helpers.{IsHelper, PartStepped}
use Rattle.crq_move.specs.Preparing.{IsPreparing, IsOpening, IsAt, state_exchanges, state_kind, state_left, prepare_left, PrepareAnswers, PrepareStepped}
use Rattle.crq_move.proofs.Orders.{head_low, new_in}
use Rattle.crq_move.proofs.HelperLaws.{help_fits, helper_stays, counted_on, passed_stays, prepared_more, loaded_part, loaded_known, left_part, loaded_help, won_help, lost_help}

mark_low : (m : Mark) → mark_number m < 4
mark_low Val = omega arith
mark_low Inv = omega arith
mark_low Mov = omega arith
mark_low Del = omega arith

-- a link of an older table has another word than that of an open head
pub prepared_apart : (x : Control) (l : Link) → IsLink l → l.generation ≤ x.generation → link_word l ≢ link_word (prepared_link x)
unfolding link_word
prepared_apart x l bits older same = let row = bits.row in let low = mark_low l.mark in absurd (omega arith)

-- where a preparation begins
pub prepare_begins : (n : ℕ) (table : Table) (x : Control) (p : Caller) → n ≤ length p.made → IsHelper x p → IsPreparing n table x (record { control = x; passed = 0; state = Load }) p
prepare_begins n table x p counted helper = let more = pow_pos x.new_log in record { counted = counted; control = refl; helper = helper; prepared = (helper.helps.0, helper.helps.1, omega arith); more = more; at = tt }

module _ (n : ℕ) (table : Table) (x : Control) (op : PrepareOp) (old new : Pass) (q : ℕ) (of : IsPassOf table old) (is : IsPreparing n table x op (caller table old)) where
  -- the next head is the one of the operation
  pub next_is : q ≡ new_head op.control old.number op.passed → q ≡ new_head x (caller table old).number op.passed
  next_is at = at ∙ (λ i. new_head (is.control i) (sym of.sits.numbered i) op.passed)

  next_in : q ≡ new_head op.control old.number op.passed → IsHeadIn (x.generation + 1) (next_of x) q
  next_in at = subst (IsHeadIn (x.generation + 1) (next_of x)) (sym (next_is at)) (new_in x (caller table old).number op.passed is.more)

  -- and it is one of the two banks
  pub next_low : q ≡ new_head op.control old.number op.passed → IsHead q
  next_low at = head_low (x.generation + 1) (next_of x) q is.helper.is_control.new_log (next_in at)

  -- one more head was passed
  passed_one : (is_new : IsPassOf table new) → n ≤ length (caller table new).made → IsHelper x (caller table new) → (h : Help) → (caller table new).help ≡ Some h → op.passed + 1 ≤ h.prepared
      → PrepareAnswers n table x op (record op { passed = op.passed + 1; state = Load }) (caller table new) (cond (op.passed + 1 == 2 ^ op.control.new_log) (Done PartDone) More)
  passed_one is_new counted helper h helps more = let fits = help_fits x (caller table new) h is_new.lawful helper.control helps in let size : 2 ^ op.control.new_log ≡ 2 ^ x.new_log = ap (λ (z : Control). 2 ^ z.new_log) is.control in
      let op' : PrepareOp = record op { passed = op.passed + 1; state = Load } in
      dite (ℕ_discrete (op.passed + 1) (2 ^ op.control.new_log))
      (λ last. let all : h.prepared ≡ 2 ^ x.new_log = let top = fits.prepared in omega arith in
      subst (λ b. PrepareAnswers n table x op op' (caller table new) (cond b (Done PartDone) More)) (sym (eq-eqb (op.passed + 1) (2 ^ op.control.new_log) last)) (helper, (h, helps, all)))
      (λ other. let low = is.more in let less : op.passed + 1 < 2 ^ x.new_log = omega arith in
      subst (λ b. PrepareAnswers n table x op op' (caller table new) (cond b (Done PartDone) More)) (sym (ne_eqb (op.passed + 1) (2 ^ op.control.new_log) other))
      (record { counted = counted; control = is.control; helper = helper; prepared = (h, helps, more); more = less; at = tt }, inr (omega arith)))

  -- a head was found open already
  pub load_passed : (l : Link) → op.state ≡ Load → q ≡ new_head op.control old.number op.passed → Saw table old new (at_head q) no_take l → op.control.generation < l.generation
      → PrepareStepped n table x op (record op { passed = op.passed + 1; state = Load }) old new (cond (op.passed + 1 == 2 ^ op.control.new_log) (Done PartDone) More)
  load_passed l state at s newer = let p : Caller = caller table old in let h = is.helper.helps.0 in let helps = is.helper.helps.1 in let part = loaded_part n table old new q l of s in let place = next_is at in
      let low : op.passed ≤ h.prepared = subst (λ (z : Help). op.passed ≤ z.prepared) (same_Some is.prepared.0 h (sym is.prepared.1 ∙ helps)) is.prepared.2 in
      let now = loaded_help table old new x q l h is.helper.control helps s in
      let newer' : x.generation < l.generation = subst (λ (z : Control). z.generation < l.generation) is.control newer in record {
        step = subst (λ z. PartStepped n table (state_exchanges z) (state_kind z) old new) (sym state) part;
        answers = passed_one s.is (counted_on n false p (caller table new) part.works is.counted) (helper_stays x p (caller table new) is.helper part.works.stays (passes_head x p.number q l h, now, is.helper.helps.2)) (passes_head x p.number q l h) now
            (prepared_more x p.number q l h.prepared op.passed low is.more place newer');
      }

  -- or it is to be opened
  pub load_open : (l : Link) → op.state ≡ Load → q ≡ new_head op.control old.number op.passed → Saw table old new (at_head q) no_take l → l.generation ≤ op.control.generation → PrepareStepped n table x op (record op { state = Open l }) old new More
  load_open l state at s older = let p : Caller = caller table old in let h = is.helper.helps.0 in let helps = is.helper.helps.1 in let part = loaded_part n table old new q l of s in let place = next_is at in
      let low : op.passed ≤ h.prepared = subst (λ (z : Help). op.passed ≤ z.prepared) (same_Some is.prepared.0 h (sym is.prepared.1 ∙ helps)) is.prepared.2 in
      let now = loaded_help table old new x q l h is.helper.control helps s in let h' : Help = passes_head x p.number q l h in record {
        step = subst (λ z. PartStepped n table (state_exchanges z) (state_kind z) old new) (sym state) part;
        answers = (
          record {
            counted = counted_on n false p (caller table new) part.works is.counted;
            control = is.control;
            helper = helper_stays x p (caller table new) is.helper part.works.stays (h', now, is.helper.helps.2);
            prepared = (h', now, stays h low);
            more = is.more;
            at = record {
              bits = s.is_link;
              older = subst (λ (z : Control). l.generation ≤ z.generation) is.control older;
              known = subst (λ z. last_known (drop n (caller table new).made) (index table.start.layout (head z)) ≡ Some (link_word l)) (place ∙ ap (λ j. new_head x j op.passed) (sym part.works.stays.number)) (loaded_known n table old new q l is.counted s);
            };
          },
          inr (subst (λ z. prepare_left (record op { state = Open l }) < 2 * (2 ^ op.control.new_log - op.passed) + state_left z) (sym state) (omega arith)),
        );
      }
    where
      stays : (h : Help) → op.passed ≤ h.prepared → op.passed ≤ (passes_head x (caller table old).number q l h).prepared
      stays h low = let more = passed_stays (is_prepared_next x (caller table old).number q l h.prepared) h.prepared in omega arith

  module _ (l : Link) (state : op.state ≡ Open l) where
    opening : IsOpening n table x op.passed l (caller table old)
    opening = subst (λ z. IsAt n table x op.passed z (caller table old)) state is.at

    -- the next head may be opened
    pub may_open : q ≡ new_head op.control old.number op.passed → MayPrepare op.control q l (caller table old)
    may_open at = subst (λ z. MayPrepare z q l (caller table old)) (sym is.control) record {
      control = is.helper.control;
      moving = is.helper.moving;
      head = next_in at;
      older = opening.older;
    }

    pub open_bits : IsLink l
    open_bits = opening.bits

    open_part : (won : Bool) → q ≡ new_head op.control old.number op.passed → HeadLeft Prepare table old new q l (prepared_link x) won → PartStepped n table true Prepare old new
    open_part won at s = left_part n table Prepare old new q l (prepared_link x) won refl refl
        (subst (λ z. last_known (drop n (caller table old).made) (index table.start.layout (head z)) ≡ Some (link_word l)) (sym (next_is at)) opening.known) (prepared_apart x l opening.bits opening.older) s

    -- it was opened
    pub open_won : q ≡ new_head op.control old.number op.passed → HeadLeft Prepare table old new q l (prepared_link op.control) true
        → PrepareStepped n table x op (record op { passed = op.passed + 1; state = Load }) old new (cond (op.passed + 1 == 2 ^ op.control.new_log) (Done PartDone) More)
    open_won at s' = let s = subst (λ z. HeadLeft Prepare table old new q l (prepared_link z) true) is.control s' in let p : Caller = caller table old in let h = is.helper.helps.0 in let helps = is.helper.helps.1 in
        let part = open_part true at s in let place = next_is at in
        let low : op.passed ≤ h.prepared = subst (λ (z : Help). op.passed ≤ z.prepared) (same_Some is.prepared.0 h (sym is.prepared.1 ∙ helps)) is.prepared.2 in
        let now = won_help Prepare table old new x q l (prepared_link x) h is.helper.control helps s in let h' : Help = passes_head x p.number q (prepared_link x) h in record {
          step = subst (λ z. PartStepped n table (state_exchanges z) (state_kind z) old new) (sym state) part;
          answers = passed_one s.is (counted_on n true p (caller table new) part.works is.counted) (helper_stays x p (caller table new) is.helper part.works.stays (h', now, is.helper.helps.2)) h' now
              (prepared_more x p.number q (prepared_link x) h.prepared op.passed low is.more place (omega arith));
        }

    -- or its link was another one, and is to be loaded again
    pub open_lost : q ≡ new_head op.control old.number op.passed → HeadLeft Prepare table old new q l (prepared_link op.control) false → PrepareStepped n table x op (record op { state = Load }) old new More
    open_lost at s' = let s = subst (λ z. HeadLeft Prepare table old new q l (prepared_link z) false) is.control s' in let p : Caller = caller table old in let part = open_part false at s in
        let now = lost_help Prepare table old new q l (prepared_link x) s in record {
          step = subst (λ z. PartStepped n table (state_exchanges z) (state_kind z) old new) (sym state) part;
          answers = (
            record {
              counted = counted_on n true p (caller table new) part.works is.counted;
              control = is.control;
              helper = helper_stays x p (caller table new) is.helper part.works.stays (is.helper.helps.0, now ∙ is.helper.helps.1, is.helper.helps.2);
              prepared = (is.prepared.0, now ∙ is.prepared.1, is.prepared.2);
              more = is.more;
              at = tt;
            },
            inl (ap state_exchanges state),
          );
        }
