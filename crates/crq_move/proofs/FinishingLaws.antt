-- Each step of an opening tells what it is to tell.
use Rattle.std.proofs.Common.{◌≡◌, ◌≢◌, true, false, inl, inr, ℕ, ◌+◌, ◌^◌, ◌<◌, ◌≤◌, Bool, length, Some, refl, sym, ap, ◌∙◌, subst, arith}
use Rattle.std.proofs.lemmas.Option.{same_Some}
use Rattle.crq_base.specs.declared.kinds.StepKind.{StepKind}
use Rattle.crq_base.specs.declared.kinds.StepKind.TheVariants.{ControlLoad, CurrentLoad, PinLoad, Pass as PassKind, Finish}
use Rattle.crq_base.specs.declared.words.Control.{Control}
use Rattle.crq_base.specs.declared.words.Current.{Current}
use Rattle.crq_base.specs.declared.words.Pin.{Pin}
use Rattle.crq_base.specs.Words.{control_word, current_word, pin_word}
use Rattle.crq_base.proofs.WordLaws.{control_one}
use Rattle.crq_rule.specs.declared.pass.Pass.{Pass}
use Rattle.crq_rule.specs.declared.pass.Table.{Table}
use Rattle.crq_rule.specs.declared.view.Caller.{Caller}
use Rattle.crq_rule.specs.declared.view.Help.{Help}
use Rattle.crq_rule.specs.CurrentKinds.{loads_current}
use Rattle.crq_rule.specs.Helping.{help_after}
use Rattle.crq_rule.specs.ListKinds.{loads_control}
use Rattle.crq_rule.specs.Places.{index, control, current, pin}
use Rattle.crq_rule.specs.PinKinds.{loads_pin, pin_found, passed_from, opened_from, MayPass, MayFinish}
use Rattle.crq_rows.specs.Passes.{caller, load_made}
use Rattle.crq_list.specs.declared.parts.Progress.TheVariants.{More, Done}
use Rattle.crq_list.specs.Swaps.{Controlled}
use Rattle.crq_current.specs.Positions.{Viewed}
use Rattle.crq_move.specs.declared.parts.PartEnd.TheVariants.{Done as PartDone, Passed}
use Rattle.crq_move.specs.declared.finish.FinishState.{FinishState}
use Rattle.crq_move.specs.declared.finish.FinishState.TheVariants.{LoadPin, LoadCurrent, Pass as PassState, LoadControl, Open}
use Rattle.crq_move.specs.declared.finish.FinishOp.{FinishOp}
use Rattle.crq_move.specs.Helpers.{Knows, IsHelper, AllEmptied}
use Rattle.crq_move.specs.Endings.{PinFound, Tried, HasPin, EndStepped}
use Rattle.crq_move.specs.Finishing.{IsPast, IsAt, IsFinishing, state_exchanges, state_kind, state_left, FinishStepped}
use Rattle.crq_move.proofs.EndingLaws.{pin_apart, current_apart, control_apart, same_apart, expects_none, load_knows, ended, help_stays, currents_apart, controls_apart, still_helper, still_counted, pin_kept, pin_help, pin_known_of}

-- where an opening begins
pub finishing_begins : (n : ℕ) (table : Table) (x : Control) (p : Caller) → n ≤ length p.made → IsHelper x p → AllEmptied x p → IsFinishing n table x (record { control = x; state = LoadPin }) p
finishing_begins n table x p counted helper emptied = record { counted = counted; control = refl; helper = helper; emptied = emptied; at = tt }

module _ (n : ℕ) (table : Table) (x : Control) (op : FinishOp) (old new : Pass) (is : IsFinishing n table x op (caller table old)) where
  abbrev p : Caller
  p = caller table old

  -- a step that leaves the help
  on : (exchanges : Bool) (kind : StepKind) → EndStepped n table exchanges kind old new → (caller table new).found.control ≡ p.found.control → (caller table new).help ≡ p.help → (state : FinishState) → IsAt n table x state (caller table new) → IsFinishing n table x (record op { state = state }) (caller table new)
  on exchanges kind step same help state at = record {
    counted = still_counted n table old new exchanges kind step is.counted;
    control = is.control;
    helper = still_helper n table x old new exchanges kind step same is.helper (is.helper.helps.0, help ∙ is.helper.helps.1, is.helper.helps.2);
    emptied = (is.emptied.0, help ∙ is.emptied.1, is.emptied.2);
    at = at;
  }

  -- The pin is loaded
  module _ (m : Pin) (state : op.state ≡ LoadPin) (s : PinFound table old new m) where
    loading : EndStepped n table false PinLoad old new
    loading = ended n table old new _ (loads_pin m p) (pin_apart m p) s.part false PinLoad (expects_none n p.made (load_made PinLoad (index table.start.layout pin) (pin_word m)) refl) s.is refl (ap (λ (r : Pass). r.turns) s.same) (ap (λ (r : Pass). r.number) s.same) (ap (λ (r : Pass). r.free) s.same) (ap (λ (r : Pass). r.debts) s.same)

    loading_is : EndStepped n table (state_exchanges op.state) (state_kind op.state) old new
    loading_is = subst (λ z. EndStepped n table (state_exchanges z) (state_kind z) old new) (sym state) loading

    pub pin_named : m.generation ≡ op.control.generation + 1 → FinishStepped n table x op (record op { state = LoadCurrent m }) old new More
    pin_named next = let h = is.helper.helps in record {
      step = loading_is;
      answers = (
        record {
          counted = still_counted n table old new _ _ loading is.counted;
          control = is.control;
          helper = still_helper n table x old new _ _ loading (ap (λ (c : Caller). c.found.control) s.part) is.helper (pin_known_of table old new m (λ h. h.generation ≡ x.generation) (λ _ e. e) s h);
          emptied = pin_known_of table old new m (λ h. h.emptied ≡ 2 ^ x.log) (λ _ e. e) s is.emptied;
          at = (pin_found m h.0, pin_help table old new m h.0 s h.1, pin_kept m h.0 (next ∙ ap (λ (z : Control). z.generation + 1) is.control ∙ ap (λ g. g + 1) (sym h.2)));
        },
        inr (subst (λ z. 2 < state_left z) (sym state) (omega arith)),
      );
    }

    pub pin_other : m.generation ≢ op.control.generation + 1 → FinishStepped n table x op op old new (Done Passed)
    pin_other other = record {
      step = loading_is;
      answers = inl record { found = m; before = p.made; bits = s.is_pin; made = ap (λ (c : Caller). c.made) s.part; other = λ e. other (e ∙ ap (λ (z : Control). z.generation + 1) (sym is.control)) };
    }

  -- Current is loaded
  module _ (m : Pin) (y : Current) (state : op.state ≡ LoadCurrent m) (s : Viewed table old new false y) where
    viewing : EndStepped n table false CurrentLoad old new
    viewing = ended n table old new _ (loads_current false y p) (current_apart y p) s.part false CurrentLoad (expects_none n p.made (load_made CurrentLoad (index table.start.layout current) (current_word y)) refl) s.is refl (ap (λ (r : Pass). r.turns) s.same) (ap (λ (r : Pass). r.number) s.same) (ap (λ (r : Pass). r.free) s.same) (ap (λ (r : Pass). r.debts) s.same)

    help_on : (caller table new).help ≡ p.help
    help_on = ap (λ (c : Caller). c.help) s.part

    pin_on : HasPin m (caller table new)
    pin_on = let was = subst (λ z. IsAt n table x z p) state is.at in (was.0, help_on ∙ was.1, was.2)

    viewed : (next : FinishState) → IsAt n table x next (caller table new) → state_left next < 2 → FinishStepped n table x op (record op { state = next }) old new More
    viewed next at low = record {
      step = subst (λ z. EndStepped n table (state_exchanges z) (state_kind z) old new) (sym state) viewing;
      answers = (on false CurrentLoad viewing (ap (λ (c : Caller). c.found.control) s.part) help_on next at, inr (subst (λ z. state_left next < state_left z) (sym state) low));
    }

    pub current_past : m.epoch < y.epoch → FinishStepped n table x op (record op { state = LoadControl m y }) old new More
    current_past past = viewed (LoadControl m y) (record { pin = pin_on; found = ap (λ (c : Caller). c.found.current) s.part; past = past }) (omega arith)

    pub current_at : y.epoch ≤ m.epoch → FinishStepped n table x op (record op { state = PassState m y }) old new More
    current_at low = viewed (PassState m y) (pin_on, low, load_knows n table old new _ (loads_current false y p) (current_apart y p) s.part current (current_word y) is.counted refl refl refl) (omega arith)

  -- Current is led past the pin, or was another one
  module _ (m : Pin) (y : Current) (state : op.state ≡ PassState m y) where
    passing : HasPin m p × (y.epoch ≤ m.epoch) × Knows n table current (current_word y) p
    passing = subst (λ z. IsAt n table x z p) state is.at

    pub may_pass : (z : Control) × (h : Help) × (n : Pin) × MayPass z h n y p
    may_pass = (x, passing.0.0, m, record { helper = record { control = is.helper.control; helps = passing.0.1; moving = is.helper.moving }; pin = passing.0.2; low = passing.1 })

    pub current_passed : {won : Bool} → Tried PassKind table old new (index table.start.layout current) (current_word y) (current_word (passed_from y)) won → FinishStepped n table x op (record op { state = LoadCurrent m }) old new More
    current_passed s = let step = ended n table old new _ p (same_apart p) s.part true PassKind (λ _. (passing.2, currents_apart y)) s.is refl s.turns (ap (λ (r : Pass). r.number) s.same) (ap (λ (r : Pass). r.free) s.same) (ap (λ (r : Pass). r.debts) s.same) in
        let help = ap (λ (c : Caller). c.help) s.part in record {
          step = subst (λ z. EndStepped n table (state_exchanges z) (state_kind z) old new) (sym state) step;
          answers = (on true PassKind step (ap (λ (c : Caller). c.found.control) s.part) help (LoadCurrent m) (passing.0.0, help ∙ passing.0.1, passing.0.2), inl (ap state_exchanges state));
        }

  -- The control word is loaded
  module _ (m : Pin) (y : Current) (state : op.state ≡ LoadControl m y) (w : Control) (s : Controlled ControlLoad table old new loads_control w) where
    past : IsPast m y p
    past = subst (λ z. IsAt n table x z p) state is.at

    asking : EndStepped n table false ControlLoad old new
    asking = ended n table old new _ (loads_control w p) (control_apart w p) s.part false ControlLoad (expects_none n p.made (load_made ControlLoad (index table.start.layout control) (control_word w)) refl) s.is refl (ap (λ (r : Pass). r.turns) s.same) (ap (λ (r : Pass). r.number) s.same) (ap (λ (r : Pass). r.free) s.same) (ap (λ (r : Pass). r.debts) s.same)

    asking_is : EndStepped n table (state_exchanges op.state) (state_kind op.state) old new
    asking_is = subst (λ z. EndStepped n table (state_exchanges z) (state_kind z) old new) (sym state) asking

    -- it is that of the move still
    pub control_still : control_word w ≡ control_word op.control → FinishStepped n table x op (record op { state = Open m y }) old new More
    control_still same = let is_x : w ≡ x = control_one w x s.is_control is.helper.is_control (same ∙ ap control_word is.control) in let help : (caller table new).help ≡ p.help = ap (λ (c : Caller). c.help) s.part ∙ (ap (λ (z : Control). help_after z p.help) is_x ∙ help_stays x p is.helper) in record {
      step = asking_is;
      answers = (
        on false ControlLoad asking (ap (λ (c : Caller). c.found.control) s.part ∙ (ap (λ (z : Control). Some z) is_x ∙ sym is.helper.control)) help (Open m y) (
          record { pin = (past.pin.0, help ∙ past.pin.1, past.pin.2); found = ap (λ (c : Caller). c.found.current) s.part ∙ past.found; past = past.past },
          subst (λ (z : Control). Knows n table control (control_word z) (caller table new)) is_x (load_knows n table old new _ (loads_control w p) (control_apart w p) s.part control (control_word w) is.counted refl refl refl),
        ),
        inr (subst (λ z. 0 < state_left z) (sym state) (omega arith)),
      );
    }

    -- or another one
    pub control_other : control_word w ≢ control_word op.control → FinishStepped n table x op op old new (Done Passed)
    control_other apart = record {
      step = asking_is;
      answers = inr record { found = w; before = p.made; bits = s.is_control; made = ap (λ (c : Caller). c.made) s.part; other = λ e. apart (ap control_word (e ∙ sym is.control)) };
    }

  -- The table is opened, or was so already
  module _ (m : Pin) (y : Current) (state : op.state ≡ Open m y) where
    opening : IsPast m y p × Knows n table control (control_word x) p
    opening = subst (λ z. IsAt n table x z p) state is.at

    pub may_open : (h : Help) × (n : Pin) × (z : Current) × MayFinish op.control h n z p
    may_open = let e = is.emptied in let k = opening.0 in let same = same_Some e.0 k.pin.0 (sym e.1 ∙ k.pin.1) in (
      k.pin.0,
      m,
      y,
      subst (λ (z : Control). MayFinish z k.pin.0 m y p) (sym is.control) record {
        helper = record { control = is.helper.control; helps = k.pin.1; moving = is.helper.moving };
        emptied = ap (λ (z : Help). z.emptied) (sym same) ∙ e.2;
        pin = k.pin.2;
        current = k.found;
        past = k.past;
      },
    )

    pub table_opened : {won : Bool} → Tried Finish table old new (index table.start.layout control) (control_word op.control) (control_word (opened_from op.control)) won → FinishStepped n table x op op old new (Done PartDone)
    table_opened s = let known = subst (λ (z : Control). Knows n table control (control_word z) p) (sym is.control) opening.1 in let apart = subst (λ (z : Control). control_word z ≢ control_word (opened_from z)) (sym is.control) (controls_apart x is.helper.is_control is.helper.moving) in
        let step = ended n table old new _ p (same_apart p) s.part true Finish (λ _. (known, apart)) s.is refl s.turns (ap (λ (r : Pass). r.number) s.same) (ap (λ (r : Pass). r.free) s.same) (ap (λ (r : Pass). r.debts) s.same) in
        let help = ap (λ (c : Caller). c.help) s.part in record {
          step = subst (λ z. EndStepped n table (state_exchanges z) (state_kind z) old new) (sym state) step;
          answers = (still_helper n table x old new _ _ step (ap (λ (c : Caller). c.found.control) s.part) is.helper (is.helper.helps.0, help ∙ is.helper.helps.1, is.helper.helps.2), ap state_kind state);
        }
