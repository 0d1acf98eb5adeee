-- Each step of a pinning tells what it is to tell.
use Rattle.std.proofs.Common.{◌≡◌, ◌≢◌, true, false, inl, inr, ℕ, ◌+◌, ◌^◌, ◌<◌, ◌≤◌, length, Some, refl, sym, ap, ◌∙◌, subst, arith}
use Rattle.crq_base.specs.declared.kinds.StepKind.TheVariants.{CurrentLoad, PinLoad, Pin as PinKind}
use Rattle.crq_base.specs.declared.words.Control.{Control}
use Rattle.crq_base.specs.declared.words.Current.{Current}
use Rattle.crq_base.specs.declared.words.Pin.{Pin}
use Rattle.crq_base.specs.Words.{IsPin, current_word, pin_word}
use Rattle.crq_rule.specs.declared.pass.Pass.{Pass}
use Rattle.crq_rule.specs.declared.pass.Table.{Table}
use Rattle.crq_rule.specs.declared.view.Caller.{Caller}
use Rattle.crq_rule.specs.declared.view.Help.{Help}
use Rattle.crq_rule.specs.Places.{index, current, pin}
use Rattle.crq_rule.specs.PinKinds.{epoch_known, loads_for_pin, loads_pin, pin_found, pin_of, MayLoadForPin, MayPin}
use Rattle.crq_rows.specs.Passes.{caller, load_made}
use Rattle.crq_list.specs.declared.parts.Progress.TheVariants.{More, Done}
use Rattle.crq_move.specs.declared.parts.PartEnd.TheVariants.{Done as PartDone, Passed}
use Rattle.crq_move.specs.declared.pin.PinState.TheVariants.{LoadCurrent, LoadPin, Set}
use Rattle.crq_move.specs.declared.pin.PinOp.{PinOp}
use Rattle.crq_move.specs.Helpers.{Knows, IsHelper, AllPrepared, AllFrozen}
use Rattle.crq_move.specs.Endings.{LoadedForPin, PinFound, Tried, HasEpoch, EndStepped}
use Rattle.crq_move.specs.Pinning.{IsAt, IsPinning, state_exchanges, state_kind, state_left, PinStepped}
use Rattle.crq_move.proofs.EndingLaws.{for_pin_apart, pin_apart, same_apart, expects_none, load_knows, ended, pins_apart, still_helper, still_counted, pin_kept, pin_help, pin_known_of}

-- where a pinning begins
pub pinning_begins : (n : ℕ) (table : Table) (x : Control) (p : Caller) → n ≤ length p.made → IsHelper x p → AllPrepared x p → AllFrozen x p → IsPinning n table x (record { control = x; state = LoadCurrent }) p
pinning_begins n table x p counted helper opened frozen = record { counted = counted; control = refl; helper = helper; prepared = opened; frozen = frozen; at = tt }

module _ (n : ℕ) (table : Table) (x : Control) (op : PinOp) (old new : Pass) (is : IsPinning n table x op (caller table old)) where
  abbrev p : Caller
  p = caller table old

  -- Current is loaded
  pub may_load : (h : Help) × MayLoadForPin op.control h p
  may_load = (is.frozen.0, subst (λ (z : Control). MayLoadForPin z is.frozen.0 p) (sym is.control) record { helper = record { control = is.helper.control; helps = is.frozen.1; moving = is.helper.moving }; frozen = is.frozen.2 })

  pub current_loaded : (y : Current) → op.state ≡ LoadCurrent → LoadedForPin table old new y → PinStepped n table x op (record op { state = LoadPin y.epoch }) old new More
  current_loaded y state s = let step = ended n table old new _ (loads_for_pin y p) (for_pin_apart y p) s.part false _ (expects_none n p.made (load_made CurrentLoad (index table.start.layout current) (current_word y)) refl) s.is refl (ap (λ (r : Pass). r.turns) s.same) (ap (λ (r : Pass). r.number) s.same) (ap (λ (r : Pass). r.free) s.same) (ap (λ (r : Pass). r.debts) s.same) in
      let help : (h : Help) → p.help ≡ Some h → (caller table new).help ≡ Some (record h { epoch = Some y.epoch }) = (λ h was. ap (λ (c : Caller). c.help) s.part ∙ ap (epoch_known y) was) in
      let loaded = is.helper.helps in record {
        step = subst (λ z. EndStepped n table (state_exchanges z) (state_kind z) old new) (sym state) step;
        answers = (
          record {
            counted = still_counted n table old new _ _ step is.counted;
            control = is.control;
            helper = still_helper n table x old new _ _ step (ap (λ (c : Caller). c.found.control) s.part) is.helper (record loaded.0 { epoch = Some y.epoch }, help loaded.0 loaded.1, loaded.2);
            prepared = (record is.prepared.0 { epoch = Some y.epoch }, help is.prepared.0 is.prepared.1, is.prepared.2);
            frozen = (record is.frozen.0 { epoch = Some y.epoch }, help is.frozen.0 is.frozen.1, is.frozen.2);
            at = (record loaded.0 { epoch = Some y.epoch }, help loaded.0 loaded.1, refl);
          },
          inr (subst (λ z. 1 < state_left z) (sym state) (omega arith)),
        );
      }

  -- The pin is loaded
  module _ (epoch : ℕ) (m : Pin) (state : op.state ≡ LoadPin epoch) (s : PinFound table old new m) where
    loading : EndStepped n table false PinLoad old new
    loading = ended n table old new _ (loads_pin m p) (pin_apart m p) s.part false PinLoad (expects_none n p.made (load_made PinLoad (index table.start.layout pin) (pin_word m)) refl) s.is refl (ap (λ (r : Pass). r.turns) s.same) (ap (λ (r : Pass). r.number) s.same) (ap (λ (r : Pass). r.free) s.same) (ap (λ (r : Pass). r.debts) s.same)

    loading_is : EndStepped n table (state_exchanges op.state) (state_kind op.state) old new
    loading_is = subst (λ z. EndStepped n table (state_exchanges z) (state_kind z) old new) (sym state) loading

    helper_on : IsHelper x (caller table new)
    helper_on = still_helper n table x old new _ _ loading (ap (λ (c : Caller). c.found.control) s.part) is.helper (pin_known_of table old new m (λ h. h.generation ≡ x.generation) (λ _ e. e) s is.helper.helps)

    prepared_on : AllPrepared x (caller table new)
    prepared_on = pin_known_of table old new m (λ h. h.prepared ≡ 2 ^ x.new_log) (λ _ e. e) s is.prepared

    frozen_on : AllFrozen x (caller table new)
    frozen_on = pin_known_of table old new m (λ h. h.frozen ≡ 2 ^ x.log) (λ _ e. e) s is.frozen

    -- it is of no later table than the one that moves
    pub pin_older : m.generation ≤ op.control.generation → PinStepped n table x op (record op { state = Set epoch m }) old new More
    pin_older older = record {
      step = loading_is;
      answers = (
        record {
          counted = still_counted n table old new _ _ loading is.counted;
          control = is.control;
          helper = helper_on;
          prepared = prepared_on;
          frozen = frozen_on;
          at = (pin_known_of table old new m (λ h. h.epoch ≡ Some epoch) (λ _ e. e) s (subst (λ z. IsAt n table x z p) state is.at), s.is_pin, subst (λ (z : Control). m.generation ≤ z.generation) is.control older, load_knows n table old new _ (loads_pin m p) (pin_apart m p) s.part pin (pin_word m) is.counted refl refl refl);
        },
        inr (subst (λ z. 0 < state_left z) (sym state) (omega arith)),
      );
    }

    -- it names the next table
    pub pin_named : m.generation ≡ op.control.generation + 1 → PinStepped n table x op op old new (Done PartDone)
    pin_named next = let h = is.helper.helps in record {
      step = loading_is;
      answers = (helper_on, prepared_on, frozen_on, (m, (pin_found m h.0, pin_help table old new m h.0 s h.1, pin_kept m h.0 (next ∙ ap (λ (z : Control). z.generation + 1) is.control ∙ ap (λ g. g + 1) (sym h.2)))));
    }

    -- or a later one
    pub pin_later : op.control.generation < m.generation → m.generation ≢ op.control.generation + 1 → PinStepped n table x op op old new (Done Passed)
    pin_later high other = let same = ap (λ (z : Control). z.generation) is.control in record {
      step = loading_is;
      answers = (
        record { found = m; before = p.made; bits = s.is_pin; made = ap (λ (c : Caller). c.made) s.part; other = λ e. other (e ∙ ap (λ (z : Control). z.generation + 1) (sym is.control)) },
        omega arith,
      );
    }

  -- The pin is set, or was another one
  module _ (epoch : ℕ) (m : Pin) (state : op.state ≡ Set epoch m) where
    setting : HasEpoch epoch p × IsPin m × (m.generation ≤ x.generation) × Knows n table pin (pin_word m) p
    setting = subst (λ z. IsAt n table x z p) state is.at

    pub set_bits : IsPin m
    set_bits = setting.1

    pub may_set : (h : Help) × MayPin op.control h epoch m p
    may_set = (setting.0.0, subst (λ (z : Control). MayPin z setting.0.0 epoch m p) (sym is.control) record { helper = record { control = is.helper.control; helps = setting.0.1; moving = is.helper.moving }; loaded = setting.0.2; older = setting.2 })

    pub pin_set : {won : _} → Tried PinKind table old new (index table.start.layout pin) (pin_word m) (pin_word (pin_of op.control epoch)) won → PinStepped n table x op (record op { state = LoadPin epoch }) old new More
    pin_set s = let step = ended n table old new _ p (same_apart p) s.part true PinKind (λ _. (setting.3, pins_apart m op.control epoch setting.1 (subst (λ (z : Control). m.generation ≤ z.generation) (sym is.control) setting.2))) s.is refl s.turns (ap (λ (r : Pass). r.number) s.same) (ap (λ (r : Pass). r.free) s.same) (ap (λ (r : Pass). r.debts) s.same) in
        let help : (h : Help) → p.help ≡ Some h → (caller table new).help ≡ Some h = (λ h was. ap (λ (c : Caller). c.help) s.part ∙ was) in record {
          step = subst (λ z. EndStepped n table (state_exchanges z) (state_kind z) old new) (sym state) step;
          answers = (
            record {
              counted = still_counted n table old new _ _ step is.counted;
              control = is.control;
              helper = still_helper n table x old new _ _ step (ap (λ (c : Caller). c.found.control) s.part) is.helper (is.helper.helps.0, help is.helper.helps.0 is.helper.helps.1, is.helper.helps.2);
              prepared = (is.prepared.0, help is.prepared.0 is.prepared.1, is.prepared.2);
              frozen = (is.frozen.0, help is.frozen.0 is.frozen.1, is.frozen.2);
              at = (setting.0.0, help setting.0.0 setting.0.1, setting.0.2);
            },
            inl (ap state_exchanges state),
          );
        }
