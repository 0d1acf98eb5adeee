-- What each kind of step that ends a move does to what its caller knows, and to the core state.
use Rattle.std.specs.Prelude.{cond, ◌≡◌, ◌==◌, ℕ, ◌+◌, ◌^◌, ◌<◌, ◌≤◌, false, true, Option, Some, None}
use Rattle.crq_base.specs.declared.words.Control.{Control}
use Rattle.crq_base.specs.declared.words.Current.{Current}
use Rattle.crq_base.specs.declared.words.Pin.{Pin}
use Rattle.crq_rule.specs.declared.view.Help.{Help}
use Rattle.crq_rule.specs.declared.view.Caller.{Caller}
use Rattle.crq_rule.specs.Lists.{put}
use Rattle.crq_rule.specs.Core.{Core}
use Rattle.crq_rule.specs.CurrentKinds.{loads_current, current_loaded}

-- CurrentLoad for the pin: a helper that found all heads of the table that moves frozen loads current, whose epoch it is to pin

abbrev pub epoch_known : Current → Option Help → Option Help
epoch_known y None = None
epoch_known y (Some h) = Some (record h { epoch = Some y.epoch })

abbrev pub loads_for_pin : Current → Caller → Caller
loads_for_pin y p = record (loads_current false y p) { help = epoch_known y p.help }

abbrev pub loaded_for_pin : Core → ℕ → Core
loaded_for_pin c j = record (current_loaded c j false) { help = put c.help j (epoch_known c.words.current (c.help j)) }

-- the caller helps the move that the control word x tells
pub record IsHelper (x : Control) (h : Help) (p : Caller) : Type 0 where
  pub control : p.found.control ≡ Some x
  pub helps : p.help ≡ Some h
  pub moving : x.moving ≡ true

pub record MayLoadForPin (x : Control) (h : Help) (p : Caller) : Type 0 where
  pub helper : IsHelper x h p
  pub frozen : h.frozen ≡ 2 ^ x.log

-- PinLoad: the pin was found to be n, which a helper keeps where it is of its move

abbrev pub pin_found : Pin → Help → Help
pin_found n h = cond (n.generation == h.generation + 1) (record h { pin = Some n }) h

abbrev pub pin_known : Pin → Option Help → Option Help
pin_known n None = None
pin_known n (Some h) = Some (pin_found n h)

abbrev pub loads_pin : Pin → Caller → Caller
loads_pin n p = record p { help = pin_known n p.help }

abbrev pub pin_loaded : Core → ℕ → Core
pin_loaded c j = record c { help = put c.help j (pin_known c.words.pin (c.help j)) }

-- Pin: the pin, which was of an earlier table, names the next table and the epoch that was loaded for it

abbrev pub pin_of : Control → ℕ → Pin
pin_of x epoch = record { generation = x.generation + 1; epoch = epoch }

abbrev pub pinned_by : Core → Control → ℕ → Core
pinned_by c x epoch = record c { words = record c.words { pin = pin_of x epoch } }

pub record MayPin (x : Control) (h : Help) (epoch : ℕ) (n : Pin) (p : Caller) : Type 0 where
  pub helper : IsHelper x h p
  pub loaded : h.epoch ≡ Some epoch
  pub older : n.generation ≤ x.generation

-- Pass: current's epoch goes on from that of the pin

abbrev pub passed_from : Current → Current
passed_from y = record y { epoch = y.epoch + 1 }

abbrev pub passed_by : Core → Current → Core
passed_by c y = record c { words = record c.words { current = passed_from y } }

-- current was found at an epoch that isn't above the pin's, and so, where it is that still, is equal to it
pub record MayPass (x : Control) (h : Help) (n : Pin) (y : Current) (p : Caller) : Type 0 where
  pub helper : IsHelper x h p
  pub pin : h.pin ≡ Some n
  pub low : y.epoch ≤ n.epoch

-- Finish: the next table is open

abbrev pub opened_from : Control → Control
opened_from x = record { generation = x.generation + 1; moving = false; log = x.new_log; shift = x.new_shift; new_log = 0; new_shift = 0 }

abbrev pub table_opened : Core → Control → Core
table_opened c x = record c { words = record c.words { control = opened_from x } }

-- a helper found all heads of the old table frozen and empty, and current past the pin
pub record MayFinish (x : Control) (h : Help) (n : Pin) (y : Current) (p : Caller) : Type 0 where
  pub helper : IsHelper x h p
  pub emptied : h.emptied ≡ 2 ^ x.log
  pub pin : h.pin ≡ Some n
  pub current : p.found.current ≡ Some y
  pub past : n.epoch < y.epoch
