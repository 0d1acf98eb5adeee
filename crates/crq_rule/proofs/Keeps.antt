-- Each step of each kind keeps the invariant, changes what its own caller knows alone, and one word at most.
use Rattle.std.proofs.Common.{◌≡◌, ◌≢◌, ℕ, ◌+◌, ◌*◌, ◌^◌, ◌<◌, false, Bool, List, [], ◌∷◌, ◌++◌, length, Option, None, Some, sym, refl, ap, append-nil}
use Rattle.crq_base.specs.declared.event.Event.{Event}
use Rattle.crq_base.specs.declared.entry.Entry.TheVariants.{Begin, Put, Settled, Take, Miss, Table}
use Rattle.crq_base.specs.declared.words.Link.{Link}
use Rattle.crq_base.specs.declared.words.Mark.TheVariants.{Del}
use Rattle.crq_base.specs.Words.{link_word}
use Rattle.crq_rule.specs.declared.view.Guard.TheVariants.{Off, Entering, On}
use Rattle.crq_rule.specs.declared.view.Stand.{Stand}
use Rattle.crq_rule.specs.declared.view.Walk.{Walk}
use Rattle.crq_rule.specs.declared.view.Sweep.{Sweep}
use Rattle.crq_rule.specs.declared.view.Help.{Help}
use Rattle.crq_rule.specs.declared.view.Caller.{Caller}
use Rattle.crq_rule.specs.Lists.{put, without}
use Rattle.crq_rule.specs.Places.{Words, Place, epoch, announced, control, current, pin as pin_place, head, link as link_place, stamp, twin, time, source, sequence, load, word_of}
use Rattle.crq_rule.specs.Core.{Core, DeadNames, caller_of, owed_by}
use Rattle.crq_rule.specs.Invariant.{Inv}
use Rattle.crq_rule.specs.ScarceParts.{pending}
use Rattle.crq_rule.specs.Kinds.{tagged, new_base, new_tick, seen_stamp, base_looked, refused_after}
use Rattle.crq_rule.specs.Ranks.{Cell, at_head, at_row, cell_place, link_at, list_in, heads_set, links_set}
use Rattle.crq_rule.specs.ListKinds.{Aim, Content, new_link, no_twin, new_time, new_source, new_sequence, new_load, content_number, content_word, row_place, wrote, link_after, twin_after, event_after, owed_event, name_in, unhanded, forgotten, without_stand, stands_after, walk_after, taken_on, sweep_on, clean_on, relieved_names, unnamed_row, noted, control_loaded, cut_from}
use Rattle.crq_rule.specs.Steps.{Kind, split, join, epoch_load, recovery_load, enter, confirm, leave, scan, tick, tick_fails, retire, look, claim, write, read, walk, link, link_fails, control_load, current_load, raise, raise_fails, settle_now, settle_later, settle, settle_fails, begin, mark, mark_fails, cut, cut_fails, miss, announce, announce_fails, prepare, prepare_fails, freeze_head, freeze_head_fails, freeze_row, freeze_row_fails, pop, pop_fails, twin_load, twin_reload, copy, copy_fails, copy_load, bind, bind_fails, validate, validate_fails, discard_copy, discard_front, discard_fails, load_for_pin, pin_load, pin, pin_fails, pass, pass_fails, finish, finish_fails, May, After, place_of, entries_of}
use Rattle.crq_rule.proofs.Puts.{put_else, put_through}
use Rattle.crq_rule.proofs.GuardLaws.{load_keeps, recovery_keeps, enter_keeps, confirm_keeps, leave_keeps, scan_keeps, tick_keeps, tick_fails_keeps}
use Rattle.crq_rule.proofs.RowLaws.{retire_keeps, look_keeps, claim_keeps}
use Rattle.crq_rule.proofs.WriteLaws.{write_keeps}
use Rattle.crq_rule.proofs.WalkLaws.{walk_keeps}
use Rattle.crq_rule.proofs.LinkLaws.{link_keeps}
use Rattle.crq_rule.proofs.CutLaws.{cut_keeps, pop_keeps}
use Rattle.crq_rule.proofs.MarkLaws.{mark_keeps}
use Rattle.crq_rule.specs.CurrentKinds.{sight_on, permit_after, told_after, current_loaded}
use Rattle.crq_rule.proofs.CurrentLaws.{current_keeps}
use Rattle.crq_rule.proofs.RaiseLaws.{raise_keeps}
use Rattle.crq_rule.proofs.SettleLaws.{settled_keeps, settle_keeps}
use Rattle.crq_rule.proofs.CallLaws.{control_keeps, begin_keeps, miss_keeps}
use Rattle.crq_rule.specs.Helping.{help_after, helped_by}
use Rattle.crq_rule.specs.MoveKinds.{prepared_link, frozen_link, head_left}
use Rattle.crq_rule.proofs.AnnounceLaws.{announce_keeps}
use Rattle.crq_rule.proofs.HeadMoves.{prepare_keeps, freeze_head_keeps}
use Rattle.crq_rule.proofs.FreezeLaws.{freeze_row_keeps}
use Rattle.crq_rule.specs.declared.debts.CopyDebt.{CopyDebt}
use Rattle.crq_rule.specs.declared.debts.CutDebt.{CutDebt}
use Rattle.crq_rule.specs.CopyKinds.{plain_stand, stands_twinned, old_after, old_stand, lost_stands, twin_found, copy_debt, copy_after, valid_link, dead_link, named_too, lost_name, front_name, discarded_by}
use Rattle.crq_rule.proofs.TwinLaws.{twin_keeps, twin_found_keeps, copy_loaded_keeps}
use Rattle.crq_rule.proofs.CopyingLaws.{copy_keeps}
use Rattle.crq_rule.proofs.BindLaws.{bind_keeps}
use Rattle.crq_rule.proofs.ValidateLaws.{validate_keeps}
use Rattle.crq_rule.proofs.DiscardLaws.{drop_keeps, discard_keeps}
use Rattle.crq_rule.specs.PinKinds.{epoch_known, pin_known}
use Rattle.crq_rule.proofs.PinLaws.{for_pin_keeps, pin_load_keeps, pin_keeps, pass_keeps}
use Rattle.crq_rule.proofs.FinishLaws.{finish_keeps}

pub keeps : (k : Kind) (c : Core) (j : ℕ) → j < c.start.layout.workers → May k c j → Inv c → Inv (After k c j)
keeps split c j b may inv = inv
keeps join c j b may inv = inv
keeps epoch_load c j b may inv = load_keeps c j b inv
keeps recovery_load c j b may inv = recovery_keeps c j b inv
keeps (enter e) c j b may inv = enter_keeps c j e b may.0 may.1 inv
keeps confirm c j b may inv = confirm_keeps c j may.0 b may.1 inv
keeps leave c j b may inv = leave_keeps c j b may.0 may.1 inv
keeps (scan k) c j b may inv = scan_keeps c j k b may inv
keeps (tick x) c j b may inv = tick_keeps c j x b may.0 may.1 may.2 may.3 may.4 inv
keeps (tick_fails x) c j b may inv = tick_fails_keeps c j b inv
keeps (retire r t) c j b may inv = retire_keeps c j r t b may inv
keeps (look r) c j b may inv = look_keeps c j r b may inv
keeps (claim r e) c j b may inv = claim_keeps c j r e b may.0 may.1 inv
keeps (write r x) c j b may inv = write_keeps c j r x b may.0 may.1 inv
keeps (read r p) c j b may inv = inv
keeps (walk cell aim) c j b may inv = walk_keeps c j cell aim b may.0 may.1 may.2 inv
keeps (link cell l r e) c j b may inv = link_keeps c j cell l r e b may.0 may.1 inv
keeps (link_fails cell) c j b may inv = inv
keeps control_load c j b may inv = control_keeps c j b inv
keeps (current_load walks) c j b may inv = current_keeps c j b inv walks may
keeps (raise x y) c j b may inv = raise_keeps c j x y b may.0 may.1 inv
keeps raise_fails c j b may inv = inv
keeps (settle_now d) c j b may inv = settled_keeps c j d b may.0 may.1 inv
keeps (settle_later d) c j b may inv = current_keeps c j b inv false tt
keeps (settle d y) c j b may inv = settle_keeps c j d y b may.0 may.1 inv
keeps settle_fails c j b may inv = inv
keeps begin c j b may inv = begin_keeps c j b inv
keeps (mark r e) c j b may inv = mark_keeps c j r e b may.0 may.1 inv
keeps (mark_fails r) c j b may inv = inv
keeps (cut cell x l) c j b may inv = cut_keeps c j cell x l b may.0 may.1.0 may.1.1 inv
keeps (cut_fails cell) c j b may inv = inv
keeps (miss limit) c j b may inv = miss_keeps c j limit b may inv
keeps (announce x log shift) c j b may inv = announce_keeps c j x log shift b may.0 may.1 inv
keeps announce_fails c j b may inv = control_keeps c j b inv
keeps (prepare x q l) c j b may inv = prepare_keeps c j x q l b may.0 may.1 inv
keeps (prepare_fails q) c j b may inv = inv
keeps (freeze_head x q l) c j b may inv = freeze_head_keeps c j x q l b may.0 may.1 inv
keeps (freeze_head_fails q) c j b may inv = inv
keeps (freeze_row r l) c j b may inv = freeze_row_keeps c j r l b may.0 may.1 inv
keeps (freeze_row_fails r) c j b may inv = inv
keeps (pop q r last) c j b may inv = pop_keeps c j q r last b may.0 may.1.0 may.1.1 inv
keeps (pop_fails q) c j b may inv = inv
keeps (twin_load r) c j b may inv = twin_keeps c j r b may inv
keeps (twin_reload d) c j b may inv = twin_found_keeps c j d b may inv
keeps (copy cell l r s last) c j b may inv = copy_keeps c j cell l r s last b may.0 may.1 inv
keeps (copy_fails cell) c j b may inv = inv
keeps (copy_load d) c j b may inv = copy_loaded_keeps c j d b may inv
keeps (bind d) c j b may inv = bind_keeps c j d b may.0 may.1 inv
keeps (bind_fails d) c j b may inv = twin_found_keeps c j d b may inv
keeps (validate t l) c j b may inv = validate_keeps c j t l b may.0 may.1 inv
keeps (validate_fails t) c j b may inv = inv
keeps (discard_copy d l) c j b may inv = drop_keeps c j d l b may.0 may.1 inv
keeps (discard_front q r e l) c j b may inv = discard_keeps c j q r e l b may.0 may.1 inv
keeps (discard_fails r) c j b may inv = inv
keeps (load_for_pin x h) c j b may inv = for_pin_keeps c j x h b may inv
keeps pin_load c j b may inv = pin_load_keeps c j b inv
keeps (pin x h m n) c j b may inv = pin_keeps c j x h m n b may.0 may.1 inv
keeps pin_fails c j b may inv = inv
keeps (pass x h n y) c j b may inv = pass_keeps c j x h n y b may.0 may.1 inv
keeps pass_fails c j b may inv = inv
keeps (finish x h n y) c j b may inv = finish_keeps c j x h n y b may.0 may.1 inv
keeps finish_fails c j b may inv = inv

-- what a walk changes
abbrev new_walk : Core → ℕ → Cell → Aim → Option Walk
new_walk c j cell aim = walk_after cell aim (c.sight j) (link_at c.words.head c.words.link cell) (c.walk j) (c.rows j)

abbrev new_rows : Core → ℕ → Cell → Aim → List Stand
new_rows c j cell aim = let l = link_at c.words.head c.words.link cell in stands_after cell aim (new_walk c j cell aim) l (c.words.event l.row) (c.rows j)

abbrev new_sweep : Core → ℕ → Cell → Aim → Option Sweep
new_sweep c j cell aim = let l = link_at c.words.head c.words.link cell in sweep_on (taken_on aim (c.found j).control cell (c.rows j) (c.sweep j)) l (c.words.event l.row) (c.sweep j)

abbrev new_clean : Core → ℕ → Cell → Aim → List ℕ
new_clean c j cell aim = clean_on (taken_on aim (c.found j).control cell (c.rows j) (c.sweep j)) (link_at c.words.head c.words.link cell) (c.clean j)

abbrev new_names : Core → ℕ → Cell → DeadNames
new_names c j cell = let l = link_at c.words.head c.words.link cell in relieved_names (c.found j).control cell (c.rows j) l (c.words.event l.row) (c.named j)

abbrev new_help : Core → ℕ → Cell → Option Help
new_help c j cell = helped_by (c.found j).control j cell (link_at c.words.head c.words.link cell) (c.help j)

-- what the other callers know stays

others_loaded : (walks : Bool) (c : Core) (j i : ℕ) → i ≢ j → caller_of (current_loaded c j walks) i ≡ caller_of c i
others_loaded walks c j i ne = λ x. record (caller_of c i) {
  found = put_else c.found j (record (c.found j) { current = Some c.words.current }) i ne x;
  permit = put_else c.permit j (permit_after c.words.current (c.permit j)) i ne x;
  told = put_else c.told j (told_after c.start c.words.current (c.told j)) i ne x;
  sight = put_else c.sight j (sight_on walks (c.found j).control c.words.current) i ne x;
  walk = put_else c.walk j None i ne x;
}

others_told : (c : Core) (j i : ℕ) → i ≢ j → caller_of (control_loaded c j) i ≡ caller_of c i
others_told c j i ne = λ x. record (caller_of c i) {
  found = put_else c.found j (record (c.found j) { control = Some c.words.control }) i ne x;
  help = put_else c.help j (help_after c.words.control (c.help j)) i ne x;
}

-- the caller left the link l in the head q
others_helped : (c : Core) (j q : ℕ) (l : Link) (i : ℕ) → i ≢ j → caller_of (head_left c j q l) i ≡ caller_of c i
others_helped c j q l i ne = λ x. record (caller_of c i) { help = put_else c.help j (helped_by (c.found j).control j (at_head q) l (c.help j)) i ne x }

-- the dead row y was cut out
others_cut : (c : Core) (j : ℕ) (cell : Cell) (y : ℕ) (l : Link) (i : ℕ) → i ≢ j → caller_of (cut_from c j cell y l) i ≡ caller_of c i
others_cut c j cell y l i ne = λ x. record (caller_of c i) {
  cut = put_else c.cut j (Some (record { row = y; tags = [] })) i ne x;
  walk = put_else c.walk j None i ne x;
  position = record { rows = put_else c.rows j (without_stand y (c.rows j)) i ne x; old = c.old i };
  debts = owed_by (c.settling i) (c.copying i) (put_else c.named j (unnamed_row y (c.named j)) i ne x);
}

-- the caller found the twin of the old row
others_lost : (c : Core) (j : ℕ) (d : CopyDebt) (i : ℕ) → i ≢ j → caller_of (twin_found c j d) i ≡ caller_of c i
others_lost c j d i ne = λ x. record (caller_of c i) { position = record { rows = put_else c.rows j (lost_stands d (c.words.twin d.old) (c.rows j)) i ne x; old = c.old i } }

-- the copy r was discarded
others_discarded : (c : Core) (j r : ℕ) (l : Link) (n : CutDebt) (o : Option CopyDebt) (i : ℕ) → i ≢ j → caller_of (discarded_by c j r l n o) i ≡ caller_of c i
others_discarded c j r l n o i ne = λ x. record (caller_of c i) {
  position = record { rows = put_else c.rows j (noted r (dead_link l) (c.rows j)) i ne x; old = c.old i };
  debts = owed_by (c.settling i) (put_else c.copying j o i ne x) (put_else c.named j (named_too n (c.named j)) i ne x);
}

pub others_stay : (k : Kind) (c : Core) (j i : ℕ) → i ≢ j → caller_of (After k c j) i ≡ caller_of c i
others_stay split c j i ne = refl
others_stay join c j i ne = refl
others_stay epoch_load c j i ne = λ x. record (caller_of c i) {
  epochs = put_else c.epochs j (c.words.epoch ∷ c.epochs j) i ne x;
  tick = put_else c.tick j (new_tick c.words.epoch) i ne x;
  cut = put_else c.cut j (tagged c.words.epoch (c.cut j)) i ne x;
}
others_stay recovery_load c j i ne = λ x. record (caller_of c i) {
  epochs = put_else c.epochs j (c.words.epoch ∷ c.epochs j) i ne x;
  tick = put_else c.tick j (new_tick c.words.epoch) i ne x;
  cut = put_else c.cut j (tagged c.words.epoch (c.cut j)) i ne x;
  base = put_else c.base j (Some (new_base (length c.history) (pending c.history) c.words.epoch)) i ne x;
}
others_stay (enter e) c j i ne = λ x. record (caller_of c i) { guard = put_else c.guard j (Entering e) i ne x }
others_stay confirm c j i ne = λ x. record (caller_of c i) { epochs = put_else c.epochs j (c.words.epoch ∷ c.epochs j) i ne x; guard = put_else c.guard j (On c.words.epoch) i ne x }
others_stay leave c j i ne = λ x. record (caller_of c i) { guard = put_else c.guard j Off i ne x; position = record { rows = put_else c.rows j [] i ne x; old = put_else c.old j None i ne x }; walk = put_else c.walk j None i ne x }
others_stay (scan k) c j i ne = λ x. record (caller_of c i) { tick = put_else c.tick j (record { loaded = (c.tick j).loaded; found = (k, c.words.announced k) ∷ (c.tick j).found }) i ne x }
others_stay (tick z) c j i ne = λ x. record (caller_of c i) { epochs = put_else c.epochs j ((z + 1) ∷ c.epochs j) i ne x; tick = put_else c.tick j (new_tick 0) i ne x }
others_stay (tick_fails z) c j i ne = λ x. record (caller_of c i) { epochs = put_else c.epochs j (c.words.epoch ∷ c.epochs j) i ne x; tick = put_else c.tick j (new_tick 0) i ne x }
others_stay (retire r t) c j i ne = λ x. record (caller_of c i) { cut = put_else c.cut j None i ne x }
others_stay (look r) c j i ne = λ x. record (caller_of c i) {
  ripening = put_else c.ripening j (seen_stamp r (c.words.stamp r) (c.ripening j)) i ne x;
  base = put_else c.base j (base_looked c j r) i ne x;
  refused = put_else c.refused j (refused_after c.start.layout.home (c.hand j) (base_looked c j r) (c.refused j)) i ne x;
}
others_stay (claim r e) c j i ne = λ x. record (caller_of c i) { hand = put_else c.hand j (c.hand j ++ r ∷ []) i ne x; ripening = put_else c.ripening j (without r (c.ripening j)) i ne x }
others_stay (write r x) c j i ne = λ y. record (caller_of c i) { written = put_else c.written j (wrote r (content_number x) (content_word x) (c.written j)) i ne y }
others_stay (read r p) c j i ne = refl
others_stay (walk cell aim) c j i ne = λ x. record (caller_of c i) {
  position = record { rows = put_else c.rows j (new_rows c j cell aim) i ne x; old = c.old i };
  walk = put_else c.walk j (new_walk c j cell aim) i ne x;
  sweep = put_else c.sweep j (new_sweep c j cell aim) i ne x;
  clean = put_else c.clean j (new_clean c j cell aim) i ne x;
  debts = owed_by (c.settling i) (c.copying i) (put_else c.named j (new_names c j cell) i ne x);
  help = put_else c.help j (new_help c j cell) i ne x;
}
others_stay (link cell l r e) c j i ne = λ x. record (caller_of c i) {
  own = put_else c.own j (c.own j ++ Put j e ∷ []) i ne x;
  debts = owed_by (put_else c.settling j (Some (owed_event l.generation (c.shape l.generation) e)) i ne x) (c.copying i) (c.named i);
  hand = put_else c.hand j (unhanded r (c.hand j)) i ne x;
  base = put_else c.base j None i ne x;
  written = put_else c.written j (forgotten r (c.written j)) i ne x;
}
others_stay (link_fails cell) c j i ne = refl
others_stay control_load c j i ne = others_told c j i ne
others_stay (current_load walks) c j i ne = others_loaded walks c j i ne
others_stay (raise x y) c j i ne = λ z. record (caller_of c i) { walk = put_else c.walk j None i ne z }
others_stay raise_fails c j i ne = refl
others_stay (settle_now d) c j i ne = λ z. record (caller_of c i) { own = put_else c.own j (c.own j ++ Settled j d.event ∷ []) i ne z; debts = owed_by (put_else c.settling j None i ne z) (c.copying i) (c.named i) }
others_stay (settle_later d) c j i ne = others_loaded false c j i ne
others_stay (settle d y) c j i ne = λ z. record (caller_of c i) {
  own = put_else c.own j (c.own j ++ Settled j d.event ∷ []) i ne z;
  debts = owed_by (put_else c.settling j None i ne z) (c.copying i) (c.named i);
  permit = put_else c.permit j false i ne z;
}
others_stay settle_fails c j i ne = refl
others_stay begin c j i ne = λ x. record (caller_of c i) {
  position = record { rows = c.rows i; old = put_else c.old j None i ne x };
  own = put_else c.own j (c.own j ++ Begin j ∷ []) i ne x;
  base = put_else c.base j None i ne x;
  refused = put_else c.refused j [] i ne x;
  sweep = put_else c.sweep j None i ne x;
  clean = put_else c.clean j [] i ne x;
  sight = put_else c.sight j None i ne x;
  walk = put_else c.walk j None i ne x;
  found = put_else c.found j (record (c.found j) { control = Some c.words.control }) i ne x;
  help = put_else c.help j (help_after c.words.control (c.help j)) i ne x;
}
others_stay (mark r e) c j i ne = λ x. record (caller_of c i) {
  own = put_else c.own j (c.own j ++ Take j e ∷ []) i ne x;
  walk = put_else c.walk j None i ne x;
  debts = owed_by (c.settling i) (c.copying i) (put_else c.named j (record (c.named j) { first = Some (name_in c.shape (c.words.link r).generation r e) }) i ne x);
}
others_stay (mark_fails r) c j i ne = refl
others_stay (cut cell y l) c j i ne = others_cut c j cell y l i ne
others_stay (cut_fails cell) c j i ne = refl
others_stay (miss limit) c j i ne = λ x. record (caller_of c i) {
  own = put_else c.own j (c.own j ++ Miss j limit ∷ []) i ne x;
  walk = put_else c.walk j None i ne x;
  found = put_else c.found j (record (c.found j) { control = Some c.words.control }) i ne x;
  help = put_else c.help j (help_after c.words.control (c.help j)) i ne x;
}
others_stay (announce z log shift) c j i ne = λ x. record (caller_of c i) { own = put_else c.own j (c.own j ++ Table j log shift ∷ []) i ne x; permit = put_else c.permit j false i ne x }
others_stay announce_fails c j i ne = others_told c j i ne
others_stay (prepare z q l) c j i ne = others_helped c j q (prepared_link z) i ne
others_stay (prepare_fails q) c j i ne = refl
others_stay (freeze_head z q l) c j i ne = others_helped c j q (frozen_link l) i ne
others_stay (freeze_head_fails q) c j i ne = refl
others_stay (freeze_row r l) c j i ne = λ x. record (caller_of c i) { position = record { rows = put_else c.rows j (noted r (frozen_link l) (c.rows j)) i ne x; old = c.old i } }
others_stay (freeze_row_fails r) c j i ne = refl
others_stay (pop q r last) c j i ne = others_cut c j (at_head q) r last i ne
others_stay (pop_fails q) c j i ne = refl
others_stay (twin_load r) c j i ne = λ x. record (caller_of c i) {
  position = record { rows = put_else c.rows j (stands_twinned r (c.words.twin r) (c.rows j)) i ne x; old = put_else c.old j (old_after r (c.words.twin r) (c.rows j) (c.old j)) i ne x };
}
others_stay (twin_reload d) c j i ne = others_lost c j d i ne
others_stay (copy cell l r s last) c j i ne = λ x. record (caller_of c i) {
  position = record { rows = c.rows i; old = put_else c.old j None i ne x };
  debts = owed_by (c.settling i) (put_else c.copying j (Some (copy_debt s last r l.generation (list_in c.shape l.generation s.event))) i ne x) (c.named i);
  hand = put_else c.hand j (unhanded r (c.hand j)) i ne x;
  base = put_else c.base j None i ne x;
  written = put_else c.written j (forgotten r (c.written j)) i ne x;
}
others_stay (copy_fails cell) c j i ne = refl
others_stay (copy_load d) c j i ne = λ x. record (caller_of c i) { debts = owed_by (c.settling i) (put_else c.copying j (copy_after (c.words.link d.copy) (c.copying j)) i ne x) (c.named i) }
others_stay (bind d) c j i ne = λ x. record (caller_of c i) {
  position = record { rows = put_else c.rows j (old_stand d d.copy ∷ plain_stand d.copy d.event d.generation ∷ c.rows j) i ne x; old = c.old i };
  debts = owed_by (c.settling i) (put_else c.copying j None i ne x) (c.named i);
}
others_stay (bind_fails d) c j i ne = others_lost c j d i ne
others_stay (validate t l) c j i ne = λ x. record (caller_of c i) { position = record { rows = put_else c.rows j (noted t (valid_link l) (c.rows j)) i ne x; old = c.old i } }
others_stay (validate_fails t) c j i ne = refl
others_stay (discard_copy d l) c j i ne = others_discarded c j d.copy l (lost_name d) None i ne
others_stay (discard_front q r e l) c j i ne = others_discarded c j r l (front_name q r e l) (c.copying j) i ne
others_stay (discard_fails r) c j i ne = refl
others_stay (load_for_pin x h) c j i ne = (λ y. record (caller_of c i) {
  found = put_else c.found j (record (c.found j) { current = Some c.words.current }) i ne y;
  permit = put_else c.permit j (permit_after c.words.current (c.permit j)) i ne y;
  told = put_else c.told j (told_after c.start c.words.current (c.told j)) i ne y;
  sight = put_else c.sight j None i ne y;
  walk = put_else c.walk j None i ne y;
  help = put_else c.help j (epoch_known c.words.current (c.help j)) i ne y;
})
others_stay pin_load c j i ne = λ y. record (caller_of c i) { help = put_else c.help j (pin_known c.words.pin (c.help j)) i ne y }
others_stay (pin x h m n) c j i ne = refl
others_stay pin_fails c j i ne = refl
others_stay (pass x h n y) c j i ne = refl
others_stay pass_fails c j i ne = refl
others_stay (finish x h n y) c j i ne = refl
others_stay finish_fails c j i ne = refl

-- a link that is set at a cell stands at no other place
cell_stays : (w : Words) (cell : Cell) (l : Link) (p : Place) → p ≢ cell_place cell → word_of (record w { head = heads_set w.head cell l; link = links_set w.link cell l }) p ≡ word_of w p
cell_stays w (at_head q) l (head k) ne = ap link_word (put_else w.head q l k (λ e. ne (ap head e)))
cell_stays w (at_head q) l p ne = refl
cell_stays w (at_row r) l (link_place s) ne = ap link_word (put_else w.link r l s (λ e. ne (ap link_place e)))
cell_stays w (at_row r) l p ne = refl

-- what is written into a row stands at no other place
content_stays : (w : Words) (r : ℕ) (x : Content) (p : Place) → p ≢ row_place r (content_number x)
    → word_of (record w { link = put w.link r (link_after x (w.link r)); twin = put w.twin r (twin_after x (w.twin r)); event = put w.event r (event_after x (w.event r)) }) p ≡ word_of w p
content_stays w r x (link_place s) ne = put_through link_word w.link r (link_after x (w.link r)) s (same x ne)
  where
    same : (x : Content) → link_place s ≢ row_place r (content_number x) → s ≡ r → link_word (link_after x (w.link r)) ≡ link_word (w.link r)
    same (new_link l) ne e = absurd (ne (ap link_place e))
    same no_twin ne e = refl
    same (new_time t d) ne e = refl
    same (new_source t) ne e = refl
    same (new_sequence t) ne e = refl
    same (new_load t) ne e = refl
content_stays w r x (twin s) ne = put_through (λ t. t) w.twin r (twin_after x (w.twin r)) s (same x ne)
  where
    same : (x : Content) → twin s ≢ row_place r (content_number x) → s ≡ r → twin_after x (w.twin r) ≡ w.twin r
    same no_twin ne e = absurd (ne (ap twin e))
    same (new_link l) ne e = refl
    same (new_time t d) ne e = refl
    same (new_source t) ne e = refl
    same (new_sequence t) ne e = refl
    same (new_load t) ne e = refl
content_stays w r x (time s) ne = put_through (λ (e : Event). e.time * 2 ^ 32 + e.dst) w.event r (event_after x (w.event r)) s (same x ne)
  where
    same : (x : Content) → time s ≢ row_place r (content_number x) → s ≡ r → (event_after x (w.event r)).time * 2 ^ 32 + (event_after x (w.event r)).dst ≡ (w.event r).time * 2 ^ 32 + (w.event r).dst
    same (new_time t d) ne e = absurd (ne (ap time e))
    same no_twin ne e = refl
    same (new_link l) ne e = refl
    same (new_source t) ne e = refl
    same (new_sequence t) ne e = refl
    same (new_load t) ne e = refl
content_stays w r x (source s) ne = put_through (λ (e : Event). e.src) w.event r (event_after x (w.event r)) s (same x ne)
  where
    same : (x : Content) → source s ≢ row_place r (content_number x) → s ≡ r → (event_after x (w.event r)).src ≡ (w.event r).src
    same (new_source t) ne e = absurd (ne (ap source e))
    same no_twin ne e = refl
    same (new_link l) ne e = refl
    same (new_time t d) ne e = refl
    same (new_sequence t) ne e = refl
    same (new_load t) ne e = refl
content_stays w r x (sequence s) ne = put_through (λ (e : Event). e.seq) w.event r (event_after x (w.event r)) s (same x ne)
  where
    same : (x : Content) → sequence s ≢ row_place r (content_number x) → s ≡ r → (event_after x (w.event r)).seq ≡ (w.event r).seq
    same (new_sequence t) ne e = absurd (ne (ap sequence e))
    same no_twin ne e = refl
    same (new_link l) ne e = refl
    same (new_time t d) ne e = refl
    same (new_source t) ne e = refl
    same (new_load t) ne e = refl
content_stays w r x (load s) ne = put_through (λ (e : Event). e.load) w.event r (event_after x (w.event r)) s (same x ne)
  where
    same : (x : Content) → load s ≢ row_place r (content_number x) → s ≡ r → (event_after x (w.event r)).load ≡ (w.event r).load
    same (new_load t) ne e = absurd (ne (ap load e))
    same no_twin ne e = refl
    same (new_link l) ne e = refl
    same (new_time t d) ne e = refl
    same (new_source t) ne e = refl
    same (new_sequence t) ne e = refl
content_stays w r x p ne = refl

-- a step changes no word but the one of its kind
pub words_stay : (k : Kind) (c : Core) (j : ℕ) (p : Place) → p ≢ place_of k j → word_of (After k c j).words p ≡ word_of c.words p
words_stay (enter e) c j (announced i) ne = put_else c.words.announced j (e + 1) i (λ q. ne (ap announced q))
words_stay leave c j (announced i) ne = put_else c.words.announced j 0 i (λ q. ne (ap announced q))
words_stay (tick x) c j epoch ne = absurd (ne refl)
words_stay (retire r t) c j (stamp s) ne = put_else c.words.stamp r (t + 1) s (λ q. ne (ap stamp q))
words_stay (claim r e) c j (stamp s) ne = put_else c.words.stamp r 0 s (λ q. ne (ap stamp q))
words_stay (write r x) c j p ne = content_stays c.words r x p ne
words_stay (raise x y) c j current ne = absurd (ne refl)
words_stay (settle d y) c j current ne = absurd (ne refl)
words_stay (link cell l r e) c j p ne = cell_stays c.words cell (record l { row = r }) p ne
words_stay (mark r e) c j (link_place s) ne = ap link_word (put_else c.words.link r (record (c.words.link r) { mark = Del }) s (λ q. ne (ap link_place q)))
words_stay (cut cell x l) c j p ne = cell_stays c.words cell (record (link_at c.words.head c.words.link cell) { row = l.row }) p ne
words_stay (announce x log shift) c j control ne = absurd (ne refl)
words_stay (prepare x q l) c j p ne = cell_stays c.words (at_head q) (prepared_link x) p ne
words_stay (freeze_head x q l) c j p ne = cell_stays c.words (at_head q) (frozen_link l) p ne
words_stay (freeze_row r l) c j (link_place s) ne = ap link_word (put_else c.words.link r (frozen_link l) s (λ q. ne (ap link_place q)))
words_stay (pop q r last) c j p ne = cell_stays c.words (at_head q) (record (c.words.head q) { row = last.row }) p ne
words_stay (copy cell l r t last) c j p ne = cell_stays c.words cell (record l { row = r }) p ne
words_stay (bind d) c j (twin s) ne = put_else c.words.twin d.old d.copy s (λ q. ne (ap twin q))
words_stay (validate t l) c j (link_place s) ne = ap link_word (put_else c.words.link t (valid_link l) s (λ q. ne (ap link_place q)))
words_stay (discard_copy d l) c j (link_place s) ne = ap link_word (put_else c.words.link d.copy (dead_link l) s (λ q. ne (ap link_place q)))
words_stay (discard_front q r e l) c j (link_place s) ne = ap link_word (put_else c.words.link r (dead_link l) s (λ q. ne (ap link_place q)))
words_stay (pin x h m n) c j pin_place ne = absurd (ne refl)
words_stay (pass x h n y) c j current ne = absurd (ne refl)
words_stay (finish x h n y) c j control ne = absurd (ne refl)
words_stay k c j p ne = refl

-- the history grows by the step's entries
pub history_grows : (k : Kind) (c : Core) (j : ℕ) → (After k c j).history ≡ c.history ++ entries_of k j
history_grows (link cell l r e) c j = refl
history_grows begin c j = refl
history_grows (settle_now d) c j = refl
history_grows (settle d y) c j = refl
history_grows (mark r e) c j = refl
history_grows (miss limit) c j = refl
history_grows (announce x log shift) c j = refl
history_grows (enter e) c j = sym (append-nil c.history)
history_grows epoch_load c j = sym (append-nil c.history)
history_grows k c j = sym (append-nil c.history)

pub rest_stays : (k : Kind) (c : Core) (j : ℕ) → ((After k c j).start ≡ c.start) × ((After k c j).deal ≡ c.deal)
rest_stays epoch_load c j = (refl, refl)
rest_stays k c j = (refl, refl)

-- the step of caller j takes c to c', and its part to p'
pub record Kept (c c' : Core) (j : ℕ) (p' : Caller) : Type 0 where
  pub start : c'.start ≡ c.start
  pub mine : p' ≡ caller_of c' j
  pub others : (k : ℕ) → k ≢ j → caller_of c' k ≡ caller_of c k
  pub inv : Inv c'

pub step_kept : (k : Kind) (c : Core) (j : ℕ) → j < c.start.layout.workers → May k c j → Inv c → Kept c (After k c j) j (caller_of (After k c j) j)
step_kept k c j b may inv = record { start = (rest_stays k c j).0; mine = refl; others = others_stay k c j; inv = keeps k c j b may inv }
