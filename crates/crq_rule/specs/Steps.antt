-- One step of any kind, on core states: when it may come, and what it leaves.
use Rattle.std.specs.Prelude.{◌≡◌, true, false, ℕ, ◌<◌, ◌^◌, Bool, List, [], ◌∷◌, Some, None}
use Rattle.crq_base.specs.declared.kinds.StepKind.{StepKind}
use Rattle.crq_base.specs.declared.kinds.StepKind.TheVariants.{Split, Join, EpochLoad, Enter, Confirm, Leave, Scan, Tick, Retire, Look, Claim, Write, Read, ControlLoad, CurrentLoad, SettleLoad, Settle, Raise, Begin, Walk, Link as LinkKind, Mark, Cut, Miss, Announce, Prepare, FreezeHead, FreezeNode, Pop, TwinLoad, Copy, Bind, Validate, Discard, PinLoad, Pin as PinKind, Pass, Finish}
use Rattle.crq_base.specs.declared.event.Event.{Event}
use Rattle.crq_base.specs.declared.words.Link.{Link}
use Rattle.crq_base.specs.declared.words.Control.{Control}
use Rattle.crq_base.specs.declared.words.Current.{Current}
use Rattle.crq_base.specs.declared.words.Pin.{Pin}
use Rattle.crq_base.specs.declared.entry.Entry.{Entry}
use Rattle.crq_base.specs.declared.entry.Entry.TheVariants.{Begin as BeginEntry, Put as PutEntry, Settled as SettledEntry, Take as TakeEntry, Miss as MissEntry, Table as TableEntry}
use Rattle.crq_rule.specs.declared.debts.SettleDebt.{SettleDebt}
use Rattle.crq_rule.specs.declared.view.Guard.TheVariants.{Off}
use Rattle.crq_base.specs.declared.words.Mark.TheVariants.{Val, Mov}
use Rattle.crq_base.specs.Lists.{In}
use Rattle.crq_rule.specs.Places.{IsHomeRow, Place, spare, epoch, announced, control, current, pin as pin_place, head, stamp, twin as twin_place, link as link_place}
use Rattle.crq_rule.specs.Parts.{IsOn}
use Rattle.crq_rule.specs.Ranks.{Cell, at_head, cell_place, link_at}
use Rattle.crq_rule.specs.Core.{Core, caller_of}
use Rattle.crq_rule.specs.Kinds.{epoch_loaded, recovery_begun, entered, confirmed, left, scanned, ticked, tick_failed, retired_at, looked, claimed, HasScanned, IsEntering, MayRetire, IsRipe}
use Rattle.crq_rule.specs.CurrentKinds.{current_loaded, raised, lies_ahead, event_settled, settled_back, MayView, MayRaise, MaySettle}
use Rattle.crq_rule.specs.ListKinds.{Aim, is_cell, Content, IsContent, content_number, row_place, written_at, walked_from, linked, control_loaded, begun_by, marked, cut_from, missed, StandsOn, MayWalk, MaySeek, MayLink, MayMark, MayCut, MayMiss}
use Rattle.crq_rule.specs.MoveKinds.{prepared_link, frozen_link, table_announced, head_left, row_frozen, MayAnnounce, MayPrepare, MayFreezeHead, MayFreezeRow, MayPop}
use Rattle.crq_rule.specs.declared.debts.CopyDebt.{CopyDebt}
use Rattle.crq_rule.specs.declared.view.Stand.{Stand}
use Rattle.crq_rule.specs.declared.view.Help.{Help}
use Rattle.crq_rule.specs.PinKinds.{loaded_for_pin, pin_loaded, pinned_by, passed_by, table_opened, MayLoadForPin, MayPin, MayPass, MayFinish}
use Rattle.crq_rule.specs.CopyKinds.{twin_loaded, twin_found, copied, copy_loaded, bound_by, validated_by, lost_name, front_name, discarded_by, MayTwin, MayCopy, MayValidate, MayDrop, MayDiscard}

-- the kinds of step with their operands; an exchange that fails is a case of its own. Splitting and joining move parts of views from seat to seat, and leave the core state
pub data Kind : Type 0 where
  split : Kind
  join : Kind
  epoch_load : Kind
  recovery_load : Kind
  enter : ℕ → Kind
  confirm : Kind
  leave : Kind
  scan : ℕ → Kind
  tick : ℕ → Kind
  tick_fails : ℕ → Kind
  retire : ℕ → ℕ → Kind
  look : ℕ → Kind
  claim : ℕ → ℕ → Kind
  write : ℕ → Content → Kind
  read : ℕ → ℕ → Kind
  walk : Cell → Aim → Kind
  link : Cell → Link → ℕ → Event → Kind
  link_fails : Cell → Kind
  control_load : Kind
  current_load : Bool → Kind
  raise : Control → Current → Kind
  raise_fails : Kind
  settle_now : SettleDebt → Kind
  settle_later : SettleDebt → Kind
  settle : SettleDebt → Current → Kind
  settle_fails : Kind
  begin : Kind
  mark : ℕ → Event → Kind
  mark_fails : ℕ → Kind
  cut : Cell → ℕ → Link → Kind
  cut_fails : Cell → Kind
  miss : ℕ → Kind
  announce : Control → ℕ → ℕ → Kind
  announce_fails : Kind
  prepare : Control → ℕ → Link → Kind
  prepare_fails : ℕ → Kind
  freeze_head : Control → ℕ → Link → Kind
  freeze_head_fails : ℕ → Kind
  freeze_row : ℕ → Link → Kind
  freeze_row_fails : ℕ → Kind
  pop : ℕ → ℕ → Link → Kind
  pop_fails : ℕ → Kind
  twin_load : ℕ → Kind
  twin_reload : CopyDebt → Kind
  copy : Cell → Link → ℕ → Stand → Link → Kind
  copy_fails : Cell → Kind
  copy_load : CopyDebt → Kind
  bind : CopyDebt → Kind
  bind_fails : CopyDebt → Kind
  validate : ℕ → Link → Kind
  validate_fails : ℕ → Kind
  discard_copy : CopyDebt → Link → Kind
  discard_front : ℕ → ℕ → Event → Link → Kind
  discard_fails : ℕ → Kind
  load_for_pin : Control → Help → Kind
  pin_load : Kind
  pin : Control → Help → ℕ → Pin → Kind
  pin_fails : Kind
  pass : Control → Help → Pin → Current → Kind
  pass_fails : Kind
  finish : Control → Help → Pin → Current → Kind
  finish_fails : Kind

-- when the caller j may make it
abbrev pub May : Kind → Core → ℕ → Type 0
May split c j = Unit {0}
May join c j = Unit {0}
May epoch_load c j = Unit {0}
May recovery_load c j = Unit {0}
May (enter e) c j = (c.guard j ≡ Off) × In e (c.epochs j)
May confirm c j = IsEntering (c.guard j)
May leave c j = (c.cut j ≡ None) × (c.copying j ≡ None)
May (scan k) c j = k < c.start.layout.workers
May (tick x) c j = (c.words.epoch ≡ x) × (x < 2 ^ 62) × ((c.tick j).loaded ≡ x) × (c.guard j ≡ Off) × HasScanned c.start.layout.workers j (c.tick j)
May (tick_fails x) c j = Unit {0}
May (retire r t) c j = MayRetire (c.cut j) r t
May (look r) c j = IsHomeRow c.start.layout j r
May (claim r e) c j = In e (c.epochs j) × IsRipe (c.ripening j) r e
May (write r x) c j = In r (c.hand j) × IsContent x
May (read r p) c j = (e : Event) × StandsOn (c.rows j) r e
May (walk cell aim) c j = IsOn (c.guard j) × MayWalk (c.rows j) cell × MaySeek (c.sight j) (c.walk j) cell aim
May (link cell l r e) c j = ((x : Control) × MayLink c.start.layout.workers x cell l r e (caller_of c j)) × (link_at c.words.head c.words.link cell ≡ l)
May (link_fails cell) c j = Unit {0}
May control_load c j = Unit {0}
May (current_load walks) c j = MayView (c.own j) (c.found j).control walks
May (raise x y) c j = MayRaise x y (caller_of c j) × (c.words.current ≡ y)
May raise_fails c j = Unit {0}
May (settle_now d) c j = (c.settling j ≡ Some d) × (lies_ahead d c.words.current ≡ true)
May (settle_later d) c j = (c.settling j ≡ Some d) × (lies_ahead d c.words.current ≡ false)
May (settle d y) c j = MaySettle d y (caller_of c j) × (c.words.current ≡ y)
May settle_fails c j = Unit {0}
May begin c j = Unit {0}
May (mark r e) c j = ((x : Control) × MayMark x r e (caller_of c j)) × ((c.words.link r).mark ≡ Val)
May (mark_fails r) c j = Unit {0}
May (cut cell x l) c j = MayCut cell x l (caller_of c j) × ((is_cell (link_at c.words.head c.words.link cell).mark ≡ true) × ((link_at c.words.head c.words.link cell).row ≡ x))
May (cut_fails cell) c j = Unit {0}
May (miss limit) c j = MayMiss limit (caller_of c j)
May (announce x log shift) c j = MayAnnounce x log shift (caller_of c j) × (c.words.control ≡ x)
May announce_fails c j = Unit {0}
May (prepare x q l) c j = MayPrepare x q l (caller_of c j) × (c.words.head q ≡ l)
May (prepare_fails q) c j = Unit {0}
May (freeze_head x q l) c j = MayFreezeHead x q l (caller_of c j) × (c.words.head q ≡ l)
May (freeze_head_fails q) c j = Unit {0}
May (freeze_row r l) c j = MayFreezeRow r l (caller_of c j) × (c.words.link r ≡ l)
May (freeze_row_fails r) c j = Unit {0}
May (pop q r last) c j = MayPop q r last (caller_of c j) × (((c.words.head q).mark ≡ Mov) × ((c.words.head q).row ≡ r))
May (pop_fails q) c j = Unit {0}
May (twin_load r) c j = MayTwin r (caller_of c j)
May (twin_reload d) c j = c.copying j ≡ Some d
May (copy cell l r s last) c j = ((x : Control) × MayCopy x cell l r s last (caller_of c j)) × (link_at c.words.head c.words.link cell ≡ l)
May (copy_fails cell) c j = Unit {0}
May (copy_load d) c j = c.copying j ≡ Some d
May (bind d) c j = (c.copying j ≡ Some d) × (c.words.twin d.old ≡ 0)
May (bind_fails d) c j = c.copying j ≡ Some d
May (validate t l) c j = MayValidate t l (caller_of c j) × (c.words.link t ≡ l)
May (validate_fails t) c j = Unit {0}
May (discard_copy d l) c j = MayDrop d l (caller_of c j) × (c.words.link d.copy ≡ l)
May (discard_front q r e l) c j = MayDiscard q r e l (caller_of c j) × (c.words.link r ≡ l)
May (discard_fails r) c j = Unit {0}
May (load_for_pin x h) c j = MayLoadForPin x h (caller_of c j)
May pin_load c j = Unit {0}
May (pin x h m n) c j = MayPin x h m n (caller_of c j) × (c.words.pin ≡ n)
May pin_fails c j = Unit {0}
May (pass x h n y) c j = MayPass x h n y (caller_of c j) × (c.words.current ≡ y)
May pass_fails c j = Unit {0}
May (finish x h n y) c j = MayFinish x h n y (caller_of c j) × (c.words.control ≡ x)
May finish_fails c j = Unit {0}

-- the core state after it
abbrev pub After : Kind → Core → ℕ → Core
After split c j = c
After join c j = c
After epoch_load c j = epoch_loaded c j
After recovery_load c j = recovery_begun c j
After (enter e) c j = entered c j e
After confirm c j = confirmed c j
After leave c j = left c j
After (scan k) c j = scanned c j k
After (tick x) c j = ticked c j x
After (tick_fails x) c j = tick_failed c j
After (retire r t) c j = retired_at c j r t
After (look r) c j = looked c j r
After (claim r e) c j = claimed c j r
After (write r x) c j = written_at c j r x
After (read r p) c j = c
After (walk cell aim) c j = walked_from c j cell aim
After (link cell l r e) c j = linked c j cell l r e
After (link_fails cell) c j = c
After control_load c j = control_loaded c j
After (current_load walks) c j = current_loaded c j walks
After (raise x y) c j = raised c j x y
After raise_fails c j = c
After (settle_now d) c j = event_settled c j d
After (settle_later d) c j = current_loaded c j false
After (settle d y) c j = settled_back c j d y
After settle_fails c j = c
After begin c j = begun_by c j
After (mark r e) c j = marked c j r e
After (mark_fails r) c j = c
After (cut cell x l) c j = cut_from c j cell x l
After (cut_fails cell) c j = c
After (miss limit) c j = missed c j limit
After (announce x log shift) c j = table_announced c j x log shift
After announce_fails c j = control_loaded c j
After (prepare x q l) c j = head_left c j q (prepared_link x)
After (prepare_fails q) c j = c
After (freeze_head x q l) c j = head_left c j q (frozen_link l)
After (freeze_head_fails q) c j = c
After (freeze_row r l) c j = row_frozen c j r l
After (freeze_row_fails r) c j = c
After (pop q r last) c j = cut_from c j (at_head q) r last
After (pop_fails q) c j = c
After (twin_load r) c j = twin_loaded c j r
After (twin_reload d) c j = twin_found c j d
After (copy cell l r s last) c j = copied c j cell l r s last
After (copy_fails cell) c j = c
After (copy_load d) c j = copy_loaded c j d
After (bind d) c j = bound_by c j d
After (bind_fails d) c j = twin_found c j d
After (validate t l) c j = validated_by c j t l
After (validate_fails t) c j = c
After (discard_copy d l) c j = discarded_by c j d.copy l (lost_name d) None
After (discard_front q r e l) c j = discarded_by c j r l (front_name q r e l) (c.copying j)
After (discard_fails r) c j = c
After (load_for_pin x h) c j = loaded_for_pin c j
After pin_load c j = pin_loaded c j
After (pin x h m n) c j = pinned_by c x m
After pin_fails c j = c
After (pass x h n y) c j = passed_by c y
After pass_fails c j = c
After (finish x h n y) c j = table_opened c x
After finish_fails c j = c

-- the word that it loads, stores or exchanges
abbrev pub place_of : Kind → ℕ → Place
place_of split j = spare
place_of join j = spare
place_of epoch_load j = epoch
place_of recovery_load j = epoch
place_of (enter e) j = announced j
place_of confirm j = epoch
place_of leave j = announced j
place_of (scan k) j = announced k
place_of (tick x) j = epoch
place_of (tick_fails x) j = epoch
place_of (retire r t) j = stamp r
place_of (look r) j = stamp r
place_of (claim r e) j = stamp r
place_of (write r x) j = row_place r (content_number x)
place_of (read r p) j = row_place r p
place_of (walk cell aim) j = cell_place cell
place_of (link cell l r e) j = cell_place cell
place_of (link_fails cell) j = cell_place cell
place_of control_load j = control
place_of (current_load walks) j = current
place_of (raise x y) j = current
place_of raise_fails j = current
place_of (settle_now d) j = current
place_of (settle_later d) j = current
place_of (settle d y) j = current
place_of settle_fails j = current
place_of begin j = control
place_of (mark r e) j = link_place r
place_of (mark_fails r) j = link_place r
place_of (cut cell x l) j = cell_place cell
place_of (cut_fails cell) j = cell_place cell
place_of (miss limit) j = control
place_of (announce x log shift) j = control
place_of announce_fails j = control
place_of (prepare x q l) j = head q
place_of (prepare_fails q) j = head q
place_of (freeze_head x q l) j = head q
place_of (freeze_head_fails q) j = head q
place_of (freeze_row r l) j = link_place r
place_of (freeze_row_fails r) j = link_place r
place_of (pop q r last) j = head q
place_of (pop_fails q) j = head q
place_of (twin_load r) j = twin_place r
place_of (twin_reload d) j = twin_place d.old
place_of (copy cell l r s last) j = cell_place cell
place_of (copy_fails cell) j = cell_place cell
place_of (copy_load d) j = link_place d.copy
place_of (bind d) j = twin_place d.old
place_of (bind_fails d) j = twin_place d.old
place_of (validate t l) j = link_place t
place_of (validate_fails t) j = link_place t
place_of (discard_copy d l) j = link_place d.copy
place_of (discard_front q r e l) j = link_place r
place_of (discard_fails r) j = link_place r
place_of (load_for_pin x h) j = current
place_of pin_load j = pin_place
place_of (pin x h m n) j = pin_place
place_of pin_fails j = pin_place
place_of (pass x h n y) j = current
place_of pass_fails j = current
place_of (finish x h n y) j = control
place_of finish_fails j = control

-- its name
abbrev pub kind_of : Kind → StepKind
kind_of split = Split
kind_of join = Join
kind_of epoch_load = EpochLoad
kind_of recovery_load = EpochLoad
kind_of (enter e) = Enter
kind_of confirm = Confirm
kind_of leave = Leave
kind_of (scan k) = Scan
kind_of (tick x) = Tick
kind_of (tick_fails x) = Tick
kind_of (retire r t) = Retire
kind_of (look r) = Look
kind_of (claim r e) = Claim
kind_of (write r x) = Write
kind_of (read r p) = Read
kind_of (walk cell aim) = Walk
kind_of (link cell l r e) = LinkKind
kind_of (link_fails cell) = LinkKind
kind_of control_load = ControlLoad
kind_of (current_load walks) = CurrentLoad
kind_of (raise x y) = Raise
kind_of raise_fails = Raise
kind_of (settle_now d) = SettleLoad
kind_of (settle_later d) = SettleLoad
kind_of (settle d y) = Settle
kind_of settle_fails = Settle
kind_of begin = Begin
kind_of (mark r e) = Mark
kind_of (mark_fails r) = Mark
kind_of (cut cell x l) = Cut
kind_of (cut_fails cell) = Cut
kind_of (miss limit) = Miss
kind_of (announce x log shift) = Announce
kind_of announce_fails = Announce
kind_of (prepare x q l) = Prepare
kind_of (prepare_fails q) = Prepare
kind_of (freeze_head x q l) = FreezeHead
kind_of (freeze_head_fails q) = FreezeHead
kind_of (freeze_row r l) = FreezeNode
kind_of (freeze_row_fails r) = FreezeNode
kind_of (pop q r last) = Pop
kind_of (pop_fails q) = Pop
kind_of (twin_load r) = TwinLoad
kind_of (twin_reload d) = TwinLoad
kind_of (copy cell l r s last) = Copy
kind_of (copy_fails cell) = Copy
kind_of (copy_load d) = Walk
kind_of (bind d) = Bind
kind_of (bind_fails d) = Bind
kind_of (validate t l) = Validate
kind_of (validate_fails t) = Validate
kind_of (discard_copy d l) = Discard
kind_of (discard_front q r e l) = Discard
kind_of (discard_fails r) = Discard
kind_of (load_for_pin x h) = CurrentLoad
kind_of pin_load = PinLoad
kind_of (pin x h m n) = PinKind
kind_of pin_fails = PinKind
kind_of (pass x h n y) = Pass
kind_of pass_fails = Pass
kind_of (finish x h n y) = Finish
kind_of finish_fails = Finish

-- the entries that it adds to the history
abbrev pub entries_of : Kind → ℕ → List Entry
entries_of (link cell l r e) j = PutEntry j e ∷ []
entries_of begin j = BeginEntry j ∷ []
entries_of (settle_now d) j = SettledEntry j d.event ∷ []
entries_of (settle d y) j = SettledEntry j d.event ∷ []
entries_of (mark r e) j = TakeEntry j e ∷ []
entries_of (miss limit) j = MissEntry j limit ∷ []
entries_of (announce x log shift) j = TableEntry j log shift ∷ []
entries_of _ j = []

-- the step of kind k of the caller j leads from c to c'
pub record IsStep (k : Kind) (c : Core) (j : ℕ) (c' : Core) : Type 0 where
  pub may : May k c j
  pub after : c' ≡ After k c j
