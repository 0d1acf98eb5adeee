-- A move that is announced keeps the invariant.
use Rattle.std.proofs.Common.{◌≡◌, ◌≢◌, ⊎_elim, inl, inr, true, false, Bool, ℕ, ◌+◌, ◌-◌, ◌^◌, ◌<◌, ◌≤◌, List, [], ◌∷◌, ◌++◌, Option, Some, None, sym, refl, ap, ◌∙◌, subst, le_refl, arith}
use Rattle.std.proofs.lemmas.Bool.{false≢true}
use Rattle.std.specs.List.{Contains}
use Rattle.crq_base.specs.declared.event.Event.{Event}
use Rattle.crq_base.specs.declared.entry.Entry.{Entry}
use Rattle.crq_base.specs.declared.entry.Entry.TheVariants.{Begin, Table}
use Rattle.crq_base.specs.declared.words.Link.{Link}
use Rattle.crq_base.specs.declared.words.Mark.TheVariants.{Val, Mov}
use Rattle.crq_base.specs.declared.words.Control.{Control}
use Rattle.crq_base.specs.declared.words.Current.{Current}
use Rattle.crq_base.specs.declared.words.Pin.{Pin}
use Rattle.crq_base.specs.Histories.{is_table, is_raising}
use Rattle.crq_base.specs.Words.{flag_number, IsControl}
use Rattle.crq_base.specs.Lists.{In}
use Rattle.crq_rule.specs.declared.debts.SettleDebt.{SettleDebt}
use Rattle.crq_rule.specs.declared.debts.CopyDebt.{CopyDebt}
use Rattle.crq_rule.specs.declared.layout.Layout.{Layout}
use Rattle.crq_rule.specs.declared.layout.Start.{Start}
use Rattle.crq_rule.specs.declared.view.Found.{Found}
use Rattle.crq_rule.specs.declared.view.Sight.{Sight}
use Rattle.crq_rule.specs.Lists.{put}
use Rattle.crq_rule.specs.Places.{IsHead}
use Rattle.crq_rule.specs.Core.{Core, Holding, DeadNames, caller_of}
use Rattle.crq_rule.specs.Parts.{newest, Fits, Finds, Ground, ground_of, IsGuarded, Leads}
use Rattle.crq_rule.specs.Ranks.{Shape, head_in, list_in, IsHeadIn}
use Rattle.crq_rule.specs.ListParts.{Sizes, Dues, IsOldMark, IsOldHead, IsNewHead, Heads, Sorted, Marks, Lanes}
use Rattle.crq_rule.specs.Bounds.{Bounds}
use Rattle.crq_rule.specs.MoveKinds.{moving_to, table_announced, MayAnnounce}
use Rattle.crq_rule.specs.Copies.{Bare}
use Rattle.crq_rule.specs.Ending.{IsSealed, Ends}
use Rattle.crq_rule.specs.Invariant.{present_of, takes_of, ending_of, Inv}
use Rattle.crq_rule.proofs.SteadyLaws.{steady_moves}
use Rattle.crq_rule.proofs.CopyLaws.{unlinked_grown}
use Rattle.crq_rule.proofs.Puts.{put_here, put_else, put_all}
use Rattle.crq_rule.proofs.HistoryLaws.{told_other, settling_more}
use Rattle.crq_rule.proofs.BoundLaws.{permits_drop, coming_low, coming_steady, count_more, numbers_grown}
use Rattle.crq_rule.proofs.WalkerLaws.{silent, walkers_grown}
use Rattle.crq_rule.proofs.AheadLaws.{ahead_grown}
use Rattle.crq_rule.proofs.ScarceLaws.{scarce_grown, refusals_grown}
use Rattle.crq_rule.proofs.SweepLaws.{swept_grown}
use Rattle.crq_rule.proofs.CallLaws.{carriers_same}
use Rattle.crq_rule.proofs.HelpLaws.{helps_announced}
use Rattle.crq_rule.proofs.HeadMoves.{banks_apart}

val_mov : Val ≡ Mov → ⊥
val_mov e = cc

table_begin : (j log shift k : ℕ) → Table j log shift ≡ Begin k → ⊥
table_begin j log shift k e = cc

-- a table is no Begin
no_begin : (j log shift k : ℕ) → In (Begin k) (Table j log shift ∷ []) → ⊥
no_begin j log shift k i = ⊎_elim (λ (e : Begin k ≡ Table j log shift). table_begin j log shift k (sym e)) (λ n. n) i

nothing : {e : Event} → Contains [] e → ⊥
nothing h = let k = h.1 in absurd (omega arith)

none_debt : (d : SettleDebt) → None ≡ Some d → ⊥
none_debt d e = cc

-- The table of x, which doesn't move, is to move into one with 2 ^ log lists, whose buckets are 2 ^ shift ticks wide
module _ (x : Control) (log shift : ℕ) (shape : ℕ → Shape) (steady : x.moving ≡ false) where
  abbrev moves : Control
  moves = moving_to x log shift

  abbrev shapes : ℕ → Shape
  shapes = put shape (x.generation + 1) (record { log = log; shift = shift })

  newest_before : newest x ≡ x.generation
  newest_before = let none = ap flag_number steady in omega arith

  -- the tables that there were keep their shapes, and so their lists
  shape_stays : (g : ℕ) → g ≤ newest x → shapes g ≡ shape g
  shape_stays g low = put_else shape (x.generation + 1) (record { log = log; shift = shift }) g (λ e. let is = newest_before in omega arith)

  list_stays : (g : ℕ) (e : Event) → g ≤ newest x → list_in shapes g e ≡ list_in shape g e
  list_stays g e low = ap (λ s. head_in g s e) (shape_stays g low)

  not_moving : (y : Control) → y ≡ x → y.moving ≡ true → ⊥
  not_moving y is moving = false≢true (sym steady ∙ (ap (λ (z : Control). z.moving) (sym is) ∙ moving))

  -- the control words
  control_announced : log < 2 ^ 4 → shift < 2 ^ 5 → IsControl x → IsControl moves
  control_announced low low' was = record {
    generation = was.generation;
    log = was.log;
    shift = was.shift;
    new_log = low;
    new_shift = low';
    steady_log = λ e. absurd (false≢true (sym e));
    steady_shift = λ e. absurd (false≢true (sym e));
  }

  fits_announced : (start : Start) (y : Control) → Fits start x shape y → Fits start moves shapes y
  fits_announced start y was = record {
    spelled = was.spelled;
    first = was.first;
    low = was.low;
    size = shape_stays y.generation (let low = was.low in let is = newest_before in omega arith) ∙ was.size;
    next = λ moving. shape_stays (y.generation + 1) (let low = was.low in let is = newest_before in let ne : y.generation ≢ x.generation = λ same. not_moving y (was.same moving same) moving in omega arith) ∙ was.next moving;
    same = λ moving same. absurd (not_moving y (was.same moving same) moving);
  }

  fits_now : (start : Start) → log < 2 ^ 4 → shift < 2 ^ 5 → Fits start x shape x → Fits start moves shapes moves
  fits_now start low low' was = record {
    spelled = control_announced low low' was.spelled;
    first = was.first;
    low = was.low;
    size = shape_stays x.generation (let is = newest_before in omega arith) ∙ was.size;
    next = λ _. put_here shape (x.generation + 1) (record { log = log; shift = shift });
    same = λ _ _. refl;
  }

  finds_announced : (start : Start) (current : Current) (found : ℕ → Found) (sight : ℕ → Option Sight) → Finds start x shape current found sight → Finds start moves shapes current found sight
  finds_announced start current found sight was = record {
    controls = λ k y b is. fits_announced start y (was.controls k y b is);
    currents = was.currents;
    sights = λ k s b is. let h = was.sights k s b is in (fits_announced start s.table h.0, h.1);
    views = was.views;
  }

  sizes_announced : (start : Start) (head link : ℕ → Link) (holding : ℕ → Holding) → log < 2 ^ 4 → shift < 2 ^ 5 → Sizes start x shape head link holding → Sizes start moves shapes head link holding
  sizes_announced start head link holding low low' was = record {
    now = fits_now start low low' was.now;
    heads = λ q b. let top = was.heads q b in let is = newest_before in omega arith;
    rows = λ r b out. let top = was.rows r b out in let is = newest_before in omega arith;
  }

  dues_announced : (n : ℕ) (settling : ℕ → Option SettleDebt) (copying : ℕ → Option CopyDebt) (names : ℕ → DeadNames) → Dues n x shape settling copying names → Dues n moves shapes settling copying names
  dues_announced n settling copying names was = record {
    settles = λ k d b is. let h = was.settles k d b is in record {
      generation = h.generation;
      shift = h.shift ∙ ap (λ (s : Shape). s.shift) (sym (shape_stays d.generation (let low = h.generation in let is = newest_before in omega arith)));
      width = h.width;
      event = h.event;
    };
    copies = λ k d b is. let h = was.copies k d b is in let top = h.0 in (let is = newest_before in omega arith, h.1 ∙ sym (list_stays d.generation d.event h.0));
    named = λ k d b has. let h = was.named k d b has in let top = h.0 in (let is = newest_before in omega arith, h.1 ∙ sym (list_stays d.generation d.event h.0));
  }

  -- heads of the two tables
  old_was : (q : ℕ) → IsOldHead moves shapes q → IsOldHead x shape q
  old_was q o = subst (λ s. IsHeadIn x.generation s q) (shape_stays x.generation (let is = newest_before in omega arith)) o

  old_is : (q : ℕ) → IsOldHead x shape q → IsOldHead moves shapes q
  old_is q o = subst (λ s. IsHeadIn x.generation s q) (sym (shape_stays x.generation (let is = newest_before in omega arith))) o

  none_new : (q : ℕ) → IsNewHead x shape q → ⊥
  none_new q n = not_moving x refl n.0

  -- no head is of both
  heads_differ : (start : Start) → log < 2 ^ 4 → Fits start x shape x → (q : ℕ) → IsOldHead x shape q → IsHeadIn (x.generation + 1) (shapes (x.generation + 1)) q → ⊥
  heads_differ start low fits q o n = banks_apart x.generation q x.log log fits.spelled.log low (subst (λ s. IsHeadIn x.generation s q) fits.size o)
      (subst (λ s. IsHeadIn (x.generation + 1) s q) (put_here shape (x.generation + 1) (record { log = log; shift = shift })) n)

  heads_announced : (start : Start) (head : ℕ → Link) → log < 2 ^ 4 → Fits start x shape x → Heads x shape head → Heads moves shapes head
  heads_announced start head low fits was = record {
    old = λ q b o. let h = was.old q b (old_was q o) in (h.0, inl (val q b (old_was q o)));
    new = λ q b n. inr (was.other q b (λ o. heads_differ start low fits q o n.1) (none_new q));
    other = λ q b o n. was.other q b (λ h. o (old_is q h)) (none_new q);
    order = λ p q b d o frozen n. absurd (val_mov (sym (val p b (old_was p o)) ∙ frozen));
  }
    where
      val : (q : ℕ) → IsHead q → IsOldHead x shape q → (head q).mark ≡ Val
      val q b o = subst (λ m. IsOldMark m (head q).mark) steady (was.old q b o).1

  sorted_announced : (head link : ℕ → Link) (event : ℕ → Event) (chain : ℕ → List ℕ) → ((q : ℕ) → IsHead q → (head q).generation ≤ newest x) → Sorted shape head link event chain → Sorted shapes head link event chain
  sorted_announced head link event chain low was = record {
    rises = was.rises;
    belongs = λ q r b i. list_stays (head q).generation (event r) (low q b) ∙ was.belongs q r b i;
    generation = was.generation;
  }

  marks_announced : (l : Layout) (head link : ℕ → Link) (twin : ℕ → ℕ) (holding : ℕ → Holding) → Marks l x head link twin holding → Marks l moves head link twin holding
  marks_announced l head link twin holding was = record { mark = was.mark; first = was.first; bare = was.bare; aged = λ r b out m. let old = was.aged r b out m in let is = newest_before in omega arith }

  lanes_announced : (l : Layout) (ground : Ground) (event : ℕ → Event) → ((r : ℕ) → IsGuarded ground r → (ground.link r).generation ≤ newest x) → Lanes l shape ground event → Lanes l shapes ground event
  lanes_announced l ground event low was = record {
    is_row = was.is_row;
    rises = was.rises;
    stays = λ r v some. list_stays (ground.link r).generation (event (ground.link r).row) (low r v) ∙ (was.stays r v some ∙ sym (list_stays (ground.link r).generation (event r) (low r v)));
    generation = was.generation;
    twins = was.twins;
  }

  -- one permit less, and one rise of the epoch more that is still to come, and that stands in the history
  bounds_announced : (start : Start) (current : Current) (pin : Pin) (history : List Entry) (settling : ℕ → Option SettleDebt) (permit : ℕ → Bool) (j : ℕ) → j < start.layout.workers → permit j ≡ true → settling j ≡ None → x.generation < 2 ^ 30 - 2
      → Bounds start x current pin history settling permit → Bounds start moves current pin (history ++ Table j log shift ∷ []) settling (put permit j false)
  bounds_announced start current pin history settling permit j b has none room old = record {
    tables = omega arith;
    opened = (let was = old.opened in let is = newest_before in let parts = count_more is_table history (Table j log shift ∷ []) in omega arith);
    left = (let low = old.left in let still = coming_steady x current pin steady in let few = coming_low moves current pin in let one = permits_drop permit j start.layout.workers b has in omega arith);
    entries = (let low = old.entries in let still = coming_steady x current pin steady in let few = coming_low moves current pin in let parts = count_more is_raising history (Table j log shift ∷ []) in omega arith);
    owed = λ k d c is. put_all permit j false (λ k a. settling k ≡ Some d → (permit k ≡ true) → a ≡ true) (λ owes _. absurd (none_debt d (sym none ∙ owes))) (λ _ _ _ p. p) k is (old.owed k d c is);
  }

module _ (c : Core) (j log shift : ℕ) (b : j < c.start.layout.workers) (may : MayAnnounce c.words.control log shift (caller_of c j)) (inv : Inv c) where
  abbrev now : Control
  now = c.words.control

  -- a covered row is of no later table than the newest
  guarded_low : (r : ℕ) → IsGuarded (ground_of c) r → (c.words.link r).generation ≤ newest now
  guarded_low r v = inv.sizes.rows r (inv.lanes.is_row r v) (λ i. inv.cover.free v.0 v.1 r i v.2)

  -- from row 0 links lead through no rows
  empty_from : (rs : List ℕ) → ((r : ℕ) → In r rs → 0 < r) → Leads c.words.link 0 rs → rs ≡ []
  empty_from [] some leads = refl
  empty_from (r ∷ rs) some leads = let above = some r (inl refl) in let is = leads.0 in absurd (omega arith)

  -- the heads of the new table were shut, and their lists are empty
  bare_announced : Bare (moving_to now log shift) (put c.shape (now.generation + 1) (record { log = log; shift = shift })) c.words.head c.chain
  bare_announced = record {
    bare = λ moving q p i k o val n.
        let apart : IsOldHead now c.shape p → ⊥ = λ old. heads_differ now log shift c.shape may.steady c.start may.log_fits inv.sizes.now p old n.1 in
        let shut = inv.heads.other p k apart (none_new now log shift c.shape may.steady p) in
        empty_from (c.chain p) (λ r at. (inv.holders.in_chain p r k at).0.0) (subst (λ z. Leads c.words.link z (c.chain p)) shut.empty (inv.chains.leads p k));
  }

  -- the open table is that of before
  shape_now : (g : ℕ) → g ≤ now.generation → put c.shape (now.generation + 1) (record { log = log; shift = shift }) g ≡ c.shape g
  shape_now g low = put_else c.shape (now.generation + 1) (record { log = log; shift = shift }) g (λ is. absurd (omega arith))

  ends_announced : Ends (record (ending_of c) { control = moving_to now log shift; shape = put c.shape (now.generation + 1) (record { log = log; shift = shift }) })
  ends_announced = record {
    opened = λ g q b from upto is. inv.ends.opened g q b from upto (subst (λ s. IsHeadIn g s q) (shape_now g upto) is);
    loaded = inv.ends.loaded;
    sealed = λ k h n b is loads same. still_sealed n (inv.ends.sealed k h n b is loads same);
    low = let most = inv.ends.low in let none = ap flag_number may.steady in omega arith;
    high = inv.ends.high;
    pinned = λ is. still_sealed c.words.pin.epoch (inv.ends.pinned is);
    past = inv.ends.past;
    pins = λ k h p b is has. let was = inv.ends.pins k h p b is has in record { next = was.next; now = was.now; past = was.past };
    older = inv.ends.older;
  }
    where
      still_sealed : (n : ℕ) → IsSealed (ending_of c) n → IsSealed (record (ending_of c) { control = moving_to now log shift; shape = put c.shape (now.generation + 1) (record { log = log; shift = shift }) }) n
      still_sealed n was = record {
        frozen = λ q b o. was.frozen q b (subst (λ s. IsHeadIn now.generation s q) (shape_now now.generation (le_refl _)) o);
        walks = was.walks;
        low = was.low;
      }

  announce_inv : Inv (table_announced c j now log shift)
  announce_inv = record {
    spelled = record {
      is_control = control_announced now log shift c.shape may.steady may.log_fits may.shift_fits inv.spelled.is_control;
      is_current = inv.spelled.is_current;
      is_pin = inv.spelled.is_pin;
      heads = inv.spelled.heads;
      links = inv.spelled.links;
      twins = inv.spelled.twins;
      events = inv.spelled.events;
    };
    reading = inv.reading;
    finds = finds_announced now log shift c.shape may.steady _ _ _ _ inv.finds;
    guards = inv.guards;
    holders = inv.holders;
    cutting = inv.cutting;
    stamps = inv.stamps;
    chains = inv.chains;
    cover = inv.cover;
    sizes = sizes_announced now log shift c.shape may.steady _ _ _ _ may.log_fits may.shift_fits inv.sizes;
    dues = dues_announced now log shift c.shape may.steady _ _ _ _ inv.dues;
    steady = steady_moves _ (moving_to now log shift) _ _ _ may.moves;
    heads = heads_announced now log shift c.shape may.steady c.start _ may.log_fits inv.sizes.now inv.heads;
    sorted = sorted_announced now log shift c.shape may.steady _ _ _ _ inv.sizes.heads inv.sorted;
    marks = marks_announced now log shift c.shape may.steady _ _ _ _ _ inv.marks;
    standing = inv.standing;
    copying = inv.copying;
    lanes = lanes_announced now log shift c.shape may.steady _ _ _ guarded_low inv.lanes;
    writing = inv.writing;
    naming = inv.naming;
    carriers = carriers_same _ _ (Table j log shift) _ _ _ _ refl refl inv.carriers;
    told = told_other _ _ _ _ _ j (Table j log shift) b tt refl refl (table_begin j log shift) inv.told;
    numbers = numbers_grown _ _ _ (Table j log shift ∷ []) inv.numbers;
    settling = settling_more _ _ _ (Table j log shift ∷ []) (λ _ n. absurd (nothing n)) (λ _ _ _ _ n. nothing n) inv.settling;
    walkers = walkers_grown (present_of c) (takes_of c) _ _ (Table j log shift ∷ []) (silent c.history (Table j log shift ∷ []) refl refl) inv.walkers;
    ahead = ahead_grown c.history (Table j log shift ∷ []) c.words.current refl inv.ahead;
    bounds = bounds_announced now log shift c.shape may.steady _ _ _ _ _ _ j b may.permit may.settled may.room inv.bounds;
    scarce = scarce_grown _ _ _ _ _ _ _ (no_begin j log shift) inv.scarce;
    refusals = refusals_grown _ _ _ _ (no_begin j log shift) inv.refusals;
    swept = swept_grown _ _ _ _ _ _ _ (no_begin j log shift) inv.swept;
    copies = inv.copies;
    rooms = inv.rooms;
    bare = bare_announced;
    unlinked = unlinked_grown _ _ _ (Table j log shift ∷ []) (no_begin j log shift) inv.unlinked;
    ends = ends_announced;
    helps = helps_announced c.start now c.shape c.words.current c.found c.sight inv.sizes.now inv.finds c.help c.words.head log shift may.steady inv.helps;
  }

-- Announce
pub announce_keeps : (c : Core) (j : ℕ) (x : Control) (log shift : ℕ) → j < c.start.layout.workers → MayAnnounce x log shift (caller_of c j) → c.words.control ≡ x → Inv c → Inv (table_announced c j x log shift)
announce_keeps c j x log shift b may is inv = subst (λ (z : Control). MayAnnounce z log shift (caller_of c j) → Inv (table_announced c j z log shift)) is (λ m. announce_inv c j log shift b m inv) may
