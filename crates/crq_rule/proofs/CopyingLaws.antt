-- A copy of a frozen row that comes into a list of the next table keeps the invariant.
use Rattle.std.proofs.Common.{◌≡◌, ◌≢◌, ◌⊎◌, ⊎_elim, inl, inr, ℕ, ◌+◌, ◌^◌, ◌<◌, ◌≤◌, List, [], ◌∷◌, ◌++◌, Option, Some, None, le_refl, sym, refl, ap, ◌∙◌, subst, arith}
use Rattle.std.proofs.lemmas.Option.{same_Some, none-some}
use mathlib.Core.Logic.{dite}
use native.Mathlib.Decide.{ℕ_discrete}
use Rattle.crq_base.specs.declared.event.Event.{Event}
use Rattle.crq_base.specs.declared.words.Link.{Link}
use Rattle.crq_base.specs.declared.words.Control.{Control}
use Rattle.crq_base.specs.declared.words.Mark.TheVariants.{Val, Inv as Invalid, Mov}
use Rattle.crq_base.specs.Lists.{In}
use Rattle.crq_rule.specs.declared.debts.CopyDebt.{CopyDebt}
use Rattle.crq_rule.specs.declared.view.Guard.TheVariants.{On}
use Rattle.crq_rule.specs.declared.view.Stand.{Stand}
use Rattle.crq_rule.specs.Lists.{put}
use Rattle.crq_rule.specs.Places.{IsHomeRow}
use Rattle.crq_rule.specs.Core.{Core, caller_of, Holding, listed}
use Rattle.crq_rule.specs.Parts.{newest, Ground, ground_of, footings, Covers, IsGuarded, IsPath, IsOn, rows_of, rows_of_old, rows_of_copy}
use Rattle.crq_rule.specs.ListParts.{IsOldHead, Dues, Copying, StandFits}
use Rattle.crq_rule.specs.HistoryParts.{IsCarrying, IsLive, Carriers}
use Rattle.crq_rule.specs.ScarceParts.{WasOut, Swept}
use Rattle.crq_rule.specs.Ranks.{Shape, IsTold, first_head_of, head_in, list_in, next_list, Cell, link_at, after_cell}
use Rattle.crq_rule.specs.Copies.{Copies, Rooms, Bare, Unlinked}
use Rattle.crq_rule.specs.Invariant.{present_of, takes_of, rows_of_core, Inv}
use Rattle.crq_rule.specs.ListKinds.{is_cell}
use Rattle.crq_rule.specs.CopyKinds.{copy_debt, copied, MayCopy}
use Rattle.crq_rule.proofs.Puts.{put_here, put_else, put_all}
use Rattle.crq_rule.proofs.PartLaws.{one_home}
use Rattle.crq_rule.proofs.CoverLaws.{stand_row, row_footing, old_footing, footing_covered}
use Rattle.crq_rule.proofs.StandLaws.{copying_nowhere}
use Rattle.crq_rule.proofs.HelpLaws.{head_woven}
use Rattle.crq_rule.proofs.Standings.{in_join}
use Rattle.crq_rule.proofs.SteadyLaws.{found_moving}
use Rattle.crq_rule.proofs.WalkerLaws.{walkers_links}
use Rattle.crq_rule.proofs.ScarceLaws.{base_lasts, lasts_held, scarce_drop}
use Rattle.crq_rule.proofs.SweepLaws.{swept_chains}
use Rattle.crq_rule.proofs.ChainLaws.{in_cell}
use Rattle.crq_rule.proofs.CopyLaws.{twin_guarded, debt_guarded}
use Rattle.crq_rule.proofs.CopyRows.{copies_relinked, copies_copied, new_fits}
use Rattle.crq_rule.proofs.LinkLaws.{Linking, known_by, cell_high, no_new, told_low, head', link', chain', holding', same_generation, link_here, covered_from, spelled_after, holders_after, stamps_after, own_mark, marks_after, chains_after, heads_after, helps_after, sorted_after, cover_after, lanes_after, standing_after, copying_after, writing_after, naming_after, sizes_after, steady_after, relinked_after, bare_after, live_after, live_before, from_after, ends_after}

val_mov : Val ≡ Mov → ⊥
val_mov e = cc

module _ (c : Core) (j : ℕ) (cell : Cell) (l : Link) (r : ℕ) (s : Stand) (last : Link) (b : j < c.start.layout.workers) (x : Control) (may : MayCopy x cell l r s last (caller_of c j)) (is : link_at c.words.head c.words.link cell ≡ l) (inv : Inv c) where
  -- The copy comes into the table behind the one that the caller found to move. Either that moves still, or the move is over and the next one is open

  now_or_over : (x.generation ≡ c.words.control.generation) ⊎ (x.generation + 1 ≡ c.words.control.generation)
  now_or_over = let of = may.expected.2 in let same = ap (λ (y : Link). y.generation) is in let low = (inv.finds.controls j x b may.control).low in
      let high = cell_high c j (next_list x) cell r s.event b (ap (λ (y : Link). is_cell y.mark) is ∙ may.expected.1) may.after inv in
      dite (ℕ_discrete x.generation c.words.control.generation) inl (λ past. inr (omega arith))

  told_by : (x.generation ≡ c.words.control.generation) ⊎ (x.generation + 1 ≡ c.words.control.generation) → IsTold c.words.control l.generation
  told_by when = ⊎_elim
      (λ (now : x.generation ≡ c.words.control.generation). let same = found_moving c inv j x b may.control may.moving now in
      inr (ap (λ (y : Control). y.moving) (sym same) ∙ may.moving, may.expected.2 ∙ ap (λ (y : Control). y.generation + 1) same))
      (λ over. inl (may.expected.2 ∙ over)) when

  told : IsTold c.words.control l.generation
  told = told_by now_or_over

  lists : (f : Event) → list_in c.shape l.generation f ≡ next_list x f
  lists f = ap (λ g. list_in c.shape g f) may.expected.2 ∙ ap (λ (sh : Shape). head_in (x.generation + 1) sh f) ((inv.finds.controls j x b may.control).next may.moving)

  -- the row comes into this list
  abbrev q : ℕ
  q = list_in c.shape l.generation s.event

  f : Linking c j cell l r q s.event Invalid
  f = known_by c j (next_list x) cell l r s.event Invalid b may.on may.in_hand_is may.event may.expected.0 may.expected.1 told lists refl may.written may.after may.before is inv

  abbrev links : ℕ → Link
  links = link' c j cell l r s.event Invalid

  abbrev heads : ℕ → Link
  heads = head' c j cell l r s.event Invalid

  abbrev holding : ℕ → Holding
  holding = holding' c j cell l r s.event Invalid

  -- The copy that the caller owes from then on, and where callers stand

  abbrev debt : CopyDebt
  debt = copy_debt s last r l.generation q

  abbrev old : ℕ → Option Stand
  old = put c.old j None

  abbrev copying : ℕ → Option CopyDebt
  copying = put c.copying j (Some debt)

  abbrev ground : Ground
  ground = record (ground_of c) { link = links; footing = footings c.rows old copying }

  footing_here : footings c.rows old copying j ≡ rows_of (c.rows j) ++ (s.row ∷ r ∷ [])
  footing_here i = rows_of (c.rows j) ++ (rows_of_old (put_here c.old j None i) ++ rows_of_copy (put_here c.copying j (Some debt) i))

  footing_else : (k : ℕ) → k ≢ j → footings c.rows old copying k ≡ (ground_of c).footing k
  footing_else k ne i = rows_of (c.rows k) ++ (rows_of_old (put_else c.old j None k ne i) ++ rows_of_copy (put_else c.copying j (Some debt) k ne i))

  -- what the row r leads to is it, or was covered, since the caller stands on the row before which it comes
  from_own : (k g y : ℕ) (ps : List ℕ) → k ≡ j → k < c.start.layout.workers → c.guard k ≡ On g → IsPath links c.words.twin r ps y → (y ≡ r) ⊎ Covers (ground_of c) k g y
  from_own k g y [] same inside on path = inl (sym path)
  from_own k g y (p ∷ ps) same inside on path = ⊎_elim
      (λ (e : (links r).row ≡ p). let next : l.row ≡ p = ap (λ (z : Link). z.row) (sym (link_here c j cell l r s.event Invalid f inv ∙ f.link_is)) ∙ e in ⊎_elim
      (λ (none : l.row ≡ 0). let some = path.0.0 in absurd (omega arith))
      (λ h. let t = h.1 in covered_from c j cell l r s.event Invalid f inv k g p y inside on
      (subst (λ k. In p ((ground_of c).footing k)) (sym same) (row_footing c.rows c.old c.copying j p (subst (λ z. In z (rows_of (c.rows j))) (t.2 ∙ next) (stand_row (c.rows j) t.0 t.1))))
      (record { through = ps; path = path.1 }))
      may.before)
      (λ (e : c.words.twin r ≡ p). let none = f.twin_is in let some = path.0.0 in absurd (omega arith)) path.0.1

  covers_before : (k g y : ℕ) → Covers ground k g y → (y ≡ r) ⊎ Covers (ground_of c) k g y
  covers_before k g y v = dite (ℕ_discrete k j)
      (λ (e : k ≡ j). ⊎_elim
      (λ i. by k g y v (subst (λ k. In v.at ((ground_of c).footing k)) (sym e) (row_footing c.rows c.old c.copying j v.at i)))
      (⊎_elim (λ (h : v.at ≡ s.row). by k g y v (subst (λ k. In v.at ((ground_of c).footing k)) (sym e) (subst (λ z. In z ((ground_of c).footing j)) (sym h) (old_footing c.rows c.old c.copying j s may.old))))
      (⊎_elim (λ (h : v.at ≡ r). from_own k g y v.reaches.through e v.inside v.on (subst (λ z. IsPath links c.words.twin z v.reaches.through y) h v.reaches.path)) (λ n. absurd n)))
      (in_join (rows_of (c.rows j)) (s.row ∷ r ∷ []) v.at (subst (In v.at) (ap (footings c.rows old copying) e ∙ footing_here) v.stands)))
      (λ ne. by k g y v (subst (In v.at) (footing_else k ne) v.stands))
    where
      by : (k g y : ℕ) (v : Covers ground k g y) → In v.at ((ground_of c).footing k) → (y ≡ r) ⊎ Covers (ground_of c) k g y
      by k g y v i = covered_from c j cell l r s.event Invalid f inv k g v.at y v.inside v.on i v.reaches

  guarded_before : (y : ℕ) → IsGuarded ground y → (y ≡ r) ⊎ IsGuarded (ground_of c) y
  guarded_before y v = ⊎_elim inl (λ o. inr (v.0, v.1, o)) (covers_before v.0 v.1 y v.2)

  rests : (k : ℕ) → k < c.start.layout.workers → (IsOn (c.guard k) → ⊥) → footings c.rows old copying k ≡ []
  rests k inside off = dite (ℕ_discrete k j) (λ (e : k ≡ j). absurd (off (subst (λ k. IsOn (c.guard k)) (sym e) may.on))) (λ ne. footing_else k ne ∙ inv.cover.resting k inside off)

  -- The frozen row

  stood : StandFits c.words.head c.words.link c.words.twin c.words.event s × ((c.words.link s.row).mark ≡ Mov)
  stood = inv.copying.each j s b may.old

  last_is : c.words.link s.row ≡ last
  last_is = (stood.0.last last may.frozen.0).0

  old_guarded : IsGuarded (ground_of c) s.row
  old_guarded = let v = footing_covered (ground_of c) c.cut c.holding inv.cover j s.row b (old_footing c.rows c.old c.copying j s may.old) in (j, v.0, v.1)

  -- The parts

  copies_part : Copies (rows_of_core (copied c j cell l r s last)) ground
  copies_part = copies_relinked _ _ links (relinked_after c j cell l r s.event Invalid f inv)
      (copies_copied (rows_of_core c) (ground_of c) ground j r q f.row f.held f.twin_is guarded_before j debt b may.none (ap (λ (y : Link). y.mark) f.link_is) refl free (twin_guarded (ground_of c)) (debt_guarded c inv)
      (new_fits (rows_of_core c) (ground_of c) ground j r q f.row f.held f.twin_is guarded_before j debt b may.none (ap (λ (y : Link). y.mark) f.link_is) refl free (twin_guarded (ground_of c)) (debt_guarded c inv)
      old_guarded last_is (ap (λ (y : Link). y.mark) (sym last_is) ∙ stood.1) (let was = may.frozen.1 in let now = may.expected.2 in omega arith) (ap (λ (y : Link). y.generation) f.link_is) stood.0.holds f.event_is inv.copies) inv.copies)
    where
      free : IsGuarded (ground_of c) r → ⊥
      free v = inv.cover.free v.0 v.1 r j v.2 f.held

  copying_part : Copying c.start.layout.workers heads links c.words.twin c.words.event old
  copying_part = copying_nowhere c.start.layout.workers heads links c.words.twin c.words.event c.old j (copying_after c j cell l r s.event Invalid f inv)

  dues_part : Dues c.start.layout.workers c.words.control c.shape c.settling copying c.named
  dues_part = record {
    settles = inv.dues.settles;
    copies = λ k d. put_all c.copying j (Some debt) (λ k o. k < c.start.layout.workers → o ≡ Some d → (d.generation ≤ newest c.words.control) × (d.head ≡ list_in c.shape d.generation d.event))
        (λ _ e. subst (λ (d : CopyDebt). (d.generation ≤ newest c.words.control) × (d.head ≡ list_in c.shape d.generation d.event)) (same_Some debt d e) (told_low c.words.control l.generation told, refl))
        (λ k _. inv.dues.copies k d) k;
    named = inv.dues.named;
  }

  rooms_part : Rooms c.start.layout.workers copying c.named
  rooms_part = record {
    ordered = inv.rooms.ordered;
    room = λ k d. put_all c.copying j (Some debt) (λ k o. k < c.start.layout.workers → o ≡ Some d → (c.named k).second ≡ None) (λ _ _. may.room) (λ k _. inv.rooms.room k d) k;
  }

  -- while it moves all heads of the open table are frozen
  frozen_all : x ≡ c.words.control → (p : ℕ) → IsOldHead c.words.control c.shape p → (c.words.head p).mark ≡ Mov
  frozen_all moves p o = let h = may.helps.0 in let of = inv.helps.finds j h b may.helps.1 in
      let at : x ≡ of.0 = same_Some x of.0 (sym may.control ∙ of.1) in
      let same : h.generation ≡ c.words.control.generation = of.2.same ∙ ap (λ (y : Control). y.generation) (sym at ∙ moves) in
      let passed = inv.helps.passed j h b may.helps.1 same in
      let all : h.frozen ≡ 2 ^ c.words.control.log = may.helps.2 ∙ ap (λ (y : Control). 2 ^ y.log) moves in
      let within = subst (λ (sh : Shape). p < first_of + 2 ^ sh.log) inv.sizes.now.size o.1 in
      let w = head_woven j c.words.control.log first_of p o.0 within in
      subst (λ z. (c.words.head z).mark ≡ Mov) w.2 (passed.frozen w.0 (let low = w.1 in subst (λ z. w.0 < z) (sym all) low))
    where
      first_of : ℕ
      first_of = first_head_of c.words.control.generation

  bare_part : Bare c.words.control c.shape heads (chain' c j cell l r s.event Invalid)
  bare_part = bare_after c j cell l r s.event Invalid f inv (λ _ p _ o val new. ⊎_elim
      (λ now. val_mov (sym val ∙ frozen_all (found_moving c inv j x b may.control may.moving now) p o))
      (λ over. no_new c j cell l r s.event Invalid f inv (may.expected.2 ∙ over) new) now_or_over)

  unlinked_part : Unlinked c.start.layout.workers c.history old
  unlinked_part = record {
    each = λ k t. put_all c.old j None (λ k o. k < c.start.layout.workers → o ≡ Some t → WasOut c.history k t.event → ⊥) (λ _ e. absurd (none-some t e)) (λ k _. inv.unlinked.each k t) k;
  }

  -- the event of the row wasn't out at the caller's last Begin
  swept_part : Swept c.start.layout c.history c.words.event (chain' c j cell l r s.event Invalid) c.sweep c.clean
  swept_part = swept_chains _ _ _ _ _ _ (chain' c j cell l r s.event Invalid)
      (λ k p y _ home w i. put_all c.chain q (after_cell cell r (c.chain q)) (λ p rows. In y rows → In y (c.chain p))
      (λ i. ⊎_elim (λ (same : y ≡ r). absurd (not_out k y same home w)) (λ t. t) (in_cell cell r y (c.chain q) i)) (λ _ _ i. i) p i) inv.swept
    where
      not_out : (k y : ℕ) → y ≡ r → IsHomeRow c.start.layout k y → WasOut c.history k (c.words.event y) → ⊥
      not_out k y same home w = let own : k ≡ j = one_home c.start.layout k j r (subst (IsHomeRow c.start.layout k) same home) (inv.holders.held j r b may.in_hand_is).0 in
          inv.unlinked.each j s b may.old (subst (λ k. WasOut c.history k s.event) own (subst (WasOut c.history k) (ap c.words.event same ∙ f.event_is) w))

  -- a copy that isn't valid yet carries nothing
  live_was : (y : ℕ) → IsLive c.start.layout links c.words.twin holding y → IsLive c.start.layout c.words.link c.words.twin c.holding y
  live_was y live = ⊎_elim
      (λ (e : y ≡ r). absurd (subst (λ m. IsCarrying m (c.words.twin y) (links (c.words.twin y)).mark) (ap (λ z. (links z).mark) e ∙ own_mark c j cell l r s.event Invalid f inv) live.2)) (λ o. o)
      (live_before c j cell l r s.event Invalid f inv y live)

  carriers_part : Carriers c.start.layout c.history links c.words.twin c.words.event holding
  carriers_part = record {
    carried = λ e pending. let t = inv.carriers.carried e pending in (t.0, live_after c j cell l r s.event Invalid f inv t.0 t.1, t.2);
    pending = λ y live. inv.carriers.pending y (live_was y live);
    one = λ y z v w. inv.carriers.one y z (live_was y v) (live_was z w);
  }

  copy_inv : Inv (copied c j cell l r s last)
  copy_inv = record {
    spelled = spelled_after c j cell l r s.event Invalid f inv;
    reading = inv.reading;
    finds = inv.finds;
    guards = inv.guards;
    holders = holders_after c j cell l r s.event Invalid f inv;
    cutting = inv.cutting;
    stamps = stamps_after c j cell l r s.event Invalid f inv;
    chains = chains_after c j cell l r s.event Invalid f inv;
    cover = cover_after c j cell l r s.event Invalid f inv (footings c.rows old copying) covers_before rests;
    sizes = sizes_after c j cell l r s.event Invalid f inv;
    dues = dues_part;
    steady = steady_after c j cell l r s.event Invalid f inv;
    heads = heads_after c j cell l r s.event Invalid f inv;
    helps = helps_after c j cell l r s.event Invalid f inv;
    sorted = sorted_after c j cell l r s.event Invalid f inv;
    marks = marks_after c j cell l r s.event Invalid f inv;
    standing = standing_after c j cell l r s.event Invalid f inv;
    copying = copying_part;
    lanes = lanes_after c j cell l r s.event Invalid f inv (footings c.rows old copying) covers_before;
    writing = writing_after c j cell l r s.event Invalid f inv;
    naming = naming_after c j cell l r s.event Invalid f inv;
    carriers = carriers_part;
    told = inv.told;
    numbers = inv.numbers;
    settling = inv.settling;
    walkers = walkers_links (present_of c) (takes_of c) c.words.link c.words.event links c.words.event (λ _ y _ _. same_generation c j cell l r s.event Invalid f inv y) (λ _ g at e _ _ _. from_after c j cell l r s.event Invalid f inv g at e) inv.walkers;
    ahead = inv.ahead;
    bounds = inv.bounds;
    scarce = let home = (inv.holders.held j r b may.in_hand_is).0 in scarce_drop _ _ _ _ _ _ _ _ j
        (λ k y _ ne was. base_lasts _ _ _ _ _ _ _ _ k y (le_refl _)
        (lasts_held _ _ _ _ r (listed q) k (λ _ here _. absurd (ne (one_home c.start.layout k j r here home))) (λ _ _ _ _. inr tt)) was) inv.scarce;
    refusals = inv.refusals;
    swept = swept_part;
    copies = copies_part;
    rooms = rooms_part;
    bare = bare_part;
    unlinked = unlinked_part;
    ends = ends_after c j cell l r s.event Invalid f inv;
  }

-- Copy keeps the invariant
pub copy_keeps : (c : Core) (j : ℕ) (cell : Cell) (l : Link) (r : ℕ) (s : Stand) (last : Link) → j < c.start.layout.workers → ((x : Control) × MayCopy x cell l r s last (caller_of c j)) → link_at c.words.head c.words.link cell ≡ l → Inv c
    → Inv (copied c j cell l r s last)
copy_keeps c j cell l r s last b may is inv = copy_inv c j cell l r s last b may.0 may.1 is inv
