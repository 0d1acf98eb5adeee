-- A cut takes a dead row out of its list, and keeps the invariant.
use Rattle.std.proofs.Common.{◌≡◌, ◌≢◌, ◌⊎◌, ⊎_elim, inl, inr, ℕ, ◌^◌, ◌<◌, ◌≤◌, cond, List, [], ◌∷◌, ◌++◌, Option, Some, None, sym, refl, ap, ◌∙◌, eq-eqb, ne_eqb, subst, arith, le_refl, true, ◌+◌}
use mathlib.Core.Logic.{dite}
use native.Mathlib.Decide.{ℕ_discrete}
use Rattle.crq_base.specs.declared.event.Event.{Event}
use Rattle.crq_base.specs.declared.words.Link.{Link}
use Rattle.crq_base.specs.declared.words.Mark.{Mark}
use Rattle.crq_base.specs.declared.words.Mark.TheVariants.{Val, Inv as Invalid, Mov, Del}
use Rattle.crq_base.specs.declared.words.Control.{Control}
use Rattle.crq_base.specs.Words.{IsLink}
use Rattle.crq_base.specs.Lists.{In}
use Rattle.crq_rule.specs.declared.debts.CutDebt.{CutDebt}
use Rattle.crq_rule.specs.declared.layout.Layout.{Layout}
use Rattle.crq_rule.specs.declared.view.Guard.{Guard}
use Rattle.crq_rule.specs.declared.view.Guard.TheVariants.{On}
use Rattle.crq_rule.specs.declared.view.CutRow.{CutRow}
use Rattle.crq_rule.specs.declared.view.Stand.{Stand}
use Rattle.crq_rule.specs.Lists.{put}
use Rattle.crq_rule.specs.Places.{IsRow, IsHead}
use Rattle.crq_rule.specs.Core.{Core, IsOutside, DeadNames, HasName, Holding, in_hand, listed, cut_by, retired, caller_of}
use Rattle.crq_rule.specs.Parts.{Spelled, Holders, Stamps, stamp_of, Chains, Leads, Cover, Covers, Ground, ground_of, footings, IsGuarded, HasTag, IsOn, Follows, rows_of, rows_of_old, rows_of_copy, newest}
use Rattle.crq_rule.specs.ListParts.{Heads, IsShut, IsPrepared, IsOldMark, Sorted, Marks, MarkFits, StandFits, Standing, Copying, IsFinal, Lanes, Writing, row_word, Naming, IsNamed, ranks}
use Rattle.crq_rule.specs.HistoryParts.{Carriers, IsLive, Walkers, StandsFrom, IsCarrying}
use Rattle.crq_rule.specs.ScarceParts.{IsLate}
use Rattle.crq_rule.specs.Invariant.{present_of, takes_of, rows_of_core, Inv}
use Rattle.crq_rule.specs.Ranks.{Shape, list_in, Rises, Cell, at_head, at_row, link_at, heads_set, links_set, without_row}
use Rattle.crq_rule.specs.ListKinds.{is_cell, cut_from, without_stand, unnamed, StandsOn, MayWalk, MayCut, unnamed_row}
use Rattle.crq_rule.specs.MoveKinds.{MayPop}
use Rattle.crq_rule.proofs.EndLaws.{ends_heads, walks_end}
use Rattle.crq_rule.proofs.Puts.{put_here, put_else, put_all}
use Rattle.crq_rule.proofs.PartLaws.{sort, of_whom, read_cut, cutting_cut}
use Rattle.crq_rule.proofs.HolderLaws.{none_some, some_some}
use Rattle.crq_rule.proofs.HeadLaws.{dead_kept, cell_final, cell_listed}
use Rattle.crq_rule.proofs.WalkerLaws.{walkers_stop, walkers_links}
use Rattle.crq_rule.proofs.SizeLaws.{sizes_rows, dues_named}
use Rattle.crq_rule.proofs.NameLaws.{moved_second, has_moved, was_left}
use Rattle.crq_rule.proofs.SteadyLaws.{steady_rows, steady_names, guarded_out}
use Rattle.crq_rule.specs.Copies.{IsBound, Copies, Rooms, Bare}
use Rattle.crq_rule.proofs.CopyLaws.{listed_out}
use Rattle.crq_rule.proofs.CopyRows.{MayGo, go_final, not_inv, not_val, not_moved, Relinked, copies_relinked, copies_out, moved_ordered, bare_put}
use Rattle.crq_rule.proofs.HelpLaws.{helps_heads}
use Rattle.crq_rule.proofs.CoverLaws.{guarded_by, stand_row, row_footing, footing_covered}
use Rattle.crq_rule.proofs.ScarceLaws.{since_low, scarce_lasts, lasts_held}
use Rattle.crq_rule.proofs.SweepLaws.{swept_cut}
use Rattle.crq_rule.proofs.WithoutLaws.{first_in, next_in, leads_else, leads_first, leads_without, rises_without, in_without_row, without_row_in, gone, Passes, path_cut, path_pass}

on_is : (g : Guard) (x : ℕ) → g ≡ On x → IsOn g
on_is g x is = subst IsOn (sym is) tt

-- a mark that isn't another one than that of a frozen row
frozen_is : (m : Mark) → ((m ≡ Mov → ⊥) → ⊥) → m ≡ Mov
frozen_is Val none = absurd (none (λ (e : ◌≡◌ {A = Mark} Val Mov). cc))
frozen_is Invalid none = absurd (none (λ (e : ◌≡◌ {A = Mark} Invalid Mov). cc))
frozen_is Mov none = refl
frozen_is Del none = absurd (none (λ (e : ◌≡◌ {A = Mark} Del Mov). cc))

-- what carries an event is present, or frozen and without a valid copy
carries_cases : (m : Mark) (t : ℕ) (k : Mark) → IsCarrying m t k → (m ≡ Val) ⊎ ((m ≡ Mov) × ((t ≡ 0) ⊎ (k ≡ Invalid)))
carries_cases Val t k is = inl refl
carries_cases Invalid t k is = absurd is
carries_cases Mov t k is = inr (refl, is)
carries_cases Del t k is = absurd is

-- Stands, and what is left of them without the row x

stand_left : (x : ℕ) (ss : List Stand) (s : Stand) → In s (without_stand x ss) → In s ss
stand_left x [] s i = i
stand_left x (t ∷ ts) s i = dite (ℕ_discrete t.row x)
    (λ e. inr (stand_left x ts s (subst (λ b. In s (cond b (without_stand x ts) (t ∷ without_stand x ts))) (eq-eqb t.row x e) i)))
    (λ ne. ⊎_elim inl (λ (h : In s (without_stand x ts)). inr (stand_left x ts s h)) (subst (λ b. In s (cond b (without_stand x ts) (t ∷ without_stand x ts))) (ne_eqb t.row x ne) i))

row_left : (x : ℕ) (ss : List Stand) (ys : List ℕ) (a : ℕ) → In a (rows_of (without_stand x ss) ++ ys) → In a (rows_of ss ++ ys)
row_left x [] ys a i = i
row_left x (t ∷ ts) ys a i = dite (ℕ_discrete t.row x)
    (λ e. inr (row_left x ts ys a (subst (λ b. In a (rows_of (cond b (without_stand x ts) (t ∷ without_stand x ts)) ++ ys)) (eq-eqb t.row x e) i)))
    (λ ne. ⊎_elim inl (λ (h : In a (rows_of (without_stand x ts) ++ ys)). inr (row_left x ts ys a h)) (subst (λ b. In a (rows_of (cond b (without_stand x ts) (t ∷ without_stand x ts)) ++ ys)) (ne_eqb t.row x ne) i))

-- Debts, of which that of the row x is dropped

name_left : (x : ℕ) (o : Option CutDebt) (d : CutDebt) → o ≡ Some d → d.row ≢ x → unnamed x o ≡ Some d
name_left x o d is ne = ap (unnamed x) is ∙ ap (λ b. cond b None (Some d)) (ne_eqb d.row x ne)

debt_left : (x : ℕ) (o : Option CutDebt) (d : CutDebt) → unnamed x o ≡ Some d → o ≡ Some d
debt_left x None d is = is
debt_left x (Some y) d is = dite (ℕ_discrete y.row x)
    (λ e. absurd (no_debt d (subst (λ b. cond b None (Some y) ≡ Some d) (eq-eqb y.row x e) is)))
    (λ ne. subst (λ b. cond b None (Some y) ≡ Some d) (ne_eqb y.row x ne) is)
  where
    no_debt : (d : CutDebt) → None ≡ Some d → ⊥
    no_debt d e = cc

-- Where the row of the cell is cut behind it, that cell is a head, or a row with the mark of a cell
abbrev pub IsCutCell : (ℕ → Link) → Cell → Type 0
IsCutCell links (at_head h) = Unit {0}
IsCutCell links (at_row p) = is_cell (links p).mark ≡ true

-- a cell is such a one
cell_cuts : (heads links : ℕ → Link) (cell : Cell) → is_cell (link_at heads links cell).mark ≡ true → IsCutCell links cell
cell_cuts heads links (at_head h) is = tt
cell_cuts heads links (at_row p) is = is

-- Heads change their rows alone, and none of those that are empty
heads_filled : (control : Control) (shape : ℕ → Shape) (head head' : ℕ → Link) → ((q : ℕ) → (head' q).generation ≡ (head q).generation) → ((q : ℕ) → (head' q).mark ≡ (head q).mark) → ((q : ℕ) → (head q).row ≡ 0 → head' q ≡ head q)
    → Heads control shape head → Heads control shape head'
heads_filled control shape head head' generation mark empty was = record {
  old = λ q b o. let h = was.old q b o in (generation q ∙ h.0, subst (IsOldMark control.moving) (sym (mark q)) h.1);
  new = λ q b n. ⊎_elim (λ p. inl (prepared q p)) (λ s. inr (shut q s)) (was.new q b n);
  other = λ q b o n. shut q (was.other q b o n);
  order = λ p q b d o m n. prepared q (was.order p q b d o (sym (mark p) ∙ m) n);
}
  where
    prepared : (q : ℕ) → IsPrepared (control.generation + 1) (head q) → IsPrepared (control.generation + 1) (head' q)
    prepared q p = (generation q ∙ p.0, mark q ∙ p.1)

    shut : (q : ℕ) → IsShut control.generation q (head q) → IsShut control.generation q (head' q)
    shut q s = subst (IsShut control.generation q) (sym (empty q s.empty)) s

-- The cell's link changes in its row alone

module _ (heads links : ℕ → Link) (w : ℕ) where
  abbrev heads_cut : Cell → ℕ → Link
  heads_cut cell = heads_set heads cell (record (link_at heads links cell) { row = w })

  abbrev links_cut : Cell → ℕ → Link
  links_cut cell = links_set links cell (record (link_at heads links cell) { row = w })

  head_mark : (cell : Cell) (q : ℕ) → (heads_cut cell q).mark ≡ (heads q).mark
  head_mark (at_head h) q = put_all heads h (record (heads h) { row = w }) (λ k z. z.mark ≡ (heads k).mark) refl (λ k _. refl) q
  head_mark (at_row p) q = refl

  head_generation : (cell : Cell) (q : ℕ) → (heads_cut cell q).generation ≡ (heads q).generation
  head_generation (at_head h) q = put_all heads h (record (heads h) { row = w }) (λ k z. z.generation ≡ (heads k).generation) refl (λ k _. refl) q
  head_generation (at_row p) q = refl

  link_mark : (cell : Cell) (r : ℕ) → (links_cut cell r).mark ≡ (links r).mark
  link_mark (at_head h) r = refl
  link_mark (at_row p) r = put_all links p (record (links p) { row = w }) (λ k z. z.mark ≡ (links k).mark) refl (λ k _. refl) r

  link_generation : (cell : Cell) (r : ℕ) → (links_cut cell r).generation ≡ (links r).generation
  link_generation (at_head h) r = refl
  link_generation (at_row p) r = put_all links p (record (links p) { row = w }) (λ k z. z.generation ≡ (links k).generation) refl (λ k _. refl) r

  head_spelled : w < 2 ^ 24 → ((q : ℕ) → IsHead q → IsLink (heads q)) → (cell : Cell) (q : ℕ) → IsHead q → IsLink (heads_cut cell q)
  head_spelled low all (at_head h) = put_all heads h (record (heads h) { row = w }) (λ k z. IsHead k → IsLink z) (λ b. record { generation = (all h b).generation; row = low }) (λ k _. all k)
  head_spelled low all (at_row p) = all

  link_spelled : (l : Layout) → w < 2 ^ 24 → ((r : ℕ) → IsRow l r → IsLink (links r)) → (cell : Cell) (r : ℕ) → IsRow l r → IsLink (links_cut cell r)
  link_spelled l low all (at_head h) = all
  link_spelled l low all (at_row p) = put_all links p (record (links p) { row = w }) (λ k z. IsRow l k → IsLink z) (λ b. record { generation = (all p b).generation; row = low }) (λ k _. all k)

  -- a head that leads to another row than the cell isn't changed
  head_stays : (cell : Cell) (q : ℕ) → (heads q).row ≢ (link_at heads links cell).row → heads_cut cell q ≡ heads q
  head_stays (at_row p) q ne = refl
  head_stays (at_head h) q ne = put_else heads h (record (heads h) { row = w }) q (λ e. ne (ap (λ z. (heads z).row) e))

  -- each row's link is as it was, or the row is the cell
  link_is : (cell : Cell) (r : ℕ) → (links_cut cell r ≡ links r) ⊎ ((cell ≡ at_row r) × ((links_cut cell r).row ≡ w))
  link_is (at_head h) r = inl refl
  link_is (at_row p) r = dite (ℕ_discrete r p)
      (λ (e : r ≡ p). inr (ap at_row (sym e), ap (λ (z : Link). z.row) (ap (put links p (record (links p) { row = w })) e ∙ put_here links p (record (links p) { row = w }))))
      (λ ne. inl (put_else links p (record (links p) { row = w }) r ne))

-- The row x of the list q goes from the list to its cutter j
module _ (l : Layout) (hand : ℕ → List ℕ) (cut : ℕ → Option CutRow) (chain : ℕ → List ℕ) (holding : ℕ → Holding) where
  holders_cut : (j q x : ℕ) → j < l.workers → cut j ≡ None → IsRow l x → holding x ≡ listed q → (In x (without_row x (chain q)) → ⊥) → Holders l hand cut chain holding
      → Holders l hand (put cut j (Some (record { row = x; tags = [] }))) (put chain q (without_row x (chain q))) (put holding x (cut_by j))
  holders_cut j q x b none row was out old = let new : CutRow = record { row = x; tags = [] } in
      let stays : (s : ℕ) (h : Holding) → holding s ≡ h → h ≢ listed q → put holding x (cut_by j) s ≡ h = λ s h at ne. put_else holding x (cut_by j) s (λ e. ne (sym at ∙ (ap holding e ∙ was))) ∙ at in
      record {
        once = old.once;
        held = λ k s c i. let h = old.held k s c i in (h.0, stays s (in_hand k) h.1 (λ e. let z : 0 ≡ 1 = ap sort e in omega arith));
        of_hand = λ k s. put_all holding x (cut_by j) (λ s h. IsRow l s → h ≡ in_hand k → (k < l.workers) × In s (hand k)) (λ _ e. let z : 2 ≡ 0 = ap sort e in absurd (omega arith)) (λ s _. old.of_hand k s) s;
        in_chain = λ k s. put_all chain q (without_row x (chain q)) (λ k xs. IsHead k → In s xs → IsRow l s × (put holding x (cut_by j) s ≡ listed k))
            (λ c i. let h = old.in_chain q s c (in_without_row x s (chain q) i) in (h.0, put_else holding x (cut_by j) s (λ e. out (subst (λ z. In z (without_row x (chain q))) e i)) ∙ h.1))
            (λ k ne c i. let h = old.in_chain k s c i in (h.0, stays s (listed k) h.1 (λ e. ne (ap of_whom e)))) k;
        of_chain = λ k s. put_all holding x (cut_by j) (λ s h. IsRow l s → h ≡ listed k → IsHead k × In s (put chain q (without_row x (chain q)) k)) (λ _ e. let z : 2 ≡ 1 = ap sort e in absurd (omega arith))
            (λ s ne c e. let o = old.of_chain k s c e in (o.0, put_all chain q (without_row x (chain q)) (λ k xs. In s (chain k) → In s xs) (λ i. without_row_in x s (chain q) i ne) (λ _ _ i. i) k o.1)) s;
        is_cut = λ k y. put_all cut j (Some new) (λ i o. i < l.workers → o ≡ Some y → IsRow l y.row × (put holding x (cut_by j) y.row ≡ cut_by i))
            (λ _ e. subst (λ (z : CutRow). IsRow l z.row × (put holding x (cut_by j) z.row ≡ cut_by j)) (some_some new y e) (row, put_here holding x (cut_by j)))
            (λ i _ c e. let h = old.is_cut i y c e in (h.0, stays y.row (cut_by i) h.1 (λ q. let z : 2 ≡ 1 = ap sort q in omega arith))) k;
        of_cut = λ k s. put_all holding x (cut_by j) (λ s h. IsRow l s → h ≡ cut_by k → (k < l.workers) × ((y : CutRow) × (put cut j (Some new) k ≡ Some y) × (y.row ≡ s)))
            (λ _ e. let is : j ≡ k = ap of_whom e in subst (λ z. (z < l.workers) × ((y : CutRow) × (put cut j (Some new) z ≡ Some y) × (y.row ≡ x))) is (b, (new, put_here cut j (Some new), refl)))
            (λ s _ c e. let o = old.of_cut k s c e in (o.0, (o.1.0, put_else cut j (Some new) k (λ z. none_some o.1.0 (sym none ∙ (ap cut (sym z) ∙ o.1.1))) ∙ o.1.1, o.1.2))) s;
      }

  stamps_cut : (e : ℕ) (stamp : ℕ → ℕ) (ripening : ℕ → List (ℕ × ℕ)) (j q x : ℕ) → holding x ≡ listed q → Stamps l e stamp ripening holding → Stamps l e stamp ripening (put holding x (cut_by j))
  stamps_cut e stamp ripening j q x was old = record {
    shown = λ s. put_all holding x (cut_by j) (λ s h. IsRow l s → stamp s ≡ stamp_of h) (λ c. old.shown x c ∙ ap stamp_of was) (λ s _. old.shown s) s;
    tag = λ s t. put_all holding x (cut_by j) (λ s h. IsRow l s → h ≡ retired t → t ≤ e) (λ _ is. let z : 2 ≡ 3 = ap sort is in absurd (omega arith)) (λ s _. old.tag s t) s;
    ripe = λ k s t c i. let h = old.ripe k s t c i in (h.0, put_else holding x (cut_by j) s (λ (is : s ≡ x). let z : 3 ≡ 1 = ap sort (sym h.1 ∙ (ap holding is ∙ was)) in omega arith) ∙ h.1);
  }

-- the caller, which has no cut row, stands at the cell and on the row x, whose last link is l. It may go; behind a row of its list it is dead
record Going (c : Core) (j : ℕ) (cell : Cell) (x : ℕ) (l : Link) : Type 0 where
  none : c.cut j ≡ None
  cell_is : MayWalk (c.rows j) cell
  on : (s : Stand) × In s (c.rows j) × (s.row ≡ x) × (s.last ≡ Some l)
  goes : MayGo c.words.link c.words.twin x
  dead : (p : ℕ) → cell ≡ at_row p → (c.words.link x).mark ≡ Del

module _ (c : Core) (j : ℕ) (cell : Cell) (x : ℕ) (l : Link) (b : j < c.start.layout.workers) (may : Going c j cell x l)
    (val : IsCutCell c.words.link cell) (names : (link_at c.words.head c.words.link cell).row ≡ x) (inv : Inv c) where
  abbrev n : ℕ
  n = c.start.layout.workers

  -- the list that the row leaves, and what is left of it
  abbrev q : ℕ
  q = list_in c.shape (c.words.link x).generation (c.words.event x)

  abbrev left : List ℕ
  left = without_row x (c.chain q)

  abbrev heads : ℕ → Link
  heads = heads_cut c.words.head c.words.link l.row cell

  abbrev links : ℕ → Link
  links = links_cut c.words.head c.words.link l.row cell

  abbrev holding : ℕ → Holding
  holding = put c.holding x (cut_by j)

  abbrev now_cut : CutRow
  now_cut = record { row = x; tags = [] }

  abbrev now_rows : List Stand
  now_rows = without_stand x (c.rows j)

  abbrev now_names : DeadNames
  now_names = unnamed_row x (c.named j)

  abbrev ground' : Ground
  ground' = record (ground_of c) { link = links; footing = footings (put c.rows j now_rows) c.old c.copying }

  -- The row x, on which the caller stands, and the cell

  at_x : c.words.link x ≡ l
  at_x = subst (λ z. c.words.link z ≡ l) may.on.2 (((inv.standing.each j may.on.0 b may.on.1).last l may.on.3)).0

  final : IsFinal (c.words.link x).mark
  final = go_final c.words.link c.words.twin x may.goes

  covered : (r : ℕ) (e : Event) → StandsOn (c.rows j) r e → (g : ℕ) × Covers (ground_of c) j g r
  covered r e s = subst (λ r. (g : ℕ) × Covers (ground_of c) j g r) s.2 (footing_covered (ground_of c) c.cut c.holding inv.cover j s.0.row b (row_footing c.rows c.old c.copying j s.0.row (stand_row (c.rows j) s.0 s.1)))

  covered_x : (g : ℕ) × Covers (ground_of c) j g x
  covered_x = covered x may.on.0.event (may.on.0, may.on.1, may.on.2, refl)

  on : (g : ℕ) × (c.guard j ≡ On g)
  on = (covered_x.0, covered_x.1.on)

  row_x : IsRow c.start.layout x
  row_x = inv.lanes.is_row x (guarded_by j covered_x)

  abbrev IsCellOf : ℕ → Cell → Type 0
  IsCellOf k (at_head h) = h ≡ k
  IsCellOf k (at_row p) = In p (c.chain k)

  cell_list : (z : Cell) → MayWalk (c.rows j) z → IsCutCell c.words.link z → (link_at c.words.head c.words.link z).row ≡ x → (k : ℕ) × IsHead k × In x (c.chain k) × IsCellOf k z
  cell_list (at_head h) is present to = (h, is, first_in c.words.link x (c.chain h) row_x.0 (subst (λ z. Leads c.words.link z (c.chain h)) to (inv.chains.leads h is)), refl)
  cell_list (at_row p) is present to = let v : IsGuarded (ground_of c) p = guarded_by j (covered p is.0 is.1) in let row = inv.lanes.is_row p v in let k = cell_listed (c.holding p) (c.words.link p).mark present (guarded_out c inv p v) (inv.marks.mark p row) in let o = inv.holders.of_chain k.0 p row k.1 in
      (k.0, o.0, next_in c.words.link (c.words.head k.0).row p x (c.chain k.0) row_x.0 to (inv.chains.leads k.0 o.0) o.1, o.1)

  -- the list of a row by its own link
  belongs_to : (k r : ℕ) → IsHead k → In r (c.chain k) → list_in c.shape (c.words.link r).generation (c.words.event r) ≡ k
  belongs_to k r a i = ap (λ g. list_in c.shape g (c.words.event r)) (inv.sorted.generation k r a i) ∙ inv.sorted.belongs k r a i

  place : IsHead q × In x (c.chain q) × IsCellOf q cell
  place = let k = cell_list cell may.cell_is val names in subst (λ z. IsHead z × In x (c.chain z) × IsCellOf z cell) (sym (belongs_to k.0 x k.1 k.2)) (k.1, k.2, k.3)

  was : c.holding x ≡ listed q
  was = (inv.holders.in_chain q x place.0 place.1).1

  -- The change of the links

  changed : (r : ℕ) → (links r ≡ c.words.link r) ⊎ ((cell ≡ at_row r) × ((links r).row ≡ l.row))
  changed = link_is c.words.head c.words.link l.row cell

  present : (r : ℕ) → cell ≡ at_row r → is_cell (c.words.link r).mark ≡ true
  present r e = subst (IsCutCell c.words.link) e val

  to_x : (r : ℕ) → cell ≡ at_row r → (c.words.link r).row ≡ x
  to_x r e = subst (λ z. (link_at c.words.head c.words.link z).row ≡ x) e names

  cell_covered : (r : ℕ) → cell ≡ at_row r → (g : ℕ) × Covers (ground_of c) j g r
  cell_covered r e = let s = subst (MayWalk (c.rows j)) e may.cell_is in covered r s.0 s.1

  passes : Passes x c.words.link links
  passes r = ⊎_elim inl (λ (h : (cell ≡ at_row r) × ((links r).row ≡ l.row)). inr (to_x r h.0, h.1 ∙ sym (ap (λ (z : Link). z.row) at_x))) (changed r)

  -- The parts

  -- a head that doesn't lead to x stays
  head_kept : (h : ℕ) → (c.words.head h).row ≢ x → heads h ≡ c.words.head h
  head_kept h ne = head_stays c.words.head c.words.link l.row cell h (λ e. ne (e ∙ names))

  heads_part : Heads c.words.control c.shape heads
  heads_part = heads_filled c.words.control c.shape c.words.head heads (head_generation c.words.head c.words.link l.row cell) (head_mark c.words.head c.words.link l.row cell) (λ h empty. head_kept h (λ to. let some = row_x.0 in omega arith)) inv.heads

  in_before : (k r : ℕ) → In r (put c.chain q left k) → In r (c.chain k)
  in_before k r = put_all c.chain q left (λ k xs. In r xs → In r (c.chain k)) (in_without_row x r (c.chain q)) (λ _ _ i. i) k

  sorted_part : Sorted c.shape heads links c.words.event (put c.chain q left)
  sorted_part = record {
    rises = put_all c.chain q left (λ k xs. IsHead k → Rises (ranks c.words.event) 0 xs) (λ a. rises_without (ranks c.words.event) 0 x (c.chain q) (inv.sorted.rises q a)) (λ k _. inv.sorted.rises k);
    belongs = λ k r a i. ap (λ g. list_in c.shape g (c.words.event r)) (head_generation c.words.head c.words.link l.row cell k) ∙ inv.sorted.belongs k r a (in_before k r i);
    generation = λ k r a i. link_generation c.words.head c.words.link l.row cell r ∙ (inv.sorted.generation k r a (in_before k r i) ∙ sym (head_generation c.words.head c.words.link l.row cell k));
  }

  leads_part : (z : Cell) → IsCellOf q z → (link_at c.words.head c.words.link z).row ≡ x → (k : ℕ) → IsHead k
      → Leads (links_cut c.words.head c.words.link l.row z) (heads_cut c.words.head c.words.link l.row z k).row (put c.chain q left k)
  leads_part (at_head h) is to k = let new : Link = record (c.words.head h) { row = l.row } in
      put_all c.chain q left (λ k xs. IsHead k → Leads c.words.link (put c.words.head h new k).row xs)
      (λ a. let from : Leads c.words.link x (c.chain q) = subst (λ z. Leads c.words.link z (c.chain q)) (ap (λ z. (c.words.head z).row) (sym is) ∙ to) (inv.chains.leads q a) in
      subst (λ z. Leads c.words.link z left) (sym (ap (λ (z : Link). z.row) (ap (put c.words.head h new) (sym is) ∙ put_here c.words.head h new) ∙ ap (λ (z : Link). z.row) (sym at_x))) (leads_first c.words.link x (c.chain q) row_x.0 from))
      (λ k ne a. subst (λ (z : Link). Leads c.words.link z.row (c.chain k)) (sym (put_else c.words.head h new k (λ e. ne (e ∙ is)))) (inv.chains.leads k a)) k
  leads_part (at_row p) is to k = let new : Link = record (c.words.link p) { row = l.row } in
      put_all c.chain q left (λ k xs. IsHead k → Leads (put c.words.link p new) (c.words.head k).row xs)
      (λ a. leads_without c.words.link (ranks c.words.event) p x new 0 (c.words.head q).row (c.chain q) row_x.0 to (ap (λ (z : Link). z.row) (sym at_x)) (inv.sorted.rises q a) (inv.chains.leads q a) is)
      (λ k ne a. leads_else c.words.link p new (c.words.head k).row (c.chain k) (λ i. ne (sym (belongs_to k p a i) ∙ belongs_to q p place.0 is)) (inv.chains.leads k a)) k

  chains_part : Chains heads links c.words.twin (put c.chain q left)
  chains_part = record {
    leads = leads_part cell place.2 names;
    twins = λ k r a i. let in_list = in_before k r i in ⊎_elim inl (λ (h : (p : ℕ) × IsHead p × In (c.words.twin r) (c.chain p)). dite (ℕ_discrete (c.words.twin r) 0) inl (λ some. inr (
      h.0,
      h.1,
      put_all c.chain q left (λ p xs. In (c.words.twin r) (c.chain p) → In (c.words.twin r) xs) (λ t. without_row_in x (c.words.twin r) (c.chain q) t (twin_stays k r a in_list some)) (λ _ _ t. t) h.0 h.2,
    ))) (inv.chains.twins k r a in_list);
  }
    where
      -- the twin of a listed row is a copy that isn't frozen or dead
      twin_stays : (k r : ℕ) → IsHead k → In r (c.chain k) → c.words.twin r ≢ 0 → c.words.twin r ≢ x
      twin_stays k r a i some is = let h = inv.holders.in_chain k r a i in let bound : IsBound (rows_of_core c) r (c.words.twin r) = record {
        row = h.0;
        listed_is = (k, h.1);
        frozen = frozen_is (c.words.link r).mark (λ other. some (inv.marks.bare r h.0 (listed_out c.holding r (k, h.1)) other));
        twin_is = refl;
        some = omega arith;
      } in let copy = inv.copies.bound r (c.words.twin r) bound in
          ⊎_elim (λ m. not_inv c.words.link c.words.twin x may.goes (c.words.twin r) m is) (λ m. not_val c.words.link c.words.twin x may.goes (c.words.twin r) m is) copy.mark

  -- the first row of a frozen head stays so, if it is another one than x
  front_stays : (h s : ℕ) → s ≢ x → ((c.words.head h).mark ≡ Mov) × ((c.words.head h).row ≡ s) → ((heads h).mark ≡ Mov) × ((heads h).row ≡ s)
  front_stays h s ne front = subst (λ (y : Link). (y.mark ≡ Mov) × (y.row ≡ s)) (sym (head_kept h (λ e. ne (sym front.1 ∙ e)))) front

  -- a row that is in no hand was in none, and one that is listed was listed
  was_outside : (r : ℕ) → IsOutside holding r → IsOutside c.holding r
  was_outside r out i at = dite (ℕ_discrete r x) (λ (e : r ≡ x). let z : ◌≡◌ {A = ℕ} 1 0 = ap sort (sym was ∙ (ap c.holding (sym e) ∙ at)) in absurd (omega arith)) (λ ne. out i (put_else c.holding x (cut_by j) r ne ∙ at))

  listed_before : (r k : ℕ) → holding r ≡ listed k → (c.holding r ≡ listed k) × (r ≢ x)
  listed_before r k = put_all c.holding x (cut_by j) (λ s h. h ≡ listed k → (c.holding s ≡ listed k) × (s ≢ x)) (λ e. let z : 2 ≡ 1 = ap sort e in absurd (omega arith)) (λ s ne e. (e, ne)) r

  same_mark : (r : ℕ) → (links r).mark ≡ (c.words.link r).mark
  same_mark = link_mark c.words.head c.words.link l.row cell

  marks_part : Marks c.start.layout c.words.control heads links c.words.twin holding
  marks_part = record {
    mark = λ r row. subst (MarkFits (holding r)) (sym (same_mark r)) (put_all c.holding x (cut_by j) (λ s h. IsRow c.start.layout s → MarkFits h (c.words.link s).mark) (λ _. final) (λ s _. inv.marks.mark s) r row);
    first = λ k r row is frozen. let o = listed_before r k is in front_stays k r o.1 (inv.marks.first k r row o.0 (sym (same_mark r) ∙ frozen));
    bare = λ r row out live. inv.marks.bare r row (was_outside r out) (λ m. live (same_mark r ∙ m));
    aged = λ r row out frozen. subst (λ g. g < newest c.words.control) (sym (link_generation c.words.head c.words.link l.row cell r)) (inv.marks.aged r row (was_outside r out) (sym (same_mark r) ∙ frozen));
  }

  -- what is covered was covered
  stands_before : (k a : ℕ) → In a (footings (put c.rows j now_rows) c.old c.copying k) → In a (footings c.rows c.old c.copying k)
  stands_before k a = put_all c.rows j now_rows (λ i ss. In a (rows_of ss ++ (rows_of_old (c.old i) ++ rows_of_copy (c.copying i))) → In a (footings c.rows c.old c.copying i)) (row_left x (c.rows j) _ a) (λ _ _ h. h) k

  before : (k g r : ℕ) → Covers ground' k g r → Covers (ground_of c) k g r
  before k g r v = record { inside = v.inside; on = v.on; at = v.at; stands = stands_before k v.at v.stands; reaches = path_cut c.words.link links c.words.twin x passes row_x.0 v.at r v.reaches.through v.reaches.path }

  guarded : (r : ℕ) → IsGuarded ground' r → IsGuarded (ground_of c) r
  guarded r v = (v.0, v.1, before v.0 v.1 r v.2)

  tag_before : (r t : ℕ) → HasTag n (put c.cut j (Some now_cut)) holding r t → HasTag n c.cut c.holding r t
  tag_before r t has = ⊎_elim
      (λ is. inl (put_all c.holding x (cut_by j) (λ s h. h ≡ retired t → c.holding s ≡ retired t) (λ e. let z : 2 ≡ 3 = ap sort e in absurd (omega arith)) (λ _ _ e. e) r is))
      (λ (h : (i : ℕ) × (y : CutRow) × (i < n) × (put c.cut j (Some now_cut) i ≡ Some y) × (y.row ≡ r) × In t y.tags). inr (
        h.0,
        h.1,
        h.2,
        put_all c.cut j (Some now_cut) (λ i o. o ≡ Some h.1 → c.cut i ≡ Some h.1) (λ e. absurd (subst (λ (z : CutRow). In t z.tags) (sym (some_some now_cut h.1 e)) h.5)) (λ _ _ e. e) h.0 h.3,
        h.4,
        h.5,
      ))
      has

  cover_part : Cover ground' (put c.cut j (Some now_cut)) holding
  cover_part = record {
    free = λ k g r i v. put_all c.holding x (cut_by j) (λ s h. Covers (ground_of c) k g s → h ≡ in_hand i → ⊥) (λ _ e. let z : 2 ≡ 0 = ap sort e in absurd (omega arith)) (λ s _ w. inv.cover.free k g s i w) r (before k g r v);
    tags = λ k g r t v has. inv.cover.tags k g r t (before k g r v) (tag_before r t has);
    resting = λ k. put_all c.rows j now_rows (λ i ss. i < n → (IsOn (c.guard i) → ⊥) → rows_of ss ++ (rows_of_old (c.old i) ++ rows_of_copy (c.copying i)) ≡ [])
        (λ _ off. absurd (off (on_is (c.guard j) on.0 on.1))) (λ i _ a off. inv.cover.resting i a off) k;
  }

  -- what holds of each covered row and the next one, and goes on along the rows, holds now
  along : (P : ℕ → ℕ → Type 0) → ((r s t : ℕ) → P r s → P s t → P r t) → ((r : ℕ) → IsGuarded (ground_of c) r → 0 < (c.words.link r).row → P r (c.words.link r).row)
      → (r : ℕ) → IsGuarded ground' r → 0 < (links r).row → P r (links r).row
  along P on_and_on old r v = ⊎_elim
      (λ (e : links r ≡ c.words.link r). subst (λ (z : Link). 0 < z.row → P r z.row) (sym e) (old r (guarded r v)))
      (λ (h : (cell ≡ at_row r) × ((links r).row ≡ l.row)). subst (λ z. 0 < z → P r z) (sym h.1)
      (λ some. on_and_on r x l.row (subst (λ z. 0 < z → P r z) (to_x r h.0) (old r (guarded_by j (cell_covered r h.0))) row_x.0) (subst (λ (z : Link). 0 < z.row → P x z.row) at_x (old x (guarded_by j covered_x)) some)))
      (changed r)

  lanes_part : Lanes c.start.layout c.shape ground' c.words.event
  lanes_part = record {
    is_row = λ r v. inv.lanes.is_row r (guarded r v);
    rises = along (λ r s. ranks c.words.event r < ranks c.words.event s) (λ r s t lo hi. omega arith) inv.lanes.rises;
    stays = λ r v some. subst (λ g. list_in c.shape g (c.words.event (links r).row) ≡ list_in c.shape g (c.words.event r)) (sym (link_generation c.words.head c.words.link l.row cell r))
        (along (λ r s. ((c.words.link s).generation ≡ (c.words.link r).generation) × (list_in c.shape (c.words.link r).generation (c.words.event s) ≡ list_in c.shape (c.words.link r).generation (c.words.event r)))
        (λ r s t lo hi. (hi.0 ∙ lo.0, subst (λ g. list_in c.shape g (c.words.event t) ≡ list_in c.shape g (c.words.event s)) lo.0 hi.1 ∙ lo.1)) (λ r v some. (inv.lanes.generation r v some, inv.lanes.stays r v some)) r v some).1;
    generation = λ r v some. link_generation c.words.head c.words.link l.row cell (links r).row
        ∙ (along (λ r s. (c.words.link s).generation ≡ (c.words.link r).generation) (λ r s t lo hi. hi ∙ lo) inv.lanes.generation r v some ∙ sym (link_generation c.words.head c.words.link l.row cell r));
    twins = λ r v frozen some. let h = inv.lanes.twins r (guarded r v) (sym (link_mark c.words.head c.words.link l.row cell r) ∙ frozen) some in
        (link_generation c.words.head c.words.link l.row cell (c.words.twin r) ∙ (h.0 ∙ ap (λ g. g + 1) (sym (link_generation c.words.head c.words.link l.row cell r))), h.1);
  }

  stand_after : (s : Stand) → StandFits c.words.head c.words.link c.words.twin c.words.event s → StandFits heads links c.words.twin c.words.event s
  stand_after s was = record {
    holds = was.holds;
    of = link_generation c.words.head c.words.link l.row cell s.row ∙ was.of;
    last = λ m is. let o = was.last m is in
        (⊎_elim (λ e. e ∙ o.0) (λ (h : (cell ≡ at_row s.row) × ((links s.row).row ≡ l.row)). absurd (cell_final m.mark (ap (λ (z : Link). is_cell z.mark) (sym o.0) ∙ present s.row h.0) o.1)) (changed s.row), o.1);
    copy = was.copy;
    valid = λ v e. was.valid v (sym (same_mark s.row) ∙ e);
    front = λ h is. ⊎_elim (λ final. inl (subst IsFinal (sym (same_mark s.row)) final)) (λ front. dite (ℕ_discrete s.row x)
        (λ e. inl (subst IsFinal (sym (same_mark s.row ∙ ap (λ z. (c.words.link z).mark) e)) final)) (λ ne. inr (front_stays h s.row ne front))) (was.front h is);
  }

  standing_part : Standing n heads links c.words.twin c.words.event (put c.rows j now_rows)
  standing_part = record {
    each = λ k s. put_all c.rows j now_rows (λ i ss. i < n → In s ss → StandFits heads links c.words.twin c.words.event s)
        (λ a i. stand_after s (inv.standing.each j s a (stand_left x (c.rows j) s i))) (λ i _ a at. stand_after s (inv.standing.each i s a at)) k;
  }

  copying_part : Copying n heads links c.words.twin c.words.event c.old
  copying_part = record { each = λ k s b is. let o = inv.copying.each k s b is in (stand_after s o.0, same_mark s.row ∙ o.1) }

  writing_part : Writing n links c.words.twin c.words.event c.hand c.written
  writing_part = record {
    in_hand_is = inv.writing.in_hand_is;
    placed = inv.writing.placed;
    stands = λ k y a i. ⊎_elim
        (λ (e : links y.row ≡ c.words.link y.row). subst (λ (z : Link). row_word z (c.words.twin y.row) (c.words.event y.row) y.place ≡ y.word) (sym e) (inv.writing.stands k y a i))
        (λ (h : (cell ≡ at_row y.row) × ((links y.row).row ≡ l.row)). absurd (let v = cell_covered y.row h.0 in inv.cover.free j v.0 y.row k v.1 (inv.holders.held k y.row a (inv.writing.in_hand_is k y a i)).1))
        (changed y.row);
  }

  names_before : (k : ℕ) (d : CutDebt) → HasName (put c.named j now_names k) d → HasName (c.named k) d
  names_before k d = put_all c.named j now_names (λ i t. HasName t d → HasName (c.named i) d) (λ has. ⊎_elim (λ is. inl (debt_left x (c.named j).first d is)) (λ is. inr (debt_left x (c.named j).second d is)) (was_left _ _ d has)) (λ _ _ h. h) k

  name_stays : (d : CutDebt) (r : ℕ) → r ≢ x → IsNamed c.words.head d r (c.words.event r) (c.words.link r) → IsNamed heads d r (c.words.event r) (links r)
  name_stays d r ne n = record { row = n.row; event = n.event; generation = n.generation ∙ sym (link_generation c.words.head c.words.link l.row cell r); front = λ is. front_stays d.head r ne (n.front is) }

  naming_part : Naming c.start.layout heads links c.words.event (put c.named j now_names) holding
  naming_part = record {
    named = λ r k row is del. let o = listed_before r k is in let old = inv.naming.named r k row o.0 (sym (link_mark c.words.head c.words.link l.row cell r) ∙ del) in let d = old.2.0 in (
      old.0,
      old.1,
      (
        d,
        put_all c.named j now_names (λ i t. HasName (c.named i) d → HasName t d) (λ has. has_moved _ _ d (⊎_elim (λ h. inl (name_left x (c.named j).first d h (λ z. o.1 (sym old.2.2.row ∙ z)))) (λ h. inr (name_left x (c.named j).second d h (λ z. o.1 (sym old.2.2.row ∙ z)))) has)) (λ _ _ h. h) old.0 old.2.1,
        name_stays d r o.1 old.2.2,
      ),
    );
    place = λ k d a has. inv.naming.place k d a (names_before k d has);
  }

  -- The row x carried nothing, so the same rows are live
  not_x : (r : ℕ) → IsLive c.start.layout c.words.link c.words.twin c.holding r → r ≢ x
  not_x r v = ⊎_elim (λ val. not_val c.words.link c.words.twin x may.goes r val) (λ (m : ((c.words.link r).mark ≡ Mov) × ((c.words.twin r ≡ 0) ⊎ ((c.words.link (c.words.twin r)).mark ≡ Invalid))). not_moved c.words.link c.words.twin x may.goes r m.0 m.1)
      (carries_cases (c.words.link r).mark (c.words.twin r) (c.words.link (c.words.twin r)).mark v.2)

  live_now : (r : ℕ) → IsLive c.start.layout c.words.link c.words.twin c.holding r → IsLive c.start.layout links c.words.twin holding r
  live_now r v = (
    v.0,
    (v.1.0, put_else c.holding x (cut_by j) r (not_x r v) ∙ v.1.1),
    subst (λ (z : Mark × Mark). IsCarrying z.0 (c.words.twin r) z.1) (λ i. (sym (same_mark r) i, sym (same_mark (c.words.twin r)) i)) v.2,
  )

  live_before : (r : ℕ) → IsLive c.start.layout links c.words.twin holding r → IsLive c.start.layout c.words.link c.words.twin c.holding r
  live_before r v = (v.0, (v.1.0, (listed_before r v.1.0 v.1.1).0), subst (λ (z : Mark × Mark). IsCarrying z.0 (c.words.twin r) z.1) (λ i. (same_mark r i, same_mark (c.words.twin r) i)) v.2)

  carriers_part : Carriers c.start.layout c.history links c.words.twin c.words.event holding
  carriers_part = record {
    carried = λ e p. let o = inv.carriers.carried e p in (o.0, live_now o.0 o.1, o.2);
    pending = λ r v. inv.carriers.pending r (live_before r v);
    one = λ r s v w. inv.carriers.one r s (live_before r v) (live_before s w);
  }

  from_before : (g at : ℕ) (e : Event) → StandsFrom c.words.link c.words.event g at e → StandsFrom links c.words.event g at e
  from_before g at e s = record {
    row = s.row;
    some_row = s.some_row;
    kept = subst (λ (m : Mark). (m ≡ Val) ⊎ (m ≡ Mov)) (sym (same_mark s.row)) s.kept;
    of = link_generation c.words.head c.words.link l.row cell s.row ∙ s.of;
    holds = s.holds;
    follows = still cell refl;
  }
    where
      -- a row behind a head leaves all links as they are
      still : (z : Cell) → cell ≡ z → Follows links at s.row
      still (at_head h) is = subst (λ z. Follows (links_cut c.words.head c.words.link l.row z) at s.row) (sym is) s.follows
      still (at_row p) is = path_pass c.words.link links (λ _. 0) x passes refl at s.row s.follows.through (λ z. dead_kept (c.words.link s.row).mark (ap (λ z. (c.words.link z).mark) z ∙ may.dead p is) s.kept) s.follows.path

  -- the parts on copies
  relinked_part : Relinked c.words.link links
  relinked_part = record {
    mark = same_mark;
    generation = link_generation c.words.head c.words.link l.row cell;
    final = λ r final. ⊎_elim (λ e. e) (λ (h : (cell ≡ at_row r) × ((links r).row ≡ l.row)). absurd (cell_final (c.words.link r).mark (present r h.0) final)) (changed r);
  }

  copies_part : Copies (rows_of_core (cut_from c j cell x l)) ground'
  copies_part = copies_relinked _ _ links relinked_part (copies_out (rows_of_core c) (ground_of c) ground' j x may.goes guarded inv.copies)

  rooms_part : Rooms n c.copying (put c.named j now_names)
  rooms_part = record {
    ordered = λ k. put_all c.named j now_names (λ k t. k < n → t.first ≡ None → t.second ≡ None) (λ _. moved_ordered (unnamed x (c.named j).first) (unnamed x (c.named j).second)) (λ k _. inv.rooms.ordered k) k;
    room = λ k d. put_all c.named j now_names (λ k t. k < n → c.copying k ≡ Some d → t.second ≡ None) (λ a is. moved_second _ _ (ap (unnamed x) (inv.rooms.room j d a is))) (λ k _. inv.rooms.room k d) k;
  }

  bare_part : Bare c.words.control c.shape heads (put c.chain q left)
  bare_part = bare_put c.words.control c.shape c.words.head heads c.chain q left (head_mark c.words.head c.words.link l.row cell) (λ _ _ _ _ _ _ _ none. ap (without_row x) none) inv.bare

  walkers_part : Walkers (present_of c) (record (takes_of c) { walk = put c.walk j None; rows = put c.rows j now_rows }) links c.words.event
  walkers_part = walkers_stop (present_of c) (takes_of c) _ _ j now_rows (walkers_links (present_of c) (takes_of c) _ _ links c.words.event (λ _ r _ _. link_generation c.words.head c.words.link l.row cell r) (λ _ g at e _ _ _. from_before g at e) inv.walkers)

  low : l.row < 2 ^ 24
  low = subst (λ (z : Link). z.row < 2 ^ 24) at_x (inv.spelled.links x row_x).row

  spelled_part : Spelled c.start.layout c.words.control c.words.current c.words.pin heads links c.words.twin c.words.event
  spelled_part = record {
    is_control = inv.spelled.is_control;
    is_current = inv.spelled.is_current;
    is_pin = inv.spelled.is_pin;
    heads = head_spelled c.words.head c.words.link l.row low inv.spelled.heads cell;
    links = link_spelled c.words.head c.words.link l.row c.start.layout low inv.spelled.links cell;
    twins = inv.spelled.twins;
    events = inv.spelled.events;
  }

  cut_inv : Inv (cut_from c j cell x l)
  cut_inv = record {
    spelled = spelled_part;
    finds = inv.finds;
    reading = read_cut _ _ _ _ _ j (Some now_cut) (λ t y _ is i. absurd (subst (λ (z : CutRow). In t z.tags) (sym (some_some now_cut y is)) i)) inv.reading;
    guards = inv.guards;
    holders = holders_cut _ _ _ _ _ j q x b may.none row_x was (gone (ranks c.words.event) 0 x (c.chain q) (inv.sorted.rises q place.0)) inv.holders;
    cutting = cutting_cut _ _ _ j (Some now_cut) (λ _ _ _. on_is (c.guard j) on.0 on.1) (λ t _ y _ is _ i. absurd (subst (λ (z : CutRow). In t z.tags) (sym (some_some now_cut y is)) i)) inv.cutting;
    stamps = stamps_cut _ c.hand c.cut c.chain _ _ _ _ j q x was inv.stamps;
    chains = chains_part;
    cover = cover_part;
    sizes = sizes_rows _ _ _ _ _ _ _ _ _ (λ h _. head_generation c.words.head c.words.link l.row cell h) (λ r _ out. inl (was_outside r out, link_generation c.words.head c.words.link l.row cell r)) inv.sizes;
    dues = dues_named _ _ _ _ _ _ _ (λ k d _ has. inl (names_before k d has)) inv.dues;
    steady = steady_names _ _ _ _ _ _ (λ k d _ has. inl (names_before k d has))
        (λ _ k _. put_all c.named j now_names (λ k t. (c.named k).second ≡ None → t.second ≡ None) (λ none. moved_second _ _ (ap (unnamed x) none)) (λ _ _ h. h) k) (steady_rows _ _ _ _ _ _ _ (λ r _ out. inl (was_outside r out, link_generation c.words.head c.words.link l.row cell r)) inv.steady);
    heads = heads_part;
    sorted = sorted_part;
    marks = marks_part;
    standing = standing_part;
    copying = copying_part;
    lanes = lanes_part;
    writing = writing_part;
    naming = naming_part;
    carriers = carriers_part;
    told = inv.told;
    numbers = inv.numbers;
    bounds = inv.bounds;
    settling = inv.settling;
    walkers = walkers_part;
    ahead = inv.ahead;
    scarce = scarce_lasts _ _ _ _ _ _ _ _ _ (le_refl _) (λ k inside. lasts_held _ _ _ _ x (cut_by j) k (λ g _ _. subst (IsLate c.guard g) (sym was) tt)
        (λ g _ low _. inr (since_low c.words.epoch (c.words.announced j) g (c.guard j) (inv.guards.each j b) (omega arith)))) inv.scarce;
    refusals = inv.refusals;
    swept = swept_cut _ _ _ _ _ _ q x inv.swept;
    copies = copies_part;
    rooms = rooms_part;
    bare = bare_part;
    unlinked = inv.unlinked;
    ends = ends_heads c inv heads (put c.walk j None) (λ h. (head_generation c.words.head c.words.link l.row cell h, head_mark c.words.head c.words.link l.row cell h)) (walks_end c inv j);
    helps = helps_heads _ _ _ _ _ _ inv.sizes.now inv.finds _ _ _ (λ h. (head_generation c.words.head c.words.link l.row cell h, head_mark c.words.head c.words.link l.row cell h))
        (λ h _ empty. ap (λ (z : Link). z.row) (head_kept h (λ to. let some = row_x.0 in omega arith)) ∙ empty) inv.helps;
  }

-- Cut
pub cut_keeps : (c : Core) (j : ℕ) (cell : Cell) (x : ℕ) (l : Link) → j < c.start.layout.workers → MayCut cell x l (caller_of c j) → is_cell (link_at c.words.head c.words.link cell).mark ≡ true → (link_at c.words.head c.words.link cell).row ≡ x
    → Inv c → Inv (cut_from c j cell x l)
cut_keeps c j cell x l b may present names inv = cut_inv c j cell x l b (record { none = may.none; cell_is = may.cell_is; on = may.on; goes = inl dead; dead = λ _ _. dead }) (cell_cuts c.words.head c.words.link cell present) names inv
  where
    dead : (c.words.link x).mark ≡ Del
    dead = ap (λ (z : Link). z.mark) (subst (λ z. c.words.link z ≡ l) may.on.2 ((inv.standing.each j may.on.0 b may.on.1).last l may.on.3).0) ∙ may.dead

-- Pop: the row is dead, or has a copy that was found valid
pub pop_keeps : (c : Core) (j q r : ℕ) (last : Link) → j < c.start.layout.workers → MayPop q r last (caller_of c j) → (c.words.head q).mark ≡ Mov → (c.words.head q).row ≡ r → Inv c → Inv (cut_from c j (at_head q) r last)
pop_keeps c j q r last b may _ names inv = cut_inv c j (at_head q) r last b (record { none = may.none; cell_is = may.head; on = (s, may.on.1, may.on.2, may.on.3); goes = goes; dead = λ p is. absurd (head_row q p is) }) tt names inv
  where
    s : Stand
    s = may.on.0

    head_row : (q p : ℕ) → at_head q ≡ at_row p → ⊥
    head_row q p e = cc

    mark_is : (c.words.link r).mark ≡ last.mark
    mark_is = ap (λ (z : Link). z.mark) (subst (λ z. c.words.link z ≡ last) may.on.2 ((inv.standing.each j s b may.on.1).last last may.on.3).0)

    goes : MayGo c.words.link c.words.twin r
    goes = ⊎_elim (λ d. inl (mark_is ∙ d)) (λ (m : (last.mark ≡ Mov) × ((u : Stand) × In u (c.rows j) × (s.twin ≡ Some u.row) × (u.valid ≡ true))).
        let copy = (inv.standing.each j s b may.on.1).copy m.1.0.row m.1.2 in let twin : c.words.twin r ≡ m.1.0.row = ap c.words.twin (sym may.on.2) ∙ copy.0 in inr (
          mark_is ∙ m.0,
          ((λ none. let some = copy.1 in omega arith), (λ invalid. (inv.standing.each j m.1.0 b m.1.1).valid m.1.3 (ap (λ z. (c.words.link z).mark) (sym twin) ∙ invalid))),
        )) may.on.4
