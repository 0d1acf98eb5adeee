-- A row in hand that comes after a cell of its list keeps the invariant.
use Rattle.std.proofs.Common.{◌≡◌, ◌≢◌, ◌⊎◌, ⊎_elim, inl, inr, ℕ, ◌+◌, ◌*◌, ◌^◌, ◌<◌, ◌≤◌, List, [], ◌∷◌, ◌++◌, cond, true, Option, Some, le_refl, sym, refl, ap, ◌∙◌, subst, arith, eq-eqb, ne_eqb}
use Rattle.std.specs.Prelude.{Contains}
use mathlib.Core.Logic.{dite}
use native.Mathlib.Decide.{ℕ_discrete}
use Rattle.crq_base.specs.declared.event.Event.{Event}
use Rattle.crq_base.specs.declared.entry.Entry.{Entry}
use Rattle.crq_base.specs.declared.entry.Entry.TheVariants.{Begin, Put}
use Rattle.crq_base.specs.declared.words.Link.{Link}
use Rattle.crq_base.specs.declared.words.Control.{Control}
use Rattle.crq_base.specs.declared.words.Mark.{Mark}
use Rattle.crq_base.specs.declared.words.Mark.TheVariants.{Val, Inv as Invalid, Mov, Del}
use Rattle.crq_base.specs.Words.{IsLink, flag_number}
use Rattle.crq_base.specs.Histories.{puts}
use Rattle.crq_base.proofs.WordLaws.{link_one}
use Rattle.crq_base.specs.Lists.{In, IsOnce}
use Rattle.crq_rule.specs.Ending.{Ends}
use Rattle.crq_rule.specs.declared.view.Guard.{Guard}
use Rattle.crq_rule.specs.declared.view.Guard.TheVariants.{Off, Entering, On}
use Rattle.crq_rule.specs.declared.view.CutRow.{CutRow}
use Rattle.crq_rule.specs.declared.view.Stand.{Stand}
use Rattle.crq_rule.specs.declared.view.Sight.{Sight}
use Rattle.crq_rule.specs.declared.view.Wrote.{Wrote}
use Rattle.crq_rule.specs.Lists.{put}
use Rattle.crq_rule.specs.Places.{IsRow, IsHomeRow, IsHead}
use Rattle.crq_rule.specs.Core.{Core, IsOutside, HasName, caller_of, Holding, in_hand, listed, cut_by, retired}
use Rattle.crq_rule.specs.Parts.{Spelled, IsEvent, Holders, Stamps, stamp_of, Chains, Leads, Names, IsPath, Reaches, Ground, ground_of, footings, Covers, IsGuarded, Cover, HasTag, IsOn, newest}
use Rattle.crq_rule.specs.ListParts.{ranks, DueFits, Dues, IsShut, IsPrepared, IsOldHead, IsNewHead, Heads, Sizes, Sorted, MarkFits, Marks, IsFinal, StandFits, Standing, Copying, Lanes, row_word, Writing, IsNamed, Naming}
use Rattle.crq_rule.specs.HistoryParts.{IsCarrying, IsLive, Carriers, StandsFrom, Walkers}
use Rattle.crq_rule.specs.Ranks.{rank, Shape, list_in, head_of, IsTold, Cell, at_head, at_row, link_at, heads_set, links_set, Rises, after_cell}
use Rattle.crq_rule.specs.Invariant.{present_of, takes_of, rows_of_core, Inv, ending_of}
use Rattle.crq_rule.specs.Steady.{Steady}
use Rattle.crq_rule.specs.Copies.{Bare}
use Rattle.crq_rule.proofs.EndLaws.{ends_heads, same_walks}
use Rattle.crq_rule.proofs.CopyRows.{Relinked, copies_relinked, copies_in, bare_put}
use Rattle.crq_rule.specs.ListKinds.{is_cell, unhanded, forgotten, owed_event, linked, StandsOn, IsWritten, ComesAfter, ComesBefore, MayLink}
use Rattle.crq_rule.proofs.Puts.{put_here, put_else, put_all}
use Rattle.crq_rule.proofs.PartLaws.{home_is_row, one_home, sort, of_whom, apart}
use Rattle.crq_rule.specs.declared.debts.CutDebt.{CutDebt}
use Rattle.crq_rule.specs.declared.debts.SettleDebt.{SettleDebt}
use Rattle.std.proofs.lemmas.Option.{same_Some}
use Rattle.crq_rule.proofs.HeadLaws.{cell_final, cell_frozen, cell_dead, cell_listed, val_carries, heads_rows, head_mark, present_head, live_generation}
use Rattle.crq_rule.proofs.SizeLaws.{fitting_list, sizes_rows}
use Rattle.crq_rule.specs.Helping.{Helps}
use Rattle.crq_rule.proofs.HelpLaws.{helps_heads}
use Rattle.crq_rule.proofs.SteadyLaws.{steady_rows, told_high, held_told, still_told}
use Rattle.crq_rule.proofs.CoverLaws.{stand_row, row_footing, footing_covered}
use Rattle.crq_rule.proofs.HistoryLaws.{fresh_put, told_put, settling_put, settled_put, pending_put, put_pending, not_out}
use Rattle.crq_rule.proofs.BoundLaws.{numbers_grown, bounds_grown, bounds_owed}
use Rattle.crq_rule.proofs.WalkerLaws.{new_put, walkers_grown, walkers_owing, walkers_links}
use Rattle.crq_rule.proofs.AheadLaws.{ahead_grown}
use Rattle.crq_rule.proofs.ScarceLaws.{base_lasts, base_grown, lasts_held, scarce_drop, refusals_grown}
use Rattle.crq_rule.proofs.SweepLaws.{was_before, swept_grown, swept_linked}
use Rattle.crq_rule.proofs.ChainLaws.{IsOf, IsBelow, cell_leads, cell_rises, in_cell, cell_in, cell_next, leads_else, links_else, heads_else, links_same, heads_same, links_all, heads_all}

-- Lists

-- what was written into other rows
in_forgotten : (r : ℕ) (xs : List Wrote) (x : Wrote) → In x (forgotten r xs) → In x xs × (x.row ≢ r)
in_forgotten r [] x i = absurd i
in_forgotten r (y ∷ ys) x i = dite (ℕ_discrete y.row r)
    (λ e. let t = in_forgotten r ys x (subst (λ b. In x (cond b (forgotten r ys) (y ∷ forgotten r ys))) (eq-eqb y.row r e) i) in (inr t.0, t.1))
    (λ ne. ⊎_elim (λ (e : x ≡ y). (inl e, λ z. ne (ap (λ (w : Wrote). w.row) (sym e) ∙ z))) (λ (t : In x (forgotten r ys)). let h = in_forgotten r ys x t in (inr h.0, h.1))
    (subst (λ b. In x (cond b (forgotten r ys) (y ∷ forgotten r ys))) (ne_eqb y.row r ne) i))

in_unhanded : (r s : ℕ) (xs : List ℕ) → In s (unhanded r xs) → In s xs
in_unhanded r s [] i = absurd i
in_unhanded r s (x ∷ xs) i = dite (ℕ_discrete x r)
    (λ e. inr (subst (λ b. In s (cond b xs (x ∷ unhanded r xs))) (eq-eqb x r e) i))
    (λ ne. ⊎_elim (λ (e : s ≡ x). inl e) (λ (t : In s (unhanded r xs)). inr (in_unhanded r s xs t)) (subst (λ b. In s (cond b xs (x ∷ unhanded r xs))) (ne_eqb x r ne) i))

unhanded_else : (r s : ℕ) (xs : List ℕ) → IsOnce xs → In s (unhanded r xs) → s ≢ r
unhanded_else r s [] once i = absurd i
unhanded_else r s (x ∷ xs) once i = dite (ℕ_discrete x r)
    (λ (e : x ≡ r) (z : s ≡ r). once.0 (subst (λ y. In y xs) (z ∙ sym e) (subst (λ b. In s (cond b xs (x ∷ unhanded r xs))) (eq-eqb x r e) i)))
    (λ ne. ⊎_elim (λ (e : s ≡ x) (z : s ≡ r). ne (sym e ∙ z)) (λ (t : In s (unhanded r xs)). unhanded_else r s xs once.1 t) (subst (λ b. In s (cond b xs (x ∷ unhanded r xs))) (ne_eqb x r ne) i))

unhanded_in : (r s : ℕ) (xs : List ℕ) → In s xs → s ≢ r → In s (unhanded r xs)
unhanded_in r s [] i ne = absurd i
unhanded_in r s (x ∷ xs) i ne = dite (ℕ_discrete x r)
    (λ (e : x ≡ r). subst (λ b. In s (cond b xs (x ∷ unhanded r xs))) (sym (eq-eqb x r e)) (⊎_elim (λ (z : s ≡ x). absurd (ne (z ∙ e))) (λ t. t) i))
    (λ no. subst (λ b. In s (cond b xs (x ∷ unhanded r xs))) (sym (ne_eqb x r no)) (⊎_elim (λ (z : s ≡ x). inl z) (λ (t : In s xs). inr (unhanded_in r s xs t ne)) i))

unhanded_once : (r : ℕ) (xs : List ℕ) → IsOnce xs → IsOnce (unhanded r xs)
unhanded_once r [] once = tt
unhanded_once r (x ∷ xs) once = dite (ℕ_discrete x r)
    (λ e. subst (λ b. IsOnce (cond b xs (x ∷ unhanded r xs))) (sym (eq-eqb x r e)) once.1)
    (λ ne. subst (λ b. IsOnce (cond b xs (x ∷ unhanded r xs))) (sym (ne_eqb x r ne)) (λ i. once.0 (in_unhanded r x xs i), unhanded_once r xs once.1))

-- Paths

module _ (link : ℕ → Link) (twin : ℕ → ℕ) where
  -- one more row at the front of a path
  longer : (a s b : ℕ) → Names link twin a s → Reaches link twin s b → Reaches link twin a b
  longer a s b n t = record { through = s ∷ t.through; path = (n, t.path) }

  module _ (p r : ℕ) (new : Link) (is : new.row ≡ r) (same : (link r).row ≡ (link p).row) where
    named_before : (a s : ℕ) → Names (put link p new) twin a s → ((a ≡ p) × (s ≡ r)) ⊎ Names link twin a s
    named_before a s n = ⊎_elim
        (λ (h : (put link p new a).row ≡ s). dite (ℕ_discrete a p)
        (λ (e : a ≡ p). inl (e, sym h ∙ (ap (λ z. (put link p new z).row) e ∙ (ap (λ (y : Link). y.row) (put_here link p new) ∙ is))))
        (λ ne. inr (n.0, inl (ap (λ (y : Link). y.row) (sym (put_else link p new a ne)) ∙ h))))
        (λ h. inr (n.0, inr h)) n.1

    -- what the new links reach is the row r, or was reached by the old ones
    path_before : (a b : ℕ) (xs : List ℕ) → twin r ≡ 0 → (Reaches link twin a r → ⊥) → IsPath (put link p new) twin a xs b → (b ≡ r) ⊎ Reaches link twin a b
    path_before a b [] none out path = inr (record { through = []; path = path })
    path_before a b (s ∷ []) none out path = ⊎_elim (λ (t : (a ≡ p) × (s ≡ r)). inl (sym path.1 ∙ t.1)) (λ n. inr (record { through = s ∷ []; path = (n, path.1) })) (named_before a s path.0)
    path_before a b (s ∷ t ∷ ts) none out path = ⊎_elim
        (λ (h : (a ≡ p) × (s ≡ r)). let n : Names link twin a t = ⊎_elim
        (λ (g : (s ≡ p) × (t ≡ r)). absurd (out (record { through = []; path = h.0 ∙ (sym g.0 ∙ h.1) })))
        (λ (n : Names link twin s t). (
          n.0,
          ⊎_elim (λ (g : (link s).row ≡ t). inl (ap (λ z. (link z).row) h.0 ∙ (sym same ∙ (ap (λ z. (link z).row) (sym h.1) ∙ g))))
              (λ (g : twin s ≡ t). let z : twin s ≡ 0 = ap twin h.1 ∙ none in let some = n.0 in absurd (omega arith)) n.1,
        ))
        (named_before s t path.1.0) in
        ⊎_elim inl (λ u. inr (longer a t b n u)) (path_before t b ts none (λ u. out (longer a t r n u)) path.1.1))
        (λ n. ⊎_elim inl (λ u. inr (longer a s b n u)) (path_before s b (t ∷ ts) none (λ u. out (longer a s r n u)) path.1))
        (named_before a s path.0)

    -- what the old links reach, the new ones do
    path_after : (a b : ℕ) (xs : List ℕ) → 0 < r → r ≢ p → IsPath link twin a xs b → Reaches (put link p new) twin a b
    path_after a b [] some ne path = record { through = []; path = path }
    path_after a b (s ∷ ss) some ne path = let t = path_after s b ss some ne path.1 in ⊎_elim
        (λ (h : (link a).row ≡ s). dite (ℕ_discrete a p)
        (λ (e : a ≡ p). record {
          through = r ∷ s ∷ t.through;
          path = (
            (some, inl (ap (λ z. (put link p new z).row) e ∙ (ap (λ (y : Link). y.row) (put_here link p new) ∙ is))),
            ((path.0.0, inl (ap (λ (y : Link). y.row) (put_else link p new r ne) ∙ (same ∙ (ap (λ z. (link z).row) (sym e) ∙ h)))), t.path),
          );
        })
        (λ no. record { through = s ∷ t.through; path = ((path.0.0, inl (ap (λ (y : Link). y.row) (put_else link p new a no) ∙ h)), t.path) }))
        (λ h. record { through = s ∷ t.through; path = ((path.0.0, inr h), t.path) }) path.0.1

reaches_before : (cell : Cell) (head link : ℕ → Link) (twin : ℕ → ℕ) (r a b : ℕ) (new : Link) → new.row ≡ r → (link r).row ≡ (link_at head link cell).row → twin r ≡ 0 → (Reaches link twin a r → ⊥)
    → Reaches (links_set link cell new) twin a b → (b ≡ r) ⊎ Reaches link twin a b
reaches_before (at_head h) head link twin r a b new is same none out t = inr t
reaches_before (at_row p) head link twin r a b new is same none out t = path_before link twin p r new is same a b t.through none out t.path

reaches_after : (cell : Cell) (head link : ℕ → Link) (twin : ℕ → ℕ) (q r a b : ℕ) (xs : List ℕ) (new : Link) → new.row ≡ r → (link r).row ≡ (link_at head link cell).row → 0 < r → IsOf cell q xs → (In r xs → ⊥)
    → Reaches link twin a b → Reaches (links_set link cell new) twin a b
reaches_after (at_head h) head link twin q r a b xs new is same some of out t = t
reaches_after (at_row p) head link twin q r a b xs new is same some of out t = path_after link twin p r new is same a b t.through some (λ (z : r ≡ p). out (subst (λ y. In y xs) (sym z) of)) t.path

-- What is known before the step

on_is : (g : Guard) → IsOn g → (x : ℕ) × (g ≡ On x)
on_is Off on = absurd on
on_is (Entering y) on = absurd on
on_is (On x) on = (x, refl)

-- events with the same words are the same
event_one : (a b : Event) → IsEvent a → IsEvent b → a.time * 2 ^ 32 + a.dst ≡ b.time * 2 ^ 32 + b.dst → a.src ≡ b.src → a.seq ≡ b.seq → a.load ≡ b.load → a ≡ b
event_one a b h k first source number load =
    let a_to = h.dst in let b_to = k.dst in
    let times : a.time ≡ b.time = omega arith in
    let to : a.dst ≡ b.dst = omega arith in
    λ i. record { time = times i; src = source i; seq = number i; dst = to i; load = load i }

rank_some : (e : Event) (r : ℕ) → 0 < r → 0 < rank e r
unfolding rank
rank_some e r some = omega arith

-- the row r is in hand, holds e, has the mark m, and leads to where the cell leads, which is of the list q
pub record Linking (c : Core) (j : ℕ) (cell : Cell) (l : Link) (r q : ℕ) (e : Event) (m : Mark) : Type 0 where
  pub inside : j < c.start.layout.workers
  pub row : IsRow c.start.layout r
  pub hand : In r (c.hand j)
  pub held : c.holding r ≡ in_hand j
  pub spelled : IsLink l
  pub link_is : c.words.link r ≡ record l { mark = m }
  pub own_is : is_cell m ≡ true
  pub twin_is : c.words.twin r ≡ 0
  pub event_is : c.words.event r ≡ e
  pub cell_is : link_at c.words.head c.words.link cell ≡ l
  pub mark_is : is_cell l.mark ≡ true
  pub told : IsTold c.words.control l.generation
  pub is_head : IsHead q
  pub of : IsOf cell q (c.chain q)
  pub below : IsBelow (ranks c.words.event) cell r
  pub next : (l.row ≡ 0) ⊎ (ranks c.words.event r < ranks c.words.event l.row)

-- the list of a cell whose link is of the table of the generation g, where `list` says of which list an event is there
cell_of : (c : Core) (j g : ℕ) (list : Event → ℕ) (cell : Cell) (r : ℕ) (e : Event) → j < c.start.layout.workers → IsOn (c.guard j) → ((f : Event) → list_in c.shape g f ≡ list f) → is_cell (link_at c.words.head c.words.link cell).mark ≡ true
    → (link_at c.words.head c.words.link cell).generation ≡ g → c.words.event r ≡ e → ComesAfter list (c.rows j) cell r e → Inv c → let q = list e in IsHead q × IsOf cell q (c.chain q) × IsBelow (ranks c.words.event) cell r
cell_of c j x list (at_head h) r e b on fits mark same event after inv = (subst IsHead (sym after.1) after.0, sym after.1, tt)
cell_of c j x list (at_row p) r e b on fits mark same event after inv =
    let f = after.0 in let s = after.1 in let g = on_is (c.guard j) on in
    let covers : Covers (ground_of c) j g.0 p = record {
      inside = b;
      on = g.1;
      at = p;
      stands = subst (λ z. In z (footings c.rows c.old c.copying j)) s.2 (row_footing c.rows c.old c.copying j s.0.row (stand_row (c.rows j) s.0 s.1));
      reaches = record { through = []; path = refl };
    } in
    let row = inv.lanes.is_row p (j, g.0, covers) in
    let lists = cell_listed (c.holding p) (c.words.link p).mark mark (λ k h. inv.cover.free j g.0 p k covers h) (inv.marks.mark p row) in
    let found = inv.holders.of_chain lists.0 p row lists.1 in
    let holds : c.words.event p ≡ f = subst (λ z. c.words.event z ≡ f) s.2 ((inv.standing.each j s.0 b s.1).holds ∙ s.3) in
    let generation : (c.words.head lists.0).generation ≡ x = sym (inv.sorted.generation lists.0 p found.0 found.1) ∙ same in
    let here : lists.0 ≡ list e = sym (inv.sorted.belongs lists.0 p found.0 found.1) ∙ ((λ i. list_in c.shape (generation i) (holds i)) ∙ (fits f ∙ after.3)) in (
      subst IsHead here found.0,
      subst (λ z. In p (c.chain z)) here found.1,
      subst (λ (z : Event × Event). rank z.0 p < rank z.1 r) (λ i. (sym holds i, sym event i)) after.2,
    )

-- what is known where a caller, whose guard is on, has written the words of a row in hand, and found the cell
pub known_by : (c : Core) (j : ℕ) (list : Event → ℕ) (cell : Cell) (l : Link) (r : ℕ) (e : Event) (m : Mark) → j < c.start.layout.workers → IsOn (c.guard j) → In r (c.hand j) → IsEvent e → IsLink l → is_cell l.mark ≡ true
    → IsTold c.words.control l.generation → ((f : Event) → list_in c.shape l.generation f ≡ list f) → is_cell m ≡ true → IsWritten m (c.written j) r e l → ComesAfter list (c.rows j) cell r e → ComesBefore (c.rows j) l.row r e
    → link_at c.words.head c.words.link cell ≡ l → Inv c → Linking c j cell l r (list_in c.shape l.generation e) e m
known_by c j list cell l r e m b on hand fits spelled open_is told lists own w after before is inv =
    let held = inv.holders.held j r b hand in
    let row = home_is_row c.start.layout j r b held.0 in
    let word = inv.writing.stands j in
    let event = event_one (c.words.event r) e (inv.spelled.events r row) fits (word _ b w.time_is) (word _ b w.source_is) (word _ b w.sequence_is) (word _ b w.load_is) in
    let at = subst (λ q. IsHead q × IsOf cell q (c.chain q) × IsBelow (ranks c.words.event) cell r) (sym (lists e))
    (cell_of c j l.generation list cell r e b on lists (ap (λ (y : Link). is_cell y.mark) is ∙ open_is) (ap (λ (y : Link). y.generation) is) event after inv) in record {
      inside = b;
      row = row;
      hand = hand;
      held = held.1;
      spelled = spelled;
      link_is = link_one (c.words.link r) (record l { mark = m }) (inv.spelled.links r row) (record { generation = spelled.generation; row = spelled.row }) (word _ b w.link_is);
      own_is = own;
      twin_is = word _ b w.twin_is;
      event_is = event;
      cell_is = is;
      mark_is = open_is;
      told = told;
      is_head = at.0;
      of = at.1;
      below = at.2;
      next = ⊎_elim inl (λ (h : (f : Event) × StandsOn (c.rows j) l.row f × (rank e r < rank f l.row)).
          let s = h.1 in let holds : c.words.event l.row ≡ h.0 = subst (λ z. c.words.event z ≡ h.0) s.2 ((inv.standing.each j s.0 b s.1).holds ∙ s.3) in
          inr (subst (λ (z : Event × Event). rank z.0 r < rank z.1 l.row) (λ i. (sym event i, sym holds i)) h.2)) before;
    }

-- a cell that may be followed by another row is a present head or a listed row, and so it is of no earlier table than the open one
pub cell_high : (c : Core) (j : ℕ) (list : Event → ℕ) (cell : Cell) (r : ℕ) (e : Event) → j < c.start.layout.workers → is_cell (link_at c.words.head c.words.link cell).mark ≡ true → ComesAfter list (c.rows j) cell r e → Inv c
    → c.words.control.generation ≤ (link_at c.words.head c.words.link cell).generation
cell_high c j list (at_head h) r e b mark after inv = live_generation c.words.control c.shape c.words.head inv.heads h after.0 (present_head c.words.control c.shape c.words.head inv.heads h after.0
    (⊎_elim (λ val. val) (λ frozen. absurd (cell_frozen (c.words.head h).mark mark frozen)) (head_mark c.words.control c.shape c.words.head inv.heads h after.0)))
cell_high c j list (at_row p) r e b mark after inv = let s = after.1 in
    let v = footing_covered (ground_of c) c.cut c.holding inv.cover j p b (subst (λ z. In z (footings c.rows c.old c.copying j)) s.2 (row_footing c.rows c.old c.copying j s.0.row (stand_row (c.rows j) s.0 s.1))) in
    let row = inv.lanes.is_row p (j, v.0, v.1) in
    let lists = cell_listed (c.holding p) (c.words.link p).mark mark (λ k h. inv.cover.free j v.0 p k v.1 h) (inv.marks.mark p row) in
    told_high c.words.control (c.words.link p).generation (held_told c inv lists.0 p row lists.1)

-- a link that was expected is of the open table
open_now : (c : Core) (j : ℕ) (x : Control) (cell : Cell) (l : Link) (r : ℕ) (e : Event) → j < c.start.layout.workers → MayLink c.start.layout.workers x cell l r e (caller_of c j) → link_at c.words.head c.words.link cell ≡ l → Inv c
    → l.generation ≡ c.words.control.generation
open_now c j x cell l r e b may is inv = let low = (inv.finds.controls j x b may.control).low in let same = may.expected.2 in let of = ap (λ (y : Link). y.generation) is in
    let high = cell_high c j (head_of x) cell r e b (ap (λ (y : Link). is_cell y.mark) is ∙ may.expected.1) may.after inv in omega arith

known : (c : Core) (j : ℕ) (x : Control) (cell : Cell) (l : Link) (r : ℕ) (e : Event) → j < c.start.layout.workers → MayLink c.start.layout.workers x cell l r e (caller_of c j) → link_at c.words.head c.words.link cell ≡ l → Inv c
    → Linking c j cell l r (list_in c.shape l.generation e) e Val
known c j x cell l r e b may is inv = known_by c j (head_of x) cell l r e Val b may.on may.in_hand_is may.event may.expected.0 may.expected.1 (inl (open_now c j x cell l r e b may is inv))
    (λ f. ap (λ g. list_in c.shape g f) may.expected.2 ∙ fitting_list c.start c.words.control c.shape x (inv.finds.controls j x b may.control) f) refl may.written may.after may.before is inv

-- the debt of the event is of the open table
due_fits : (c : Core) (g : ℕ) (e : Event) → g ≡ c.words.control.generation → IsEvent e → Inv c → DueFits c.words.control c.shape (owed_event g (c.shape g) e)
due_fits c g e now event inv = record {
  generation = (let same = now in omega arith);
  shift = refl;
  width = subst (λ (s : Shape). s.shift < 2 ^ 5) (sym (ap c.shape now ∙ inv.sizes.now.size)) inv.spelled.is_control.shift;
  event = event;
}

-- a table that control tells of is no later one than the newest
pub told_low : (x : Control) (g : ℕ) → IsTold x g → g ≤ newest x
told_low x g told = ⊎_elim (λ (now : g ≡ x.generation). omega arith) (λ (h : (x.moving ≡ true) × (g ≡ x.generation + 1)). let top : newest x ≡ x.generation + 1 = ap (λ b. x.generation + flag_number b) h.0 in let is = h.1 in omega arith) told

-- The parts after the step

module _ (c : Core) (j : ℕ) (cell : Cell) (l : Link) (r : ℕ) (e : Event) (m : Mark) where
  abbrev q : ℕ
  q = list_in c.shape l.generation e

  abbrev new : Link
  new = record l { row = r }

  abbrev pub head' : ℕ → Link
  head' = heads_set c.words.head cell new

  abbrev pub link' : ℕ → Link
  link' = links_set c.words.link cell new

  abbrev pub less : List ℕ
  less = unhanded r (c.hand j)

  abbrev pub hand' : ℕ → List ℕ
  hand' = put c.hand j less

  abbrev pub more : List ℕ
  more = after_cell cell r (c.chain q)

  abbrev pub chain' : ℕ → List ℕ
  chain' = put c.chain q more

  abbrev pub holding' : ℕ → Holding
  holding' = put c.holding r (listed q)

  -- the event is owed
  abbrev due : SettleDebt
  due = owed_event l.generation (c.shape l.generation) e

  abbrev settling' : ℕ → Option SettleDebt
  settling' = put c.settling j (Some due)

  module _ (f : Linking c j cell l r q e m) (inv : Inv c) where
    -- the step changes the row of a link alone
    pub same_mark : (s : ℕ) → (link' s).mark ≡ (c.words.link s).mark
    same_mark s = links_same (λ (y : Link). y.mark) cell c.words.head c.words.link new s (ap (λ (y : Link). y.mark) (sym f.cell_is))

    pub same_generation : (s : ℕ) → (link' s).generation ≡ (c.words.link s).generation
    same_generation s = links_same (λ (y : Link). y.generation) cell c.words.head c.words.link new s (ap (λ (y : Link). y.generation) (sym f.cell_is))

    same_row : (c.words.link r).row ≡ (link_at c.words.head c.words.link cell).row
    same_row = ap (λ (y : Link). y.row) f.link_is ∙ ap (λ (y : Link). y.row) (sym f.cell_is)

    -- a row that is held otherwise stays with its holder
    stays : (s : ℕ) (h : Holding) → c.holding s ≡ h → 0 ≢ sort h → holding' s ≡ h
    stays s h at ne = put_else c.holding r (listed q) s (apart c.holding r s (in_hand j) h f.held at ne) ∙ at

    -- the row r was in no list, and the link of a row that isn't of this list stays
    unlisted : (h : ℕ) → IsHead h → In r (c.chain h) → ⊥
    unlisted h b i = let z : ◌≡◌ {A = ℕ} 0 1 = ap sort (sym f.held ∙ (inv.holders.in_chain h r b i).1) in omega arith

    link_else : (s : ℕ) → (In s (c.chain q) → ⊥) → link' s ≡ c.words.link s
    link_else s out = links_else cell c.words.link new q s (c.chain q) f.of out

    pub link_here : link' r ≡ c.words.link r
    link_here = link_else r (unlisted q f.is_head)

    other_list : (h s : ℕ) → IsHead h → h ≢ q → In s (c.chain h) → In s (c.chain q) → ⊥
    other_list h s b ne i i' = ne (ap of_whom (sym (inv.holders.in_chain h s b i).1 ∙ (inv.holders.in_chain q s f.is_head i').1))

    link_of_hand : (k s : ℕ) → c.holding s ≡ in_hand k → link' s ≡ c.words.link s
    link_of_hand k s is = link_else s (λ i. let z : ◌≡◌ {A = ℕ} 0 1 = ap sort (sym is ∙ (inv.holders.in_chain q s f.is_head i).1) in omega arith)

    leads : Leads c.words.link (c.words.head q).row (c.chain q)
    leads = inv.chains.leads q f.is_head

    new_is : IsLink new
    new_is = let low = f.row.1 in let fit = c.start.layout.all_fit in record { generation = f.spelled.generation; row = omega arith }

    -- control tells of the table of the row r, and the others in no hand weren't in one
    new_told : IsTold c.words.control (link' r).generation
    new_told = subst (IsTold c.words.control) (sym (same_generation r ∙ ap (λ (y : Link). y.generation) f.link_is)) f.told

    pub was_outside : (s : ℕ) → IsOutside holding' s → (s ≡ r) ⊎ IsOutside c.holding s
    was_outside s out = dite (ℕ_discrete s r) inl (λ ne. inr (λ i at. out i (put_else c.holding r (listed q) s ne ∙ at)))

    pub spelled_after : Spelled c.start.layout c.words.control c.words.current c.words.pin head' link' c.words.twin c.words.event
    spelled_after = let old = inv.spelled in record {
      is_control = old.is_control;
      is_current = old.is_current;
      is_pin = old.is_pin;
      heads = heads_all (λ h y. IsHead h → IsLink y) cell c.words.head new (λ _ _. new_is) old.heads;
      links = links_all (λ s y. IsRow c.start.layout s → IsLink y) cell c.words.link new (λ _ _. new_is) old.links;
      twins = old.twins;
      events = old.events;
    }

    pub holders_after : Holders c.start.layout hand' c.cut chain' holding'
    holders_after = let n = c.start.layout.workers in let old = inv.holders in record {
      once = put_all c.hand j less (λ k xs. k < n → IsOnce xs) (λ b. unhanded_once r (c.hand j) (old.once j b)) (λ k _. old.once k);
      held = λ k s. put_all c.hand j less (λ k xs. k < n → In s xs → IsHomeRow c.start.layout k s × (holding' s ≡ in_hand k))
          (λ b i. let h = old.held j s b (in_unhanded r s (c.hand j) i) in (h.0, put_else c.holding r (listed q) s (unhanded_else r s (c.hand j) (old.once j b) i) ∙ h.1))
          (λ k ne b i. let h = old.held k s b i in (h.0, put_else c.holding r (listed q) s (λ z. ne (ap of_whom (sym h.1 ∙ (ap c.holding z ∙ f.held)))) ∙ h.1)) k;
      of_hand = λ k s. put_all c.holding r (listed q) (λ s h. IsRow c.start.layout s → h ≡ in_hand k → (k < n) × In s (hand' k)) (λ _ z. absurd (let z : 1 ≡ 0 = ap sort z in omega arith))
          (λ s ne b is. let o = old.of_hand k s b is in (o.0, put_all c.hand j less (λ k xs. In s (c.hand k) → In s xs) (λ i. unhanded_in r s (c.hand j) i ne) (λ _ _ i. i) k o.1)) s;
      in_chain = λ h s. put_all c.chain q more (λ h xs. IsHead h → In s xs → IsRow c.start.layout s × (holding' s ≡ listed h))
          (λ b i. ⊎_elim (λ (z : s ≡ r). subst (λ y. IsRow c.start.layout y × (holding' y ≡ listed q)) (sym z) (f.row, put_here c.holding r (listed q)))
          (λ (i : In s (c.chain q)). let t = old.in_chain q s b i in (t.0, stays s (listed q) t.1 (omega arith))) (in_cell cell r s (c.chain q) i))
          (λ h _ b i. let t = old.in_chain h s b i in (t.0, stays s (listed h) t.1 (omega arith))) h;
      of_chain = λ h s. put_all c.holding r (listed q) (λ s x. IsRow c.start.layout s → x ≡ listed h → IsHead h × In s (chain' h))
          (λ _ z. subst (λ h. IsHead h × In r (chain' h)) (ap of_whom z) (f.is_head, subst (In r) (sym (put_here c.chain q more)) (cell_in cell q r r (c.chain q) f.of (inl refl))))
          (λ s _ b is. let o = old.of_chain h s b is in (o.0, put_all c.chain q more (λ h xs. In s (c.chain h) → In s xs) (λ i. cell_in cell q r s (c.chain q) f.of (inr i)) (λ _ _ i. i) h o.1)) s;
      is_cut = λ k x b is. let t = old.is_cut k x b is in (t.0, stays x.row (cut_by k) t.1 (omega arith));
      of_cut = λ k s. put_all c.holding r (listed q) (λ s h. IsRow c.start.layout s → h ≡ cut_by k → (k < n) × ((x : CutRow) × (c.cut k ≡ Some x) × (x.row ≡ s))) (λ _ z. absurd (let z : 1 ≡ 2 = ap sort z in omega arith))
          (λ s _. old.of_cut k s) s;
    }

    pub stamps_after : Stamps c.start.layout c.words.epoch c.words.stamp c.ripening holding'
    stamps_after = let old = inv.stamps in record {
      shown = put_all c.holding r (listed q) (λ s h. IsRow c.start.layout s → c.words.stamp s ≡ stamp_of h) (λ b. old.shown r b ∙ ap stamp_of f.held) (λ s _. old.shown s);
      tag = λ s t. put_all c.holding r (listed q) (λ s h. IsRow c.start.layout s → h ≡ retired t → t ≤ c.words.epoch) (λ _ z. absurd (let z : 1 ≡ 3 = ap sort z in omega arith)) (λ s _. old.tag s t) s;
      ripe = λ k s t b i. let h = old.ripe k s t b i in (h.0, stays s (retired t) h.1 (omega arith));
    }

    -- the mark of the row r, and of a head that is frozen
    pub own_mark : (link' r).mark ≡ m
    own_mark = same_mark r ∙ ap (λ (y : Link). y.mark) f.link_is

    frozen_stays : (cell : Cell) → link_at c.words.head c.words.link cell ≡ l → (h : ℕ) → (c.words.head h).mark ≡ Mov → heads_set c.words.head cell new h ≡ c.words.head h
    frozen_stays (at_row p) is h frozen = refl
    frozen_stays (at_head k) is h frozen = put_else c.words.head k new h (λ e. cell_frozen l.mark f.mark_is (ap (λ (y : Link). y.mark) (sym is) ∙ (ap (λ z. (c.words.head z).mark) (sym e) ∙ frozen)))

    front_stays : (h s : ℕ) → ((c.words.head h).mark ≡ Mov) × ((c.words.head h).row ≡ s) → ((head' h).mark ≡ Mov) × ((head' h).row ≡ s)
    front_stays h s front = subst (λ (y : Link). (y.mark ≡ Mov) × (y.row ≡ s)) (sym (frozen_stays cell f.cell_is h front.0)) front

    -- a row in no hand is the row r, or was in none
    was_else : (s : ℕ) → IsOutside holding' s → ((s ≡ r) × ((link' s).mark ≡ m)) ⊎ IsOutside c.holding s
    was_else s out = ⊎_elim (λ (z : s ≡ r). inl (z, ap (λ y. (link' y).mark) z ∙ own_mark)) inr (was_outside s out)

    pub marks_after : Marks c.start.layout c.words.control head' link' c.words.twin holding'
    marks_after = let old = inv.marks in record {
      mark = λ s. put_all c.holding r (listed q) (λ s h. IsRow c.start.layout s → MarkFits h (link' s).mark) (λ _. tt) (λ s _ b. subst (MarkFits (c.holding s)) (sym (same_mark s)) (old.mark s b)) s;
      first = λ h s b at frozen. put_all c.holding r (listed q) (λ s x. IsRow c.start.layout s → x ≡ listed h → (link' s).mark ≡ Mov → ((head' h).mark ≡ Mov) × ((head' h).row ≡ s))
          (λ _ _ is. absurd (cell_frozen m f.own_is (sym own_mark ∙ is))) (λ s _ b at is. front_stays h s (old.first h s b at (sym (same_mark s) ∙ is))) s b at frozen;
      bare = λ s b out live. ⊎_elim (λ z. ap c.words.twin z.0 ∙ f.twin_is) (λ was. old.bare s b was (λ is. live (same_mark s ∙ is))) (was_else s out);
      aged = λ s b out is. ⊎_elim (λ z. absurd (cell_frozen m f.own_is (sym z.1 ∙ is))) (λ was. subst (λ g. g < newest c.words.control) (sym (same_generation s)) (old.aged s b was (sym (same_mark s) ∙ is))) (was_else s out);
    }

    -- the twin of the row s is 0 or listed
    abbrev TwinIn : (ℕ → List ℕ) → ℕ → Type 0
    TwinIn chain s = (c.words.twin s ≡ 0) ⊎ ((p : ℕ) × IsHead p × In (c.words.twin s) (chain p))

    twin_in : (s : ℕ) → TwinIn c.chain s → TwinIn chain' s
    twin_in s was = ⊎_elim inl (λ (h : (p : ℕ) × IsHead p × In (c.words.twin s) (c.chain p)). inr (
      h.0,
      h.1,
      put_all c.chain q more (λ p xs. In (c.words.twin s) (c.chain p) → In (c.words.twin s) xs) (λ i. cell_in cell q r (c.words.twin s) (c.chain q) f.of (inr i)) (λ _ _ i. i) h.0 h.2,
    )) was

    pub chains_after : Chains head' link' c.words.twin chain'
    chains_after = record {
      leads = put_all c.chain q more (λ h xs. IsHead h → Leads link' (head' h).row xs)
          (λ _. cell_leads cell c.words.head c.words.link (ranks c.words.event) q r new (c.chain q) f.of leads (inv.sorted.rises q f.is_head) refl same_row (unlisted q f.is_head))
          (λ h ne b. subst (λ (y : Link). Leads link' y.row (c.chain h)) (sym (heads_else cell c.words.head new q h (c.chain q) f.of ne))
          (leads_else c.words.link link' (c.words.head h).row (c.chain h) (λ s i. link_else s (other_list h s b ne i)) (inv.chains.leads h b)));
      twins = λ h s. put_all c.chain q more (λ h xs. IsHead h → In s xs → TwinIn chain' s)
          (λ b i. ⊎_elim (λ (z : s ≡ r). inl (ap c.words.twin z ∙ f.twin_is)) (λ i. twin_in s (inv.chains.twins q s b i)) (in_cell cell r s (c.chain q) i)) (λ h _ b i. twin_in s (inv.chains.twins h s b i)) h;
    }

    pub same_head : (h : ℕ) → (head' h).generation ≡ (c.words.head h).generation
    same_head h = heads_same (λ (y : Link). y.generation) cell c.words.head c.words.link new h (ap (λ (y : Link). y.generation) (sym f.cell_is))

    pub heads_after : Heads c.words.control c.shape head'
    heads_after = heads_rows c.words.control c.shape c.words.head head' same_head (λ h. heads_same (λ (y : Link). y.mark) cell c.words.head c.words.link new h (ap (λ (y : Link). y.mark) (sym f.cell_is))) (frozen_stays cell f.cell_is) inv.heads

    pub helps_after : Helps c.start.layout.workers c.words.control head' c.found c.help
    helps_after = helps_heads _ _ _ _ _ _ inv.sizes.now inv.finds _ _ head' (λ h. (same_head h, heads_same (λ (y : Link). y.mark) cell c.words.head c.words.link new h (ap (λ (y : Link). y.mark) (sym f.cell_is)))) (λ h frozen empty. ap (λ (y : Link). y.row) (frozen_stays cell f.cell_is h frozen) ∙ empty) inv.helps

    pub ends_after : Ends (record (ending_of c) { head = head' })
    ends_after = ends_heads c inv head' c.walk (λ h. (same_head h, heads_same (λ (y : Link). y.mark) cell c.words.head c.words.link new h (ap (λ (y : Link). y.mark) (sym f.cell_is)))) (same_walks c inv)

    -- the link found is of the list's generation
    pub generation_is : (cell : Cell) → link_at c.words.head c.words.link cell ≡ l → IsOf cell q (c.chain q) → l.generation ≡ (c.words.head q).generation
    generation_is (at_head h) is of = ap (λ (y : Link). y.generation) (sym is ∙ ap c.words.head of)
    generation_is (at_row p) is of = ap (λ (y : Link). y.generation) (sym is) ∙ inv.sorted.generation q p f.is_head of

    -- the list of its rows, by the link found
    list_here : (s : ℕ) → In s (c.chain q) → list_in c.shape l.generation (c.words.event s) ≡ q
    list_here s i = ap (λ g. list_in c.shape g (c.words.event s)) (generation_is cell f.cell_is f.of) ∙ inv.sorted.belongs q s f.is_head i

    pub sorted_after : Sorted c.shape head' link' c.words.event chain'
    sorted_after = let old = inv.sorted in record {
      rises = put_all c.chain q more (λ h xs. IsHead h → Rises (ranks c.words.event) 0 xs)
          (λ _. cell_rises cell c.words.head c.words.link (ranks c.words.event) q r (c.chain q) (λ s i. (inv.holders.in_chain q s f.is_head i).0.0) f.of leads (old.rises q f.is_head) (rank_some (c.words.event r) r f.row.0) f.below
          (subst (λ (y : Link). (y.row ≡ 0) ⊎ (ranks c.words.event r < ranks c.words.event y.row)) (sym f.cell_is) f.next))
          (λ h _. old.rises h);
      belongs = λ h s b i. ap (λ g. list_in c.shape g (c.words.event s)) (same_head h) ∙ put_all c.chain q more (λ h xs. IsHead h → In s xs → list_in c.shape (c.words.head h).generation (c.words.event s) ≡ h)
          (λ b i. ⊎_elim (λ (z : s ≡ r). λ k. list_in c.shape (sym (generation_is cell f.cell_is f.of) k) ((ap c.words.event z ∙ f.event_is) k)) (old.belongs q s b) (in_cell cell r s (c.chain q) i))
          (λ h _. old.belongs h s) h b i;
      generation = λ h s b i. same_generation s ∙ (put_all c.chain q more (λ h xs. IsHead h → In s xs → (c.words.link s).generation ≡ (c.words.head h).generation)
          (λ b i. ⊎_elim (λ (z : s ≡ r). ap (λ y. (c.words.link y).generation) z ∙ (ap (λ (y : Link). y.generation) f.link_is ∙ generation_is cell f.cell_is f.of)) (old.generation q s b) (in_cell cell r s (c.chain q) i))
          (λ h _. old.generation h s) h b i ∙ sym (same_head h));
    }

    -- what the new links lead to from where a caller stood is the row r, or was covered before
    pub covered_from : (k g a s : ℕ) → k < c.start.layout.workers → c.guard k ≡ On g → In a ((ground_of c).footing k) → Reaches link' c.words.twin a s → (s ≡ r) ⊎ Covers (ground_of c) k g s
    covered_from k g a s b on stands reaches = ⊎_elim inl (λ t. inr (record { inside = b; on = on; at = a; stands = stands; reaches = t }))
        (reaches_before cell c.words.head c.words.link c.words.twin r a s new refl same_row f.twin_is (λ t. inv.cover.free k g r j (record { inside = b; on = on; at = a; stands = stands; reaches = t }) f.held) reaches)

    -- so where callers stand as before
    pub covers_same : (k g s : ℕ) → Covers (record (ground_of c) { link = link' }) k g s → (s ≡ r) ⊎ Covers (ground_of c) k g s
    covers_same k g s v = covered_from k g v.at s v.inside v.on v.stands v.reaches

    -- a link that is the last one stays
    link_last : (cell : Cell) → link_at c.words.head c.words.link cell ≡ l → (s : ℕ) → IsFinal (c.words.link s).mark → links_set c.words.link cell new s ≡ c.words.link s
    link_last (at_head h) is s final = refl
    link_last (at_row p) is s final = put_else c.words.link p new s (λ (z : s ≡ p). cell_final (c.words.link s).mark (ap (λ y. is_cell (c.words.link y).mark) z ∙ (ap (λ (y : Link). is_cell y.mark) is ∙ f.mark_is)) final)

    pub stand_after : (s : Stand) → StandFits c.words.head c.words.link c.words.twin c.words.event s → StandFits head' link' c.words.twin c.words.event s
    stand_after s was = record {
      holds = was.holds;
      of = same_generation s.row ∙ was.of;
      last = λ x is. let t = was.last x is in (link_last cell f.cell_is s.row (subst (λ (y : Link). IsFinal y.mark) (sym t.0) t.1) ∙ t.0, t.1);
      copy = was.copy;
      valid = λ v e. was.valid v (sym (same_mark s.row) ∙ e);
      front = λ h is. ⊎_elim (λ final. inl (subst IsFinal (sym (same_mark s.row)) final)) (λ front. inr (front_stays h s.row front)) (was.front h is);
    }

    pub standing_after : Standing c.start.layout.workers head' link' c.words.twin c.words.event c.rows
    standing_after = record { each = λ k s b i. stand_after s (inv.standing.each k s b i) }

    pub copying_after : Copying c.start.layout.workers head' link' c.words.twin c.words.event c.old
    copying_after = record { each = λ k s b is. let o = inv.copying.each k s b is in (stand_after s o.0, same_mark s.row ∙ o.1) }

    -- a link that changes is that of a listed row below the row r
    link_either : (cell : Cell) → IsOf cell q (c.chain q) → IsBelow (ranks c.words.event) cell r → (s : ℕ)
        → (links_set c.words.link cell new s ≡ c.words.link s) ⊎ ((links_set c.words.link cell new s ≡ new) × (ranks c.words.event s < ranks c.words.event r) × In s (c.chain q))
    link_either (at_head h) of below s = inl refl
    link_either (at_row p) of below s = dite (ℕ_discrete s p)
        (λ (z : s ≡ p). inr (ap (put c.words.link p new) z ∙ put_here c.words.link p new, subst (λ y. ranks c.words.event y < ranks c.words.event r) (sym z) below, subst (λ y. In y (c.chain q)) (sym z) of))
        (λ ne. inl (put_else c.words.link p new s ne))

    -- the link y of the row s leads on to a greater row of the same list
    abbrev Lane : ℕ → Link → Type 0
    Lane s y = 0 < y.row → (ranks c.words.event s < ranks c.words.event y.row) × (list_in c.shape y.generation (c.words.event y.row) ≡ list_in c.shape y.generation (c.words.event s)) × ((link' y.row).generation ≡ y.generation)

    lane_of_new : Lane r l
    lane_of_new some = let listed_next : In l.row (c.chain q) = ⊎_elim (λ z. absurd (let e = ap (λ (y : Link). y.row) f.cell_is in omega arith)) (λ i. subst (λ (y : Link). In y.row (c.chain q)) f.cell_is i)
        (cell_next cell c.words.head c.words.link q (c.chain q) f.of leads) in (
          ⊎_elim (λ z. absurd (omega arith)) (λ low. low) f.next,
          list_here l.row listed_next ∙ ap (list_in c.shape l.generation) (sym f.event_is),
          same_generation l.row ∙ (inv.sorted.generation q l.row f.is_head listed_next ∙ sym (generation_is cell f.cell_is f.of)),
        )

    -- Callers stand on these rows, which cover no more than the row r and what was covered
    module _ (footing : ℕ → List ℕ) (covers_before : (k g s : ℕ) → Covers (record (ground_of c) { link = link'; footing = footing }) k g s → (s ≡ r) ⊎ Covers (ground_of c) k g s) where
      abbrev ground' : Ground
      ground' = record (ground_of c) { link = link'; footing = footing }

      other_covered : (k g s : ℕ) → s ≢ r → Covers ground' k g s → Covers (ground_of c) k g s
      other_covered k g s ne v = ⊎_elim (λ z. absurd (ne z)) (λ v. v) (covers_before k g s v)

      pub cover_after : ((k : ℕ) → k < c.start.layout.workers → (IsOn (c.guard k) → ⊥) → footing k ≡ []) → Cover ground' c.cut holding'
      cover_after rests = let n = c.start.layout.workers in let old = inv.cover in record {
        free = λ k g s i v is. put_all c.holding r (listed q) (λ s h. Covers ground' k g s → h ≡ in_hand i → ⊥) (λ _ z. let z : ◌≡◌ {A = ℕ} 1 0 = ap sort z in omega arith)
            (λ s ne v. old.free k g s i (other_covered k g s ne v)) s v is;
        tags = λ k g s t v has. put_all c.holding r (listed q) (λ s h. Covers ground' k g s → HasTag n c.cut c.holding s t ⊎ (h ≡ retired t) → g ≤ t)
            (λ _ has. absurd (⊎_elim untagged (λ z. let z : ◌≡◌ {A = ℕ} 1 3 = ap sort z in omega arith) has))
            (λ s ne v has. old.tags k g s t (other_covered k g s ne v) (⊎_elim (λ h. h) inl has)) s v (⊎_elim inr (λ h. inl (inr h)) has);
        resting = rests;
      }
        where
          untagged : {t : ℕ} → HasTag c.start.layout.workers c.cut c.holding r t → ⊥
          untagged has = ⊎_elim (λ z. let z : ◌≡◌ {A = ℕ} 0 3 = ap sort (sym f.held ∙ z) in omega arith)
              (λ h. let z : ◌≡◌ {A = ℕ} 0 2 = ap sort (sym f.held ∙ (ap c.holding (sym h.4) ∙ (inv.holders.is_cut h.0 h.1 h.2 h.3).1)) in omega arith) has

      guarded_before : (s : ℕ) → IsGuarded ground' s → (s ≡ r) ⊎ IsGuarded (ground_of c) s
      guarded_before s v = ⊎_elim inl (λ o. inr (v.0, v.1, o)) (covers_before v.0 v.1 s v.2)

      lane : (s : ℕ) → IsGuarded ground' s → Lane s (link' s)
      lane s v = ⊎_elim
          (λ same. subst (Lane s) (sym same) (⊎_elim
          (λ (z : s ≡ r). subst (λ y. Lane y (c.words.link y)) (sym z) (subst (Lane r) (sym f.link_is) lane_of_new))
          (λ v some. (inv.lanes.rises s v some, inv.lanes.stays s v some, same_generation (c.words.link s).row ∙ inv.lanes.generation s v some)) (guarded_before s v)))
          (λ (h : (link' s ≡ new) × (ranks c.words.event s < ranks c.words.event r) × In s (c.chain q)). subst (Lane s) (sym h.0) (λ some. (
            h.1,
            ap (list_in c.shape l.generation) f.event_is ∙ sym (list_here s h.2),
            same_generation r ∙ ap (λ (y : Link). y.generation) f.link_is,
          )))
          (link_either cell f.of f.below s)

      pub lanes_after : Lanes c.start.layout c.shape ground' c.words.event
      lanes_after = record {
        is_row = λ s v. ⊎_elim (λ z. subst (IsRow c.start.layout) (sym z) f.row) (inv.lanes.is_row s) (guarded_before s v);
        rises = λ s v some. (lane s v some).0;
        stays = λ s v some. (lane s v some).1;
        generation = λ s v some. (lane s v some).2;
        twins = λ s v frozen some. ⊎_elim
            (λ (z : s ≡ r). absurd (cell_frozen m f.own_is (sym own_mark ∙ subst (λ y. (link' y).mark ≡ Mov) z frozen)))
            (λ o. let h = inv.lanes.twins s o (sym (same_mark s) ∙ frozen) some in (same_generation (c.words.twin s) ∙ (h.0 ∙ ap (λ g. g + 1) (sym (same_generation s))), h.1))
            (guarded_before s v);
      }

    pub writing_after : Writing c.start.layout.workers link' c.words.twin c.words.event hand' (put c.written j (forgotten r (c.written j)))
    writing_after = let n = c.start.layout.workers in let old = inv.writing in record {
      placed = λ k x. put_all c.written j (forgotten r (c.written j)) (λ k xs. k < n → In x xs → x.place < 6) (λ b i. old.placed j x b (in_forgotten r (c.written j) x i).0) (λ k _. old.placed k x) k;
      in_hand_is = λ k x. put_all c.written j (forgotten r (c.written j)) (λ k xs. k < n → In x xs → In x.row (hand' k))
          (λ b i. let t = in_forgotten r (c.written j) x i in subst (In x.row) (sym (put_here c.hand j less)) (unhanded_in r x.row (c.hand j) (old.in_hand_is j x b t.0) t.1))
          (λ k ne b i. subst (In x.row) (sym (put_else c.hand j less k ne)) (old.in_hand_is k x b i)) k;
      stands = λ k x. put_all c.written j (forgotten r (c.written j)) (λ k xs. k < n → In x xs → row_word (link' x.row) (c.words.twin x.row) (c.words.event x.row) x.place ≡ x.word)
          (λ b i. still j x b (in_forgotten r (c.written j) x i).0) (λ k _ b i. still k x b i) k;
    }
      where
        still : (k : ℕ) (x : Wrote) → k < c.start.layout.workers → In x (c.written k) → row_word (link' x.row) (c.words.twin x.row) (c.words.event x.row) x.place ≡ x.word
        still k x b i = subst (λ y. row_word y (c.words.twin x.row) (c.words.event x.row) x.place ≡ x.word) (sym (link_of_hand k x.row (inv.holders.held k x.row b (inv.writing.in_hand_is k x b i)).1)) (inv.writing.stands k x b i)

    name_stays : (d : CutDebt) (s : ℕ) → IsNamed c.words.head d s (c.words.event s) (c.words.link s) → IsNamed head' d s (c.words.event s) (link' s)
    name_stays d s n = record { row = n.row; event = n.event; generation = n.generation ∙ sym (same_generation s); front = λ is. front_stays d.head s (n.front is) }

    pub naming_after : Naming c.start.layout head' link' c.words.event c.named holding'
    naming_after = record {
      named = λ s h. put_all c.holding r (listed q)
          (λ s x. IsRow c.start.layout s → x ≡ listed h → (link' s).mark ≡ Del → (k : ℕ) × (k < c.start.layout.workers) × ((d : CutDebt) × HasName (c.named k) d × IsNamed head' d s (c.words.event s) (link' s)))
          (λ _ _ is. absurd (cell_dead m f.own_is (sym own_mark ∙ is)))
          (λ s _ b at is. let o = inv.naming.named s h b at (sym (same_mark s) ∙ is) in (o.0, o.1, (o.2.0, o.2.1, name_stays o.2.0 s o.2.2))) s;
      place = inv.naming.place;
    }

    -- the parts that say of which tables rows are
    pub sizes_after : Sizes c.start c.words.control c.shape head' link' holding'
    sizes_after = sizes_rows _ _ _ _ _ _ _ _ _ (λ h _. same_head h) (λ s b out. ⊎_elim (λ (z : s ≡ r). inr (subst (λ y. (link' y).generation ≤ newest c.words.control) (sym z) (told_low c.words.control (link' r).generation new_told)))
        (λ h. inl (h, same_generation s)) (was_outside s out)) inv.sizes

    pub steady_after : Steady c.start c.words.control link' holding' c.named
    steady_after = steady_rows _ _ _ _ _ _ _ (λ s b out. ⊎_elim (λ (z : s ≡ r). inr (λ no_move. still_told c inv no_move (link' s).generation (subst (λ y. IsTold c.words.control (link' y).generation) (sym z) new_told))) (λ h. inl (h, same_generation s)) (was_outside s out)) inv.steady

    -- links change in the rows that they name
    pub relinked_after : Relinked c.words.link link'
    relinked_after = record { mark = same_mark; generation = same_generation; final = link_last cell f.cell_is }

    -- the list q is none of the table that control moves into, if the link found is of the open one
    pub no_new : l.generation ≡ c.words.control.generation → IsNewHead c.words.control c.shape q → ⊥
    no_new now new = let same : (c.words.head q).generation ≡ c.words.control.generation = sym (generation_is cell f.cell_is f.of) ∙ now in
        ⊎_elim (λ (p : IsPrepared (c.words.control.generation + 1) (c.words.head q)). let g = p.0 in omega arith) (λ (s : IsShut c.words.control.generation q (c.words.head q)). let g = s.older in omega arith) (inv.heads.new q f.is_head new)

    pub bare_after : (c.words.control.moving ≡ true → (p : ℕ) → IsHead p → IsOldHead c.words.control c.shape p → (c.words.head p).mark ≡ Val → IsNewHead c.words.control c.shape q → ⊥) → Bare c.words.control c.shape head' chain'
    bare_after none = bare_put c.words.control c.shape c.words.head head' c.chain q more (λ h. heads_same (λ (y : Link). y.mark) cell c.words.head c.words.link new h (ap (λ (y : Link). y.mark) (sym f.cell_is)))
        (λ moving p hp _ old val is _. absurd (none moving p hp old val is)) inv.bare

    -- all rows that were live stay so, and no others are but the row r
    pub live_after : (s : ℕ) → IsLive c.start.layout c.words.link c.words.twin c.holding s → IsLive c.start.layout link' c.words.twin holding' s
    live_after s live = (live.0, (live.1.0, stays s (listed live.1.0) live.1.1 (omega arith)), subst (λ (z : Mark × Mark). IsCarrying z.0 (c.words.twin s) z.1) (λ i. (sym (same_mark s) i, sym (same_mark (c.words.twin s)) i)) live.2)

    pub live_before : (s : ℕ) → IsLive c.start.layout link' c.words.twin holding' s → (s ≡ r) ⊎ IsLive c.start.layout c.words.link c.words.twin c.holding s
    live_before s live = dite (ℕ_discrete s r) inl (λ ne. inr (
      live.0,
      (live.1.0, sym (put_else c.holding r (listed q) s ne) ∙ live.1.1),
      subst (λ (z : Mark × Mark). IsCarrying z.0 (c.words.twin s) z.1) (λ i. (same_mark s i, same_mark (c.words.twin s) i)) live.2,
    ))

    module _ (present : m ≡ Val) (none : Contains (puts c.history) e → ⊥) where
      -- the row r is live now
      live_here : IsLive c.start.layout link' c.words.twin holding' r
      live_here = (f.row, (q, put_here c.holding r (listed q)), val_carries (link' r).mark (c.words.twin r) (link' (c.words.twin r)).mark (own_mark ∙ present))

      carriers_after : Carriers c.start.layout (c.history ++ Put j e ∷ []) link' c.words.twin c.words.event holding'
      carriers_after = let old = inv.carriers in record {
        carried = λ x pending. ⊎_elim (λ p. let t = old.carried x p in (t.0, live_after t.0 t.1, t.2)) (λ (is : x ≡ e). (r, live_here, f.event_is ∙ sym is)) (pending_put c.history j e x pending);
        pending = λ s live. put_pending c.history j e (c.words.event s) (⊎_elim
            (λ (z : s ≡ r). inr (ap c.words.event z ∙ f.event_is, not_out c.start.layout.workers c.history c.deal c.own c.begun e inv.told none))
            (λ live. inl (old.pending s live)) (live_before s live));
        one = λ s t at at' same. ⊎_elim
            (λ (z : s ≡ r). ⊎_elim (λ (y : t ≡ r). z ∙ sym y) (λ live. absurd (other t live (sym same ∙ (ap c.words.event z ∙ f.event_is)))) (live_before t at'))
            (λ live. ⊎_elim (λ (y : t ≡ r). absurd (other s live (same ∙ (ap c.words.event y ∙ f.event_is)))) (λ live'. old.one s t live live' same) (live_before t at')) (live_before s at);
      }
        where
          other : (s : ℕ) → IsLive c.start.layout c.words.link c.words.twin c.holding s → c.words.event s ≡ e → ⊥
          other s live is = none (subst (Contains (puts c.history)) is (inv.carriers.pending s live).put)

    pub from_after : (g at : ℕ) (x : Event) → StandsFrom c.words.link c.words.event g at x → StandsFrom link' c.words.event g at x
    from_after g at x old = record {
      row = old.row;
      some_row = old.some_row;
      kept = subst (λ (m : Mark). (m ≡ Val) ⊎ (m ≡ Mov)) (sym (same_mark old.row)) old.kept;
      of = same_generation old.row ∙ old.of;
      holds = old.holds;
      follows = reaches_after cell c.words.head c.words.link (λ _. 0) q r at old.row (c.chain q) new refl same_row f.row.0 f.of (unlisted q f.is_head) old.follows;
    }

    -- no take has read a later table than the one that the event is owed to
    is_now : l.generation ≡ c.words.control.generation → (i : ℕ) (d : SettleDebt) → settling' i ≡ Some d → (c.settling i ≡ Some d) ⊎ ((k : ℕ) (s : Sight) → k < c.start.layout.workers → c.sight k ≡ Some s → s.table.generation ≤ d.generation)
    is_now now i d = put_all c.settling j (Some due) (λ i o. o ≡ Some d → (c.settling i ≡ Some d) ⊎ ((k : ℕ) (s : Sight) → k < c.start.layout.workers → c.sight k ≡ Some s → s.table.generation ≤ d.generation))
        (λ is. inr (λ k s b sees. let low = (inv.finds.sights k s b sees).0.low in let of = ap (λ (x : SettleDebt). x.generation) (same_Some due d is) in omega arith)) (λ _ _ is. inl is) i

    walkers_after : l.generation ≡ c.words.control.generation → (Contains (puts c.history) e → ⊥) → Walkers (record (present_of c) { history = c.history ++ Put j e ∷ []; settling = settling' }) (takes_of c) link' c.words.event
    walkers_after now fresh = let more : List Entry = Put j e ∷ [] in
        walkers_links (record (present_of c) { history = c.history ++ more; settling = settling' }) _ _ _ link' c.words.event (λ _ s _ _. same_generation s) (λ _ g at x _ _ _. from_after g at x)
        (walkers_owing (record (present_of c) { history = c.history ++ more }) _ _ _ settling' (λ i d _ is. is_now now i d is) (walkers_grown (present_of c) _ _ _ more (new_put c.history j e inv.told.legal fresh) inv.walkers))

    dues_after : l.generation ≡ c.words.control.generation → IsEvent e → Dues c.start.layout.workers c.words.control c.shape settling' c.copying c.named
    dues_after now event = record {
      settles = λ k d. put_all c.settling j (Some due) (λ k o. k < c.start.layout.workers → o ≡ Some d → DueFits c.words.control c.shape d)
          (λ _ is. subst (DueFits c.words.control c.shape) (same_Some due d is) (due_fits c l.generation e now event inv)) (λ k _. inv.dues.settles k d) k;
      copies = inv.dues.copies;
      named = inv.dues.named;
    }

val_invalid : Val ≡ Invalid → ⊥
val_invalid e = cc

-- a put is no Begin
no_begin : (j : ℕ) (e : Event) (k : ℕ) → In (Begin k) (Put j e ∷ []) → ⊥
no_begin j e k i = ⊎_elim (λ (q : Begin k ≡ Put j e). cc) (λ n. n) i

-- Link keeps the invariant
pub link_keeps : (c : Core) (j : ℕ) (cell : Cell) (l : Link) (r : ℕ) (e : Event) → j < c.start.layout.workers → ((x : Control) × MayLink c.start.layout.workers x cell l r e (caller_of c j)) → link_at c.words.head c.words.link cell ≡ l → Inv c → Inv (linked c j cell l r e)
link_keeps c j cell l r e b (x, may) is inv = let f = known c j x cell l r e b may is inv in let now = open_now c j x cell l r e b may is inv in record {
  spelled = spelled_after c j cell l r e Val f inv;
  reading = inv.reading;
  finds = inv.finds;
  guards = inv.guards;
  holders = holders_after c j cell l r e Val f inv;
  cutting = inv.cutting;
  stamps = stamps_after c j cell l r e Val f inv;
  chains = chains_after c j cell l r e Val f inv;
  cover = cover_after c j cell l r e Val f inv (ground_of c).footing (covers_same c j cell l r e Val f inv) inv.cover.resting;
  sizes = sizes_after c j cell l r e Val f inv;
  dues = dues_after c j cell l r e Val f inv now may.event;
  steady = steady_after c j cell l r e Val f inv;
  heads = heads_after c j cell l r e Val f inv;
  helps = helps_after c j cell l r e Val f inv;
  sorted = sorted_after c j cell l r e Val f inv;
  marks = marks_after c j cell l r e Val f inv;
  standing = standing_after c j cell l r e Val f inv;
  copying = copying_after c j cell l r e Val f inv;
  lanes = lanes_after c j cell l r e Val f inv (ground_of c).footing (covers_same c j cell l r e Val f inv);
  writing = writing_after c j cell l r e Val f inv;
  naming = naming_after c j cell l r e Val f inv;
  carriers = carriers_after c j cell l r e Val f inv refl (fresh_put c.start.layout.workers c.history c.deal c.own c.begun j e b may.fresh inv.told);
  told = told_put c.start.layout.workers c.history c.deal c.own c.begun j e b may.fresh inv.told;
  numbers = numbers_grown _ _ _ (Put j e ∷ []) inv.numbers;
  bounds = bounds_owed _ _ _ _ _ _ _ j (due c j cell l r e Val) may.permit (bounds_grown _ _ _ _ _ _ _ (Put j e ∷ []) refl inv.bounds);
  settling = let new = fresh_put c.start.layout.workers c.history c.deal c.own c.begun j e b may.fresh inv.told in settling_put _ _ _ j (due c j cell l r e Val) b may.settled new inv.settling (λ s. new (settled_put c.history inv.told.legal e s));
  walkers = walkers_after c j cell l r e Val f inv now (fresh_put c.start.layout.workers c.history c.deal c.own c.begun j e b may.fresh inv.told);
  ahead = ahead_grown c.history (Put j e ∷ []) c.words.current refl inv.ahead;
  scarce = let home = (inv.holders.held j r b may.in_hand_is).0 in scarce_drop _ _ _ _ _ _ _ _ j
      (λ k x _ ne old. base_grown _ _ _ (Put j e ∷ []) _ _ k x (no_begin j e k) (base_lasts _ _ _ _ _ _ _ _ k x (le_refl _)
      (lasts_held _ _ _ _ r (listed (list_in c.shape l.generation e)) k (λ _ here _. absurd (ne (one_home c.start.layout k j r here home))) (λ _ _ _ _. inr tt)) old)) inv.scarce;
  refusals = refusals_grown _ _ _ _ (λ k. no_begin j e k) inv.refusals;
  swept = swept_linked c j cell (list_in c.shape l.generation e) r e b (inv.holders.held j r b may.in_hand_is).0 f.event_is (fresh_put c.start.layout.workers c.history c.deal c.own c.begun j e b may.fresh inv.told) inv
      (swept_grown _ _ _ _ _ _ _ (λ k. no_begin j e k) inv.swept) (no_begin j e);
  copies = copies_relinked _ _ (link' c j cell l r e Val) (relinked_after c j cell l r e Val f inv)
      (copies_in (rows_of_core c) (ground_of c) (ground_of (linked c j cell l r e)) j r (list_in c.shape l.generation e) f.row f.held f.twin_is
      (λ s v. ⊎_elim inl (λ o. inr (v.0, v.1, o)) (covers_same c j cell l r e Val f inv v.0 v.1 s v.2)) (λ invalid. val_invalid (ap (λ (y : Link). y.mark) (sym f.link_is) ∙ invalid)) inv.copies);
  rooms = inv.rooms;
  bare = bare_after c j cell l r e Val f inv (λ _ _ _ _ _ new. no_new c j cell l r e Val f inv now new);
  unlinked = record { each = λ k s b is w. inv.unlinked.each k s b is (was_before c.history (Put j e ∷ []) k s.event (no_begin j e k) w) };
  ends = ends_after c j cell l r e Val f inv;
}
