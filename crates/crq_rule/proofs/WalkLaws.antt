-- A walk keeps the invariant: it comes to rows that its guard covers, or to the first row of a list.
use Rattle.std.proofs.Common.{◌≡◌, ◌≢◌, ◌⊎◌, ⊎_elim, inl, inr, ℕ, ◌<◌, ◌≤◌, true, false, cond, eqb, ltb, leb, ◌&&◌, ◌||◌, List, [], ◌∷◌, ◌++◌, length, take, Option, Some, None, sym, refl, ap, ◌∙◌, subst, eq-eqb, arith, length-append, le_refl}
use Rattle.std.proofs.lemmas.Bool.{cond_both, eqb-true, ltb-true, leb-true, and_parts, or_cases, false≢true}
use Rattle.std.proofs.lemmas.Option.{same_Some, none-some}
use Rattle.std.specs.List.{Contains}
use mathlib.Core.Logic.{dite}
use native.Mathlib.Decide.{ℕ_discrete}
use Rattle.crq_base.specs.declared.event.Event.{Event}
use Rattle.crq_base.specs.declared.entry.Entry.TheVariants.{Begin}
use Rattle.crq_base.specs.Histories.{put_of, puts}
use Rattle.crq_base.specs.declared.words.Link.{Link}
use Rattle.crq_base.specs.declared.words.Mark.{Mark}
use Rattle.crq_base.specs.declared.words.Mark.TheVariants.{Val, Inv as Invalid, Mov, Del}
use Rattle.crq_base.specs.declared.words.Control.{Control}
use Rattle.crq_base.specs.Lists.{In}
use Rattle.crq_rule.specs.declared.debts.CutDebt.{CutDebt}
use Rattle.crq_rule.specs.declared.debts.SettleDebt.{SettleDebt}
use Rattle.crq_rule.specs.declared.view.Guard.{Guard}
use Rattle.crq_rule.specs.declared.view.Guard.TheVariants.{Off, Entering, On}
use Rattle.crq_rule.specs.declared.view.CutRow.{CutRow}
use Rattle.crq_rule.specs.declared.view.Stand.{Stand}
use Rattle.crq_rule.specs.declared.view.Sight.{Sight}
use Rattle.crq_rule.specs.declared.view.Walk.{Walk}
use Rattle.crq_rule.specs.Lists.{put}
use Rattle.crq_rule.specs.Places.{IsHead}
use Rattle.crq_rule.specs.Core.{Core, DeadNames, HasName, in_hand, retired}
use Rattle.crq_rule.specs.Parts.{ground_of, Covers, IsGuarded, HasTag, IsOn, Names, IsPath, Reaches, rows_of, rows_of_old, rows_of_copy}
use Rattle.crq_rule.specs.ListParts.{ranks, StandFits, IsFinal, IsNamed}
use Rattle.crq_rule.specs.HistoryParts.{Walks, Sees, Walkers, EndsInBegin}
use Rattle.crq_rule.specs.Invariant.{Inv, present_of, takes_of, rows_of_core}
use Rattle.crq_rule.specs.Ranks.{rank, list_in, IsTold, tells_of, list_by, Cell, at_head, at_row, link_at, first_head_of}
use Rattle.crq_rule.specs.ListKinds.{Aim, no_take, in_bucket, in_search, is_take, is_final, is_passed, stands_after, walk_after, head_walk, new_walk as begun_walk, walked, begins_walk, is_cell, is_beyond, is_past, is_other_front, relieved, front_of, new_stand, noted_stand, is_inv, walked_from, MayWalk, MaySeek, read_after, read_from, relieved_names}
use Rattle.crq_rule.specs.Helping.{is_mov}
use Rattle.crq_rule.proofs.EndLaws.{ends_walked}
use Rattle.crq_rule.proofs.SweepLaws.{swept_walked}
use Rattle.crq_rule.proofs.HistoryLaws.{put_in}
use Rattle.crq_rule.proofs.Prefixes.{take_all}
use Rattle.crq_rule.proofs.Puts.{put_here, put_else, put_all}
use Rattle.crq_rule.proofs.PartLaws.{sort}
use Rattle.crq_rule.proofs.CoverLaws.{row_footing}
use Rattle.crq_rule.proofs.SizeLaws.{dues_named}
use Rattle.crq_rule.proofs.HeadLaws.{cell_dead, cell_listed}
use Rattle.crq_rule.proofs.NameLaws.{moved_second, has_moved, was_left}
use Rattle.crq_rule.proofs.HelpLaws.{helps_walked}
use Rattle.crq_rule.proofs.SteadyLaws.{guarded_out, steady_names, found_told, is_told}
use Rattle.crq_rule.specs.Copies.{IsBound}
use Rattle.crq_rule.proofs.CopyRows.{moved_ordered}
use Rattle.crq_rule.proofs.Standings.{least, first_in, next_above, adjacent, longer, in_join, join_in, rows_in, stood, row_stood}
use Rattle.crq_rule.proofs.WalkerLaws.{walkers_at}
use Rattle.crq_rule.proofs.Walkings.{begins_is, walks_row, sees_now, head_walks}

-- the row is in a list
abbrev pub IsListed : Core → ℕ → Type 0
IsListed c r = (q : ℕ) × IsHead q × In r (c.chain q)

-- what the walk found, and what its caller knows after it
abbrev cell_link : Core → Cell → Link
cell_link c cell = link_at c.words.head c.words.link cell

abbrev cell_event : Core → Cell → Event
cell_event c cell = c.words.event (cell_link c cell).row

abbrev new_walk : Core → ℕ → Cell → Aim → Option Walk
new_walk c j cell aim = walk_after cell aim (c.sight j) (cell_link c cell) (c.walk j) (c.rows j)

abbrev new_rows : Core → ℕ → Cell → Aim → List Stand
new_rows c j cell aim = stands_after cell aim (new_walk c j cell aim) (cell_link c cell) (cell_event c cell) (c.rows j)

abbrev new_names : Core → ℕ → Cell → DeadNames
new_names c j cell = relieved_names (c.found j).control cell (c.rows j) (cell_link c cell) (cell_event c cell) (c.named j)

abbrev new_read : Core → ℕ → Cell → Aim → ℕ
new_read c j cell aim = read_after cell aim (c.sight j) (length c.history) (c.read j)

module _ (c : Core) (inv : Inv c) where
  listed_some : (q : ℕ) → IsHead q → (r : ℕ) → In r (c.chain q) → 0 < r
  listed_some q b r i = (inv.holders.in_chain q r b i).0.0

  chain_next : (q r : ℕ) → IsHead q → In r (c.chain q) → 0 < (c.words.link r).row → In (c.words.link r).row (c.chain q) × (ranks c.words.event r < ranks c.words.event (c.words.link r).row)
  chain_next q r b i some = next_above c.words.link (ranks c.words.event) (c.words.head q).row 0 r (c.chain q) (inv.chains.leads q b) (inv.sorted.rises q b) i some

  -- the next row holds an event of the same list
  chain_stays : (q r : ℕ) → IsHead q → In r (c.chain q) → 0 < (c.words.link r).row → list_in c.shape (c.words.link r).generation (c.words.event (c.words.link r).row) ≡ list_in c.shape (c.words.link r).generation (c.words.event r)
  chain_stays q r b i some = let g = inv.sorted.generation q r b i in subst (λ g. list_in c.shape g (c.words.event (c.words.link r).row) ≡ list_in c.shape g (c.words.event r)) (sym g)
      (inv.sorted.belongs q (c.words.link r).row b (chain_next q r b i some).0 ∙ sym (inv.sorted.belongs q r b i))

  -- what a listed row names is listed
  names_listed : (r s : ℕ) → IsListed c r → Names c.words.link c.words.twin r s → IsListed c s
  names_listed r s at names = ⊎_elim
      (λ (e : (c.words.link r).row ≡ s). (at.0, at.1, subst (λ z. In z (c.chain at.0)) e (chain_next at.0 r at.1 at.2 (subst (λ z. 0 < z) (sym e) names.0)).0))
      (λ (e : c.words.twin r ≡ s). ⊎_elim (λ (z : c.words.twin r ≡ 0). let p = names.0 in absurd (omega arith)) (λ (h : (p : ℕ) × IsHead p × In (c.words.twin r) (c.chain p)). subst (IsListed c) e h) (inv.chains.twins at.0 r at.1 at.2)) names.1

  -- and so is what a path leads to from it
  path_listed : (a r : ℕ) (ps : List ℕ) → IsListed c a → IsPath c.words.link c.words.twin a ps r → IsListed c r
  path_listed a r [] at path = subst (IsListed c) path at
  path_listed a r (p ∷ ps) at path = path_listed p r ps (names_listed a p at path.0) path.1

  -- a listed row that is frozen and has a twin is bound to it
  listed_bound : (q r : ℕ) → IsHead q → In r (c.chain q) → (c.words.link r).mark ≡ Mov → 0 < c.words.twin r → IsBound (rows_of_core c) r (c.words.twin r)
  listed_bound q r b i frozen some = let h = inv.holders.in_chain q r b i in record { row = h.0; listed_is = (q, h.1); frozen = frozen; twin_is = refl; some = some }

  listed_sort : (q r : ℕ) → IsHead q → In r (c.chain q) → sort (c.holding r) ≡ 1
  listed_sort q r b i = ap sort (inv.holders.in_chain q r b i).1

  -- a listed row isn't in hand, and has no tag
  listed_free : (q r i : ℕ) → IsHead q → In r (c.chain q) → c.holding r ≡ in_hand i → ⊥
  listed_free q r i b h is = let e = listed_sort q r b h in let d : sort (c.holding r) ≡ 0 = ap sort is in omega arith

  listed_untagged : (q r t : ℕ) → IsHead q → In r (c.chain q) → HasTag c.start.layout.workers c.cut c.holding r t → ⊥
  listed_untagged q r t b h has = let e = listed_sort q r b h in ⊎_elim
      (λ (is : c.holding r ≡ retired t). let d : sort (c.holding r) ≡ 3 = ap sort is in omega arith)
      (λ (is : (j : ℕ) × (x : CutRow) × (j < c.start.layout.workers) × (c.cut j ≡ Some x) × (x.row ≡ r) × In t x.tags).
      let d : sort (c.holding r) ≡ 2 = subst (λ z. sort (c.holding z) ≡ 2) is.4 (ap sort (inv.holders.is_cut is.0 is.1 is.2 is.3).1) in omega arith) has

  -- a covered row that may be followed by another row is listed
  covered_cell : (r : ℕ) → IsGuarded (ground_of c) r → is_cell (c.words.link r).mark ≡ true → IsListed c r
  covered_cell r v cell = let row = inv.lanes.is_row r v in let at = cell_listed (c.holding r) (c.words.link r).mark cell (guarded_out c inv r v) (inv.marks.mark r row) in
      let o = inv.holders.of_chain at.0 r row at.1 in (at.0, o.0, o.1)

  -- what the cell's link leads to is led to from a row that the caller stands on, or listed
  from_cell : (j : ℕ) (cell : Cell) (r : ℕ) → MayWalk (c.rows j) cell → 0 < (cell_link c cell).row
      → Reaches c.words.link c.words.twin (cell_link c cell).row r → ((a : ℕ) × In a (rows_of (c.rows j)) × Reaches c.words.link c.words.twin a r) ⊎ IsListed c r
  from_cell j (at_head q) r may some reaches = inr (path_listed (c.words.head q).row r reaches.through
      (q, may, first_in c.words.link (ranks c.words.event) (c.words.head q).row (c.chain q) (inv.chains.leads q may) some) reaches.path)
  from_cell j (at_row p) r may some reaches = inl (
    p,
    subst (λ z. In z (rows_of (c.rows j))) may.1.2 (rows_in (c.rows j) may.1.0 may.1.1),
    longer c.words.link c.words.twin p (c.words.link p).row r (some, inl refl) reaches,
  )

module _ (c : Core) (j : ℕ) (cell : Cell) (aim : Aim) where
  -- what the callers stand on after the walk
  stands_j : (k : ℕ) → k ≡ j → (ground_of (walked_from c j cell aim)).footing k ≡ rows_of (new_rows c j cell aim) ++ (rows_of_old (c.old j) ++ rows_of_copy (c.copying j))
  stands_j k e = ap (ground_of (walked_from c j cell aim)).footing e ∙ ap (λ ss. rows_of ss ++ (rows_of_old (c.old j) ++ rows_of_copy (c.copying j))) (put_here c.rows j (new_rows c j cell aim))

  stands_else : (k : ℕ) → k ≢ j → (ground_of (walked_from c j cell aim)).footing k ≡ (ground_of c).footing k
  stands_else k ne = ap (λ ss. rows_of ss ++ (rows_of_old (c.old k) ++ rows_of_copy (c.copying k))) (put_else c.rows j (new_rows c j cell aim) k ne)

  -- what is covered after the walk was covered before it, or is listed
  before : MayWalk (c.rows j) cell → Inv c → (k g r : ℕ) → Covers (ground_of (walked_from c j cell aim)) k g r → Covers (ground_of c) k g r ⊎ IsListed c r
  before may inv k g r v = dite (ℕ_discrete k j)
      (λ (e : k ≡ j).
      let same : (a : ℕ) → In a ((ground_of c).footing j) → Reaches c.words.link c.words.twin a r → Covers (ground_of c) k g r =
      λ a i to. record { inside = v.inside; on = v.on; at = a; stands = subst (λ z. In a ((ground_of c).footing z)) (sym e) i; reaches = to } in
      let rest = rows_of_old (c.old j) ++ rows_of_copy (c.copying j) in
      let rows = rows_of (c.rows j) in
      ⊎_elim
      (λ h. ⊎_elim (λ i. inl (same v.at (join_in rows rest v.at (inl i)) v.reaches))
      (λ h. ⊎_elim (λ t. inl (same t.0 (join_in rows rest t.0 (inl t.1)) t.2)) inr (from_cell c inv j cell r may h.0 (subst (λ z. Reaches c.words.link c.words.twin z r) (sym h.1) v.reaches)))
      (row_stood cell aim (new_walk c j cell aim) (cell_link c cell) (cell_event c cell) (c.rows j) v.at h))
      (λ h. inl (same v.at (join_in rows rest v.at (inr h)) v.reaches))
      (in_join (rows_of (new_rows c j cell aim)) rest v.at (subst (λ z. In v.at z) (stands_j k e) v.stands)))
      (λ ne. inl (record { inside = v.inside; on = v.on; at = v.at; stands = subst (λ z. In v.at z) (stands_else k ne) v.stands; reaches = v.reaches }))

on_is : (g : Guard) → IsOn g → (x : ℕ) × (g ≡ On x)
on_is Off on = absurd on
on_is (Entering x) on = absurd on
on_is (On x) on = (x, refl)

final_is : (m : Mark) → is_final m ≡ true → IsFinal m
final_is Val e = absurd (false≢true e)
final_is Invalid e = absurd (false≢true e)
final_is Mov e = tt
final_is Del e = tt

-- the caller stands on the row p, in the list of the name and at its place or before it
record Beyond (x : Option Control) (p : ℕ) (ss : List Stand) (d : CutDebt) : Type 0 where
  control : Control
  found : x ≡ Some control
  told : IsTold control d.generation
  stand : Stand
  stands : In stand ss
  row : stand.row ≡ p
  head : list_by control d.generation stand.event ≡ d.head
  low : rank stand.event p ≤ rank d.event d.row

beyond_is : (x : Option Control) (p : ℕ) (ss : List Stand) (d : CutDebt) → is_beyond x (at_row p) ss d ≡ true → Beyond x p ss d
beyond_is None p ss d t = absurd (false≢true t)
beyond_is (Some y) p [] d t = absurd (false≢true t)
beyond_is (Some y) p (s ∷ ss) d t = let same = tells_of y d.generation in let head = eqb (list_by y d.generation s.event) d.head in let low = leb (rank s.event p) (rank d.event d.row) in
    cond_both (eqb s.row p) (same && (head && low)) (is_beyond (Some y) (at_row p) ss d) (λ b. b ≡ true → Beyond (Some y) p (s ∷ ss) d)
    (λ yes h. let first = and_parts same (head && low) h in let rest = and_parts head low first.1 in record {
      control = y;
      found = refl;
      told = is_told y d.generation first.0;
      stand = s;
      stands = inl refl;
      row = eqb-true s.row p yes;
      head = eqb-true (list_by y d.generation s.event) d.head rest.0;
      low = leb-true (rank s.event p) (rank d.event d.row) rest.1;
    })
    (λ _ h. let r = beyond_is (Some y) p ss d h in
    record { control = r.control; found = r.found; told = r.told; stand = r.stand; stands = inr r.stands; row = r.row; head = r.head; low = r.low }) t

-- what the walk found where it goes past a name
record Past (x : Option Control) (cell : Cell) (ss : List Stand) (l : Link) (e : Event) (d : CutDebt) : Type 0 where
  cell_is : is_cell l.mark ≡ true
  generation : l.generation ≡ d.generation
  beyond : is_beyond x cell ss d ≡ true
  gone : (eqb l.row 0 || ltb (rank d.event d.row) (rank e l.row)) ≡ true

past_is : (x : Option Control) (cell : Cell) (ss : List Stand) (l : Link) (e : Event) (d : CutDebt) → is_past x cell ss l e d ≡ true → Past x cell ss l e d
past_is x cell ss l e d t = let gone = eqb l.row 0 || ltb (rank d.event d.row) (rank e l.row) in
    let one = and_parts (is_cell l.mark) (eqb l.generation d.generation && (is_beyond x cell ss d && gone)) t in
    let two = and_parts (eqb l.generation d.generation) (is_beyond x cell ss d && gone) one.1 in
    let three = and_parts (is_beyond x cell ss d) gone two.1 in
    record { cell_is = one.0; generation = eqb-true l.generation d.generation two.0; beyond = three.0; gone = three.1 }

-- a name that the walk isn't past stays, and one that is left was there
relieved_stays : (x : Option Control) (cell : Cell) (ss : List Stand) (l : Link) (e : Event) (o : Option CutDebt) (d : CutDebt) → o ≡ Some d → (is_past x cell ss l e d ≡ true → ⊥) → (is_other_front cell l d ≡ true → ⊥)
    → relieved x cell ss l e o ≡ Some d
relieved_stays x cell ss l e o d is here first = subst (λ o. relieved x cell ss l e o ≡ Some d) (sym is)
    (cond_both (is_past x cell ss l e d || is_other_front cell l d) None (Some d) (λ o. o ≡ Some d) (λ t. absurd (⊎_elim here first (or_cases (is_past x cell ss l e d) (is_other_front cell l d) t))) (λ _. refl))

relieved_some : (x : Option Control) (cell : Cell) (ss : List Stand) (l : Link) (e : Event) (o : Option CutDebt) (d : CutDebt) → relieved x cell ss l e o ≡ Some d → o ≡ Some d
relieved_some x cell ss l e None d is = is
relieved_some x cell ss l e (Some a) d is = cond_both (is_past x cell ss l e a || is_other_front cell l a) None (Some a) (λ o. o ≡ Some d → Some a ≡ Some d) (λ _ n. absurd (none-some d n)) (λ _ i. i) is

module _ (c : Core) (j g : ℕ) (b : j < c.start.layout.workers) (on : c.guard j ≡ On g) (inv : Inv c) where
  -- the rows that the caller stands on are covered
  covered_at : (r : ℕ) → In r (rows_of (c.rows j)) → IsGuarded (ground_of c) r
  covered_at r i = (j, g, record { inside = b; on = on; at = r; stands = row_footing c.rows c.old c.copying j r i; reaches = record { through = []; path = refl } })

  -- where the row after the cell isn't above the row r, the walk isn't past it
  not_past : (q r : ℕ) (l : Link) (d : CutDebt) → IsHead q → In l.row (c.chain q) → ranks c.words.event l.row ≤ ranks c.words.event r → rank d.event d.row ≡ ranks c.words.event r
      → (eqb l.row 0 || ltb (rank d.event d.row) (rank (c.words.event l.row) l.row)) ≡ true → ⊥
  not_past q r l d h i low same t = ⊎_elim
      (λ z. let e = eqb-true l.row 0 z in let some = listed_some c inv q h l.row i in omega arith)
      (λ z. let e = ltb-true (rank d.event d.row) (rank (c.words.event l.row) l.row) z in omega arith)
      (or_cases (eqb l.row 0) (ltb (rank d.event d.row) (rank (c.words.event l.row) l.row)) t)

  -- the name d is of the dead row r, which is listed
  module _ (d : CutDebt) (q r : ℕ) (place : d.head ≡ list_in c.shape d.generation d.event) (h : IsHead q) (i : In r (c.chain q)) (del : (c.words.link r).mark ≡ Del)
      (is : IsNamed c.words.head d r (c.words.event r) (c.words.link r)) where
    -- its list by the name
    list_is : q ≡ d.head
    list_is = sym (inv.sorted.belongs q r h i) ∙ ((λ k. list_in c.shape ((sym (inv.sorted.generation q r h i) ∙ sym is.generation) k) (sym is.event k)) ∙ sym place)

    rank_is : rank d.event d.row ≡ ranks c.words.event r
    rank_is = λ k. rank (is.event k) (is.row k)

    -- the name stays
    still_owed : (cell : Cell) → MayWalk (c.rows j) cell → is_past (c.found j).control cell (c.rows j) (cell_link c cell) (cell_event c cell) d ≡ true → ⊥
    still_owed (at_head p) may t = let past = past_is (c.found j).control (at_head p) (c.rows j) (c.words.head p) (cell_event c (at_head p)) d t in
        let same : q ≡ p = list_is ∙ eqb-true d.head p past.beyond in
        let m = least c.words.link (ranks c.words.event) (c.words.head p).row 0 r (c.chain p) (inv.chains.leads p may) (inv.sorted.rises p may) (subst (λ z. In r (c.chain z)) same i) in
        not_past p r (c.words.head p) d may m.0 m.1 rank_is past.gone
    still_owed (at_row p) may t = let past = past_is (c.found j).control (at_row p) (c.rows j) (c.words.link p) (cell_event c (at_row p)) d t in
        let s = beyond_is (c.found j).control p (c.rows j) d past.beyond in
        let in_list = covered_cell c inv p (covered_at p (subst (λ z. In z (rows_of (c.rows j))) s.row (rows_in (c.rows j) s.stand s.stands))) past.cell_is in
        let holds : c.words.event p ≡ s.stand.event = ap c.words.event (sym s.row) ∙ (inv.standing.each j s.stand b s.stands).holds in
        let generation : (c.words.head in_list.0).generation ≡ d.generation = sym (inv.sorted.generation in_list.0 p in_list.1 in_list.2) ∙ past.generation in
        let same : in_list.0 ≡ q = sym (inv.sorted.belongs in_list.0 p in_list.1 in_list.2)
        ∙ ((λ k. list_in c.shape (generation k) (holds k)) ∙ (found_told c inv j s.control b s.found d.generation s.told s.stand.event ∙ (s.head ∙ sym list_is))) in
        let low : ranks c.words.event p ≤ ranks c.words.event r = subst (λ z. ranks c.words.event p ≤ z) rank_is (subst (λ z. rank z p ≤ rank d.event d.row) (sym holds) s.low) in
        let m = adjacent c.words.link (ranks c.words.event) (c.words.head q).row 0 p r (c.chain q) (inv.chains.leads q h) (inv.sorted.rises q h) (subst (λ z. In p (c.chain z)) same in_list.2) i
        (λ e. cell_dead (c.words.link p).mark past.cell_is (ap (λ z. (c.words.link z).mark) e ∙ del)) low in
        not_past q r (c.words.link p) d h m.0 m.1 rank_is past.gone

    -- and it isn't of a front that another row took the place of
    still_front : (cell : Cell) → is_other_front cell (cell_link c cell) d ≡ true → ⊥
    still_front (at_row p) t = false≢true t
    still_front (at_head p) t = let l = c.words.head p in let other = cond (eqb l.row d.row) false true in let one = and_parts d.front (eqb d.head p && other) t in let two = and_parts (eqb d.head p) other one.1 in
        let first : l.row ≡ d.row = ap (λ z. (c.words.head z).row) (sym (eqb-true d.head p two.0)) ∙ ((is.front one.0).1 ∙ sym is.row) in
        false≢true (sym (ap (λ b. cond b false true) (eq-eqb l.row d.row first)) ∙ two.1)

-- What is known of the stands after a walk

abbrev Stands : Core → Stand → Type 0
Stands c = StandFits c.words.head c.words.link c.words.twin c.words.event

none_link : (l : Link) → None ≡ Some l → ⊥
none_link l e = cc

none_number : (t : ℕ) → None ≡ Some t → ⊥
none_number t e = cc

mov_is : (m : Mark) → is_mov m ≡ true → m ≡ Mov
mov_is Val e = absurd (false≢true e)
mov_is Invalid e = absurd (false≢true e)
mov_is Mov e = refl
mov_is Del e = absurd (false≢true e)

-- the first row of a frozen head
new_front : (c : Core) (cell : Cell) (q : ℕ) → front_of cell (cell_link c cell) ≡ Some q → ((c.words.head q).mark ≡ Mov) × ((c.words.head q).row ≡ (cell_link c cell).row)
new_front c (at_row r) q is = absurd (none_number q is)
new_front c (at_head h) q is = cond_both (is_mov (c.words.head h).mark) (Some h) None (λ o. o ≡ Some q → ((c.words.head q).mark ≡ Mov) × ((c.words.head q).row ≡ (c.words.head h).row))
    (λ yes e. let same : h ≡ q = same_Some h q e in (ap (λ z. (c.words.head z).mark) (sym same) ∙ mov_is (c.words.head h).mark yes, ap (λ z. (c.words.head z).row) (sym same))) (λ _ e. absurd (none_number q e)) is

new_fits : (c : Core) (cell : Cell) → (c.words.link (cell_link c cell).row).generation ≡ (cell_link c cell).generation → Stands c (new_stand cell (cell_link c cell) (cell_event c cell))
new_fits c cell of = record { holds = refl; of = of; last = λ l is. absurd (none_link l is); copy = λ t is. absurd (none_number t is); valid = λ v. absurd (false≢true v); front = λ q is. inr (new_front c cell q is) }

-- the row of the stand s, of which the link l was found
noted_fits : (c : Core) (s : Stand) (l : Link) → c.words.link s.row ≡ l → Stands c s → Stands c (noted_stand l s)
noted_fits c s l found was = record {
  holds = was.holds;
  of = was.of;
  last = λ m. cond_both (is_final l.mark) (Some l) s.last (λ o. o ≡ Some m → (c.words.link s.row ≡ m) × IsFinal m.mark)
      (λ yes e. let same = same_Some l m e in (found ∙ same, subst (λ (z : Link). IsFinal z.mark) same (final_is l.mark yes))) (λ _. was.last m);
  copy = was.copy;
  valid = cond_both (is_inv l.mark) s.valid true (λ b. b ≡ true → (c.words.link s.row).mark ≡ Invalid → ⊥) (λ _. was.valid)
      (λ no _ e. false≢true (sym no ∙ ap is_inv (ap (λ (z : Link). z.mark) (sym found) ∙ e)));
  front = was.front;
}

-- the history is longer than it was at the Begin of a take
pub read_now : (c : Core) (j : ℕ) → j < c.start.layout.workers → EndsInBegin (c.own j) → Inv c → (c.begun j < length c.history) × (length c.history ≤ length c.history)
read_now c j b ends inv = let began = inv.told.began j b ends in (let wide = ap length began.2.parts ∙ length-append began.0 (Begin j ∷ began.2.back) in let long = began.1 in omega arith, le_refl _)

-- an event that is owed was put
pub put_before : (c : Core) → Inv c → (i : ℕ) (d : SettleDebt) → i < c.start.layout.workers → c.settling i ≡ Some d → Contains (puts (take (length c.history) c.history)) d.event
put_before c inv i d b owes = take_all put_of c.history d.event (put_in i d.event c.history (inv.settling.owed i d b owes).0)

-- what a walk of a take leads to
module _ (c : Core) (j : ℕ) (b : j < c.start.layout.workers) (inv : Inv c) where
  -- a take has seen what it saw, since it read its table
  sees_after : (cell : Cell) (aim : Aim) (s : Sight) → c.sight j ≡ Some s → Sees (present_of c) (c.begun j) (new_read c j cell aim) s
  sees_after (at_row r) aim s sees = inv.walkers.seen j s b sees
  sees_after (at_head q) no_take s sees = inv.walkers.seen j s b sees
  sees_after (at_head q) in_bucket s sees = inv.walkers.seen j s b sees
  sees_after (at_head q) in_search s sees = subst (λ o. Sees (present_of c) (c.begun j) (read_from q o (length c.history) (c.read j)) s) (sym sees)
      (cond_both (eqb q (first_head_of s.table.generation)) (length c.history) (c.read j) (λ m. Sees (present_of c) (c.begun j) m s) (λ _. sees_now c inv j b s sees) (λ _. inv.walkers.seen j s b sees))

  -- a walk is of a table that was seen
  abbrev WalksOn : Cell → Aim → Walk → Type 0
  WalksOn cell aim w = (s : Sight) × (c.sight j ≡ Some s) × Walks c.history c.words.link c.words.event
      (record { sight = s; read = new_read c j cell aim; walk = w; rows = stands_after cell aim (Some w) (cell_link c cell) (cell_event c cell) (c.rows j) })

  -- it begins at a head
  head_after : (q : ℕ) (aim : Aim) → IsHead q → (o : Option Sight) → c.sight j ≡ o → MaySeek o (c.walk j) (at_head q) aim → (w : Walk) → head_walk aim q o (c.words.head q) (c.walk j) (c.rows j) ≡ Some w → WalksOn (at_head q) aim w
  head_after q aim h None sees may w is = absurd (none-some w is)
  head_after q aim h (Some s) sees may w is = (
    s,
    sees,
    subst (λ o. Walks c.history c.words.link c.words.event (record {
      sight = s;
      read = read_after (at_head q) aim o (length c.history) (c.read j);
      walk = w;
      rows = stands_after (at_head q) aim (Some w) (c.words.head q) (cell_event c (at_head q)) (c.rows j);
    })) (sym sees)
        (cond_both (begins_walk s (c.words.head q)) (begun_walk aim q s (c.words.head q) (c.walk j) (c.rows j)) None (λ o. o ≡ Some w → Walks c.history c.words.link c.words.event (record {
          sight = s;
          read = read_after (at_head q) aim (Some s) (length c.history) (c.read j);
          walk = w;
          rows = stands_after (at_head q) aim (Some w) (c.words.head q) (cell_event c (at_head q)) (c.rows j);
        }))
        (λ yes e. head_walks c inv j b s sees q aim h (begins_is s (c.words.head q) yes) may w e) (λ _ e. absurd (none-some w e)) is),
  )

  -- or goes on at its row
  row_after : (r : ℕ) (aim : Aim) → is_take aim ≡ true → In r (rows_of (c.rows j)) → (x : Walk) → c.walk j ≡ Some x → x.at ≡ r → (w : Walk) → cond (is_take aim) (walked (c.words.link r) (c.walk j)) None ≡ Some w → WalksOn (at_row r) aim w
  row_after r aim takes i x walks at w is = let l = c.words.link r in let old = inv.walkers.walked j x b walks in (
    old.0,
    old.1,
    subst (λ w. Walks c.history c.words.link c.words.event (record { sight = old.0; read = c.read j; walk = w; rows = stands_after (at_row r) aim (Some w) l (c.words.event l.row) (c.rows j) }))
        (same_Some (cond (is_passed l.mark) (record x { at = l.row }) x) w (sym (ap (walked l) walks) ∙ (sym (ap (λ t. cond t (walked l (c.walk j)) None) takes) ∙ is))) (walks_row c inv j b old.0 old.1 r aim x walks at i),
  )

  walks_after : (cell : Cell) (aim : Aim) → MayWalk (c.rows j) cell → MaySeek (c.sight j) (c.walk j) cell aim → (w : Walk) → new_walk c j cell aim ≡ Some w → WalksOn cell aim w
  walks_after (at_head q) aim may seek w is = head_after q aim may (c.sight j) refl seek w is
  walks_after (at_row r) no_take may seek w is = absurd (none-some w is)
  walks_after (at_row r) in_bucket may seek w is = row_after r in_bucket refl (subst (λ z. In z (rows_of (c.rows j))) may.1.2 (rows_in (c.rows j) may.1.0 may.1.1)) seek.0 seek.1 seek.2 w is
  walks_after (at_row r) in_search may seek w is = row_after r in_search refl (subst (λ z. In z (rows_of (c.rows j))) may.1.2 (rows_in (c.rows j) may.1.0 may.1.1)) seek.0 seek.1 seek.2 w is

  -- what is known of all takes
  pub walkers_walked : (cell : Cell) (aim : Aim) → MayWalk (c.rows j) cell → MaySeek (c.sight j) (c.walk j) cell aim → Walkers (present_of c) (takes_of (walked_from c j cell aim)) c.words.link c.words.event
  walkers_walked cell aim may seek = walkers_at (present_of c) (takes_of c) c.words.link c.words.event j (takes_of (walked_from c j cell aim))
      (λ k ne i. (c.begun k, put_else c.read j (new_read c j cell aim) k ne i, c.sight k, put_else c.walk j (new_walk c j cell aim) k ne i, put_else c.rows j (new_rows c j cell aim) k ne i))
      (λ s _ is. subst (λ r. Sees (present_of c) (c.begun j) r s) (sym (put_here c.read j (new_read c j cell aim))) (sees_after cell aim s is))
      (λ w _ is. let now = sym (put_here c.walk j (new_walk c j cell aim)) ∙ is in let n = walks_after cell aim may seek w now in (
        n.0,
        n.1,
        subst (λ (z : ℕ × List Stand). Walks c.history c.words.link c.words.event (record { sight = n.0; read = z.0; walk = w; rows = z.1 }))
            (λ i. (
              sym (put_here c.read j (new_read c j cell aim)) i,
              (ap (λ o. stands_after cell aim o (cell_link c cell) (cell_event c cell) (c.rows j)) (sym now) ∙ sym (put_here c.rows j (new_rows c j cell aim))) i,
            )) n.2,
      ))
      inv.walkers

-- A walk keeps the invariant
pub walk_keeps : (c : Core) (j : ℕ) (cell : Cell) (aim : Aim) → j < c.start.layout.workers → IsOn (c.guard j) → MayWalk (c.rows j) cell → MaySeek (c.sight j) (c.walk j) cell aim → Inv c → Inv (walked_from c j cell aim)
walk_keeps c j cell aim b is_on may seek inv = record {
  spelled = inv.spelled;
  reading = inv.reading;
  finds = inv.finds;
  guards = inv.guards;
  holders = inv.holders;
  cutting = inv.cutting;
  stamps = inv.stamps;
  chains = inv.chains;
  cover = record {
    free = λ k x r i v held. ⊎_elim (λ o. inv.cover.free k x r i o held) (λ h. listed_free c inv h.0 r i h.1 h.2 held) (old k x r v);
    tags = λ k x r t v has. ⊎_elim (λ o. inv.cover.tags k x r t o has) (λ h. absurd (listed_untagged c inv h.0 r t h.1 h.2 has)) (old k x r v);
    resting = λ k d off. dite (ℕ_discrete k j) (λ (e : k ≡ j). absurd (off (subst (λ z. IsOn (c.guard z)) (sym e) is_on))) (λ ne. stands_else c j cell aim k ne ∙ inv.cover.resting k d off);
  };
  sizes = inv.sizes;
  dues = dues_named _ _ _ _ _ _ _ (λ k d _ has. inl (names_before k d has)) inv.dues;
  steady = steady_names _ _ _ _ _ _ (λ k d _ has. inl (names_before k d has))
      (λ _ k _. put_all c.named j (new_names c j cell) (λ k t. (c.named k).second ≡ None → t.second ≡ None) (λ none. moved_second _ _ (ap (relieved (c.found j).control cell (c.rows j) (cell_link c cell) (cell_event c cell)) none)) (λ _ _ h. h) k) inv.steady;
  heads = inv.heads;
  sorted = inv.sorted;
  marks = inv.marks;
  standing = record {
    each = λ k s. put_all c.rows j (new_rows c j cell aim) (λ k ss. k < c.start.layout.workers → In s ss → Stands c s)
        (λ d i. ⊎_elim (inv.standing.each j s d) (⊎_elim (λ h. subst (Stands c) (sym h.1) (new_fits c cell (next_generation cell may h.0)))
        (λ h. subst (Stands c) (sym h.3) (noted_fits c h.0 (cell_link c cell) (sym (ap (link_at c.words.head c.words.link) h.2)) (inv.standing.each j h.0 d h.1))))
        (stood cell aim (new_walk c j cell aim) (cell_link c cell) (cell_event c cell) (c.rows j) s i)) (λ k _. inv.standing.each k s) k;
  };
  copying = inv.copying;
  lanes = record {
    is_row = λ r v. ⊎_elim (inv.lanes.is_row r) (λ h. (inv.holders.in_chain h.0 r h.1 h.2).0) (guarded r v);
    rises = λ r v some. ⊎_elim (λ o. inv.lanes.rises r o some) (λ h. (chain_next c inv h.0 r h.1 h.2 some).1) (guarded r v);
    stays = λ r v some. ⊎_elim (λ o. inv.lanes.stays r o some) (λ h. chain_stays c inv h.0 r h.1 h.2 some) (guarded r v);
    generation = λ r v some. ⊎_elim (λ o. inv.lanes.generation r o some)
        (λ h. inv.sorted.generation h.0 (c.words.link r).row h.1 (chain_next c inv h.0 r h.1 h.2 some).0 ∙ sym (inv.sorted.generation h.0 r h.1 h.2)) (guarded r v);
    twins = λ r v frozen some. ⊎_elim (λ o. inv.lanes.twins r o frozen some) (λ h. let copy = inv.copies.bound r (c.words.twin r) (listed_bound c inv h.0 r h.1 h.2 frozen some) in (copy.generation, copy.event_is)) (guarded r v);
  };
  writing = inv.writing;
  naming = record {
    named = λ r q row held del. let o = inv.naming.named r q row held del in let in_list = inv.holders.of_chain q r row held in let x = o.2.0 in let place = (inv.dues.named o.0 x o.1 o.2.1).1 in (
      o.0,
      o.1,
      (
        x,
        put_all c.named j (new_names c j cell) (λ k t. HasName (c.named k) x → HasName t x)
            (λ has. has_moved _ _ x (let stays : (d : Option CutDebt) → d ≡ Some x → relieved (c.found j).control cell (c.rows j) (cell_link c cell) (cell_event c cell) d ≡ Some x = λ d is.
            relieved_stays (c.found j).control cell (c.rows j) (cell_link c cell) (cell_event c cell) d x is
            (still_owed c j on.0 b on.1 inv x q r place in_list.0 in_list.1 del o.2.2 cell may) (still_front c j on.0 b on.1 inv x q r place in_list.0 in_list.1 del o.2.2 cell) in
            ⊎_elim (λ is. inl (stays (c.named j).first is)) (λ is. inr (stays (c.named j).second is)) has))
            (λ _ _ h. h) o.0 o.2.1,
        o.2.2,
      ),
    );
    place = λ k x d has. inv.naming.place k x d (names_before k x has);
  };
  carriers = inv.carriers;
  told = inv.told;
  scarce = inv.scarce;
  refusals = inv.refusals;
  swept = swept_walked c j b inv cell aim;
  helps = helps_walked _ _ _ _ _ _ inv.sizes.now inv.finds _ _ _ j cell inv.heads inv.helps;
  numbers = inv.numbers;
  bounds = inv.bounds;
  settling = inv.settling;
  walkers = walkers_walked c j b inv cell aim may seek;
  ahead = inv.ahead;
  copies = record {
    bound = inv.copies.bound;
    one = inv.copies.one;
    owned = inv.copies.owned;
    apart = inv.copies.apart;
    alone = inv.copies.alone;
    left = λ r v frozen out. ⊎_elim (λ o. inv.copies.left r o frozen out) (λ h. absurd (out (h.0, (inv.holders.in_chain h.0 r h.1 h.2).1))) (guarded r v);
    debt = inv.copies.debt;
  };
  rooms = record {
    ordered = λ k. put_all c.named j (new_names c j cell) (λ k t. k < c.start.layout.workers → t.first ≡ None → t.second ≡ None)
        (λ _. moved_ordered (relieved (c.found j).control cell (c.rows j) (cell_link c cell) (cell_event c cell) (c.named j).first) (relieved (c.found j).control cell (c.rows j) (cell_link c cell) (cell_event c cell) (c.named j).second))
        (λ k _. inv.rooms.ordered k) k;
    room = λ k d. put_all c.named j (new_names c j cell) (λ k t. k < c.start.layout.workers → c.copying k ≡ Some d → t.second ≡ None)
        (λ b' is. moved_second _ _ (ap (relieved (c.found j).control cell (c.rows j) (cell_link c cell) (cell_event c cell)) (inv.rooms.room j d b' is))) (λ k _. inv.rooms.room k d) k;
  };
  bare = inv.bare;
  unlinked = inv.unlinked;
  ends = ends_walked c j inv cell aim b may;
}
  where
    on : (g : ℕ) × (c.guard j ≡ On g)
    on = on_is (c.guard j) is_on

    -- the row that the cell names is of its table
    next_generation : (cell : Cell) → MayWalk (c.rows j) cell → 0 < (cell_link c cell).row → (c.words.link (cell_link c cell).row).generation ≡ (cell_link c cell).generation
    next_generation (at_head q) may some = inv.sorted.generation q (c.words.head q).row may (first_in c.words.link (ranks c.words.event) (c.words.head q).row (c.chain q) (inv.chains.leads q may) some)
    next_generation (at_row p) may some = inv.lanes.generation p (covered_at c j on.0 b on.1 inv p (subst (λ z. In z (rows_of (c.rows j))) may.1.2 (rows_in (c.rows j) may.1.0 may.1.1))) some

    old : (k x r : ℕ) → Covers (ground_of (walked_from c j cell aim)) k x r → Covers (ground_of c) k x r ⊎ IsListed c r
    old k x r v = before c j cell aim may inv k x r v

    names_before : (k : ℕ) (d : CutDebt) → HasName (put c.named j (new_names c j cell) k) d → HasName (c.named k) d
    names_before k d = put_all c.named j (new_names c j cell) (λ k x. HasName x d → HasName (c.named k) d)
        (λ has. ⊎_elim (λ is. inl (relieved_some (c.found j).control cell (c.rows j) (cell_link c cell) (cell_event c cell) (c.named j).first d is))
        (λ is. inr (relieved_some (c.found j).control cell (c.rows j) (cell_link c cell) (cell_event c cell) (c.named j).second d is)) (was_left _ _ d has)) (λ _ _ h. h) k

    guarded : (r : ℕ) → IsGuarded (ground_of (walked_from c j cell aim)) r → IsGuarded (ground_of c) r ⊎ IsListed c r
    guarded r v = ⊎_elim (λ o. inl (v.0, v.1, o)) inr (old v.0 v.1 r v.2)
