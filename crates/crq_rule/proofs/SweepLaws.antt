-- How the part on sweeps stays.
use Rattle.std.proofs.Common.{◌≡◌, ◌≢◌, ⊎_elim, inl, inr, Bool, true, false, cond, eqb, leb, ◌&&◌, ℕ, ◌<◌, ◌≤◌, List, [], ◌∷◌, ◌++◌, Option, Some, None, sym, refl, ap, ◌∙◌, subst, arith}
use Rattle.std.proofs.lemmas.Bool.{false≢true, leb-true, eqb-true}
use Rattle.std.specs.List.{Contains}
use Rattle.std.proofs.lemmas.List.Elements.{Contains-append_left}
use Rattle.crq_base.specs.declared.event.Event.{Event}
use Rattle.crq_base.specs.declared.entry.Entry.{Entry}
use Rattle.crq_base.specs.declared.entry.Entry.TheVariants.{Begin, Put}
use Rattle.crq_base.specs.declared.words.Link.{Link}
use Rattle.crq_base.specs.declared.words.Control.{Control}
use Rattle.crq_base.specs.declared.words.Mark.{Mark}
use Rattle.crq_base.specs.declared.words.Mark.TheVariants.{Val, Inv as Invalid, Mov, Del}
use Rattle.crq_base.specs.Histories.{puts, outs}
use Rattle.crq_base.proofs.HistoryLaws.{outs-append}
use Rattle.crq_base.specs.Lists.{In}
use Rattle.crq_rule.specs.declared.layout.Layout.{Layout}
use Rattle.crq_rule.specs.declared.view.Stand.{Stand}
use Rattle.crq_rule.specs.declared.view.Sweep.{Sweep}
use Rattle.crq_rule.specs.Lists.{put}
use Rattle.crq_rule.specs.Places.{IsRow, IsHomeRow, IsHead}
use Rattle.crq_rule.specs.Core.{Core}
use Rattle.crq_rule.specs.Parts.{Leads}
use Rattle.crq_rule.specs.ListParts.{ranks}
use Rattle.crq_rule.specs.Ranks.{rank, list_in, IsTold, tells_of, list_by, Cell, at_head, at_row, link_at, Rises, after_cell, without_row}
use Rattle.crq_rule.specs.ScarceParts.{WasOut, Swept}
use Rattle.crq_rule.specs.Invariant.{Inv}
use Rattle.crq_rule.specs.ListKinds.{Aim, no_take, in_bucket, in_search, is_cell, is_val, is_passing, swept_head, taken_on, sweep_on, clean_on}
use Rattle.crq_rule.proofs.Puts.{put_all}
use Rattle.crq_rule.proofs.HistoryLaws.{not_out}
use Rattle.crq_rule.proofs.ChainLaws.{in_cell}
use Rattle.crq_rule.proofs.Pendings.{split_entry, both}
use Rattle.crq_rule.proofs.CoverLaws.{guarded_by}
use Rattle.crq_rule.proofs.HeadLaws.{cell_listed, val_carries}
use Rattle.crq_rule.proofs.SteadyLaws.{found_told, is_told}
use Rattle.crq_rule.proofs.Lawfuls.{stand_covered}

pub none_sweep : (s : Sweep) → None ≡ Some s → ⊥
none_sweep s e = cc

same_sweep : (s t : Sweep) → Some s ≡ Some t → s ≡ t
same_sweep s t e = cc

-- what was out at a Begin is out
pub was_out : (h : List Entry) (k : ℕ) (e : Event) → WasOut h k e → Contains (outs h) e
was_out h k e w = subst (λ z. Contains (outs z) e) (sym w.2) (subst (λ z. Contains z e) (sym (outs-append w.0 (Begin k ∷ w.1))) (Contains-append_left (outs w.0) (outs (Begin k ∷ w.1)) e w.3))

-- and at none of entries that aren't a Begin of the caller
pub was_before : (h more : List Entry) (k : ℕ) (e : Event) → (In (Begin k) more → ⊥) → WasOut (h ++ more) k e → WasOut h k e
was_before h more k e none w = ⊎_elim (λ t. (w.0, t.0, t.1, w.3)) (λ i. absurd (none i)) (split_entry h more w.0 w.1 (Begin k) w.2)

module _ (l : Layout) (history : List Entry) (event : ℕ → Event) (chain : ℕ → List ℕ) (sweep : ℕ → Option Sweep) (clean : ℕ → List ℕ) where
  pub swept_grown : (more : List Entry) → ((k : ℕ) → In (Begin k) more → ⊥) → Swept l history event chain sweep clean → Swept l (history ++ more) event chain sweep clean
  swept_grown more none old = record {
    left = λ k r s b is head home i w. old.left k r s b is head home i (was_before history more k (event r) (none k) w);
    clean_is = λ k q r b c head home i w. old.clean_is k q r b c head home i (was_before history more k (event r) (none k) w);
  }

  -- a caller begins anew
  pub swept_begun : (j : ℕ) → ((k : ℕ) → k ≢ j → In (Begin k) (Begin j ∷ []) → ⊥) → Swept l history event chain sweep clean → Swept l (history ++ Begin j ∷ []) event chain (put sweep j None) (put clean j [])
  swept_begun j none old = record {
    left = λ k r s b is head home i w. put_all sweep j None (λ k o. k < l.workers → o ≡ Some s → IsHomeRow l k r → WasOut (history ++ Begin j ∷ []) k (event r) → s.rank ≤ rank (event r) r) (λ _ e. absurd (none_sweep s e))
        (λ k ne b is home w. old.left k r s b is head home i (was_before history (Begin j ∷ []) k (event r) (none k ne) w)) k b is home w;
    clean_is = λ k q r b c head home i w. put_all clean j [] (λ k qs. k < l.workers → In q qs → IsHomeRow l k r → WasOut (history ++ Begin j ∷ []) k (event r) → ⊥) (λ _ n. absurd n)
        (λ k ne b c home w. old.clean_is k q r b c head home i (was_before history (Begin j ∷ []) k (event r) (none k ne) w)) k b c home w;
  }

  -- events of listed rows stay
  pub swept_events : (event' : ℕ → Event) → ((q r : ℕ) → IsHead q → In r (chain q) → event' r ≡ event r) → Swept l history event chain sweep clean → Swept l history event' chain sweep clean
  swept_events event' same old = record {
    left = λ k r s b is head home i w. subst (λ e. s.rank ≤ rank e r) (sym (same s.head r head i)) (old.left k r s b is head home i (subst (WasOut history k) (same s.head r head i) w));
    clean_is = λ k q r b c head home i w. old.clean_is k q r b c head home i (subst (WasOut history k) (same q r head i) w);
  }

  -- lists of no new row whose event was out
  pub swept_chains : (chain' : ℕ → List ℕ) → ((k q r : ℕ) → k < l.workers → IsHomeRow l k r → WasOut history k (event r) → In r (chain' q) → In r (chain q)) → Swept l history event chain sweep clean → Swept l history event chain' sweep clean
  swept_chains chain' was old = record {
    left = λ k r s b is head home i w. old.left k r s b is head home (was k s.head r b home w i) w;
    clean_is = λ k q r b c head home i w. old.clean_is k q r b c head home (was k q r b home w i) w;
  }

still_in : (x r : ℕ) (xs : List ℕ) → In r (without_row x xs) → In r xs
still_in x r [] i = i
still_in x r (y ∷ ys) i = by (eqb y x) i (still_in x r ys)
  where
    by : (t : Bool) → In r (cond t ys (y ∷ without_row x ys)) → (In r (without_row x ys) → In r ys) → In r (y ∷ ys)
    by true i rest = inr i
    by false i rest = ⊎_elim inl (λ t. inr (rest t)) i

-- a row leaves its list
pub swept_cut : (l : Layout) (history : List Entry) (event : ℕ → Event) (chain : ℕ → List ℕ) (sweep : ℕ → Option Sweep) (clean : ℕ → List ℕ) (q x : ℕ) → Swept l history event chain sweep clean
    → Swept l history event (put chain q (without_row x (chain q))) sweep clean
swept_cut l history event chain sweep clean q x old = swept_chains l history event chain sweep clean (put chain q (without_row x (chain q)))
    (λ k p r _ _ _ i. put_all chain q (without_row x (chain q)) (λ p rows. In r rows → In r (chain p)) (still_in x r (chain q)) (λ _ _ i. i) p i) old

-- a row whose event was never put comes into a list
pub swept_linked : (c : Core) (j : ℕ) (cell : Cell) (q r : ℕ) (e : Event) → j < c.start.layout.workers → IsHomeRow c.start.layout j r → c.words.event r ≡ e → (Contains (puts c.history) e → ⊥) → Inv c
    → Swept c.start.layout (c.history ++ Put j e ∷ []) c.words.event c.chain c.sweep c.clean → ((k : ℕ) → In (Begin k) (Put j e ∷ []) → ⊥)
    → Swept c.start.layout (c.history ++ Put j e ∷ []) c.words.event (put c.chain q (after_cell cell r (c.chain q))) c.sweep c.clean
swept_linked c j cell q r e b home is new inv old none = swept_chains _ _ _ _ _ _ (put c.chain q (after_cell cell r (c.chain q)))
    (λ k p s _ _ w i. put_all c.chain q (after_cell cell r (c.chain q)) (λ p rows. In s rows → In s (c.chain p))
    (λ i. ⊎_elim (λ (same : s ≡ r). absurd (not_out _ _ _ _ _ e inv.told new (was_out c.history k e (was_before c.history (Put j e ∷ []) k e (none k) (subst (WasOut (c.history ++ Put j e ∷ []) k) (ap c.words.event same ∙ is) w))))) (λ t. t) (in_cell cell r s (c.chain q) i)) (λ _ _ i. i) p i) old

-- Chains: the row behind another one is the next greater

module _ (link : ℕ → Link) (rk : ℕ → ℕ) where
  -- the rows of a list that rises from n are above n
  above : (n r : ℕ) (ys : List ℕ) → Rises rk n ys → In r ys → n < rk r
  above n r [] up i = absurd i
  above n r (y ∷ ys) up i = ⊎_elim (λ (e : r ≡ y). subst (λ z. n < rk z) (sym e) up.0) (λ t. let h = above (rk y) r ys up.1 t in let low = up.0 in omega arith) i

  -- the first row of a list is the least, where there is one
  pub first_least : (a n r : ℕ) (ys : List ℕ) → Leads link a ys → Rises rk n ys → ((s : ℕ) → In s ys → 0 < s) → In r ys → (a ≡ 0 → ⊥) × (rk a ≤ rk r)
  first_least a n r [] l up some i = absurd i
  first_least a n r (y ∷ ys) l up some i = let here : a ≡ y = l.0 in (λ z. let s = some y (inl refl) in absurd (omega arith), subst (λ z. rk z ≤ rk r) (sym here) (⊎_elim (λ (e : r ≡ y). subst (λ z. rk y ≤ rk z) (sym e) (omega arith)) (λ t. let h = above (rk y) r ys up.1 t in omega arith) i))

  pub next_least : (a n p r : ℕ) (ys : List ℕ) → Leads link a ys → Rises rk n ys → ((s : ℕ) → In s ys → 0 < s) → In p ys → In r ys → r ≢ p → rk p ≤ rk r → ((link p).row ≡ 0 → ⊥) × (rk (link p).row ≤ rk r)
  next_least a n p r [] l up some i j ne low = absurd i
  next_least a n p r (y ∷ ys) l up some i j ne low = ⊎_elim
      (λ (e : p ≡ y). let k : In r ys = ⊎_elim (λ (f : r ≡ y). absurd (ne (f ∙ sym e))) (λ t. t) j in
      subst (λ z. ((link z).row ≡ 0 → ⊥) × (rk (link z).row ≤ rk r)) (sym e) (first_least (link y).row (rk y) r ys l.1 up.1 (λ s t. some s (inr t)) k))
      (λ t. ⊎_elim (λ (f : r ≡ y). let h = above (rk y) p ys up.1 t in let same : rk r ≡ rk y = ap rk f in absurd (omega arith))
      (λ u. next_least (link y).row (rk y) p r ys l.1 up.1 (λ s t. some s (inr t)) t u ne low) j) i

-- A walk

pub val_is : (m : Mark) → is_val m ≡ true → m ≡ Val
val_is Val e = refl
val_is Invalid e = absurd (false≢true e)
val_is Mov e = absurd (false≢true e)
val_is Del e = absurd (false≢true e)

pub del_val : Del ≡ Val → ⊥
del_val e = cc

record Passing (x : Option Control) (p : ℕ) (ss : List Stand) (s : Sweep) : Type 0 where
  control : Control
  found : x ≡ Some control
  stand : Stand
  stands : In stand ss
  row : stand.row ≡ p
  told : IsTold control stand.generation
  head : list_by control stand.generation stand.event ≡ s.head
  low : rank stand.event p ≤ s.rank

passes : (x : Option Control) (p : ℕ) (ss : List Stand) (s : Sweep) → is_passing x p ss s ≡ true → Passing x p ss s
passes None p ss s e = absurd (false≢true e)
passes (Some x) p [] s e = absurd (false≢true e)
passes (Some x) p (t ∷ ss) s e = by (eqb t.row p) refl e (passes (Some x) p ss s)
  where
    by : (b : Bool) → eqb t.row p ≡ b → cond b (tells_of x t.generation && (eqb (list_by x t.generation t.event) s.head && leb (rank t.event p) s.rank)) (is_passing (Some x) p ss s) ≡ true → (is_passing (Some x) p ss s ≡ true → Passing (Some x) p ss s) → Passing (Some x) p (t ∷ ss) s
    by true at e rest = let g = both (tells_of x t.generation) (eqb (list_by x t.generation t.event) s.head && leb (rank t.event p) s.rank) e in let h = both (eqb (list_by x t.generation t.event) s.head) (leb (rank t.event p) s.rank) g.1 in record {
      control = x;
      found = refl;
      stand = t;
      stands = inl refl;
      row = eqb-true t.row p at;
      told = is_told x t.generation g.0;
      head = eqb-true (list_by x t.generation t.event) s.head h.0;
      low = leb-true (rank t.event p) s.rank h.1;
    }
    by false at e rest = let h = rest e in record { control = h.control; found = h.found; stand = h.stand; stands = inr h.stands; row = h.row; told = h.told; head = h.head; low = h.low }

module _ (c : Core) (j : ℕ) (b : j < c.start.layout.workers) (inv : Inv c) where
  -- behind a cell that is present, whose link is l, no row whose event was out comes before the one that is named
  abbrev Behind : ℕ → Link → Type 0
  Behind q l = (r : ℕ) → IsHead q → IsHomeRow c.start.layout j r → In r (c.chain q) → WasOut c.history j (c.words.event r) → (l.row ≡ 0 → ⊥) × (ranks c.words.event l.row ≤ ranks c.words.event r)

  rows_some : (q s : ℕ) → IsHead q → In s (c.chain q) → 0 < s
  rows_some q s head i = (inv.holders.in_chain q s head i).0.0

  behind_head : (q : ℕ) → Behind q (c.words.head q)
  behind_head q r head home i w = first_least c.words.link (ranks c.words.event) (c.words.head q).row 0 r (c.chain q) (inv.chains.leads q head) (inv.sorted.rises q head) (λ s t. rows_some q s head t) i

  behind_row : (p : ℕ) (s : Sweep) → c.sweep j ≡ Some s → Passing (c.found j).control p (c.rows j) s → (c.words.link p).mark ≡ Val → Behind s.head (c.words.link p)
  behind_row p s is t val r head home i w = let v = stand_covered c j t.stand b t.stands inv in
      let holds : c.words.event p ≡ t.stand.event = ap c.words.event (sym t.row) ∙ (inv.standing.each j t.stand b t.stands).holds in
      let row : IsRow c.start.layout p = subst (IsRow c.start.layout) t.row (inv.lanes.is_row t.stand.row (guarded_by j v)) in
      let at = cell_listed (c.holding p) (c.words.link p).mark (ap is_cell val) (λ k held. inv.cover.free j v.0 t.stand.row k v.1 (ap c.holding t.row ∙ held)) (inv.marks.mark p row) in
      let in_list = inv.holders.of_chain at.0 p row at.1 in
      let now = sym (inv.sorted.generation at.0 p in_list.0 in_list.1) ∙ subst (λ z. (c.words.link z).generation ≡ t.stand.generation) t.row (inv.standing.each j t.stand b t.stands).of in
      let list : at.0 ≡ s.head = sym (inv.sorted.belongs at.0 p in_list.0 in_list.1) ∙ ((λ k. list_in c.shape (now k) (holds k)) ∙ (found_told c inv j t.control b t.found t.stand.generation t.told t.stand.event ∙ t.head)) in
      let here : In p (c.chain s.head) = subst (λ q. In p (c.chain q)) list in_list.1 in
      let apart : r ≢ p = λ same. (inv.carriers.pending p (row, (at.0, at.1), val_carries (c.words.link p).mark (c.words.twin p) (c.words.link (c.words.twin p)).mark val)).kept (was_out c.history j (c.words.event p) (subst (λ z. WasOut c.history j (c.words.event z)) same w)) in
      let high = inv.swept.left j r s b is head home i w in let low : ranks c.words.event p ≤ s.rank = subst (λ e. rank e p ≤ s.rank) (sym holds) t.low in
      next_least c.words.link (ranks c.words.event) (c.words.head s.head).row 0 p r (c.chain s.head) (inv.chains.leads s.head head) (inv.sorted.rises s.head head) (λ s' t. rows_some s.head s' head t) here i apart (omega arith)

  -- what the sweep and the clean lists of the caller are after that
  record Sweeps (o : Option Sweep) (qs : List ℕ) : Type 0 where
    left : (r : ℕ) (s : Sweep) → o ≡ Some s → IsHead s.head → IsHomeRow c.start.layout j r → In r (c.chain s.head) → WasOut c.history j (c.words.event r) → s.rank ≤ ranks c.words.event r
    clean_is : (q r : ℕ) → In q qs → IsHead q → IsHomeRow c.start.layout j r → In r (c.chain q) → WasOut c.history j (c.words.event r) → ⊥

  sweeps_old : Sweeps (c.sweep j) (c.clean j)
  sweeps_old = record { left = λ r s is. inv.swept.left j r s b is; clean_is = λ q r i. inv.swept.clean_is j q r b i }

  sweeps_taken : (q : ℕ) (l : Link) → (l.mark ≡ Val → Behind q l) → Sweeps (sweep_on (Some q) l (c.words.event l.row) (c.sweep j)) (clean_on (Some q) l (c.clean j))
  sweeps_taken q l behind = by (is_val l.mark) (eqb l.row 0) refl refl
    where
      by : (v z : Bool) → is_val l.mark ≡ v → eqb l.row 0 ≡ z → Sweeps (cond v (cond z None (Some (record { head = q; rank = rank (c.words.event l.row) l.row }))) (c.sweep j)) (cond (v && z) (q ∷ c.clean j) (c.clean j))
      by false z at end = sweeps_old
      by true true at end = record {
        left = λ r s is. absurd (none_sweep s is);
        clean_is = λ p r i head home t w. ⊎_elim (λ (e : p ≡ q). absurd ((behind (val_is l.mark at) r (subst IsHead e head) home (subst (λ z. In r (c.chain z)) e t) w).0 (eqb-true l.row 0 end))) (λ old. inv.swept.clean_is j p r b old head home t w) i;
      }
      by true false at end = record {
        left = λ r s is head home t w. let same = same_sweep (record { head = q; rank = rank (c.words.event l.row) l.row }) s is in let at_head : q ≡ s.head = ap (λ (s : Sweep). s.head) same in
            subst (λ z. z ≤ ranks c.words.event r) (ap (λ (s : Sweep). s.rank) same) (behind (val_is l.mark at) r (subst IsHead (sym at_head) head) home (subst (λ z. In r (c.chain z)) (sym at_head) t) w).1;
        clean_is = λ p r i. inv.swept.clean_is j p r b i;
      }

  sweeps_after : (cell : Cell) → Sweeps (sweep_on (swept_head (c.found j).control cell (c.rows j) (c.sweep j)) (link_at c.words.head c.words.link cell) (c.words.event (link_at c.words.head c.words.link cell).row) (c.sweep j))
      (clean_on (swept_head (c.found j).control cell (c.rows j) (c.sweep j)) (link_at c.words.head c.words.link cell) (c.clean j))
  sweeps_after (at_head q) = sweeps_taken q (c.words.head q) (λ _. behind_head q)
  sweeps_after (at_row p) = by (c.sweep j) refl
    where
      l : Link
      l = c.words.link p

      if_passing : (s : Sweep) → c.sweep j ≡ Some s → (t : Bool) → is_passing (c.found j).control p (c.rows j) s ≡ t
          → Sweeps (sweep_on (cond t (Some s.head) None) (c.words.link p) (c.words.event (c.words.link p).row) (c.sweep j)) (clean_on (cond t (Some s.head) None) (c.words.link p) (c.clean j))
      if_passing s is true at = sweeps_taken s.head (c.words.link p) (λ val. behind_row p s is (passes (c.found j).control p (c.rows j) s at) val)
      if_passing s is false at = sweeps_old

      by : (o : Option Sweep) → c.sweep j ≡ o → Sweeps (sweep_on (swept_head (c.found j).control (at_row p) (c.rows j) o) (c.words.link p) (c.words.event (c.words.link p).row) (c.sweep j))
          (clean_on (swept_head (c.found j).control (at_row p) (c.rows j) o) (c.words.link p) (c.clean j))
      by None is = sweeps_old
      by (Some s) is = if_passing s is (is_passing (c.found j).control p (c.rows j) s) refl

  sweeps_both : (cell : Cell) (aim : Aim) → Sweeps (sweep_on (taken_on aim (c.found j).control cell (c.rows j) (c.sweep j)) (link_at c.words.head c.words.link cell) (c.words.event (link_at c.words.head c.words.link cell).row) (c.sweep j))
      (clean_on (taken_on aim (c.found j).control cell (c.rows j) (c.sweep j)) (link_at c.words.head c.words.link cell) (c.clean j))
  sweeps_both cell no_take = sweeps_after cell
  sweeps_both cell in_bucket = sweeps_old
  sweeps_both cell in_search = sweeps_old

  pub swept_walked : (cell : Cell) (aim : Aim) → Swept c.start.layout c.history c.words.event c.chain
      (put c.sweep j (sweep_on (taken_on aim (c.found j).control cell (c.rows j) (c.sweep j)) (link_at c.words.head c.words.link cell) (c.words.event (link_at c.words.head c.words.link cell).row) (c.sweep j)))
      (put c.clean j (clean_on (taken_on aim (c.found j).control cell (c.rows j) (c.sweep j)) (link_at c.words.head c.words.link cell) (c.clean j)))
  swept_walked cell aim = let now = sweeps_both cell aim in record {
    left = λ k r s inside is head home i w. put_all c.sweep j _ (λ k o. k < c.start.layout.workers → o ≡ Some s → IsHomeRow c.start.layout k r → WasOut c.history k (c.words.event r) → s.rank ≤ ranks c.words.event r)
        (λ _ is home w. now.left r s is head home i w) (λ k _ inside is home w. inv.swept.left k r s inside is head home i w) k inside is home w;
    clean_is = λ k q r inside t head home i w. put_all c.clean j _ (λ k qs. k < c.start.layout.workers → In q qs → IsHomeRow c.start.layout k r → WasOut c.history k (c.words.event r) → ⊥)
        (λ _ t home w. now.clean_is q r t head home i w) (λ k _ inside t home w. inv.swept.clean_is k q r inside t head home i w) k inside t home w;
  }
