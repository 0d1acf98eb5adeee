-- How far a take has come after a step of its walk: in the bucket of current, or in a search.
use Rattle.std.proofs.Common.{◌≡◌, ◌≢◌, ◌⊎◌, ⊎_elim, inl, inr, ℕ, ◌+◌, ◌<◌, true, cond, eqb, List, [], ◌∷◌, length, take, Option, Some, None, sym, refl, ap, ◌∙◌, subst, eq-eqb, ne_eqb, arith, le_refl, pow_pos}
use Rattle.std.proofs.lemmas.Bool.{cond_both, eqb-true, and_parts}
use Rattle.std.proofs.lemmas.Option.{same_Some, none-some}
use Rattle.std.specs.List.{Contains}
use mathlib.Core.Logic.{dite}
use native.Mathlib.Decide.{ℕ_discrete}
use Rattle.crq_base.specs.declared.event.Event.{Event}
use Rattle.crq_base.specs.declared.words.Link.{Link}
use Rattle.crq_base.specs.declared.words.Mark.TheVariants.{Val}
use Rattle.crq_base.specs.Histories.{put_of, puts, outs}
use Rattle.crq_base.specs.Lists.{In}
use Rattle.crq_rule.specs.declared.view.Sight.{Sight}
use Rattle.crq_rule.specs.declared.view.Stand.{Stand}
use Rattle.crq_rule.specs.declared.view.Walk.{Walk}
use Rattle.crq_rule.specs.Places.{IsHead}
use Rattle.crq_rule.specs.Core.{Core}
use Rattle.crq_rule.specs.Parts.{ground_of, IsEvent, IsGuarded, IsPath, Leads, Follows, rows_of}
use Rattle.crq_rule.specs.ListParts.{ranks}
use Rattle.crq_rule.specs.HistoryParts.{StandsFrom, IsNotBefore, Sees, Walks}
use Rattle.crq_rule.specs.Ranks.{at_head, at_row, first_head_of, head_for, head_of, shape_of, bucket, IsOpen}
use Rattle.crq_rule.specs.ListKinds.{Aim, no_take, in_bucket, in_search, is_passed, is_val, stands_after, new_walk, begins_walk, bucket_seen, best_of, least_after, read_after, read_from, IsNextHead, MaySeek}
use Rattle.crq_rule.specs.Invariant.{present_of, Inv}
use Rattle.crq_rule.proofs.HeadLaws.{passed_kept}
use Rattle.crq_rule.proofs.Prefixes.{of_take, take_more, drop_none}
use Rattle.crq_rule.proofs.SearchLaws.{head_low, head_high, own_walk, best_kept, search_done, stand_covered}
use Rattle.crq_rule.proofs.Standings.{first_in, reached, row_stays, row_next, least_stand}
use Rattle.crq_rule.proofs.SteadyLaws.{list_carries}
use Rattle.crq_rule.proofs.SweepLaws.{val_is}

some_none : (b : ℕ) → Some b ≡ None → ⊥
some_none b e = cc

none_pair : (z : ℕ × Event) → None ≡ Some z → ⊥
none_pair z e = cc

-- links lead from the first row to each other one
followed : (link : ℕ → Link) (a y : ℕ) (xs : List ℕ) → ((r : ℕ) → In r xs → 0 < r) → Leads link a xs → In y xs → (0 < a) × Follows link a y
followed link a y xs some leads i = reached link (λ _. 0) a y xs some leads i

-- the first step of a way is by the row's link
first_step : (link : ℕ → Link) (r y : ℕ) (ps : List ℕ) → r ≢ y → IsPath link (λ _. 0) r ps y → (0 < (link r).row) × Follows link (link r).row y
first_step link r y [] ne path = absurd (ne path)
first_step link r y (p ∷ ps) ne path = ⊎_elim
    (λ (e : (link r).row ≡ p). (subst (λ z. 0 < z) (sym e) path.0.0, record { through = ps; path = subst (λ z. IsPath link (λ _. 0) z ps y) (sym e) path.1 }))
    (λ none. let some = path.0.0 in absurd (omega arith)) path.0.1

-- what is seen where a walk begins
pub record Begins (s : Sight) (l : Link) : Type 0 where
  pub val : l.mark ≡ Val
  pub generation : l.generation ≡ s.table.generation

pub begins_is : (s : Sight) (l : Link) → begins_walk s l ≡ true → Begins s l
begins_is s l t = let p = and_parts (is_val l.mark) (eqb l.generation s.table.generation) t in record { val = val_is l.mark p.0; generation = eqb-true l.generation s.table.generation p.1 }

-- a search that begins has no least row yet
first_least : (s : Sight) (q : ℕ) (o : Option Walk) (ss : List Stand) → q ≡ first_head_of s.table.generation → least_after s.table q o ss ≡ None
first_least s q None ss first = refl
first_least s q (Some w) ss first = ap (λ t. cond t None (best_of w ss)) (eq-eqb q (first_head_of s.table.generation) first)

-- and one that goes on has that of its lists before
next_least : (s : Sight) (q : ℕ) (o : Option Walk) (w : Walk) (ss : List Stand) → q ≢ first_head_of s.table.generation → o ≡ Some w → least_after s.table q o ss ≡ best_of w ss
next_least s q o w ss ne is = ap (λ o. least_after s.table q o ss) is ∙ ap (λ t. cond t None (best_of w ss)) (ne_eqb q (first_head_of s.table.generation) ne)

module _ (c : Core) (inv : Inv c) (j : ℕ) (b : j < c.start.layout.workers) where
  -- what is known of the take's walk, where it walks so
  abbrev Walked : Sight → ℕ → Walk → List Stand → Type 0
  Walked s read w ss = Walks c.history c.words.link c.words.event (record { sight = s; read = read; walk = w; rows = ss })

  -- the rows of a list, and the rows that the caller stands on
  list_some : (q : ℕ) → IsHead q → (r : ℕ) → In r (c.chain q) → 0 < r
  list_some q h r i = (inv.holders.in_chain q r h i).0.0

  covered_at : (r : ℕ) → In r (rows_of (c.rows j)) → IsGuarded (ground_of c) r
  covered_at r i = let v = stand_covered c inv j r b i in (j, v.0, v.1)

  module _ (s : Sight) (sees : c.sight j ≡ Some s) where
    module _ (q : ℕ) (h : IsHead q) (val : (c.words.head q).mark ≡ Val) (same : (c.words.head q).generation ≡ s.table.generation) where
      -- each pending event of the head's list stands in a row that links lead to from the head
      head_left : (read : ℕ) (e : Event) → Contains (puts (take read c.history)) e → (Contains (outs c.history) e → ⊥) → head_of s.table e ≡ q → StandsFrom c.words.link c.words.event s.table.generation (c.words.head q).row e
      head_left read e put kept at =
          let y = list_carries c inv s.table q e (inv.finds.sights j s b sees).0 h val same (record { put = of_take put_of read c.history e put; kept = kept }) at in
          let to = followed c.words.link (c.words.head q).row y.0 (c.chain q) (list_some q h) (inv.chains.leads q h) y.1 in
          record { row = y.0; some_row = to.0; kept = y.3; of = inv.sorted.generation q y.0 h y.1 ∙ same; holds = y.2; follows = to.1 }

      -- the first row is stood on, and of the table
      head_stand : (ss : List Stand) → ((c.words.head q).row ≡ 0) ⊎ In (c.words.head q).row (rows_of ss)
          → ((c.words.head q).row ≡ 0) ⊎ (In (c.words.head q).row (rows_of ss) × ((c.words.link (c.words.head q).row).generation ≡ s.table.generation))
      head_stand ss next = dite (ℕ_discrete (c.words.head q).row 0) inl (λ ne. ⊎_elim inl
          (λ i. inr (i, inv.sorted.generation q (c.words.head q).row h (first_in c.words.link (ranks c.words.event) (c.words.head q).row (c.chain q) (inv.chains.leads q h) (omega arith)) ∙ same)) next)

      -- a walk begins in the bucket of current
      walks_bucket : (read : ℕ) (ss : List Stand) → q ≡ head_for s.table.generation (shape_of s.table) (bucket_seen s) → ((c.words.head q).row ≡ 0) ⊎ In (c.words.head q).row (rows_of ss)
          → Walked s read (record { head = q; at = (c.words.head q).row; bucket = Some (bucket_seen s); least = None }) ss
      walks_bucket read ss at next = record {
        head = (h, (let low = head_low s.table.generation (shape_of s.table) (bucket_seen s) in omega arith, let high = head_high s.table.generation (shape_of s.table) (bucket_seen s) in omega arith));
        of = λ u is. let here = same_Some (bucket_seen s) u is in (sym here, at ∙ ap (head_for s.table.generation (shape_of s.table)) here);
        at_stand = head_stand ss next;
        left = λ e put kept of _. head_left read e put kept of;
        done = λ none. absurd (some_none (bucket_seen s) none);
        least = λ r e none. absurd (none_pair (r, e) none);
      }

      -- a search comes to a head
      walks_search : (read : ℕ) (least : Option (ℕ × Event)) (ss : List Stand) → IsOpen s.table q → ((c.words.head q).row ≡ 0) ⊎ In (c.words.head q).row (rows_of ss)
          → ((e : Event) → Contains (puts (take read c.history)) e → (Contains (outs c.history) e → ⊥) → head_of s.table e < q → IsNotBefore least e)
          → ((r : ℕ) (e : Event) → least ≡ Some (r, e) → ((t : Stand) × In t ss × (t.row ≡ r) × (t.event ≡ e)) × ((c.words.link r).generation ≡ s.table.generation))
          → Walked s read (record { head = q; at = (c.words.head q).row; bucket = None; least = least }) ss
      walks_search read least ss opened next done known = record {
        head = (h, opened);
        of = λ u none. absurd (none-some u none);
        at_stand = head_stand ss next;
        left = λ e put kept of _. head_left read e put kept of;
        done = λ _. done;
        least = known;
      }

    -- a walk that stays at its row, or goes past it
    pub walks_row : (r : ℕ) (aim : Aim) (w : Walk) → c.walk j ≡ Some w → w.at ≡ r → In r (rows_of (c.rows j))
        → (let l = c.words.link r in let w' : Walk = cond (is_passed l.mark) (record w { at = l.row }) w in Walked s (c.read j) w' (stands_after (at_row r) aim (Some w') l (c.words.event l.row) (c.rows j)))
    walks_row r aim w is at i = let l = c.words.link r in let e = c.words.event l.row in let old = own_walk c inv j s w b sees is in
        let known : (w' : Walk) → w'.least ≡ w.least → (x : ℕ) (f : Event) → w.least ≡ Some (x, f)
        → ((t : Stand) × In t (stands_after (at_row r) aim (Some w') l e (c.rows j)) × (t.row ≡ x) × (t.event ≡ f)) × ((c.words.link x).generation ≡ s.table.generation) =
        λ w' same x f q. let t = old.least x f q in ((t.0.0, least_stand (at_row r) aim w' x f l e (c.rows j) t.0.0 (same ∙ q) t.0.2 t.0.1, t.0.2, t.0.3), t.1) in
        cond_both (is_passed l.mark) (record w { at = l.row }) w (λ w'. Walked s (c.read j) w' (stands_after (at_row r) aim (Some w') l e (c.rows j)))
        (λ passed. let w' : Walk = record w { at = l.row } in record {
          head = old.head;
          of = old.of;
          at_stand = dite (ℕ_discrete l.row 0) inl (λ ne. ⊎_elim inl (λ i'. inr (i', inv.lanes.generation r (covered_at r i) (omega arith) ∙ here_generation r w is at i)) (row_next (at_row r) aim (Some w') l e (c.rows j)));
          left = λ f put kept of sought. let from = old.left f put kept of sought in
              let ne : r ≢ from.row = λ same. passed_kept (c.words.link from.row).mark (subst (λ z. is_passed (c.words.link z).mark ≡ true) same passed) from.kept in
              let to = first_step c.words.link r from.row from.follows.through ne (subst (λ z. IsPath c.words.link (λ _. 0) z from.follows.through from.row) at from.follows.path) in
              record { row = from.row; some_row = to.0; kept = from.kept; of = from.of; holds = from.holds; follows = to.1 };
          done = old.done;
          least = known w' refl;
        })
        (λ _. record {
          head = old.head;
          of = old.of;
          at_stand = ⊎_elim inl (λ h. inr (subst (λ z. In z (rows_of (stands_after (at_row r) aim (Some w) l e (c.rows j)))) (sym at) (row_stays r aim (Some w) l e (c.rows j) i), h.1)) old.at_stand;
          left = old.left;
          done = old.done;
          least = known w refl;
        })
      where
        here_generation : (r : ℕ) (w : Walk) → c.walk j ≡ Some w → w.at ≡ r → In r (rows_of (c.rows j)) → (c.words.link r).generation ≡ s.table.generation
        here_generation r w is at i = ⊎_elim (λ (z : w.at ≡ 0). let some = (inv.lanes.is_row r (covered_at r i)).0 in absurd (omega arith))
            (λ h. subst (λ z. (c.words.link z).generation ≡ s.table.generation) at h.1) (own_walk c inv j s w b sees is).at_stand

    -- what a take saw stays, where a search has its table read anew
    pub sees_now : Sees (present_of c) (c.begun j) (length c.history) s
    sees_now = let v = inv.walkers.seen j s b sees in record {
      after = (let low = v.after.0 in let high = v.after.1 in omega arith, le_refl _);
      above = v.above;
      ahead = λ _ _ e i _. absurd (drop_none put_of c.history e i);
      owed = λ i d k owes less. take_more put_of (c.read j) (length c.history) c.history d.event v.after.1 (v.owed i d k owes less);
    }

    -- the next walk of a search
    search_walk : (q : ℕ) (h : IsHead q) → Begins s (c.words.head q) → IsNextHead s.table (c.walk j) q → (ss : Option (ℕ × Event) → List Stand)
        → ((least : Option (ℕ × Event)) → ((c.words.head q).row ≡ 0) ⊎ In (c.words.head q).row (rows_of (ss least)))
        → ((r : ℕ) (f : Event) (t : Stand) → t.row ≡ r → In t (c.rows j) → In t (ss (Some (r, f))))
        → (let least = least_after s.table q (c.walk j) (c.rows j) in Walked s (cond (eqb q (first_head_of s.table.generation)) (length c.history) (c.read j)) (record { head = q; at = (c.words.head q).row; bucket = None; least = least }) (ss least))
    search_walk q h begins next ss stands keeps = dite (ℕ_discrete q (first_head_of s.table.generation))
        (λ (first : q ≡ first_head_of s.table.generation).
        subst (λ (z : ℕ × Option (ℕ × Event)). Walked s z.0 (record { head = q; at = (c.words.head q).row; bucket = None; least = z.1 }) (ss z.1))
        (λ i. (cond (sym (eq-eqb q (first_head_of s.table.generation) first) i) (length c.history) (c.read j), sym (first_least s q (c.walk j) (c.rows j) first) i))
        (walks_search q h begins.val begins.generation (length c.history) None (ss None) (omega arith, let some = pow_pos s.table.log in omega arith) (stands None)
        (λ e _ _ low. let least = head_low s.table.generation (shape_of s.table) (bucket (shape_of s.table) e.time) in absurd (omega arith)) (λ r e none. absurd (none_pair (r, e) none))))
        (λ (ne : q ≢ first_head_of s.table.generation). ⊎_elim (λ first. absurd (ne first))
        (λ (y : (w : Walk) × (c.walk j ≡ Some w) × (w.bucket ≡ None) × (q ≡ w.head + 1) × IsOpen s.table q). let w = y.0 in let best = best_of w (c.rows j) in
        subst (λ (z : ℕ × Option (ℕ × Event)). Walked s z.0 (record { head = q; at = (c.words.head q).row; bucket = None; least = z.1 }) (ss z.1))
        (λ i. (cond (sym (ne_eqb q (first_head_of s.table.generation) ne) i) (length c.history) (c.read j), sym (next_least s q (c.walk j) w (c.rows j) ne y.1) i))
        (walks_search q h begins.val begins.generation (c.read j) best (ss best) y.4 (stands best)
        (λ e put kept low. let to = y.3 in search_done c inv j b s w sees y.1 e (pending_fits e put kept) y.2 put kept (omega arith))
        (λ r e q. let k = best_kept c inv j b s w sees y.1 (r, e) q in ((k.0.0, subst (λ o. In k.0.0 (ss o)) (sym q) (keeps r e k.0.0 k.0.2 k.0.1), k.0.2, k.0.3), k.1)))) next)
      where
        pending_fits : (e : Event) → Contains (puts (take (c.read j) c.history)) e → (Contains (outs c.history) e → ⊥) → IsEvent e
        pending_fits e put kept = let at = inv.carriers.carried e (record { put = of_take put_of (c.read j) c.history e put; kept = kept }) in subst IsEvent at.2 (inv.spelled.events at.0 at.1.0)

    -- a walk of a take that begins at a head
    pub head_walks : (q : ℕ) (aim : Aim) → IsHead q → Begins s (c.words.head q) → MaySeek (Some s) (c.walk j) (at_head q) aim → (w : Walk) → new_walk aim q s (c.words.head q) (c.walk j) (c.rows j) ≡ Some w
        → Walked s (read_after (at_head q) aim (Some s) (length c.history) (c.read j)) w (stands_after (at_head q) aim (Some w) (c.words.head q) (c.words.event (c.words.head q).row) (c.rows j))
    head_walks q no_take h begins may w is = absurd (none-some w is)
    head_walks q in_bucket h begins may w is = let l = c.words.head q in let e = c.words.event l.row in let y = same_Some s may.0 may.1 in
        let first : Walk = record { head = q; at = l.row; bucket = Some (bucket_seen s); least = None } in
        subst (λ w. Walked s (c.read j) w (stands_after (at_head q) in_bucket (Some w) l e (c.rows j))) (same_Some first w is)
        (walks_bucket q h begins.val begins.generation (c.read j) (stands_after (at_head q) in_bucket (Some first) l e (c.rows j)) (may.2 ∙ ap (λ (s : Sight). head_for s.table.generation (shape_of s.table) (bucket_seen s)) (sym y))
        (row_next (at_head q) in_bucket (Some first) l e (c.rows j)))
    head_walks q in_search h begins may w is = let l = c.words.head q in let e = c.words.event l.row in let y = same_Some s may.0 may.1 in
        let begun : Option (ℕ × Event) → Walk = λ least. record { head = q; at = l.row; bucket = None; least = least } in
        subst (λ w. Walked s (read_from q (Some s) (length c.history) (c.read j)) w (stands_after (at_head q) in_search (Some w) l e (c.rows j))) (same_Some (begun (least_after s.table q (c.walk j) (c.rows j))) w is)
        (search_walk q h begins (subst (λ (s : Sight). IsNextHead s.table (c.walk j) q) (sym y) may.2) (λ least. stands_after (at_head q) in_search (Some (begun least)) l e (c.rows j))
        (λ least. row_next (at_head q) in_search (Some (begun least)) l e (c.rows j))
        (λ r f t row i. least_stand (at_head q) in_search (begun (Some (r, f))) r f l e (c.rows j) t refl row i))
