-- What a take that walks leaves behind: no event that comes before the row at which it is, nor before the least one that a search came by.
use Rattle.std.proofs.Common.{◌≡◌, ◌⊎◌, ⊎_elim, inl, inr, ℕ, ◌+◌, ◌-◌, ◌*◌, ◌^◌, ◌<◌, ◌≤◌, true, cond, eqb, ltb, List, [], ◌∷◌, ◌++◌, length, take, Option, Some, None, sym, refl, subst, arith, le_refl, ap, ◌∙◌, eq-eqb, ne_eqb}
use Rattle.std.proofs.lemmas.Bool.{cond_both, eqb-true, eqb-false, ltb-true, ltb-false, false≢true}
use Rattle.std.proofs.lemmas.Option.{same_Some}
use Rattle.std.proofs.lemmas.Nat.{pow_pos}
use Rattle.std.proofs.Math.Nat.{mod-lt}
use mathlib.Core.Logic.{dite}
use native.Mathlib.Decide.{ℕ_discrete}
use Rattle.std.specs.List.{Contains}
use Rattle.std.specs.Ordering.{nat_cmp, ordering_then, is_lt, MatchOrdering}
use Rattle.std.specs.declared.cmp.Ordering.{Ordering}
use Rattle.std.specs.declared.cmp.Ordering.TheVariants.{Less, Equal, Greater}
use Rattle.std.proofs.lemmas.Cmp.{ranked}
use Rattle.crq_base.specs.declared.event.Event.{Event}
use Rattle.crq_base.specs.declared.entry.Entry.{Entry}
use Rattle.crq_base.specs.declared.words.Link.{Link}
use Rattle.crq_base.specs.Histories.{put_of, settled_of, puts, settleds, outs, IsEarlier, IsLegal}
use Rattle.crq_base.proofs.HistoryLaws.{legal_front}
use Rattle.crq_base.specs.Lists.{In}
use Rattle.crq_rule.specs.declared.view.Sight.{Sight}
use Rattle.crq_rule.specs.declared.view.Stand.{Stand}
use Rattle.crq_rule.specs.declared.view.Walk.{Walk}
use Rattle.crq_rule.specs.Places.{IsRow}
use Rattle.crq_rule.specs.Core.{Core}
use Rattle.crq_rule.specs.Parts.{ground_of, IsEvent, IsPath, Covers, rows_of}
use Rattle.crq_rule.specs.ListParts.{ranks}
use Rattle.crq_rule.specs.HistoryParts.{IsSought, IsNotBefore, Walks, walking}
use Rattle.crq_rule.specs.Ranks.{rank, Shape, shape_of, first_head_of, head_for, bucket, head_of}
use Rattle.crq_rule.specs.ListKinds.{lesser, stood_at, best_of, StandsOn, IsPast, IsLastHead, IsNotBelow, FoundFirst, EndedWalk}
use Rattle.crq_rule.specs.Invariant.{takes_of, Inv}
use Rattle.crq_rule.proofs.BucketLaws.{tick_low, bucket_rises}
use Rattle.crq_rule.proofs.CoverLaws.{stand_row, row_footing, names_covered, footing_covered}
use Rattle.crq_rule.proofs.HistoryLaws.{settled_put}
use Rattle.crq_rule.proofs.Prefixes.{of_take, take_all, take_in, take_more}

-- Ranks

-- an event with a lesser key has a lesser rank, in any row
pub earlier_rank : (f e : Event) (y r : ℕ) → IsEvent f → y < 2 ^ 24 → IsEarlier f e → rank f y < rank e r
unfolding rank
earlier_rank f e y r fits low h =
    below (nat_cmp f.time e.time) (nat_cmp f.src e.src) (nat_cmp f.seq e.seq) (ranked f.time e.time _ refl) (ranked f.src e.src _ refl) (ranked f.seq e.seq _ refl) h
  where
    below : (a b c : Ordering) → MatchOrdering a (f.time < e.time) (f.time ≡ e.time) (e.time < f.time) → MatchOrdering b (f.src < e.src) (f.src ≡ e.src) (e.src < f.src)
        → MatchOrdering c (f.seq < e.seq) (f.seq ≡ e.seq) (e.seq < f.seq) → is_lt (ordering_then (ordering_then a b) c) ≡ true
        → ((f.time * 2 ^ 32 + f.src) * 2 ^ 64 + f.seq) * 2 ^ 24 + y < ((e.time * 2 ^ 32 + e.src) * 2 ^ 64 + e.seq) * 2 ^ 24 + r
    below Less b c t s q h = let u = fits.src in let v = fits.seq in omega arith
    below Equal Less c t s q h = let u = fits.src in let v = fits.seq in omega arith
    below Equal Equal Less t s q h = let u = fits.src in let v = fits.seq in omega arith
    below Equal Equal Equal t s q h = absurd (cc)
    below Equal Equal Greater t s q h = absurd (cc)
    below Equal Greater c t s q h = absurd (cc)
    below Greater b c t s q h = absurd (cc)

pub time_rank : (f e : Event) (y r : ℕ) → IsEvent f → y < 2 ^ 24 → f.time < e.time → rank f y < rank e r
unfolding rank
time_rank f e y r a low h = let s = a.src in let q = a.seq in omega arith

-- a rank that is less for each row is that of an event with a lesser key
pub rank_earlier : (f e : Event) (r : ℕ) → IsEvent f → IsEvent e → r < 2 ^ 24 → rank f (2 ^ 24 - 1) < rank e r → IsEarlier f e
unfolding rank
rank_earlier f e r fits fits' low h =
    by (nat_cmp f.time e.time) (nat_cmp f.src e.src) (nat_cmp f.seq e.seq) (ranked f.time e.time _ refl) (ranked f.src e.src _ refl) (ranked f.seq e.seq _ refl)
  where
    by : (a b c : Ordering) → MatchOrdering a (f.time < e.time) (f.time ≡ e.time) (e.time < f.time) → MatchOrdering b (f.src < e.src) (f.src ≡ e.src) (e.src < f.src)
        → MatchOrdering c (f.seq < e.seq) (f.seq ≡ e.seq) (e.seq < f.seq) → is_lt (ordering_then (ordering_then a b) c) ≡ true
    by Less b c t s q = refl
    by Equal Less c t s q = refl
    by Equal Equal Less t s q = refl
    by Equal Equal Equal t s q = absurd (omega arith)
    by Equal Equal Greater t s q = absurd (omega arith)
    by Equal Greater c t s q = let u = fits'.src in let v = fits'.seq in absurd (omega arith)
    by Greater b c t s q = let u = fits'.src in let v = fits'.seq in let x = fits.src in absurd (omega arith)

-- a lesser time is a lesser key, and a lesser key no later time
pub time_earlier : (f e : Event) → f.time < e.time → IsEarlier f e
time_earlier f e h = by (nat_cmp f.time e.time) (nat_cmp f.src e.src) (nat_cmp f.seq e.seq) (ranked f.time e.time _ refl)
  where
    by : (a b c : Ordering) → MatchOrdering a (f.time < e.time) (f.time ≡ e.time) (e.time < f.time) → is_lt (ordering_then (ordering_then a b) c) ≡ true
    by Less b c t = refl
    by Equal b c t = absurd (omega arith)
    by Greater b c t = absurd (omega arith)

pub earlier_time : (f e : Event) → IsEarlier f e → f.time ≤ e.time
earlier_time f e h = by (nat_cmp f.time e.time) (nat_cmp f.src e.src) (nat_cmp f.seq e.seq) (ranked f.time e.time _ refl) h
  where
    by : (a b c : Ordering) → MatchOrdering a (f.time < e.time) (f.time ≡ e.time) (e.time < f.time) → is_lt (ordering_then (ordering_then a b) c) ≡ true → f.time ≤ e.time
    by Less b c t h = omega arith
    by Equal b c t h = omega arith
    by Greater b c t h = absurd (cc)

-- Heads

pub head_low : (g : ℕ) (s : Shape) (b : ℕ) → first_head_of g ≤ head_for g s b
unfolding head_for
head_low g s b = omega arith

pub head_high : (g : ℕ) (s : Shape) (b : ℕ) → head_for g s b < first_head_of g + 2 ^ s.log
unfolding head_for
head_high g s b = let low = mod-lt b (pow_pos s.log) in omega arith

-- Covered rows

-- a row on which a caller stands is covered by its guard
pub stand_covered : (c : Core) → Inv c → (j r : ℕ) → j < c.start.layout.workers → In r (rows_of (c.rows j)) → (g : ℕ) × Covers (ground_of c) j g r
stand_covered c inv j r b i = footing_covered (ground_of c) c.cut c.holding inv.cover j r b (row_footing c.rows c.old c.copying j r i)

-- a way along links is one along links and twins
pub with_twins : (links : ℕ → Link) (twins : ℕ → ℕ) (a b : ℕ) (xs : List ℕ) → IsPath links (λ _. 0) a xs b → IsPath links twins a xs b
with_twins links twins a b [] p = p
with_twins links twins a b (x ∷ xs) p = ((p.0.0, ⊎_elim inl (λ none. let some = p.0.0 in absurd (omega arith)) p.0.1), with_twins links twins x b xs p.1)

-- ranks rise on the way from a covered row along links, and what they lead to is covered
pub follow_rises : (c : Core) → Inv c → (k g a b : ℕ) (xs : List ℕ) → Covers (ground_of c) k g a → IsPath c.words.link (λ _. 0) a xs b → (ranks c.words.event a ≤ ranks c.words.event b) × Covers (ground_of c) k g b
follow_rises c inv k g a b [] v p = (subst (λ z. ranks c.words.event a ≤ ranks c.words.event z) p (le_refl _), subst (Covers (ground_of c) k g) p v)
follow_rises c inv k g a b (x ∷ xs) v p = ⊎_elim
    (λ (is : (c.words.link a).row ≡ x). let later = follow_rises c inv k g x b xs (names_covered (ground_of c) k g a x v (p.0.0, inl is)) p.1 in
    let first = subst (λ z. 0 < z → ranks c.words.event a < ranks c.words.event z) is (inv.lanes.rises a (k, g, v)) p.0.0 in let more = later.0 in (omega arith, later.1))
    (λ none. let some = p.0.0 in absurd (omega arith)) p.0.1

-- what it knows the row to hold, it holds
pub stand_holds : (c : Core) → Inv c → (j r : ℕ) (e : Event) → j < c.start.layout.workers → StandsOn (c.rows j) r e → c.words.event r ≡ e
stand_holds c inv j r e b on = ap c.words.event (sym on.2) ∙ ((inv.standing.each j on.0 b on.1).holds ∙ on.3)

-- Walks

-- the event stands in a row that isn't before the one at which the caller's walk is
pub record IsBeyond (c : Core) (at : ℕ) (f : Event) : Type 0 where
  pub row : ℕ
  pub some_row : 0 < at
  pub is_row : IsRow c.start.layout row
  pub holds : c.words.event row ≡ f
  pub later : ranks c.words.event at ≤ ranks c.words.event row

-- what is known of the walk of a take with this sight
pub own_walk : (c : Core) → Inv c → (j : ℕ) (s : Sight) (w : Walk) → j < c.start.layout.workers → c.sight j ≡ Some s → c.walk j ≡ Some w → Walks c.history c.words.link c.words.event (walking (takes_of c) j s w)
own_walk c inv j s w b sees is = let v = inv.walkers.walked j w b is in
    subst (λ s. Walks c.history c.words.link c.words.event (walking (takes_of c) j s w)) (same_Some v.0 s (sym v.1 ∙ sees)) v.2

-- an event that was put before the take read its table, isn't out, and is of the list walked and of a bucket that is sought stands there
pub walk_beyond : (c : Core) → Inv c → (j : ℕ) (s : Sight) (w : Walk) (f : Event) → j < c.start.layout.workers → c.sight j ≡ Some s → c.walk j ≡ Some w → head_of s.table f ≡ w.head → IsSought w.bucket (bucket (shape_of s.table) f.time)
    → Contains (puts (take (c.read j) c.history)) f → (Contains (outs c.history) f → ⊥) → IsBeyond c w.at f
walk_beyond c inv j s w f b sees is at sought read kept = let t = own_walk c inv j s w b sees is in let from = t.left f read kept at sought in
    let v = stand_covered c inv j w.at b (⊎_elim (λ none. let some = from.some_row in absurd (omega arith)) (λ i. i.0) t.at_stand) in
    let to = follow_rises c inv j v.0 w.at from.row from.follows.through v.1 from.follows.path in record {
      row = from.row;
      some_row = from.some_row;
      is_row = inv.lanes.is_row from.row (j, v.0, to.1);
      holds = from.holds;
      later = to.0;
    }

beyond_fits : (c : Core) → Inv c → (at : ℕ) (f : Event) (beyond : IsBeyond c at f) → IsEvent f × (beyond.row < 2 ^ 24)
beyond_fits c inv at f beyond = let low = beyond.is_row.1 in let fit = c.start.layout.all_fit in (subst IsEvent beyond.holds (inv.spelled.events beyond.row beyond.is_row), omega arith)

beyond_rank : (c : Core) (at : ℕ) (e f : Event) → c.words.event at ≡ e → (beyond : IsBeyond c at f) → rank e at ≤ rank f beyond.row
beyond_rank c at e f is beyond = subst (λ (z : Event × Event). rank z.0 at ≤ rank z.1 beyond.row) (λ i. (is i, beyond.holds i)) beyond.later

-- and so it isn't of a lesser time
pub beyond_time : (c : Core) → Inv c → (at : ℕ) (e f : Event) → c.words.event at ≡ e → IsBeyond c at f → e.time ≤ f.time
beyond_time c inv at e f is beyond = let fits = beyond_fits c inv at f beyond in let high = beyond_rank c at e f is beyond in
    let not_less : ¬ (f.time < e.time) = λ (l : f.time < e.time). let less = time_rank f e beyond.row at fits.0 fits.1 l in omega arith in omega arith

-- nor of a lesser key
pub beyond_key : (c : Core) → Inv c → (at : ℕ) (e f : Event) → c.words.event at ≡ e → IsBeyond c at f → IsEarlier f e → ⊥
beyond_key c inv at e f is beyond less = let fits = beyond_fits c inv at f beyond in let high = beyond_rank c at e f is beyond in
    let low = earlier_rank f e beyond.row at fits.0 fits.1 less in omega arith

-- a walk that is past a bucket has nothing of it, or of an earlier one, before it
pub past_none : (c : Core) → Inv c → (j b : ℕ) (sh : Shape) (w : Walk) (f : Event) → j < c.start.layout.workers → IsPast sh b w (c.rows j) → IsBeyond c w.at f → bucket sh f.time ≤ b → ⊥
past_none c inv j b sh w f inside past beyond low = ⊎_elim
    (λ (none : w.at ≡ 0). let some = beyond.some_row in absurd (omega arith))
    (λ (h : (e : Event) × StandsOn (c.rows j) w.at e × (b < bucket sh e.time)). let late = bucket_rises sh h.0.time f.time (beyond_time c inv w.at h.0 f (stand_holds c inv j w.at h.0 inside h.1) beyond) in let high = h.2 in omega arith)
    past

-- The least row

-- a row, with its event, is of widths that fit
abbrev RowFits : ℕ × Event → Type 0
RowFits z = (z.0 < 2 ^ 24) × IsEvent z.1

-- what isn't before one of two rows isn't before the lesser one
lesser_left : (a b : Option (ℕ × Event)) (f : Event) → IsEvent f → ((z : ℕ × Event) → a ≡ Some z → RowFits z) → IsNotBefore a f → IsNotBefore (lesser a b) f
lesser_left None b f fits row h = absurd h
lesser_left (Some x) None f fits row h = h
lesser_left (Some x) (Some y) f fits row h = cond_both (ltb (rank y.1 y.0) (rank x.1 x.0)) (Some y) (Some x) (λ o. IsNotBefore o f)
    (λ yes early. let less = ltb-true (rank y.1 y.0) (rank x.1 x.0) yes in let low = earlier_rank f y.1 (2 ^ 24 - 1) y.0 fits (omega arith) early in
    h (rank_earlier f x.1 x.0 fits (row x refl).1 (row x refl).0 (omega arith)))
    (λ _. h)

lesser_right : (a : Option (ℕ × Event)) (y : ℕ × Event) (f : Event) → IsEvent f → RowFits y → (IsEarlier f y.1 → ⊥) → IsNotBefore (lesser a (Some y)) f
lesser_right None y f fits row h = h
lesser_right (Some x) y f fits row h = cond_both (ltb (rank y.1 y.0) (rank x.1 x.0)) (Some y) (Some x) (λ o. IsNotBefore o f)
    (λ _. h)
    (λ no early. let more = ltb-false (rank y.1 y.0) (rank x.1 x.0) no in let low = earlier_rank f x.1 (2 ^ 24 - 1) x.0 fits (omega arith) early in h (rank_earlier f y.1 y.0 fits row.1 row.0 (omega arith)))

-- the lesser one is one of the two
lesser_cases : (a b : Option (ℕ × Event)) (z : ℕ × Event) → lesser a b ≡ Some z → (a ≡ Some z) ⊎ (b ≡ Some z)
lesser_cases None b z e = inr e
lesser_cases (Some x) None z e = inl e
lesser_cases (Some x) (Some y) z e = cond_both (ltb (rank y.1 y.0) (rank x.1 x.0)) (Some y) (Some x) (λ o. o ≡ Some z → (Some x ≡ Some z) ⊎ (Some y ≡ Some z)) (λ _ q. inr q) (λ _ q. inl q) e

-- a stand on the row, by which its event is known
stood_some : (r : ℕ) (ss : List Stand) → In r (rows_of ss) → (s : Stand) × In s ss × (s.row ≡ r) × (stood_at r ss ≡ Some (r, s.event))
stood_some r [] i = absurd i
stood_some r (s ∷ ss) i = cond_both (eqb s.row r) (Some (r, s.event)) (stood_at r ss) (λ o. (t : Stand) × In t (s ∷ ss) × (t.row ≡ r) × (o ≡ Some (r, t.event)))
    (λ yes. (s, inl refl, eqb-true s.row r yes, refl))
    (λ no. let t = stood_some r ss (⊎_elim (λ (e : r ≡ s.row). absurd (false≢true (sym no ∙ eq-eqb s.row r (sym e)))) (λ h. h) i) in (t.0, inr t.1, t.2, t.3))

none_pair : (z : ℕ × Event) → None ≡ Some z → ⊥
none_pair z e = cc

some_pair : (x z : ℕ × Event) → Some x ≡ Some z → x ≡ z
some_pair x z e = cc

stood_is : (r : ℕ) (ss : List Stand) (z : ℕ × Event) → stood_at r ss ≡ Some z → (s : Stand) × In s ss × (s.row ≡ r) × ((r, s.event) ≡ z)
stood_is r [] z e = absurd (none_pair z e)
stood_is r (s ∷ ss) z e = cond_both (eqb s.row r) (Some (r, s.event)) (stood_at r ss) (λ o. o ≡ Some z → (t : Stand) × In t (s ∷ ss) × (t.row ≡ r) × ((r, t.event) ≡ z))
    (λ yes q. (s, inl refl, eqb-true s.row r yes, some_pair (r, s.event) z q))
    (λ _ q. let t = stood_is r ss z q in (t.0, inr t.1, t.2, t.3)) e

abbrev here_of : Walk → List Stand → Option (ℕ × Event)
here_of w ss = cond (eqb w.at 0) None (stood_at w.at ss)

here_some : (w : Walk) (ss : List Stand) → 0 < w.at → here_of w ss ≡ stood_at w.at ss
here_some w ss some = ap (λ t. cond t None (stood_at w.at ss)) (ne_eqb w.at 0 (λ z. omega arith))

here_is : (w : Walk) (ss : List Stand) (z : ℕ × Event) → here_of w ss ≡ Some z → (0 < w.at) × (stood_at w.at ss ≡ Some z)
here_is w ss z = cond_both (eqb w.at 0) None (stood_at w.at ss) (λ o. o ≡ Some z → (0 < w.at) × (stood_at w.at ss ≡ Some z)) (λ _ e. absurd (none_pair z e)) (λ no e. let ne = eqb-false w.at 0 no in (omega arith, e))

module _ (c : Core) (inv : Inv c) (j : ℕ) (b : j < c.start.layout.workers) where
  -- the rows on which a caller stands fit
  stand_fits : (s : Stand) (r : ℕ) → In s (c.rows j) → s.row ≡ r → RowFits (r, s.event)
  stand_fits s r i is = let v = stand_covered c inv j s.row b (stand_row (c.rows j) s i) in let row = inv.lanes.is_row s.row (j, v.0, v.1) in let fit = c.start.layout.all_fit in let low = row.1 in
      (omega arith, subst IsEvent ((inv.standing.each j s b i).holds) (inv.spelled.events s.row row))

  module _ (s : Sight) (w : Walk) (sees : c.sight j ≡ Some s) (is : c.walk j ≡ Some w) where
    -- the least row that the search has come by is one on which its caller stands, and of its table
    pub best_kept : (z : ℕ × Event) → best_of w (c.rows j) ≡ Some z → ((t : Stand) × In t (c.rows j) × (t.row ≡ z.0) × (t.event ≡ z.1)) × ((c.words.link z.0).generation ≡ s.table.generation)
    best_kept z best = let t = own_walk c inv j s w b sees is in ⊎_elim
        (λ q. t.least z.0 z.1 q)
        (λ q. let here = here_is w (c.rows j) z q in let at = stood_is w.at (c.rows j) z here.1 in let row = ap (λ (z : ℕ × Event). z.0) at.3 in (
          (at.0, at.1, at.2 ∙ row, ap (λ (z : ℕ × Event). z.1) at.3),
          subst (λ r. (c.words.link r).generation ≡ s.table.generation) row (⊎_elim (λ (none : w.at ≡ 0). let some = here.0 in absurd (omega arith)) (λ h. h.1) t.at_stand),
        ))
        (lesser_cases w.least (here_of w (c.rows j)) z best)

    -- a search has done the list at which it is, too
    pub search_done : (e : Event) → IsEvent e → w.bucket ≡ None → Contains (puts (take (c.read j) c.history)) e → (Contains (outs c.history) e → ⊥) → head_of s.table e ≤ w.head → IsNotBefore (best_of w (c.rows j)) e
    search_done e fits none put kept low = let t = own_walk c inv j s w b sees is in dite (ℕ_discrete (head_of s.table e) w.head)
        (λ same. let beyond = walk_beyond c inv j s w e b sees is same (subst (λ o. IsSought o (bucket (shape_of s.table) e.time)) (sym none) tt) put kept in
        let at = stood_some w.at (c.rows j) (⊎_elim (λ (z : w.at ≡ 0). let some = beyond.some_row in absurd (omega arith)) (λ h. h.0) t.at_stand) in
        subst (λ o. IsNotBefore (lesser w.least o) e) (sym (here_some w (c.rows j) beyond.some_row ∙ at.3))
        (lesser_right w.least (w.at, at.0.event) e fits (stand_fits at.0 w.at at.1 at.2) (beyond_key c inv w.at at.0.event e (stand_holds c inv j w.at at.0.event b (at.0, at.1, at.2, refl)) beyond)))
        (λ ne. lesser_left w.least (here_of w (c.rows j)) e fits
        (λ z q. let l = (t.least z.0 z.1 q).0 in subst (λ e. RowFits (z.0, e)) l.3 (stand_fits l.0 z.0 l.1 l.2)) (t.done none e put kept (omega arith)))

-- Ends

-- the event was put before the take of caller j, which saw s, read the table, isn't out, and isn't before current as the take saw it
pub record IsLeft (c : Core) (j : ℕ) (s : Sight) (f : Event) : Type 0 where
  pub put : Contains (puts (take (c.read j) c.history)) f
  pub kept : Contains (outs c.history) f → ⊥
  pub late : s.current.tick ≤ f.time
  pub fits : IsEvent f

-- so it is with each event that was settled before the Begin of the take, and isn't out
pub settled_left : (c : Core) → Inv c → (j : ℕ) (s : Sight) (front back : List Entry) (f : Event) → j < c.start.layout.workers → c.sight j ≡ Some s → c.history ≡ front ++ back → length front ≡ c.begun j
    → Contains (settleds front) f → (Contains (outs c.history) f → ⊥) → IsLeft c j s f
settled_left c inv j s front back f b sees parts long settled kept =
    let seen = inv.walkers.seen j s b sees in
    let legal : IsLegal front = legal_front [] front back (subst IsLegal parts inv.told.legal) in
    let early : Contains (puts (take (length front) front)) f = take_all put_of front f (settled_put front legal f settled) in
    let read : Contains (puts (take (c.read j) c.history)) f = take_more put_of (length front) (c.read j) c.history f (let low = seen.after.0 in omega arith)
    (subst (λ h. Contains (puts (take (length front) h)) f) (sym parts) (take_in put_of (length front) front back f (le_refl _) early)) in
    let before : Contains (settleds (take (c.begun j) c.history)) f =
    subst (λ (z : ℕ × List Entry). Contains (settleds (take z.0 z.1)) f) (λ i. (long i, sym parts i)) (take_in settled_of (length front) front back f (le_refl _) (take_all settled_of front f settled)) in
    let at = inv.carriers.carried f (record { put = of_take put_of (c.read j) c.history f read; kept = kept }) in
    record { put = read; kept = kept; late = seen.above f before kept; fits = subst IsEvent at.2 (inv.spelled.events at.0 at.1.0) }

module _ (c : Core) (inv : Inv c) (j : ℕ) (s : Sight) (w : Walk) (f : Event) (b : j < c.start.layout.workers) (sees : c.sight j ≡ Some s) (is : c.walk j ≡ Some w) (left : IsLeft c j s f) where
  -- in a bucket: it stands from the row of the walk on, unless it is of a later bucket
  bucket_left : (u : ℕ) → w.bucket ≡ Some u → bucket (shape_of s.table) f.time ≤ u → IsBeyond c w.at f
  bucket_left u of high = let t = own_walk c inv j s w b sees is in let at = t.of u of in let here = at.0 in
      let low = bucket_rises (shape_of s.table) s.current.tick f.time left.late in
      let same : bucket (shape_of s.table) f.time ≡ u = omega arith in
      walk_beyond c inv j s w f b sees is (ap (head_for s.table.generation (shape_of s.table)) same ∙ sym at.1) (subst (λ o. IsSought o (bucket (shape_of s.table) f.time)) (sym of) high) left.put left.kept

  -- in a search of all lists it isn't before the least row
  search_left : w.bucket ≡ None → IsLastHead s.table w.head → IsNotBefore (best_of w (c.rows j)) f
  search_left none last = let high = head_high s.table.generation (shape_of s.table) (bucket (shape_of s.table) f.time) in
      search_done c inv j b s w sees is f left.fits none left.put left.kept (omega arith)

  -- it isn't earlier than what the walk found to be the first
  pub first_left : (r : ℕ) (e : Event) → c.words.event r ≡ e → FoundFirst w.bucket s.table (c.rows j) w r e → IsEarlier f e → ⊥
  first_left r e holds first less = by w.bucket refl first
    where
      by : (o : Option ℕ) → w.bucket ≡ o → FoundFirst o s.table (c.rows j) w r e → ⊥
      by None none found = subst (λ o. IsNotBefore o f) found.1 (search_left none found.0) less
      by (Some u) of found = let low = bucket_rises (shape_of s.table) f.time e.time (earlier_time f e less) in let high = found.1 in
          beyond_key c inv w.at e f (ap c.words.event found.0 ∙ holds) (bucket_left u of (omega arith)) less

  -- nor below the limit, where the walk ended
  pub ended_left : (limit : ℕ) → EndedWalk w.bucket s.table (c.rows j) w limit → f.time < limit → ⊥
  ended_left limit ended less = by w.bucket refl ended
    where
      best : (o : Option (ℕ × Event)) → IsNotBelow o limit → IsNotBefore o f → ⊥
      best None low before = before
      best (Some t) low before = before (time_earlier f t.1 (omega arith))

      by : (o : Option ℕ) → w.bucket ≡ o → EndedWalk o s.table (c.rows j) w limit → ⊥
      by None none end = best (best_of w (c.rows j)) end.1 (search_left none end.0)
      by (Some u) of (inl end) = let high = end.3 in let low = bucket_rises (shape_of s.table) f.time end.0.time (omega arith) in let inside = end.2 in
          let late = beyond_time c inv w.at end.0 f (stand_holds c inv j w.at end.0 b end.1) (bucket_left u of (omega arith)) in omega arith
      by (Some u) of (inr end) = let top = left.fits.time in let wide = end.1 in
          let no : ¬ (u + 1 ≤ bucket (shape_of s.table) f.time) = λ (l : u + 1 ≤ bucket (shape_of s.table) f.time). let t = tick_low (shape_of s.table) (u + 1) f.time l in omega arith in
          let low : bucket (shape_of s.table) f.time ≤ u = omega arith in past_none c inv j u (shape_of s.table) w f b end.0 (bucket_left u of low) low
