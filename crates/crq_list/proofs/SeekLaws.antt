-- What is known of words, stands and ranks on a walk along a list.
use Rattle.std.proofs.Common.{◌≡◌, ◌≢◌, ⊎_elim, inl, inr, ℕ, zero, suc, ◌+◌, ◌^◌, ◌<◌, ◌≤◌, ◌&&◌, ◌||◌, eqb, ltb, leb, cond, Bool, true, false, List, [], ◌∷◌, ◌++◌, Option, Some, None, sym, refl, ap, ◌∙◌, subst, arith, eq-eqb, ne_eqb}
use Rattle.std.proofs.lemmas.Bool.{cond_both, eqb-true, le-leb}
use Rattle.std.proofs.lemmas.Bool.Decides.{nat_tests}
use mathlib.Core.Logic.{dite}
use native.Mathlib.Decide.{ℕ_discrete}
use Rattle.crq_base.specs.declared.event.Event.{Event}
use Rattle.crq_base.specs.declared.words.Link.{Link}
use Rattle.crq_base.specs.declared.words.Mark.{Mark}
use Rattle.crq_base.specs.declared.words.Mark.TheVariants.{Del}
use Rattle.crq_base.specs.declared.words.Control.{Control}
use Rattle.crq_base.specs.Lists.{In}
use Rattle.crq_rule.specs.declared.debts.CutDebt.{CutDebt}
use Rattle.crq_rule.specs.declared.layout.Layout.{Layout}
use Rattle.crq_rule.specs.declared.view.Stand.{Stand}
use Rattle.crq_rule.specs.declared.view.Walk.{Walk}
use Rattle.crq_rule.specs.Places.{index, IsHead, link, current}
use Rattle.crq_rule.specs.Parts.{IsEvent}
use Rattle.crq_rule.specs.Ranks.{rank, tells_of, list_by, Cell, at_head, at_row, cell_place}
use Rattle.crq_rule.specs.ListKinds.{StandsOn, Aim, no_take, is_take, least_stands, search_stands, is_final, is_cell, is_twin, is_beyond, is_past, is_other_front, relieved, new_stand, next_stand, only_row, noted_stand, noted, kept_stands, stands_after, without_stand, event_word, row_place}
use Rattle.crq_list.specs.Spots.{rank_at, StandsIn}
use Rattle.crq_list.specs.Seeking.{HasRead, key_part, part_of}

-- Ranks

pub rank_some : (e : Event) (r : ℕ) → 0 < r → 0 < rank e r
unfolding rank
rank_some e r some = omega arith

pub rank_limit : (e : Event) (r : ℕ) → IsEvent e → r < 2 ^ 24 → rank e r < 2 ^ 160
unfolding rank
rank_limit e r fits low = let t = fits.time in let s = fits.src in let q = fits.seq in omega arith

pub rank_at_is : (ss : List Stand) (r : ℕ) (f : Event) → ((g : Event) → StandsOn ss r g → g ≡ f) → StandsOn ss r f → rank_at ss r ≡ rank f r
rank_at_is [] r f one on = absurd on.1
rank_at_is (s ∷ ss) r f one on = dite (ℕ_discrete s.row r)
    (λ e. ap (λ b. cond b (rank s.event r) (rank_at ss r)) (eq-eqb s.row r e) ∙ ap (λ g. rank g r) (one s.event (s, inl refl, e, refl)))
    (λ ne. ap (λ b. cond b (rank s.event r) (rank_at ss r)) (ne_eqb s.row r ne)
    ∙ rank_at_is ss r f (λ g h. one g (h.0, inr h.1, h.2, h.3)) (on.0, ⊎_elim (λ (e : on.0 ≡ s). absurd (ne (ap (λ (z : Stand). z.row) (sym e) ∙ on.2))) (λ i. i) on.1, on.2, on.3))

-- Stands

join_right_in : (xs ys : List Stand) (r : ℕ) (f : Event) (g : ℕ) → StandsIn ys r f g → StandsIn (xs ++ ys) r f g
join_right_in [] ys r f g on = on
join_right_in (x ∷ xs) ys r f g on = let t = join_right_in xs ys r f g on in (t.0, inr t.1, t.2, t.3, t.4)

pub join_right : (xs ys : List Stand) (r : ℕ) (f : Event) → StandsOn ys r f → StandsOn (xs ++ ys) r f
join_right xs ys r f on = let t = join_right_in xs ys r f on.0.generation (on.0, on.1, on.2, on.3, refl) in (t.0, t.1, t.2, t.3)

join_left_in : (xs ys : List Stand) (r : ℕ) (f : Event) (g : ℕ) → StandsIn xs r f g → StandsIn (xs ++ ys) r f g
join_left_in [] ys r f g on = absurd on.1
join_left_in (x ∷ xs) ys r f g on = ⊎_elim (λ (e : on.0 ≡ x). (on.0, inl e, on.2, on.3, on.4)) (λ i. let t = join_left_in xs ys r f g (on.0, i, on.2, on.3, on.4) in (t.0, inr t.1, t.2, t.3, t.4)) on.1

join_left : (xs ys : List Stand) (r : ℕ) (f : Event) → StandsOn xs r f → StandsOn (xs ++ ys) r f
join_left xs ys r f on = let t = join_left_in xs ys r f on.0.generation (on.0, on.1, on.2, on.3, refl) in (t.0, t.1, t.2, t.3)

only_in : (r : ℕ) (ss : List Stand) (f : Event) (g : ℕ) → StandsIn ss r f g → StandsIn (only_row r ss) r f g
only_in r [] f g on = absurd on.1
only_in r (s ∷ ss) f g on = ⊎_elim
    (λ (e : on.0 ≡ s). subst (λ b. StandsIn (cond (b || is_twin r s.twin) (s ∷ only_row r ss) (only_row r ss)) r f g) (sym (eq-eqb s.row r (ap (λ (z : Stand). z.row) (sym e) ∙ on.2))) (on.0, inl e, on.2, on.3, on.4))
    (λ i. let t = only_in r ss f g (on.0, i, on.2, on.3, on.4) in cond_both (eqb s.row r || is_twin r s.twin) (s ∷ only_row r ss) (only_row r ss) (λ xs. StandsIn xs r f g) (λ _. (t.0, inr t.1, t.2, t.3, t.4)) (λ _. t)) on.1

only_stands : (r : ℕ) (ss : List Stand) (f : Event) → StandsOn ss r f → StandsOn (only_row r ss) r f
only_stands r ss f on = let t = only_in r ss f on.0.generation (on.0, on.1, on.2, on.3, refl) in (t.0, t.1, t.2, t.3)

noted_in : (r : ℕ) (l : Link) (ss : List Stand) (s : ℕ) (f : Event) (g : ℕ) → StandsIn ss s f g → StandsIn (noted r l ss) s f g
noted_in r l [] s f g on = absurd on.1
noted_in r l (t ∷ ts) s f g on = ⊎_elim
    (λ (e : on.0 ≡ t). cond_both (eqb t.row r) (noted_stand l t) t (λ z. StandsIn (z ∷ noted r l ts) s f g)
    (λ _. (noted_stand l t, inl refl, ap (λ (z : Stand). z.row) (sym e) ∙ on.2, ap (λ (z : Stand). z.event) (sym e) ∙ on.3, ap (λ (z : Stand). z.generation) (sym e) ∙ on.4)) (λ _. (on.0, inl e, on.2, on.3, on.4)))
    (λ i. let k = noted_in r l ts s f g (on.0, i, on.2, on.3, on.4) in (k.0, inr k.1, k.2, k.3, k.4)) on.1

-- the last link of a row on which a caller stands, where it was found
noted_last : (r : ℕ) (l : Link) (ss : List Stand) (f : Event) → l.mark ≡ Del → StandsOn ss r f → (t : Stand) × In t (noted r l ss) × (t.row ≡ r) × (t.last ≡ Some l)
noted_last r l [] f dead on = absurd on.1
noted_last r l (t ∷ ts) f dead on = ⊎_elim
    (λ (e : on.0 ≡ t). let row = ap (λ (z : Stand). z.row) (sym e) ∙ on.2 in
    (noted_stand l t, inl (ap (λ b. cond b (noted_stand l t) t) (sym (eq-eqb t.row r row))), row, ap (λ m. cond (is_final m) (Some l) t.last) dead))
    (λ i. let k = noted_last r l ts f dead (on.0, i, on.2, on.3) in (k.0, inr k.1, k.2, k.3)) on.1

pub without_in : (r : ℕ) (ss : List Stand) (s : ℕ) (f : Event) (g : ℕ) → s ≢ r → StandsIn ss s f g → StandsIn (without_stand r ss) s f g
without_in r [] s f g ne on = absurd on.1
without_in r (t ∷ ts) s f g ne on = ⊎_elim
    (λ (e : on.0 ≡ t). subst (λ b. StandsIn (cond b (without_stand r ts) (t ∷ without_stand r ts)) s f g) (sym (ne_eqb t.row r (λ is. ne (sym on.2 ∙ (ap (λ (z : Stand). z.row) e ∙ is))))) (on.0, inl e, on.2, on.3, on.4))
    (λ i. let k = without_in r ts s f g ne (on.0, i, on.2, on.3, on.4) in cond_both (eqb t.row r) (without_stand r ts) (t ∷ without_stand r ts) (λ xs. StandsIn xs s f g) (λ _. k) (λ _. (k.0, inr k.1, k.2, k.3, k.4))) on.1

pub without_stands : (r : ℕ) (ss : List Stand) (s : ℕ) (f : Event) → s ≢ r → StandsOn ss s f → StandsOn (without_stand r ss) s f
without_stands r ss s f ne on = let t = without_in r ss s f on.0.generation ne (on.0, on.1, on.2, on.3, refl) in (t.0, t.1, t.2, t.3)

next_in : (cell : Cell) (l : Link) (e : Event) → 0 < l.row → StandsIn (next_stand cell l e) l.row e l.generation
next_in cell l e some = cond_both (eqb l.row 0) [] (new_stand cell l e ∷ []) (λ xs. StandsIn xs l.row e l.generation)
    (λ yes. let z = eqb-true l.row 0 yes in absurd (omega arith)) (λ _. (new_stand cell l e, inl refl, refl, refl, refl))

-- after a walk its caller stands on the row that the link names, which is of the link's table
pub walk_next_in : (cell : Cell) (aim : Aim) (w : Option Walk) (l : Link) (e : Event) (ss : List Stand) → 0 < l.row → StandsIn (stands_after cell aim w l e ss) l.row e l.generation
walk_next_in (at_head q) aim w l e ss some = join_right_in (search_stands w ss) (next_stand (at_head q) l e) l.row e l.generation (next_in (at_head q) l e some)
walk_next_in (at_row r) aim w l e ss some = join_right_in (search_stands w ss) (next_stand (at_row r) l e ++ noted r l (kept_stands (is_take aim) r l ss)) l.row e l.generation
    (join_left_in (next_stand (at_row r) l e) (noted r l (kept_stands (is_take aim) r l ss)) l.row e l.generation (next_in (at_row r) l e some))

pub walk_next : (cell : Cell) (aim : Aim) (w : Option Walk) (l : Link) (e : Event) (ss : List Stand) → 0 < l.row → StandsOn (stands_after cell aim w l e ss) l.row e
walk_next cell aim w l e ss some = let t = walk_next_in cell aim w l e ss some in (t.0, t.1, t.2, t.3)

-- and on the row that it walked from
pub walk_here_in : (r : ℕ) (aim : Aim) (w : Option Walk) (l : Link) (e : Event) (ss : List Stand) (f : Event) (g : ℕ) → StandsIn ss r f g → StandsIn (stands_after (at_row r) aim w l e ss) r f g
walk_here_in r aim w l e ss f g on = let kept = cond_both (is_take aim || is_cell l.mark) (only_row r ss) ss (λ xs. StandsIn xs r f g) (λ _. only_in r ss f g on) (λ _. on) in
    join_right_in (search_stands w ss) (next_stand (at_row r) l e ++ noted r l (kept_stands (is_take aim) r l ss)) r f g
    (join_right_in (next_stand (at_row r) l e) (noted r l (kept_stands (is_take aim) r l ss)) r f g (noted_in r l (kept_stands (is_take aim) r l ss) r f g kept))

pub walk_here : (r : ℕ) (aim : Aim) (w : Option Walk) (l : Link) (e : Event) (ss : List Stand) (f : Event) → StandsOn ss r f → StandsOn (stands_after (at_row r) aim w l e ss) r f
walk_here r aim w l e ss f on = let t = walk_here_in r aim w l e ss f on.0.generation (on.0, on.1, on.2, on.3, refl) in (t.0, t.1, t.2, t.3)

-- a search keeps the stands on its least row
least_here : (least : Option (ℕ × Event)) (ss : List Stand) (t : ℕ × Event) (f : Event) → least ≡ Some t → StandsOn ss t.0 f → StandsOn (least_stands least ss) t.0 f
least_here least ss t f is on = subst (λ o. StandsOn (least_stands o ss) t.0 f) (sym is) (only_stands t.0 ss f on)

pub walk_least : (cell : Cell) (aim : Aim) (w : Walk) (t : ℕ × Event) (l : Link) (e : Event) (ss : List Stand) (f : Event) → w.least ≡ Some t → StandsOn ss t.0 f → StandsOn (stands_after cell aim (Some w) l e ss) t.0 f
walk_least (at_head q) aim w t l e ss f is on = join_left (search_stands (Some w) ss) (next_stand (at_head q) l e) t.0 f (least_here w.least ss t f is on)
walk_least (at_row r) aim w t l e ss f is on = join_left (search_stands (Some w) ss) (next_stand (at_row r) l e ++ noted r l (kept_stands (is_take aim) r l ss)) t.0 f (least_here w.least ss t f is on)

dead_stands : (r : ℕ) (l : Link) (e : Event) (ss : List Stand) → l.mark ≡ Del → next_stand (at_row r) l e ++ noted r l (kept_stands false r l ss) ≡ next_stand (at_row r) l e ++ noted r l ss
dead_stands r l e ss dead = ap (λ (m : Mark). next_stand (at_row r) l e ++ noted r l (cond (false || is_cell m) (only_row r ss) ss)) dead

-- where the row is dead all stands are kept
pub dead_in : (r : ℕ) (w : Option Walk) (l : Link) (e : Event) (ss : List Stand) (s : ℕ) (f : Event) (g : ℕ) → l.mark ≡ Del → StandsIn ss s f g → StandsIn (stands_after (at_row r) no_take w l e ss) s f g
dead_in r w l e ss s f g dead on = join_right_in (search_stands w ss) (next_stand (at_row r) l e ++ noted r l (kept_stands false r l ss)) s f g
    (subst (λ xs. StandsIn xs s f g) (sym (dead_stands r l e ss dead)) (join_right_in (next_stand (at_row r) l e) (noted r l ss) s f g (noted_in r l ss s f g on)))

pub dead_kept : (r : ℕ) (w : Option Walk) (l : Link) (e : Event) (ss : List Stand) (s : ℕ) (f : Event) → l.mark ≡ Del → StandsOn ss s f → StandsOn (stands_after (at_row r) no_take w l e ss) s f
dead_kept r w l e ss s f dead on = let t = dead_in r w l e ss s f on.0.generation dead (on.0, on.1, on.2, on.3, refl) in (t.0, t.1, t.2, t.3)

-- and its last link is known
pub dead_last : (r : ℕ) (w : Option Walk) (l : Link) (e : Event) (ss : List Stand) (f : Event) → l.mark ≡ Del → StandsOn ss r f
    → (t : Stand) × In t (stands_after (at_row r) no_take w l e ss) × (t.row ≡ r) × (t.last ≡ Some l)
dead_last r w l e ss f dead on = let t = noted_last r l ss f dead on in
    (t.0, later (search_stands w ss) (next_stand (at_row r) l e ++ noted r l (kept_stands false r l ss)) t.0 (subst (In t.0) (sym (dead_stands r l e ss dead)) (later (next_stand (at_row r) l e) (noted r l ss) t.0 t.1)), t.2, t.3)
  where
    later : (xs ys : List Stand) (t : Stand) → In t ys → In t (xs ++ ys)
    later [] ys t i = i
    later (x ∷ xs) ys t i = inr (later xs ys t i)

-- The dead row that is owed

some_one : (a d : CutDebt) → Some a ≡ Some d → a ≡ d
some_one a d is = cc

none_some : (d : CutDebt) → ◌≡◌ {A = Option CutDebt} None (Some d) → ⊥
none_some d is = cc

not_past : (r a b : ℕ) → (eqb r 0 || ltb a b) ≡ false → (0 < r) × (b ≤ a)
not_past r a b h = (grind (arith, nat_tests), grind (arith, nat_tests))

-- a walk that may go on behind its cell, in the name's table, leaves the dead row owed only where it isn't past it
pub still_ahead : (x : Option Control) (cell : Cell) (ss : List Stand) (l : Link) (e : Event) (o : Option CutDebt) (d : CutDebt) → is_cell l.mark ≡ true → l.generation ≡ d.generation → is_beyond x cell ss d ≡ true
    → relieved x cell ss l e o ≡ Some d → (0 < l.row) × (rank e l.row ≤ rank d.event d.row)
still_ahead x cell ss l e None d present same beyond is = absurd (none_some d is)
still_ahead x cell ss l e (Some a) d present same beyond is = go (is_past x cell ss l e a) refl is
  where
    left : (b : Bool) → cond b None (Some a) ≡ Some d → a ≡ d
    left true is = absurd (none_some d is)
    left false is = some_one a d is

    go : (b : Bool) → is_past x cell ss l e a ≡ b → cond (b || is_other_front cell l a) None (Some a) ≡ Some d → (0 < l.row) × (rank e l.row ≤ rank d.event d.row)
    go true t is = absurd (none_some d is)
    go false t is = not_past l.row (rank d.event d.row) (rank e l.row)
        (sym (λ i. present i && (eq-eqb l.generation d.generation same i && (beyond i && (eqb l.row 0 || ltb (rank d.event d.row) (rank e l.row)))))
        ∙ subst (λ (z : CutDebt). is_past x cell ss l e z ≡ false) (left (is_other_front cell l a) is) t)

pub was_owed : (x : Option Control) (cell : Cell) (ss : List Stand) (l : Link) (e : Event) (o : Option CutDebt) (d : CutDebt) → relieved x cell ss l e o ≡ Some d → o ≡ Some d
was_owed x cell ss l e None d is = is
was_owed x cell ss l e (Some a) d is = cond_both (is_past x cell ss l e a || is_other_front cell l a) None (Some a) (λ o. o ≡ Some d → Some a ≡ Some d)
    (λ _ n. absurd (none_some d n)) (λ _ i. i) is

-- the row r, on which the caller stands with f, doesn't come after the dead row
pub beyond_row : (x : Control) (r : ℕ) (ss : List Stand) (d : CutDebt) (f : Event) → ((g : Event) → StandsOn ss r g → g ≡ f) → StandsOn ss r f → tells_of x d.generation ≡ true → list_by x d.generation f ≡ d.head → rank f r ≤ rank d.event d.row
    → is_beyond (Some x) (at_row r) ss d ≡ true
beyond_row x r [] d f one on told same low = absurd on.1
beyond_row x r (s ∷ ss) d f one on told same low = let here = tells_of x d.generation && (eqb (list_by x d.generation s.event) d.head && leb (rank s.event r) (rank d.event d.row)) in dite (ℕ_discrete s.row r)
    (λ e. let is = one s.event (s, inl refl, e, refl) in ap (λ b. cond b here (is_beyond (Some x) (at_row r) ss d)) (eq-eqb s.row r e)
    ∙ (λ i. told i && (eq-eqb (list_by x d.generation s.event) d.head (ap (list_by x d.generation) is ∙ same) i && le-leb (rank s.event r) (rank d.event d.row) (subst (λ z. rank z r ≤ rank d.event d.row) (sym is) low) i)))
    (λ ne. ap (λ b. cond b here (is_beyond (Some x) (at_row r) ss d)) (ne_eqb s.row r ne)
    ∙ beyond_row x r ss d f (λ g h. one g (h.0, inr h.1, h.2, h.3)) (on.0, ⊎_elim (λ (e : on.0 ≡ s). absurd (ne (ap (λ (z : Stand). z.row) (sym e) ∙ on.2))) (λ i. i) on.1, on.2, on.3) told same low)

-- Places

abbrev pub IsCell : Cell → Type 0
IsCell (at_head q) = IsHead q
IsCell (at_row r) = Unit {0}

-- the links of a row and of a head, or of another row, are two words
pub link_apart : (l : Layout) (r : ℕ) (cell : Cell) → 0 < r → IsCell cell → ((s : ℕ) → cell ≡ at_row s → s ≢ r) → index l (link r) ≢ index l (cell_place cell)
link_apart l r (at_head q) some is ne e = omega arith
link_apart l r (at_row s) some is ne e = ne s refl (omega arith)

-- no word of a list is current's
pub cell_elsewhere : (l : Layout) (cell : Cell) → index l (cell_place cell) ≢ index l current
cell_elsewhere l (at_head q) e = omega arith
cell_elsewhere l (at_row r) e = omega arith

pub word_elsewhere : (l : Layout) (r place : ℕ) → index l (row_place r place) ≢ index l current
word_elsewhere l r zero e = omega arith
word_elsewhere l r (suc zero) e = omega arith
word_elsewhere l r (suc (suc zero)) e = omega arith
word_elsewhere l r (suc (suc (suc zero))) e = omega arith
word_elsewhere l r (suc (suc (suc (suc zero)))) e = omega arith
word_elsewhere l r (suc (suc (suc (suc (suc n))))) e = omega arith

-- a word of an event isn't a link
pub event_apart : (l : Layout) (r place : ℕ) (cell : Cell) → 0 < r → 2 ≤ place → IsCell cell → index l (row_place r place) ≢ index l (cell_place cell)
event_apart l r zero cell some low is e = omega arith
event_apart l r (suc zero) cell some low is e = omega arith
event_apart l r (suc (suc zero)) (at_head q) some low is e = omega arith
event_apart l r (suc (suc zero)) (at_row s) some low is e = omega arith
event_apart l r (suc (suc (suc zero))) (at_head q) some low is e = omega arith
event_apart l r (suc (suc (suc zero))) (at_row s) some low is e = omega arith
event_apart l r (suc (suc (suc (suc zero)))) (at_head q) some low is e = omega arith
event_apart l r (suc (suc (suc (suc zero)))) (at_row s) some low is e = omega arith
event_apart l r (suc (suc (suc (suc (suc n))))) (at_head q) some low is e = omega arith
event_apart l r (suc (suc (suc (suc (suc n))))) (at_row s) some low is e = omega arith

-- Reading keys

pub part_is : (e : Event) (place : ℕ) → IsEvent e → 2 ≤ place → place < 5 → part_of (event_word e place) place ≡ key_part e place
part_is e zero fits low high = absurd (omega arith)
part_is e (suc zero) fits low high = absurd (omega arith)
part_is e (suc (suc zero)) fits low high = let d = fits.dst in omega arith
part_is e (suc (suc (suc zero))) fits low high = refl
part_is e (suc (suc (suc (suc zero)))) fits low high = refl
part_is e (suc (suc (suc (suc (suc n))))) fits low high = absurd (omega arith)

-- two events that are the same up to a place, where the first is less
pub part_less : (e t : Event) (place r s : ℕ) → 2 ≤ place → place < 5 → IsEvent e → r < 2 ^ 24 → HasRead place e t → key_part e place < key_part t place → rank e r < rank t s
unfolding rank
part_less e t zero r s low high fits row read less = absurd (omega arith)
part_less e t (suc zero) r s low high fits row read less = absurd (omega arith)
part_less e t (suc (suc zero)) r s low high fits row read less = let a = fits.src in let b = fits.seq in omega arith
part_less e t (suc (suc (suc zero))) r s low high fits row read less = let a = fits.src in let b = fits.seq in let q = read.0 (omega arith) in omega arith
part_less e t (suc (suc (suc (suc zero)))) r s low high fits row read less = let a = fits.src in let b = fits.seq in let q = read.0 (omega arith) in let u = read.1 (omega arith) in omega arith
part_less e t (suc (suc (suc (suc (suc n))))) r s low high fits row read less = absurd (omega arith)

-- the same key is ordered by row
pub key_same : (e t : Event) (r s : ℕ) → HasRead 4 e t → key_part e 4 ≡ key_part t 4 → (r ≤ s → rank e r ≤ rank t s) × (s < r → rank t s < rank e r)
unfolding rank
key_same e t r s read same = let q = read.0 (omega arith) in let u = read.1 (omega arith) in (λ low. omega arith, λ low. omega arith)

-- one word more was read
pub read_more : (e t : Event) (place : ℕ) → 2 ≤ place → place < 4 → HasRead place e t → key_part e place ≡ key_part t place → HasRead (place + 1) e t
read_more e t zero low high read same = absurd (omega arith)
read_more e t (suc zero) low high read same = absurd (omega arith)
read_more e t (suc (suc zero)) low high read same = (λ _. same, λ n. absurd (omega arith))
read_more e t (suc (suc (suc zero))) low high read same = (λ _. read.0 (omega arith), λ _. same)
read_more e t (suc (suc (suc (suc n)))) low high read same = absurd (omega arith)
