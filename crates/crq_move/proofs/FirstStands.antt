-- The first stand on a row: it is one of the stands, and stays the first as links are noted and another row is walked to.
use Rattle.std.proofs.Common.{◌≡◌, ◌≢◌, inl, inr, ℕ, ◌||◌, cond, eqb, Bool, true, false, List, [], ◌∷◌, ◌++◌, Some, None, ne_eqb, refl, sym, ap, ◌∙◌}
use Rattle.std.proofs.lemmas.Bool.{cond_both, eqb-true}
use Rattle.std.proofs.lemmas.Option.{same_Some, none-some}
use Rattle.crq_base.specs.declared.event.Event.{Event}
use Rattle.crq_base.specs.declared.words.Link.{Link}
use Rattle.crq_base.specs.Lists.{In}
use Rattle.crq_rule.specs.declared.view.Stand.{Stand}
use Rattle.crq_rule.specs.Ranks.{Cell, at_row}
use Rattle.crq_rule.specs.ListKinds.{no_take, is_cell, is_twin, new_stand, next_stand, only_row, noted_stand, noted, kept_stands, stands_after}
use Rattle.crq_rule.specs.CopyKinds.{stand_on}

-- it is one of the stands, and on that row
pub first_in : (r : ℕ) (ss : List Stand) (s : Stand) → stand_on r ss ≡ Some s → In s ss × (s.row ≡ r)
first_in r [] s is = absurd (none-some s is)
first_in r (x ∷ xs) s is = cond_both (eqb x.row r) (Some x) (stand_on r xs) (λ o. o ≡ Some s → In s (x ∷ xs) × (s.row ≡ r))
    (λ yes e. let same = same_Some x s e in (inl (sym same), ap (λ (z : Stand). z.row) (sym same) ∙ eqb-true x.row r yes)) (λ _ e. let h = first_in r xs s e in (inr h.0, h.1)) is

-- where the row's link is noted, it has that note
pub first_noted : (r : ℕ) (l : Link) (ss : List Stand) (s : Stand) → stand_on r ss ≡ Some s → stand_on r (noted r l ss) ≡ Some (noted_stand l s)
first_noted r l [] s is = absurd (none-some s is)
first_noted r l (x ∷ xs) s is = go (eqb x.row r) refl is (first_noted r l xs s)
  where
    go : (b : Bool) → eqb x.row r ≡ b → cond b (Some x) (stand_on r xs) ≡ Some s
        → (stand_on r xs ≡ Some s → stand_on r (noted r l xs) ≡ Some (noted_stand l s)) → stand_on r (cond b (noted_stand l x) x ∷ noted r l xs) ≡ Some (noted_stand l s)
    go true e f rest = ap (λ b. cond b (Some (noted_stand l x)) (stand_on r (noted r l xs))) e ∙ ap (λ z. Some (noted_stand l z)) (same_Some x s f)
    go false e f rest = ap (λ b. cond b (Some x) (stand_on r (noted r l xs))) e ∙ rest f

-- it stays where all other rows are left
pub first_only : (r : ℕ) (ss : List Stand) → stand_on r (only_row r ss) ≡ stand_on r ss
first_only r [] = refl
first_only r (x ∷ xs) = go (eqb x.row r) (is_twin r x.twin) refl (first_only r xs)
  where
    go : (b t : Bool) → eqb x.row r ≡ b → stand_on r (only_row r xs) ≡ stand_on r xs → stand_on r (cond (b || t) (x ∷ only_row r xs) (only_row r xs)) ≡ cond b (Some x) (stand_on r xs)
    go true t e rest = ap (λ b. cond b (Some x) (stand_on r (only_row r xs))) e
    go false true e rest = ap (λ b. cond b (Some x) (stand_on r (only_row r xs))) e ∙ rest
    go false false e rest = rest

first_kept : (r : ℕ) (l : Link) (ss : List Stand) → stand_on r (kept_stands false r l ss) ≡ stand_on r ss
first_kept r l ss = cond_both (is_cell l.mark) (only_row r ss) ss (λ xs. stand_on r xs ≡ stand_on r ss) (λ _. first_only r ss) (λ _. refl)

-- and before it comes a stand on another row
first_behind : (r : ℕ) (cell : Cell) (l : Link) (e : Event) (ss : List Stand) → l.row ≢ r → stand_on r (next_stand cell l e ++ ss) ≡ stand_on r ss
first_behind r cell l e ss other = cond_both (eqb l.row 0) [] (new_stand cell l e ∷ []) (λ xs. stand_on r (xs ++ ss) ≡ stand_on r ss) (λ _. refl) (λ _. ap (λ b. cond b (Some (new_stand cell l e)) (stand_on r ss)) (ne_eqb l.row r other))

-- after the row's link was loaded, which leads to another row, it has that note
pub first_walked : (r : ℕ) (l : Link) (e : Event) (ss : List Stand) (s : Stand) → l.row ≢ r → stand_on r ss ≡ Some s → stand_on r (stands_after (at_row r) no_take None l e ss) ≡ Some (noted_stand l s)
first_walked r l e ss s other is = first_behind r (at_row r) l e (noted r l (kept_stands false r l ss)) other ∙ first_noted r l (kept_stands false r l ss) s (first_kept r l ss ∙ is)

-- a stand on the row is left by that load too, with its event
pub walked_on : (r : ℕ) (l : Link) (e : Event) (ss : List Stand) (s : Stand) → stand_on r ss ≡ Some s → In (noted_stand l s) (stands_after (at_row r) no_take None l e ss)
walked_on r l e ss s is = join_right (next_stand (at_row r) l e) (noted r l (kept_stands false r l ss)) (noted_stand l s)
    (first_in r (noted r l (kept_stands false r l ss)) (noted_stand l s) (first_noted r l (kept_stands false r l ss) s (first_kept r l ss ∙ is))).0
  where
    join_right : (xs ys : List Stand) (z : Stand) → In z ys → In z (xs ++ ys)
    join_right [] ys z i = i
    join_right (x ∷ xs) ys z i = inr (join_right xs ys z i)

-- and the row to which it leads is stood on
pub walked_next : (r : ℕ) (l : Link) (e : Event) (ss : List Stand) → l.row ≢ 0 → In (new_stand (at_row r) l e) (stands_after (at_row r) no_take None l e ss)
walked_next r l e ss some = cond_both (eqb l.row 0) [] (new_stand (at_row r) l e ∷ []) (λ xs. In (new_stand (at_row r) l e) (xs ++ noted r l (kept_stands false r l ss))) (λ none. absurd (some (eqb-true l.row 0 none))) (λ _. inl refl)
