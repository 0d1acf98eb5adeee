-- Rows that rise along links, what names lead to, and the stands that a walk leaves.
use Rattle.std.proofs.Common.{eq-eqb, ◌≡◌, ◌≢◌, ◌⊎◌, ⊎_elim, inl, inr, ℕ, ◌<◌, ◌≤◌, Bool, eqb, ◌||◌, List, [], ◌∷◌, ◌++◌, Option, Some, None, sym, refl, ap, ◌∙◌, subst, arith}
use Rattle.std.proofs.lemmas.Bool.{false≢true, cond_both, eqb-true, eqb-false}
use Rattle.crq_base.specs.declared.event.Event.{Event}
use Rattle.crq_base.specs.declared.words.Link.{Link}
use Rattle.crq_base.specs.Lists.{In}
use Rattle.crq_rule.specs.declared.view.Stand.{Stand}
use Rattle.crq_rule.specs.declared.view.Walk.{Walk}
use Rattle.crq_rule.specs.Parts.{Leads, Names, IsPath, Reaches, rows_of}
use Rattle.crq_rule.specs.Ranks.{Rises, Cell, at_head, at_row}
use Rattle.crq_rule.specs.ListKinds.{Aim, is_take, is_cell, is_twin, new_stand, next_stand, only_row, noted_stand, noted, kept_stands, least_stands, search_stands, stands_after}

module _ (link : ℕ → Link) (f : ℕ → ℕ) where
  above : (n y : ℕ) (xs : List ℕ) → Rises f n xs → In y xs → n < f y
  above n y [] up i = absurd i
  above n y (x ∷ xs) up i = let a = up.0 in ⊎_elim (λ (e : y ≡ x). subst (λ z. n < f z) (sym e) a) (λ (t : In y xs). let b = above (f x) y xs up.1 t in omega arith) i

  -- the first row has the least rank
  pub least : (a n y : ℕ) (xs : List ℕ) → Leads link a xs → Rises f n xs → In y xs → In a xs × (f a ≤ f y)
  least a n y [] leads up i = absurd i
  least a n y (x ∷ xs) leads up i = (
    inl leads.0,
    subst (λ z. f z ≤ f y) (sym leads.0) (⊎_elim (λ (e : y ≡ x). let q = ap f e in omega arith) (λ (t : In y xs). let b = above (f x) y xs up.1 t in omega arith) i),
  )

  -- links that lead on from a row lead to one of them, if to any
  pub first_in : (a : ℕ) (xs : List ℕ) → Leads link a xs → 0 < a → In a xs
  first_in a [] leads some = absurd (omega arith)
  first_in a (x ∷ xs) leads some = inl leads.0

  -- the row after r is one of them, and its rank is above that of r
  pub next_above : (a n r : ℕ) (xs : List ℕ) → Leads link a xs → Rises f n xs → In r xs → 0 < (link r).row → In (link r).row xs × (f r < f (link r).row)
  next_above a n r [] leads up i some = absurd i
  next_above a n r (x ∷ xs) leads up i some = ⊎_elim
      (λ (e : r ≡ x). let t = first_in (link x).row xs leads.1 (subst (λ z. 0 < (link z).row) e some) in
      subst (λ z. In (link z).row (x ∷ xs) × (f z < f (link z).row)) (sym e) (inr t, above (f x) (link x).row xs up.1 t))
      (λ (t : In r xs). let m = next_above (link x).row (f x) r xs leads.1 up.1 t some in (inr m.0, m.1)) i

  -- no row stands between p and the one after it
  pub adjacent : (a n p y : ℕ) (xs : List ℕ) → Leads link a xs → Rises f n xs → In p xs → In y xs → p ≢ y → f p ≤ f y → In (link p).row xs × (f (link p).row ≤ f y)
  adjacent a n p y [] leads up i k ne low = absurd i
  adjacent a n p y (x ∷ xs) leads up i k ne low = ⊎_elim
      (λ (e : p ≡ x). ⊎_elim (λ (d : y ≡ x). absurd (ne (e ∙ sym d)))
      (λ (t : In y xs). subst (λ z. In (link z).row (x ∷ xs) × (f (link z).row ≤ f y)) (sym e) (let m = least (link x).row (f x) y xs leads.1 up.1 t in (inr m.0, m.1))) k)
      (λ (s : In p xs). ⊎_elim (λ (d : y ≡ x). let h = above (f x) p xs up.1 s in let q = ap f d in absurd (omega arith))
      (λ (t : In y xs). let m = adjacent (link x).row (f x) p y xs leads.1 up.1 s t ne low in (inr m.0, m.1)) k) i

module _ (link : ℕ → Link) (twin : ℕ → ℕ) where
  -- one more row at the front of a path
  pub longer : (a b s : ℕ) → Names link twin a b → Reaches link twin b s → Reaches link twin a s
  longer a b s names r = record { through = b ∷ r.through; path = (names, r.path) }

  -- links lead from the first row to each other one
  pub reached : (a y : ℕ) (xs : List ℕ) → ((r : ℕ) → In r xs → 0 < r) → Leads link a xs → In y xs → (0 < a) × Reaches link twin a y
  reached a y [] some leads i = absurd i
  reached a y (x ∷ xs) some leads i = (
    some a (inl leads.0),
    ⊎_elim (λ (e : y ≡ x). record { through = []; path = leads.0 ∙ sym e })
        (λ (t : In y xs). let r = reached (link x).row y xs (λ r i. some r (inr i)) leads.1 t in longer a (link x).row y (r.0, inl (ap (λ z. (link z).row) leads.0)) r.1) i,
  )

  -- a path from one of these rows stays among them, where names do
  pub path_in : (xs : List ℕ) → ((r s : ℕ) → In r xs → Names link twin r s → In s xs) → (a r : ℕ) (ps : List ℕ) → In a xs → IsPath link twin a ps r → In r xs
  path_in xs stays a r [] i path = subst (λ z. In z xs) path i
  path_in xs stays a r (p ∷ ps) i path = path_in xs stays p r ps (stays a p i path.0) path.1

module _ {A : Type 0} where
  pub in_join : (xs ys : List A) (a : A) → In a (xs ++ ys) → In a xs ⊎ In a ys
  in_join [] ys a i = inr i
  in_join (x ∷ xs) ys a i = ⊎_elim (λ e. inl (inl e)) (λ t. ⊎_elim (λ h. inl (inr h)) inr (in_join xs ys a t)) i

  pub join_in : (xs ys : List A) (a : A) → In a xs ⊎ In a ys → In a (xs ++ ys)
  join_in [] ys a h = ⊎_elim (λ n. absurd n) (λ i. i) h
  join_in (x ∷ xs) ys a h = ⊎_elim (λ i. ⊎_elim inl (λ t. inr (join_in xs ys a (inl t))) i) (λ i. inr (join_in xs ys a (inr i))) h

-- the rows of stands
pub rows_in : (ss : List Stand) (s : Stand) → In s ss → In s.row (rows_of ss)
rows_in [] s i = absurd i
rows_in (t ∷ ts) s i = ⊎_elim (λ e. inl (ap (λ (z : Stand). z.row) e)) (λ h. inr (rows_in ts s h)) i

pub in_rows : (ss : List Stand) (r : ℕ) → In r (rows_of ss) → (s : Stand) × In s ss × (s.row ≡ r)
in_rows [] r i = absurd i
in_rows (t ∷ ts) r i = ⊎_elim (λ (e : r ≡ t.row). (t, inl refl, sym e)) (λ h. let s = in_rows ts r h in (s.0, inr s.1, s.2)) i

pub in_next : (cell : Cell) (l : Link) (e : Event) (s : Stand) → In s (next_stand cell l e) → (0 < l.row) × (s ≡ new_stand cell l e)
in_next cell l e s = cond_both (eqb l.row 0) [] (new_stand cell l e ∷ []) (λ ss. In s ss → (0 < l.row) × (s ≡ new_stand cell l e))
    (λ _ i. absurd i) (λ no i. let ne = eqb-false l.row 0 no in (omega arith, ⊎_elim (λ q. q) (λ n. absurd n) i))

-- the row that the link names is stood on
pub next_in : (cell : Cell) (l : Link) (e : Event) → (l.row ≡ 0) ⊎ In l.row (rows_of (next_stand cell l e))
next_in cell l e = cond_both (eqb l.row 0) [] (new_stand cell l e ∷ []) (λ ss. (l.row ≡ 0) ⊎ In l.row (rows_of ss)) (λ yes. inl (eqb-true l.row 0 yes)) (λ _. inr (inl refl))

in_only : (r : ℕ) (ss : List Stand) (s : Stand) → In s (only_row r ss) → In s ss
in_only r [] s i = absurd i
in_only r (t ∷ ts) s i = cond_both (eqb t.row r || is_twin r t.twin) (t ∷ only_row r ts) (only_row r ts) (λ xs. In s xs → In s (t ∷ ts)) (λ _ i. ⊎_elim inl (λ h. inr (in_only r ts s h)) i) (λ _ i. inr (in_only r ts s i)) i

only_in : (r : ℕ) (ss : List Stand) → In r (rows_of ss) → In r (rows_of (only_row r ss))
only_in r [] i = absurd i
only_in r (t ∷ ts) i = cond_both (eqb t.row r || is_twin r t.twin) (t ∷ only_row r ts) (only_row r ts) (λ xs. In r (rows_of xs)) (λ _. ⊎_elim inl (λ h. inr (only_in r ts h)) i)
    (λ no. only_in r ts (⊎_elim (λ (e : r ≡ t.row). absurd (false≢true (sym no ∙ ap (λ b. b || is_twin r t.twin) (eq-eqb t.row r (sym e))))) (λ h. h) i))

-- a stand on the row stays
only_stand : (r : ℕ) (ss : List Stand) (s : Stand) → s.row ≡ r → In s ss → In s (only_row r ss)
only_stand r [] s e i = absurd i
only_stand r (t ∷ ts) s e i = cond_both (eqb t.row r || is_twin r t.twin) (t ∷ only_row r ts) (only_row r ts) (λ xs. In s xs) (λ _. ⊎_elim inl (λ h. inr (only_stand r ts s e h)) i)
    (λ no. only_stand r ts s e (⊎_elim (λ (q : s ≡ t). absurd (false≢true (sym no ∙ ap (λ b. b || is_twin r t.twin) (eq-eqb t.row r (ap (λ (z : Stand). z.row) (sym q) ∙ e))))) (λ h. h) i))

-- the stands that a search keeps were there, and those on its least row are among them
in_least : (o : Option (ℕ × Event)) (ss : List Stand) (s : Stand) → In s (least_stands o ss) → In s ss
in_least None ss s i = absurd i
in_least (Some t) ss s i = in_only t.0 ss s i

in_search : (w : Option Walk) (ss : List Stand) (s : Stand) → In s (search_stands w ss) → In s ss
in_search None ss s i = absurd i
in_search (Some w) ss s i = in_least w.least ss s i

search_in : (w : Walk) (r : ℕ) (e : Event) (ss : List Stand) (s : Stand) → w.least ≡ Some (r, e) → s.row ≡ r → In s ss → In s (search_stands (Some w) ss)
search_in w r e ss s is row i = subst (λ o. In s (least_stands o ss)) (sym is) (only_stand r ss s row i)

in_kept : (seeks : Bool) (r : ℕ) (l : Link) (ss : List Stand) (s : Stand) → In s (kept_stands seeks r l ss) → In s ss
in_kept seeks r l ss s = cond_both (seeks || is_cell l.mark) (only_row r ss) ss (λ xs. In s xs → In s ss) (λ _. in_only r ss s) (λ _ i. i)

pub kept_in : (seeks : Bool) (r : ℕ) (l : Link) (ss : List Stand) → In r (rows_of ss) → In r (rows_of (kept_stands seeks r l ss))
kept_in seeks r l ss i = cond_both (seeks || is_cell l.mark) (only_row r ss) ss (λ xs. In r (rows_of xs)) (λ _. only_in r ss i) (λ _. i)

-- a stand of which the row's link was noted was there, or is one on that row with its note
pub in_noted : (r : ℕ) (l : Link) (ss : List Stand) (s : Stand) → In s (noted r l ss) → In s ss ⊎ ((t : Stand) × In t ss × (t.row ≡ r) × (s ≡ noted_stand l t))
in_noted r l [] s i = absurd i
in_noted r l (t ∷ ts) s i = ⊎_elim
    (cond_both (eqb t.row r) (noted_stand l t) t (λ z. s ≡ z → In s (t ∷ ts) ⊎ ((t' : Stand) × In t' (t ∷ ts) × (t'.row ≡ r) × (s ≡ noted_stand l t')))
    (λ yes e. inr (t, inl refl, eqb-true t.row r yes, e)) (λ _ e. inl (inl e)))
    (λ h. ⊎_elim (λ k. inl (inr k)) (λ k. inr (k.0, inr k.1, k.2, k.3)) (in_noted r l ts s h)) i

pub noted_rows : (r : ℕ) (l : Link) (ss : List Stand) → rows_of (noted r l ss) ≡ rows_of ss
noted_rows r l [] = refl
noted_rows r l (t ∷ ts) = cond_both (eqb t.row r) (noted_stand l t) t (λ z. z.row ∷ rows_of (noted r l ts) ≡ t.row ∷ rows_of ts) (λ _. ap (λ xs. t.row ∷ xs) (noted_rows r l ts)) (λ _. ap (λ xs. t.row ∷ xs) (noted_rows r l ts))

-- what a stand after a walk is: one of before, the row that the cell's link names, or the cell's row, of which the link was found
abbrev pub Stood : Cell → Link → Event → List Stand → Stand → Type 0
Stood cell l e ss s = In s ss ⊎ (((0 < l.row) × (s ≡ new_stand cell l e)) ⊎ ((t : Stand) × In t ss × (cell ≡ at_row t.row) × (s ≡ noted_stand l t)))

pub stood : (cell : Cell) (aim : Aim) (w : Option Walk) (l : Link) (e : Event) (ss : List Stand) (s : Stand) → In s (stands_after cell aim w l e ss) → Stood cell l e ss s
stood (at_head q) aim w l e ss s i = ⊎_elim (λ h. inl (in_search w ss s h)) (λ h. inr (inl (in_next (at_head q) l e s h))) (in_join (search_stands w ss) (next_stand (at_head q) l e) s i)
stood (at_row r) aim w l e ss s i = let kept : List Stand = noted r l (kept_stands (is_take aim) r l ss) in ⊎_elim (λ h. inl (in_search w ss s h))
    (λ h. ⊎_elim (λ h. inr (inl (in_next (at_row r) l e s h)))
    (λ h. ⊎_elim (λ k. inl (in_kept (is_take aim) r l ss s k)) (λ k. inr (inr (k.0, in_kept (is_take aim) r l ss k.0 k.1, ap at_row (sym k.2), k.3))) (in_noted r l (kept_stands (is_take aim) r l ss) s h))
    (in_join (next_stand (at_row r) l e) kept s h))
    (in_join (search_stands w ss) (next_stand (at_row r) l e ++ kept) s i)

-- a row stood on after a walk was stood on before it, or is the one that the cell's link names
pub row_stood : (cell : Cell) (aim : Aim) (w : Option Walk) (l : Link) (e : Event) (ss : List Stand) (r : ℕ) → In r (rows_of (stands_after cell aim w l e ss)) → In r (rows_of ss) ⊎ ((0 < l.row) × (l.row ≡ r))
row_stood cell aim w l e ss r i = let s = in_rows (stands_after cell aim w l e ss) r i in ⊎_elim
    (λ (h : In s.0 ss). inl (subst (λ z. In z (rows_of ss)) s.2 (rows_in ss s.0 h)))
    (⊎_elim (λ h. inr (h.0, sym (ap (λ (z : Stand). z.row) h.1) ∙ s.2))
    (λ h. inl (subst (λ z. In z (rows_of ss)) (sym (ap (λ (z : Stand). z.row) h.3) ∙ s.2) (rows_in ss h.0 h.1))))
    (stood cell aim w l e ss s.0 s.1)

later : (xs ys : List Stand) (r : ℕ) → In r (rows_of ys) → In r (rows_of (xs ++ ys))
later [] ys r h = h
later (x ∷ xs) ys r h = inr (later xs ys r h)

earlier : (xs ys : List Stand) (r : ℕ) → In r (rows_of xs) → In r (rows_of (xs ++ ys))
earlier [] ys r h = absurd h
earlier (x ∷ xs) ys r h = ⊎_elim inl (λ t. inr (earlier xs ys r t)) h

-- a walk stays on the row at which it reads
pub row_stays : (r : ℕ) (aim : Aim) (w : Option Walk) (l : Link) (e : Event) (ss : List Stand) → In r (rows_of ss) → In r (rows_of (stands_after (at_row r) aim w l e ss))
row_stays r aim w l e ss i = let kept : List Stand = kept_stands (is_take aim) r l ss in
    later (search_stands w ss) (next_stand (at_row r) l e ++ noted r l kept) r (later (next_stand (at_row r) l e) (noted r l kept) r (subst (In r) (sym (noted_rows r l kept)) (kept_in (is_take aim) r l ss i)))

-- and comes to the one that the link names
pub row_next : (cell : Cell) (aim : Aim) (w : Option Walk) (l : Link) (e : Event) (ss : List Stand) → (l.row ≡ 0) ⊎ In l.row (rows_of (stands_after cell aim w l e ss))
row_next (at_head q) aim w l e ss = ⊎_elim inl (λ h. inr (later (search_stands w ss) (next_stand (at_head q) l e) l.row h)) (next_in (at_head q) l e)
row_next (at_row r) aim w l e ss = let kept : List Stand = noted r l (kept_stands (is_take aim) r l ss) in
    ⊎_elim inl (λ h. inr (later (search_stands w ss) (next_stand (at_row r) l e ++ kept) l.row (earlier (next_stand (at_row r) l e) kept l.row h))) (next_in (at_row r) l e)

-- a search keeps the stands on its least row
pub least_stand : (cell : Cell) (aim : Aim) (w : Walk) (r : ℕ) (f : Event) (l : Link) (e : Event) (ss : List Stand) (s : Stand) → w.least ≡ Some (r, f) → s.row ≡ r → In s ss → In s (stands_after cell aim (Some w) l e ss)
least_stand (at_head q) aim w r f l e ss s is row i = join_in (search_stands (Some w) ss) (next_stand (at_head q) l e) s (inl (search_in w r f ss s is row i))
least_stand (at_row p) aim w r f l e ss s is row i = join_in (search_stands (Some w) ss) (next_stand (at_row p) l e ++ noted p l (kept_stands (is_take aim) p l ss)) s (inl (search_in w r f ss s is row i))

pub least_stays : (cell : Cell) (aim : Aim) (w : Walk) (t : ℕ × Event) (l : Link) (e : Event) (ss : List Stand) → w.least ≡ Some t → In t.0 (rows_of ss) → In t.0 (rows_of (stands_after cell aim (Some w) l e ss))
least_stays cell aim w t l e ss is i = let s = in_rows ss t.0 i in subst (λ z. In z (rows_of (stands_after cell aim (Some w) l e ss))) s.2
    (rows_in (stands_after cell aim (Some w) l e ss) s.0 (least_stand cell aim w t.0 t.1 l e ss s.0 is s.2 s.1))
