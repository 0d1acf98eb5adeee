-- A row that comes after a head, or after a row of its list: where the links lead, whether the ranks rise, and which rows the list has.
use Rattle.std.proofs.Common.{◌≡◌, ◌≢◌, ◌⊎◌, ⊎_elim, inl, inr, ℕ, ◌<◌, List, [], ◌∷◌, cond, sym, refl, ap, ◌∙◌, subst, arith, eq-eqb, ne_eqb}
use mathlib.Core.Logic.{dite}
use native.Mathlib.Decide.{ℕ_discrete}
use Rattle.crq_base.specs.declared.words.Link.{Link}
use Rattle.crq_base.specs.Lists.{In}
use Rattle.crq_rule.specs.Lists.{put}
use Rattle.crq_rule.specs.Parts.{Leads}
use Rattle.crq_rule.specs.Ranks.{Cell, at_head, at_row, link_at, heads_set, links_set, Rises, after_row, after_cell}
use Rattle.crq_rule.proofs.Puts.{put_here, put_else, put_all}

-- each row of a rising list is above n
pub above : (ranks : ℕ → ℕ) (n s : ℕ) (xs : List ℕ) → Rises ranks n xs → In s xs → n < ranks s
above ranks n s [] up i = absurd i
above ranks n s (x ∷ xs) up i = ⊎_elim (λ (e : s ≡ x). subst (λ z. n < ranks z) (sym e) up.0) (λ (t : In s xs). let a = above ranks (ranks x) s xs up.1 t in let b = up.0 in omega arith) i

-- links that differ at other rows alone
pub leads_else : (link link' : ℕ → Link) (a : ℕ) (xs : List ℕ) → ((s : ℕ) → In s xs → link' s ≡ link s) → Leads link a xs → Leads link' a xs
leads_else link link' a [] same l = l
leads_else link link' a (x ∷ xs) same l = (l.0, leads_else link link' (link' x).row xs (λ s i. same s (inr i)) (subst (λ (y : Link). Leads link y.row xs) (sym (same x (inl refl))) l.1))

-- the row to which links lead first, and the one to which the row p leads
pub first_in : (link : ℕ → Link) (a : ℕ) (xs : List ℕ) → Leads link a xs → (a ≡ 0) ⊎ In a xs
first_in link a [] l = inl l
first_in link a (x ∷ xs) l = inr (inl l.0)

pub next_in : (link : ℕ → Link) (a p : ℕ) (xs : List ℕ) → Leads link a xs → In p xs → ((link p).row ≡ 0) ⊎ In (link p).row xs
next_in link a p [] l i = absurd i
next_in link a p (x ∷ xs) l i = ⊎_elim
    (λ (e : p ≡ x). ⊎_elim (λ z. inl (ap (λ y. (link y).row) e ∙ z)) (λ (t : In (link x).row xs). inr (inr (subst (λ y. In (link y).row xs) (sym e) t))) (first_in link (link x).row xs l.1))
    (λ (t : In p xs). ⊎_elim inl (λ n. inr (inr n)) (next_in link (link x).row p xs l.1 t)) i

after_here : (p r x : ℕ) (xs : List ℕ) → x ≡ p → after_row p r (x ∷ xs) ≡ x ∷ r ∷ xs
after_here p r x xs e = ap (λ b. cond b (x ∷ r ∷ xs) (x ∷ after_row p r xs)) (eq-eqb x p e)

after_else : (p r x : ℕ) (xs : List ℕ) → x ≢ p → after_row p r (x ∷ xs) ≡ x ∷ after_row p r xs
after_else p r x xs ne = ap (λ b. cond b (x ∷ r ∷ xs) (x ∷ after_row p r xs)) (ne_eqb x p ne)

later : (p x : ℕ) (xs : List ℕ) → x ≢ p → In p (x ∷ xs) → In p xs
later p x xs ne i = ⊎_elim (λ (e : p ≡ x). absurd (ne (sym e))) (λ t. t) i

-- The row r comes after the row p of the list, and leads to where p led

pub leads_after : (link : ℕ → Link) (ranks : ℕ → ℕ) (n a p r : ℕ) (new : Link) (xs : List ℕ) → Leads link a xs → Rises ranks n xs → In p xs → new.row ≡ r → (link r).row ≡ (link p).row → r ≢ p
    → Leads (put link p new) a (after_row p r xs)
leads_after link ranks n a p r new [] l up i is same ne = absurd i
leads_after link ranks n a p r new (x ∷ xs) l up i is same ne = dite (ℕ_discrete x p)
    (λ (e : x ≡ p). subst (Leads (put link p new) a) (sym (after_here p r x xs e)) (
      l.0,
      (
        ap (λ y. (put link p new y).row) e ∙ (ap (λ (y : Link). y.row) (put_here link p new) ∙ is),
        leads_else link (put link p new) (put link p new r).row xs (λ s t. put_else link p new s (λ (z : s ≡ p). let b = above ranks (ranks x) s xs up.1 t in let d : ranks s ≡ ranks x = ap ranks (z ∙ sym e) in absurd (omega arith)))
            (subst (λ b. Leads link b xs) (ap (λ y. (link y).row) e ∙ (sym same ∙ ap (λ (y : Link). y.row) (sym (put_else link p new r ne)))) l.1),
      ),
    ))
    (λ (e : x ≢ p). subst (Leads (put link p new) a) (sym (after_else p r x xs e)) (
      l.0,
      subst (λ (y : Link). Leads (put link p new) y.row (after_row p r xs)) (sym (put_else link p new x e)) (leads_after link ranks (ranks x) (link x).row p r new xs l.1 up.1 (later p x xs e i) is same ne),
    ))

-- the row r is below those to which links lead from b
rises_from : (link : ℕ → Link) (ranks : ℕ → ℕ) (n b r : ℕ) (xs : List ℕ) → ((s : ℕ) → In s xs → 0 < s) → Leads link b xs → Rises ranks n xs → n < ranks r → (b ≡ 0) ⊎ (ranks r < ranks b) → Rises ranks n (r ∷ xs)
rises_from link ranks n b r [] some l up low next = (low, tt)
rises_from link ranks n b r (x ∷ xs) some l up low next = (low, (⊎_elim (λ (z : b ≡ 0). let a = some x (inl refl) in let d = l.0 in absurd (omega arith)) (λ (h : ranks r < ranks b). subst (λ z. ranks r < ranks z) l.0 h) next, up.1))

pub rises_after : (link : ℕ → Link) (ranks : ℕ → ℕ) (n a p r : ℕ) (xs : List ℕ) → ((s : ℕ) → In s xs → 0 < s) → Leads link a xs → Rises ranks n xs → In p xs → ranks p < ranks r
    → ((link p).row ≡ 0) ⊎ (ranks r < ranks (link p).row) → Rises ranks n (after_row p r xs)
rises_after link ranks n a p r [] some l up i low next = absurd i
rises_after link ranks n a p r (x ∷ xs) some l up i low next = dite (ℕ_discrete x p)
    (λ (e : x ≡ p). subst (Rises ranks n) (sym (after_here p r x xs e))
    (up.0, rises_from link ranks (ranks x) (link x).row r xs (λ s t. some s (inr t)) l.1 up.1 (subst (λ z. ranks z < ranks r) (sym e) low) (subst (λ z. ((link z).row ≡ 0) ⊎ (ranks r < ranks (link z).row)) (sym e) next)))
    (λ (e : x ≢ p). subst (Rises ranks n) (sym (after_else p r x xs e)) (up.0, rises_after link ranks (ranks x) (link x).row p r xs (λ s t. some s (inr t)) l.1 up.1 (later p x xs e i) low next))

pub in_after : (p r s : ℕ) (xs : List ℕ) → In s (after_row p r xs) → (s ≡ r) ⊎ In s xs
in_after p r s [] i = absurd i
in_after p r s (x ∷ xs) i = dite (ℕ_discrete x p)
    (λ (e : x ≡ p). ⊎_elim (λ (h : s ≡ x). inr (inl h)) (λ (t : (s ≡ r) ⊎ In s xs). ⊎_elim inl (λ u. inr (inr u)) t) (subst (In s) (after_here p r x xs e) i))
    (λ (e : x ≢ p). ⊎_elim (λ (h : s ≡ x). inr (inl h)) (λ (t : In s (after_row p r xs)). ⊎_elim inl (λ u. inr (inr u)) (in_after p r s xs t)) (subst (In s) (after_else p r x xs e) i))

pub after_in : (p r s : ℕ) (xs : List ℕ) → In p xs → (s ≡ r) ⊎ In s xs → In s (after_row p r xs)
after_in p r s [] i h = absurd i
after_in p r s (x ∷ xs) i h = dite (ℕ_discrete x p)
    (λ (e : x ≡ p). subst (In s) (sym (after_here p r x xs e)) (⊎_elim (λ z. inr (inl z)) (λ (t : (s ≡ x) ⊎ In s xs). ⊎_elim inl (λ u. inr (inr u)) t) h))
    (λ (e : x ≢ p). let old = later p x xs e i in subst (In s) (sym (after_else p r x xs e))
    (⊎_elim (λ z. inr (after_in p r s xs old (inl z))) (λ (t : (s ≡ x) ⊎ In s xs). ⊎_elim inl (λ u. inr (after_in p r s xs old (inr u))) t) h))

-- The row r comes after a cell of the list

-- the cell is the head q, or a row of its list xs
abbrev pub IsOf : Cell → ℕ → List ℕ → Type 0
IsOf (at_head h) q xs = h ≡ q
IsOf (at_row p) q xs = In p xs

-- the ranks rise from the cell to the row r
abbrev pub IsBelow : (ℕ → ℕ) → Cell → ℕ → Type 0
IsBelow ranks (at_head h) r = Unit {0}
IsBelow ranks (at_row p) r = ranks p < ranks r

pub cell_leads : (cell : Cell) (head link : ℕ → Link) (ranks : ℕ → ℕ) (q r : ℕ) (new : Link) (xs : List ℕ) → IsOf cell q xs → Leads link (head q).row xs → Rises ranks 0 xs → new.row ≡ r
    → (link r).row ≡ (link_at head link cell).row → (In r xs → ⊥) → Leads (links_set link cell new) (heads_set head cell new q).row (after_cell cell r xs)
cell_leads (at_head h) head link ranks q r new xs of l up is same out = let here : h ≡ q = of in (
  ap (λ y. (put head h new y).row) (sym here) ∙ (ap (λ (y : Link). y.row) (put_here head h new) ∙ is),
  subst (λ b. Leads link b xs) (ap (λ y. (head y).row) (sym here) ∙ sym same) l,
)
cell_leads (at_row p) head link ranks q r new xs of l up is same out = leads_after link ranks 0 (head q).row p r new xs l up of is same (λ (z : r ≡ p). out (subst (λ y. In y xs) (sym z) of))

pub cell_rises : (cell : Cell) (head link : ℕ → Link) (ranks : ℕ → ℕ) (q r : ℕ) (xs : List ℕ) → ((s : ℕ) → In s xs → 0 < s) → IsOf cell q xs → Leads link (head q).row xs → Rises ranks 0 xs → 0 < ranks r → IsBelow ranks cell r
    → ((link_at head link cell).row ≡ 0) ⊎ (ranks r < ranks (link_at head link cell).row) → Rises ranks 0 (after_cell cell r xs)
cell_rises (at_head h) head link ranks q r xs some of l up low below next = rises_from link ranks 0 (head q).row r xs some l up low (subst (λ z. ((head z).row ≡ 0) ⊎ (ranks r < ranks (head z).row)) of next)
cell_rises (at_row p) head link ranks q r xs some of l up low below next = rises_after link ranks 0 (head q).row p r xs some l up of below next

pub in_cell : (cell : Cell) (r s : ℕ) (xs : List ℕ) → In s (after_cell cell r xs) → (s ≡ r) ⊎ In s xs
in_cell (at_head h) r s xs i = i
in_cell (at_row p) r s xs i = in_after p r s xs i

pub cell_in : (cell : Cell) (q r s : ℕ) (xs : List ℕ) → IsOf cell q xs → (s ≡ r) ⊎ In s xs → In s (after_cell cell r xs)
cell_in (at_head h) q r s xs of i = i
cell_in (at_row p) q r s xs of i = after_in p r s xs of i

-- the row to which the cell leads
pub cell_next : (cell : Cell) (head link : ℕ → Link) (q : ℕ) (xs : List ℕ) → IsOf cell q xs → Leads link (head q).row xs → ((link_at head link cell).row ≡ 0) ⊎ In (link_at head link cell).row xs
cell_next (at_head h) head link q xs of l = subst (λ z. ((head z).row ≡ 0) ⊎ In (head z).row xs) (sym of) (first_in link (head q).row xs l)
cell_next (at_row p) head link q xs of l = next_in link (head q).row p xs l of

-- what the step leaves at other places
pub links_else : (cell : Cell) (link : ℕ → Link) (new : Link) (q s : ℕ) (xs : List ℕ) → IsOf cell q xs → (In s xs → ⊥) → links_set link cell new s ≡ link s
links_else (at_head h) link new q s xs of out = refl
links_else (at_row p) link new q s xs of out = put_else link p new s (λ (z : s ≡ p). out (subst (λ y. In y xs) (sym z) of))

pub heads_else : (cell : Cell) (head : ℕ → Link) (new : Link) (q h : ℕ) (xs : List ℕ) → IsOf cell q xs → h ≢ q → heads_set head cell new h ≡ head h
heads_else (at_head h') head new q h xs of ne = put_else head h' new h (λ z. ne (z ∙ of))
heads_else (at_row p) head new q h xs of ne = refl

-- what the new link has as the old one had stays everywhere
pub links_same : {B : Type 0} (g : Link → B) (cell : Cell) (head link : ℕ → Link) (new : Link) (s : ℕ) → g new ≡ g (link_at head link cell) → g (links_set link cell new s) ≡ g (link s)
links_same g (at_head h) head link new s is = refl
links_same g (at_row p) head link new s is = put_all link p new (λ s y. g y ≡ g (link s)) is (λ s _. refl) s

pub heads_same : {B : Type 0} (g : Link → B) (cell : Cell) (head link : ℕ → Link) (new : Link) (h : ℕ) → g new ≡ g (link_at head link cell) → g (heads_set head cell new h) ≡ g (head h)
heads_same g (at_head h') head link new h is = put_all head h' new (λ h y. g y ≡ g (head h)) is (λ h _. refl) h
heads_same g (at_row p) head link new h is = refl

-- a fact of all links stays where it holds of the new one
pub links_all : (P : ℕ → Link → Type 0) (cell : Cell) (link : ℕ → Link) (new : Link) → ((s : ℕ) → P s new) → ((s : ℕ) → P s (link s)) → (s : ℕ) → P s (links_set link cell new s)
links_all P (at_head h) link new is old s = old s
links_all P (at_row p) link new is old s = put_all link p new P (is p) (λ s _. old s) s

pub heads_all : (P : ℕ → Link → Type 0) (cell : Cell) (head : ℕ → Link) (new : Link) → ((h : ℕ) → P h new) → ((h : ℕ) → P h (head h)) → (h : ℕ) → P h (heads_set head cell new h)
heads_all P (at_head h') head new is old h = put_all head h' new P (is h') (λ h _. old h) h
heads_all P (at_row p) head new is old h = old h
