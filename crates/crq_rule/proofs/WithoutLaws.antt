-- A row leaves a list: what is left of the list, of its order, and of the paths through the row.
use Rattle.std.proofs.Common.{◌≡◌, ◌≢◌, ◌⊎◌, ⊎_elim, inl, inr, ℕ, ◌<◌, ◌≤◌, List, [], ◌∷◌, cond, sym, ap, ◌∙◌, eq-eqb, ne_eqb, subst, arith}
use mathlib.Core.Logic.{dite}
use native.Mathlib.Decide.{ℕ_discrete}
use Rattle.crq_base.specs.declared.words.Link.{Link}
use Rattle.crq_base.specs.Lists.{In}
use Rattle.crq_rule.specs.Lists.{put}
use Rattle.crq_rule.specs.Parts.{Leads, Names, IsPath, Reaches}
use Rattle.crq_rule.specs.Ranks.{Rises, without_row}
use Rattle.crq_rule.proofs.Puts.{put_here, put_else}

-- each row of a rising list is above n
pub above : (rank : ℕ → ℕ) (n r : ℕ) (xs : List ℕ) → Rises rank n xs → In r xs → n < rank r
above rank n r [] up i = absurd i
above rank n r (x ∷ xs) up i = ⊎_elim (λ (e : r ≡ x). subst (λ z. n < rank z) (sym e) up.0) (λ (t : In r xs). let a = above rank (rank x) r xs up.1 t in let b = up.0 in omega arith) i

-- so a row is none of those after it
pub before_all : (rank : ℕ → ℕ) (y r : ℕ) (ys : List ℕ) → Rises rank (rank y) ys → In r ys → y ≢ r
before_all rank y r ys up i e = let a = above rank (rank y) r ys up i in let same : rank y ≡ rank r = ap rank e in omega arith

pub rises_below : (rank : ℕ → ℕ) (n m : ℕ) (xs : List ℕ) → n ≤ m → Rises rank m xs → Rises rank n xs
rises_below rank n m [] le up = tt
rises_below rank n m (x ∷ xs) le up = let a = up.0 in (omega arith, up.1)

-- the links lead from a first row, or from none
pub first_in : (link : ℕ → Link) (a : ℕ) (xs : List ℕ) → 0 < a → Leads link a xs → In a xs
first_in link a [] some leads = absurd (omega arith)
first_in link a (y ∷ ys) some leads = inl leads.0

-- the row that a row of the list names is of the list
pub next_in : (link : ℕ → Link) (a p x : ℕ) (xs : List ℕ) → 0 < x → (link p).row ≡ x → Leads link a xs → In p xs → In x xs
next_in link a p x [] some is leads i = absurd i
next_in link a p x (y ∷ ys) some is leads i = ⊎_elim
    (λ (e : p ≡ y). inr (first_in link x ys some (subst (λ z. Leads link z ys) (sym (ap (λ z. (link z).row) e) ∙ is) leads.1)))
    (λ (t : In p ys). inr (next_in link (link y).row p x ys some is leads.1 t)) i

-- a change of the link of a row that isn't of the list
pub leads_else : (link : ℕ → Link) (p : ℕ) (new : Link) (a : ℕ) (xs : List ℕ) → (In p xs → ⊥) → Leads link a xs → Leads (put link p new) a xs
leads_else link p new a [] out leads = leads
leads_else link p new a (y ∷ ys) out leads = let next = leads_else link p new (link y).row ys (λ i. out (inr i)) leads.1 in
    (leads.0, subst (λ (z : Link). Leads (put link p new) z.row ys) (sym (put_else link p new y (λ e. out (inl (sym e))))) next)

pub without_here : (x y : ℕ) (ys : List ℕ) → y ≡ x → without_row x (y ∷ ys) ≡ ys
without_here x y ys e = ap (λ b. cond b ys (y ∷ without_row x ys)) (eq-eqb y x e)

pub without_else : (x y : ℕ) (ys : List ℕ) → y ≢ x → without_row x (y ∷ ys) ≡ y ∷ without_row x ys
without_else x y ys ne = ap (λ b. cond b ys (y ∷ without_row x ys)) (ne_eqb y x ne)

pub rises_without : (rank : ℕ → ℕ) (n x : ℕ) (xs : List ℕ) → Rises rank n xs → Rises rank n (without_row x xs)
rises_without rank n x [] up = tt
rises_without rank n x (y ∷ ys) up = dite (ℕ_discrete y x)
    (λ e. subst (Rises rank n) (sym (without_here x y ys e)) (let a = up.0 in rises_below rank n (rank y) ys (omega arith) up.1))
    (λ ne. subst (Rises rank n) (sym (without_else x y ys ne)) (up.0, rises_without rank (rank y) x ys up.1))

-- what is left are the other rows
pub in_without_row : (x y : ℕ) (xs : List ℕ) → In y (without_row x xs) → In y xs
in_without_row x y [] i = i
in_without_row x y (z ∷ zs) i = dite (ℕ_discrete z x)
    (λ e. inr (subst (In y) (without_here x z zs e) i))
    (λ ne. ⊎_elim inl (λ (t : In y (without_row x zs)). inr (in_without_row x y zs t)) (subst (In y) (without_else x z zs ne) i))

pub gone : (rank : ℕ → ℕ) (n x : ℕ) (xs : List ℕ) → Rises rank n xs → In x (without_row x xs) → ⊥
gone rank n x [] up i = i
gone rank n x (y ∷ ys) up i = dite (ℕ_discrete y x)
    (λ e. before_all rank y x ys up.1 (subst (In x) (without_here x y ys e) i) e)
    (λ ne. ⊎_elim (λ (e : x ≡ y). ne (sym e)) (λ (t : In x (without_row x ys)). gone rank (rank y) x ys up.1 t) (subst (In x) (without_else x y ys ne) i))

pub without_row_in : (x y : ℕ) (xs : List ℕ) → In y xs → y ≢ x → In y (without_row x xs)
without_row_in x y [] i ne = i
without_row_in x y (z ∷ zs) i ne = dite (ℕ_discrete z x)
    (λ e. subst (In y) (sym (without_here x z zs e)) (⊎_elim (λ (s : y ≡ z). absurd (ne (s ∙ e))) (λ t. t) i))
    (λ no. subst (In y) (sym (without_else x z zs no)) (⊎_elim inl (λ (t : In y zs). inr (without_row_in x y zs t ne)) i))

-- the first row leaves
pub leads_first : (link : ℕ → Link) (x : ℕ) (xs : List ℕ) → 0 < x → Leads link x xs → Leads link (link x).row (without_row x xs)
leads_first link x [] some leads = absurd (omega arith)
leads_first link x (y ∷ ys) some leads = subst (Leads link (link x).row) (sym (without_here x y ys (sym leads.0))) (subst (λ z. Leads link (link z).row ys) (sym leads.0) leads.1)

-- a row leaves behind the row p, which names what it named
pub leads_without : (link : ℕ → Link) (rank : ℕ → ℕ) (p x : ℕ) (new : Link) (n a : ℕ) (xs : List ℕ) → 0 < x → (link p).row ≡ x → new.row ≡ (link x).row → Rises rank n xs → Leads link a xs → In p xs
    → Leads (put link p new) a (without_row x xs)
leads_without link rank p x new n a [] some is next up leads i = absurd i
leads_without link rank p x new n a (y ∷ ys) some is next up leads i = dite (ℕ_discrete p y)
    (λ (e : p ≡ y). let from : Leads link x ys = subst (λ z. Leads link z ys) (sym (ap (λ z. (link z).row) e) ∙ is) leads.1 in
    let out : In p (without_row x ys) → ⊥ = λ t. before_all rank y p ys up.1 (in_without_row x p ys t) (sym e) in
    let left : Leads (put link p new) (put link p new y).row (without_row x ys) = subst (λ z. Leads (put link p new) z (without_row x ys))
    (sym next ∙ ap (λ (z : Link). z.row) (sym (put_here link p new) ∙ ap (put link p new) e)) (leads_else link p new (link x).row (without_row x ys) out (leads_first link x ys some from)) in
    subst (Leads (put link p new) a) (sym (without_else x y ys (before_all rank y x ys up.1 (first_in link x ys some from)))) (leads.0, left))
    (λ ne. let later : In p ys = ⊎_elim (λ (e : p ≡ y). absurd (ne e)) (λ t. t) i in
    let left = leads_without link rank p x new (rank y) (link y).row ys some is next up.1 leads.1 later in
    subst (Leads (put link p new) a) (sym (without_else x y ys (before_all rank y x ys up.1 (next_in link (link y).row p x ys some is leads.1 later))))
    (leads.0, subst (λ (z : Link). Leads (put link p new) z.row (without_row x ys)) (sym (put_else link p new y (λ e. ne (sym e)))) left))

-- the link of each row is as it was, or led to the row x and now leads to where x leads
abbrev pub Passes : ℕ → (ℕ → Link) → (ℕ → Link) → Type 0
Passes x link link' = (r : ℕ) → (link' r ≡ link r) ⊎ (((link r).row ≡ x) × ((link' r).row ≡ (link x).row))

module _ (link link' : ℕ → Link) (twin : ℕ → ℕ) (x : ℕ) where
  pub longer : (a y b : ℕ) → Names link twin a y → Reaches link twin y b → Reaches link twin a b
  longer a y b step r = record { through = y ∷ r.through; path = (step, r.path) }

  -- what the new links reach the old ones reached
  pub path_cut : Passes x link link' → 0 < x → (a b : ℕ) (xs : List ℕ) → IsPath link' twin a xs b → Reaches link twin a b
  path_cut pass some a b [] path = record { through = []; path = path }
  path_cut pass some a b (y ∷ ys) path = let rest = path_cut pass some y b ys path.1 in let step = path.0 in ⊎_elim
      (λ (e : (link' a).row ≡ y). ⊎_elim
      (λ (s : link' a ≡ link a). longer a y b (step.0, inl (sym (ap (λ (z : Link). z.row) s) ∙ e)) rest)
      (λ (h : ((link a).row ≡ x) × ((link' a).row ≡ (link x).row)). longer a x b (some, inl h.0) (longer x y b (step.0, inl (sym h.1 ∙ e)) rest)) (pass a))
      (λ (e : twin a ≡ y). longer a y b (step.0, inr e) rest) step.1

  -- a step that isn't by a changed link
  same_step : (a y b : ℕ) → (link' a ≡ link a) ⊎ (twin a ≡ y) → Names link twin a y → Reaches link' twin y b → Reaches link' twin a b
  same_step a y b same step r = record {
    through = y ∷ r.through;
    path = ((step.0, ⊎_elim (λ (s : link' a ≡ link a). ⊎_elim (λ (e : (link a).row ≡ y). inl (ap (λ (z : Link). z.row) s ∙ e)) inr step.1) inr same), r.path);
  }

  -- what they reached the new ones reach, but for the row x itself, which has no twin
  pub path_pass : Passes x link link' → twin x ≡ 0 → (a b : ℕ) (xs : List ℕ) → b ≢ x → IsPath link twin a xs b → Reaches link' twin a b
  path_pass pass alone a b [] ne path = record { through = []; path = path }
  path_pass pass alone a b (y ∷ []) ne path = let step = path.0 in let rest : Reaches link' twin y b = record { through = []; path = path.1 } in ⊎_elim
      (λ (e : (link a).row ≡ y). ⊎_elim (λ s. same_step a y b (inl s) step rest) (λ (h : ((link a).row ≡ x) × ((link' a).row ≡ (link x).row)). absurd (ne (sym path.1 ∙ (sym e ∙ h.0)))) (pass a))
      (λ e. same_step a y b (inr e) step rest) step.1
  path_pass pass alone a b (y ∷ z ∷ zs) ne path = let step = path.0 in let next = path.1.0 in let rest = path_pass pass alone y b (z ∷ zs) ne path.1 in ⊎_elim
      (λ (e : (link a).row ≡ y). ⊎_elim (λ s. same_step a y b (inl s) step rest)
      (λ (h : ((link a).row ≡ x) × ((link' a).row ≡ (link x).row)). let at : y ≡ x = sym e ∙ h.0 in let further = path_pass pass alone z b zs ne path.1.1 in ⊎_elim
      (λ (f : (link y).row ≡ z). record { through = z ∷ further.through; path = ((next.0, inl (h.1 ∙ (ap (λ r. (link r).row) (sym at) ∙ f))), further.path) })
      (λ (f : twin y ≡ z). let none : 0 ≡ z = sym alone ∙ (ap twin (sym at) ∙ f) in let some = next.0 in absurd (omega arith)) next.1) (pass a))
      (λ e. same_step a y b (inr e) step rest) step.1
