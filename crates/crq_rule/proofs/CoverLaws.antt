-- How the part on covered rows stays, and what is covered. A row that may be claimed is covered by no guard.
use Rattle.std.proofs.Common.{◌≡◌, ◌⊎◌, ⊎_elim, inl, inr, ℕ, ◌+◌, ◌<◌, ◌≤◌, List, [], ◌∷◌, ◌++◌, Option, Some, None, sym, refl, ap, ◌∙◌, subst, arith}
use mathlib.Core.Logic.{dite}
use native.Mathlib.Decide.{ℕ_discrete}
use Rattle.crq_base.specs.declared.words.Link.{Link}
use Rattle.crq_base.specs.Lists.{In}
use Rattle.crq_rule.specs.declared.debts.CopyDebt.{CopyDebt}
use Rattle.crq_rule.specs.declared.view.Guard.{Guard}
use Rattle.crq_rule.specs.declared.view.Guard.TheVariants.{Off, Entering, On}
use Rattle.crq_rule.specs.declared.view.CutRow.{CutRow}
use Rattle.crq_rule.specs.declared.view.Stand.{Stand}
use Rattle.crq_rule.specs.Lists.{put}
use Rattle.crq_rule.specs.Core.{Holding, in_hand, retired}
use Rattle.crq_rule.specs.Parts.{Cover, Covers, Ground, footings, rows_of, rows_of_old, rows_of_copy, IsGuarded, HasTag, IsOn, Names, IsPath}
use Rattle.crq_rule.specs.Kinds.{tagged}
use Rattle.crq_rule.proofs.Puts.{put_here, put_else, put_all}
use Rattle.crq_rule.proofs.PartLaws.{sort, of_whom, tagged_some}
use Rattle.crq_rule.proofs.HolderLaws.{none_some}

-- Where callers stand

pub in_front : (xs ys : List ℕ) (a : ℕ) → In a xs → In a (xs ++ ys)
in_front [] ys a i = absurd i
in_front (x ∷ xs) ys a i = ⊎_elim inl (λ t. inr (in_front xs ys a t)) i

-- the row of a stand
pub stand_row : (ss : List Stand) (s : Stand) → In s ss → In s.row (rows_of ss)
stand_row [] s i = absurd i
stand_row (t ∷ ss) s i = ⊎_elim (λ e. inl (ap (λ (z : Stand). z.row) e)) (λ h. inr (stand_row ss s h)) i

-- a caller stands on the rows of its stands
pub row_footing : (rows : ℕ → List Stand) (old : ℕ → Option Stand) (copying : ℕ → Option CopyDebt) (k r : ℕ) → In r (rows_of (rows k)) → In r (footings rows old copying k)
row_footing rows old copying k r i = in_front (rows_of (rows k)) (rows_of_old (old k) ++ rows_of_copy (copying k)) r i

in_back : (xs ys : List ℕ) (a : ℕ) → In a ys → In a (xs ++ ys)
in_back [] ys a i = i
in_back (x ∷ xs) ys a i = inr (in_back xs ys a i)

-- and on the frozen row whose copy it has yet to link
pub old_footing : (rows : ℕ → List Stand) (old : ℕ → Option Stand) (copying : ℕ → Option CopyDebt) (k : ℕ) (s : Stand) → old k ≡ Some s → In s.row (footings rows old copying k)
old_footing rows old copying k s is = in_back (rows_of (rows k)) (rows_of_old (old k) ++ rows_of_copy (copying k)) s.row (subst (λ o. In s.row (rows_of_old o ++ rows_of_copy (copying k))) (sym is) (inl refl))

-- and on both rows of a copy that it owes
pub copy_footing : (rows : ℕ → List Stand) (old : ℕ → Option Stand) (copying : ℕ → Option CopyDebt) (k : ℕ) (d : CopyDebt) → copying k ≡ Some d → In d.old (footings rows old copying k) × In d.copy (footings rows old copying k)
copy_footing rows old copying k d is = (at d.old (inl refl), at d.copy (inr (inl refl)))
  where
    at : (r : ℕ) → In r (d.old ∷ d.copy ∷ []) → In r (footings rows old copying k)
    at r i = in_back (rows_of (rows k)) (rows_of_old (old k) ++ rows_of_copy (copying k)) r (in_back (rows_of_old (old k)) (rows_of_copy (copying k)) r (subst (λ o. In r (rows_of_copy o)) (sym is) i))

in_middle : (xs ys zs : List ℕ) (a : ℕ) → In a (xs ++ zs) → In a (xs ++ (ys ++ zs))
in_middle [] ys zs a i = in_back ys zs a i
in_middle (x ∷ xs) ys zs a i = ⊎_elim inl (λ t. inr (in_middle xs ys zs a t)) i

-- a caller leaves the frozen row whose copy it was to link
pub less_old : (rows : ℕ → List Stand) (old : ℕ → Option Stand) (copying : ℕ → Option CopyDebt) (j k a : ℕ) → In a (footings rows (put old j None) copying k) → In a (footings rows old copying k)
less_old rows old copying j k a = put_all old j None (λ k o. In a (rows_of (rows k) ++ (rows_of_old o ++ rows_of_copy (copying k))) → In a (footings rows old copying k))
    (in_middle (rows_of (rows j)) (rows_of_old (old j)) (rows_of_copy (copying j)) a) (λ _ _ i. i) k

none_left : (xs ys : List ℕ) → ((a : ℕ) → In a xs → In a ys) → ys ≡ [] → xs ≡ []
none_left [] ys less none = refl
none_left (x ∷ xs) ys less none = absurd (subst (In x) none (less x (inl refl)))

-- a caller that owes no copy comes to stand nowhere
pub nowhere_now : (rows : ℕ → List Stand) (old : ℕ → Option Stand) (copying : ℕ → Option CopyDebt) (j : ℕ) → copying j ≡ None → footings (put rows j []) (put old j None) copying j ≡ []
nowhere_now rows old copying j none = λ x. rows_of (put_here rows j [] x) ++ (rows_of_old (put_here old j None x) ++ rows_of_copy (none x))

pub less_nowhere : (rows : ℕ → List Stand) (old : ℕ → Option Stand) (copying : ℕ → Option CopyDebt) (j : ℕ) → copying j ≡ None → (k a : ℕ) → In a (footings (put rows j []) (put old j None) copying k) → In a (footings rows old copying k)
less_nowhere rows old copying j none k a i = dite (ℕ_discrete k j)
    (λ e. absurd (subst (In a) (ap (footings (put rows j []) (put old j None) copying) e ∙ nowhere_now rows old copying j none) i))
    (λ ne. subst (In a) (λ x. rows_of (put_else rows j [] k ne x) ++ (rows_of_old (put_else old j None k ne x) ++ rows_of_copy (copying k))) i)

-- What is covered

on_or_not : (g : Guard) → ((x : ℕ) × (g ≡ On x)) ⊎ (IsOn g → ⊥)
on_or_not Off = inr (λ n. n)
on_or_not (Entering x) = inr (λ n. n)
on_or_not (On x) = inl (x, refl)

-- a path, with one step more
path_more : (link : ℕ → Link) (twin : ℕ → ℕ) (a b d : ℕ) (xs : List ℕ) → IsPath link twin a xs b → Names link twin b d → IsPath link twin a (xs ++ d ∷ []) d
path_more link twin a b d [] p n = (subst (λ z. Names link twin z d) (sym p) n, refl)
path_more link twin a b d (x ∷ xs) p n = (p.0, path_more link twin x b d xs p.1 n)

-- the caller k is one that covers the row
pub guarded_by : {ground : Ground} {r : ℕ} (k : ℕ) → (g : ℕ) × Covers ground k g r → IsGuarded ground r
guarded_by k v = (k, v.0, v.1)

module _ (ground : Ground) where
  -- what a covered row names is covered
  pub names_covered : (k g r s : ℕ) → Covers ground k g r → Names ground.link ground.twin r s → Covers ground k g s
  names_covered k g r s v names = record {
    inside = v.inside;
    on = v.on;
    at = v.at;
    stands = v.stands;
    reaches = record { through = v.reaches.through ++ s ∷ []; path = path_more ground.link ground.twin v.at r s v.reaches.through v.reaches.path names };
  }

  -- a caller's guard covers each row that the caller stands on
  pub footing_covered : (cut : ℕ → Option CutRow) (holding : ℕ → Holding) → Cover ground cut holding → (k a : ℕ) → k < ground.workers → In a (ground.footing k) → (g : ℕ) × Covers ground k g a
  footing_covered cut holding cover k a b i = ⊎_elim
      (λ g. (g.0, record { inside = b; on = g.1; at = a; stands = i; reaches = record { through = []; path = refl } }))
      (λ off. absurd (subst (In a) (cover.resting k b off) i)) (on_or_not (ground.guard k))

  -- what is covered where a caller that stands nowhere changes its guard
  pub covered_guard : (j : ℕ) (g : Guard) → (j < ground.workers → ground.footing j ≡ []) → (k x r : ℕ) → Covers (record ground { guard = put ground.guard j g }) k x r → Covers ground k x r
  covered_guard j g none k x r v = dite (ℕ_discrete k j)
      (λ (e : k ≡ j). absurd (subst (In v.at) (ap ground.footing e ∙ none (subst (λ z. z < ground.workers) e v.inside)) v.stands))
      (λ ne. record { inside = v.inside; on = sym (put_else ground.guard j g k ne) ∙ v.on; at = v.at; stands = v.stands; reaches = v.reaches })

  -- what is covered where no caller comes to stand on more rows
  pub covered_less : (footing : ℕ → List ℕ) → ((k a : ℕ) → In a (footing k) → In a (ground.footing k)) → (k x r : ℕ) → Covers (record ground { footing = footing }) k x r → Covers ground k x r
  covered_less footing less k x r v = record { inside = v.inside; on = v.on; at = v.at; stands = less k v.at v.stands; reaches = v.reaches }

module _ (ground : Ground) (cut : ℕ → Option CutRow) (holding : ℕ → Holding) where
  -- a caller that stands nowhere changes its guard
  pub cover_guard : (j : ℕ) (g : Guard) → (j < ground.workers → ground.footing j ≡ []) → Cover ground cut holding → Cover (record ground { guard = put ground.guard j g }) cut holding
  cover_guard j g none old = record {
    free = λ k x r i v. old.free k x r i (covered_guard ground j g none k x r v);
    tags = λ k x r t v. old.tags k x r t (covered_guard ground j g none k x r v);
    resting = λ k b. put_all ground.guard j g (λ i h. i < ground.workers → (IsOn h → ⊥) → ground.footing i ≡ []) (λ c _. none c) (λ i _. old.resting i) k b;
  }

  -- no caller comes to stand on more rows
  pub cover_less : (footing : ℕ → List ℕ) → ((k a : ℕ) → In a (footing k) → In a (ground.footing k)) → Cover ground cut holding → Cover (record ground { footing = footing }) cut holding
  cover_less footing less old = record {
    free = λ k x r i v. old.free k x r i (covered_less ground footing less k x r v);
    tags = λ k x r t v. old.tags k x r t (covered_less ground footing less k x r v);
    resting = λ k b off. none_left (footing k) (ground.footing k) (less k) (old.resting k b off);
  }

  -- the caller j loaded the epoch e, which no guard that is on found to be higher
  pub cover_tagged : (j e : ℕ) → ((k g : ℕ) → k < ground.workers → ground.guard k ≡ On g → g ≤ e) → Cover ground cut holding → Cover ground (put cut j (tagged e (cut j))) holding
  cover_tagged j e low old = record {
    free = old.free;
    tags = λ k g r t v has. ⊎_elim (λ is. old.tags k g r t v (inl is))
        (λ (h : (i : ℕ) × (x : CutRow) × (i < ground.workers) × (put cut j (tagged e (cut j)) i ≡ Some x) × (x.row ≡ r) × In t x.tags). dite (ℕ_discrete h.0 j)
        (λ (q : h.0 ≡ j). let y = tagged_some e (cut j) h.1 (sym (put_here cut j (tagged e (cut j))) ∙ (ap (put cut j (tagged e (cut j))) (sym q) ∙ h.3)) in
        ⊎_elim (λ (z : t ≡ e). subst (λ z. g ≤ z) (sym z) (low k g v.inside v.on)) (λ i. old.tags k g r t v (inr (j, y.0, subst (λ z. z < ground.workers) q h.2, y.1, y.2 ∙ h.4, i))) (y.3 t h.5))
        (λ ne. old.tags k g r t v (inr (h.0, h.1, h.2, sym (put_else cut j (tagged e (cut j)) h.0 ne) ∙ h.3, h.4, h.5))))
        has;
    resting = old.resting;
  }

  -- a cut row is retired, with a tag that it may have
  pub cover_retire : (j r t : ℕ) → HasTag ground.workers cut holding r t → Cover ground cut holding → Cover ground (put cut j None) (put holding r (retired t))
  cover_retire j r t tag old = record {
    free = λ k g s i v. put_all holding r (retired t) (λ s h. Covers ground k g s → h ≡ in_hand i → ⊥) (λ _ q. let z : 3 ≡ 0 = ap sort q in absurd (omega arith)) (λ s _ v. old.free k g s i v) s v;
    tags = λ k g s u v has. ⊎_elim
        (λ (is : put holding r (retired t) s ≡ retired u). put_all holding r (retired t) (λ s h. Covers ground k g s → h ≡ retired u → g ≤ u)
        (λ v q. subst (λ z. g ≤ z) (ap of_whom q) (old.tags k g r t v tag)) (λ s _ v q. old.tags k g s u v (inl q)) s v is)
        (λ (h : (i : ℕ) × (x : CutRow) × (i < ground.workers) × (put cut j None i ≡ Some x) × (x.row ≡ s) × In u x.tags). put_all cut j None (λ i o. i < ground.workers → o ≡ Some h.1 → g ≤ u) (λ _ q. absurd (none_some h.1 q))
        (λ i _ b q. old.tags k g s u v (inr (i, h.1, b, q, h.4, h.5))) h.0 h.2 h.3)
        has;
    resting = old.resting;
  }

  -- a row with a tag two epochs back is covered by no guard
  pub uncovered : (e k g r t : ℕ) → ((k g : ℕ) → k < ground.workers → ground.guard k ≡ On g → e ≤ g + 1) → HasTag ground.workers cut holding r t → t + 2 ≤ e → Cover ground cut holding → Covers ground k g r → ⊥
  uncovered e k g r t high tag old cover v = let a = cover.tags k g r t v tag in let b = high k g v.inside v.on in omega arith

  -- a row that is covered by no guard is taken in hand
  pub cover_claim : (j r : ℕ) → ((k g : ℕ) → Covers ground k g r → ⊥) → Cover ground cut holding → Cover ground cut (put holding r (in_hand j))
  cover_claim j r none old = record {
    free = λ k g s i v. put_all holding r (in_hand j) (λ s h. Covers ground k g s → h ≡ in_hand i → ⊥) (λ v _. none k g v) (λ s _ v. old.free k g s i v) s v;
    tags = λ k g s u v has. ⊎_elim
        (λ (is : put holding r (in_hand j) s ≡ retired u). put_all holding r (in_hand j) (λ s h. Covers ground k g s → h ≡ retired u → g ≤ u)
        (λ _ q. let z : 0 ≡ 3 = ap sort q in absurd (omega arith)) (λ s _ v q. old.tags k g s u v (inl q)) s v is)
        (λ h. old.tags k g s u v (inr h)) has;
    resting = old.resting;
  }
