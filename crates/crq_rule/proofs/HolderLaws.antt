-- How the part on holders stays where a row goes from one holder to the next.
use Rattle.std.proofs.Common.{◌≡◌, ◌≢◌, ⊎_elim, inl, inr, ℕ, ◌<◌, List, [], ◌∷◌, ◌++◌, Option, Some, None, sym, refl, ap, ◌∙◌, subst, arith}
use Rattle.crq_base.specs.Lists.{In, IsOnce}
use Rattle.crq_rule.specs.declared.layout.Layout.{Layout}
use Rattle.crq_rule.specs.declared.view.CutRow.{CutRow}
use Rattle.crq_rule.specs.Lists.{put}
use Rattle.crq_rule.specs.Places.{IsRow, IsHomeRow, IsHead}
use Rattle.crq_rule.specs.Core.{Holding, in_hand, listed, cut_by, retired}
use Rattle.crq_rule.specs.Parts.{Holders}
use Rattle.crq_rule.specs.Kinds.{tagged}
use Rattle.crq_rule.proofs.Puts.{put_here, put_else, put_all, in_snoc, snoc_in, once_snoc}
use Rattle.crq_rule.proofs.PartLaws.{sort, of_whom, apart, tagged_some}

pub none_some : (x : CutRow) → None ≡ Some x → ⊥
none_some x e = cc

pub some_some : (x y : CutRow) → Some x ≡ Some y → x ≡ y
some_some x y e = cc

module _ (l : Layout) (hand : ℕ → List ℕ) (cut : ℕ → Option CutRow) (chain : ℕ → List ℕ) (holding : ℕ → Holding) where
  -- an epoch was loaded after the cut
  pub holders_tagged : (j e : ℕ) → Holders l hand cut chain holding → Holders l hand (put cut j (tagged e (cut j))) chain holding
  holders_tagged j e old = record {
    once = old.once;
    held = old.held;
    of_hand = old.of_hand;
    in_chain = old.in_chain;
    of_chain = old.of_chain;
    is_cut = λ k x. put_all cut j (tagged e (cut j)) (λ i o. i < l.workers → o ≡ Some x → IsRow l x.row × (holding x.row ≡ cut_by i))
        (λ b is. let y = tagged_some e (cut j) x is in subst (λ r. IsRow l r × (holding r ≡ cut_by j)) y.2 (old.is_cut j y.0 b y.1)) (λ i _. old.is_cut i x) k;
    of_cut = λ k r b is. let o = old.of_cut k r b is in (
      o.0,
      put_all cut j (tagged e (cut j)) (λ i o. i ≡ k → (x : CutRow) × (o ≡ Some x) × (x.row ≡ r))
          (λ q. let was = subst (λ z. cut z ≡ Some o.1.0) (sym q) o.1.1 in (record o.1.0 { tags = e ∷ o.1.0.tags }, ap (tagged e) was, o.1.2))
          (λ i _ q. subst (λ z. (x : CutRow) × (cut z ≡ Some x) × (x.row ≡ r)) (sym q) o.1) k refl,
    );
  }

  -- the row r, which the caller j cut, is retired
  pub holders_retire : (j r t : ℕ) (x : CutRow) → j < l.workers → cut j ≡ Some x → x.row ≡ r → Holders l hand cut chain holding → Holders l hand (put cut j None) chain (put holding r (retired t))
  holders_retire j r t x b is row old = let was : holding r ≡ cut_by j = subst (λ z. holding z ≡ cut_by j) row (old.is_cut j x b is).1 in
      let stays : (s : ℕ) (h : Holding) → holding s ≡ h → 2 ≢ sort h → put holding r (retired t) s ≡ h = λ s h at ne. put_else holding r (retired t) s (apart holding r s (cut_by j) h was at ne) ∙ at in
      record {
        once = old.once;
        held = λ k s c i. let h = old.held k s c i in (h.0, stays s (in_hand k) h.1 (omega arith));
        of_hand = λ k s. put_all holding r (retired t) (λ s h. IsRow l s → h ≡ in_hand k → (k < l.workers) × In s (hand k)) (λ _ q. absurd (let z : 3 ≡ 0 = ap sort q in omega arith)) (λ s _. old.of_hand k s) s;
        in_chain = λ q s c i. let h = old.in_chain q s c i in (h.0, stays s (listed q) h.1 (omega arith));
        of_chain = λ q s. put_all holding r (retired t) (λ s h. IsRow l s → h ≡ listed q → IsHead q × In s (chain q)) (λ _ e. absurd (let z : 3 ≡ 1 = ap sort e in omega arith)) (λ s _. old.of_chain q s) s;
        is_cut = λ k y. put_all cut j None (λ i o. i < l.workers → o ≡ Some y → IsRow l y.row × (put holding r (retired t) y.row ≡ cut_by i)) (λ _ e. absurd (none_some y e))
            (λ i ne c e. let h = old.is_cut i y c e in (h.0, put_else holding r (retired t) y.row (λ q. ne (ap of_whom (sym h.1 ∙ (ap holding q ∙ was)))) ∙ h.1)) k;
        of_cut = λ k s. put_all holding r (retired t) (λ s h. IsRow l s → h ≡ cut_by k → (k < l.workers) × ((y : CutRow) × (put cut j None k ≡ Some y) × (y.row ≡ s))) (λ _ q. absurd (let z : 3 ≡ 2 = ap sort q in omega arith))
            (λ s ne c q. let o = old.of_cut k s c q in (o.0, (o.1.0, put_else cut j None k (λ e. ne (sym o.1.2 ∙ (ap (λ (z : CutRow). z.row) (some_some o.1.0 x (sym o.1.1 ∙ (ap cut e ∙ is))) ∙ row))) ∙ o.1.1, o.1.2))) s;
      }

  -- the caller j takes its row r, which is retired
  pub holders_claim : (j r t : ℕ) → j < l.workers → IsHomeRow l j r → holding r ≡ retired t → Holders l hand cut chain holding → Holders l (put hand j (hand j ++ r ∷ [])) cut chain (put holding r (in_hand j))
  holders_claim j r t b home was old = let stays : (s : ℕ) (h : Holding) → holding s ≡ h → 3 ≢ sort h → put holding r (in_hand j) s ≡ h = λ s h at ne. put_else holding r (in_hand j) s (apart holding r s (retired t) h was at ne) ∙ at in
      let more : List ℕ = hand j ++ r ∷ [] in record {
        once = put_all hand j more (λ k xs. k < l.workers → IsOnce xs) (λ _. once_snoc (hand j) r (old.once j b) (λ i. let z : 3 ≡ 0 = ap sort (sym was ∙ (old.held j r b i).1) in absurd (omega arith))) (λ k _. old.once k);
        held = λ k s. put_all hand j more (λ k xs. k < l.workers → In s xs → IsHomeRow l k s × (put holding r (in_hand j) s ≡ in_hand k))
            (λ _ i. ⊎_elim (λ (i : In s (hand j)). let h = old.held j s b i in (h.0, stays s (in_hand j) h.1 (omega arith)))
            (λ (e : s ≡ r). subst (λ z. IsHomeRow l j z × (put holding r (in_hand j) z ≡ in_hand j)) (sym e) (home, put_here holding r (in_hand j))) (in_snoc (hand j) r s i))
            (λ k _ c i. let h = old.held k s c i in (h.0, stays s (in_hand k) h.1 (omega arith))) k;
        of_hand = λ k s. put_all holding r (in_hand j) (λ s h. IsRow l s → h ≡ in_hand k → (k < l.workers) × In s (put hand j more k))
            (λ _ q. let e : j ≡ k = ap of_whom q in subst (λ z. (z < l.workers) × In r (put hand j more z)) e (b, subst (In r) (sym (put_here hand j more)) (snoc_in (hand j) r r (inr refl))))
            (λ s _ c q. let o = old.of_hand k s c q in (o.0, put_all hand j more (λ k xs. In s (hand k) → In s xs) (λ i. snoc_in (hand j) r s (inl i)) (λ _ _ i. i) k o.1)) s;
        in_chain = λ q s c i. let h = old.in_chain q s c i in (h.0, stays s (listed q) h.1 (omega arith));
        of_chain = λ q s. put_all holding r (in_hand j) (λ s h. IsRow l s → h ≡ listed q → IsHead q × In s (chain q)) (λ _ e. absurd (let z : 0 ≡ 1 = ap sort e in omega arith)) (λ s _. old.of_chain q s) s;
        is_cut = λ k y c e. let h = old.is_cut k y c e in (h.0, stays y.row (cut_by k) h.1 (omega arith));
        of_cut = λ k s. put_all holding r (in_hand j) (λ s h. IsRow l s → h ≡ cut_by k → (k < l.workers) × ((y : CutRow) × (cut k ≡ Some y) × (y.row ≡ s))) (λ _ q. absurd (let z : 0 ≡ 2 = ap sort q in omega arith)) (λ s _. old.of_cut k s) s;
      }
