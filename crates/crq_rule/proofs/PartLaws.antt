-- How the parts on reading, guards, cutting and stamps stay where one caller or one row changes.
use Rattle.std.proofs.Common.{◌≡◌, ◌≢◌, ◌⊎◌, ⊎_elim, ℕ, zero, suc, ◌+◌, ◌*◌, ◌^◌, ◌<◌, ◌≤◌, List, ◌∷◌, Option, Some, None, sym, refl, ap, ◌∙◌, subst, arith}
use mathlib.Core.Logic.{dite}
use native.Mathlib.Decide.{ℕ_discrete}
use Rattle.std.proofs.Math.Nat.{mul-le-mul_left}
use Rattle.crq_base.specs.Lists.{In}
use Rattle.crq_rule.specs.declared.layout.Layout.{Layout}
use Rattle.crq_rule.specs.declared.view.Guard.{Guard}
use Rattle.crq_rule.specs.declared.view.Guard.TheVariants.{Off, Entering, On}
use Rattle.crq_rule.specs.declared.view.Tick.{Tick}
use Rattle.crq_rule.specs.declared.view.CutRow.{CutRow}
use Rattle.crq_rule.specs.Lists.{put, without}
use Rattle.crq_rule.specs.Places.{IsRow, IsHomeRow}
use Rattle.crq_rule.specs.Core.{Holding, in_hand, listed, cut_by, retired}
use Rattle.crq_rule.specs.Parts.{Reading, Guards, GuardIs, OnSince, IsOn, LetsRise, Cutting, Stamps, stamp_of}
use Rattle.crq_rule.specs.Kinds.{seen_stamp, tagged}
use Rattle.crq_rule.proofs.Puts.{put_here, put_else, put_all, in_without}

-- the home rows of a lesser caller come first
pub up : (h a b : ℕ) → a < b → a * h + h ≤ b * h
up h a b l = omega (arith, mul-le-mul_left {m = a + 1} {n = b} h (omega arith))

-- a home row is a row
pub home_is_row : (l : Layout) (j r : ℕ) → j < l.workers → IsHomeRow l j r → IsRow l r
home_is_row l j r b h = let all = l.all_is in let lo = h.0 in let hi = h.1 in (omega arith, omega (arith, up l.home j l.workers b))

-- a row has one home
pub one_home : (l : Layout) (j k r : ℕ) → IsHomeRow l j r → IsHomeRow l k r → j ≡ k
one_home l j k r h i = let a = h.0 in let b = h.1 in let c = i.0 in let d = i.1 in
    let not_less : ¬ (j < k) = λ (less : j < k). omega (arith, up l.home j k less) in
    let not_more : ¬ (k < j) = λ (more : k < j). omega (arith, up l.home k j more) in omega arith

module _ (n e : ℕ) (epochs : ℕ → List ℕ) (tick : ℕ → Tick) (cut : ℕ → Option CutRow) where
  -- the caller j read the epoch x
  pub read_epoch : (j x : ℕ) → x ≤ e → Reading n e epochs tick cut → Reading n e (put epochs j (x ∷ epochs j)) tick cut
  read_epoch j x low old = record {
    limit = old.limit;
    read = λ k y b. put_all epochs j (x ∷ epochs j) (λ i xs. i < n → In y xs → y ≤ e) (λ b' i. ⊎_elim (λ is. omega arith) (old.read j y b') i) (λ i _ b' h. old.read i y b' h) k b;
    loaded = old.loaded;
    scanned = old.scanned;
    tags = old.tags;
  }

  -- the caller j changes what its tick knows
  pub read_tick : (j : ℕ) (t : Tick) → t.loaded ≤ e → ((k a : ℕ) → In (k, a) t.found → a ≤ e + 1) → Reading n e epochs tick cut → Reading n e epochs (put tick j t) cut
  read_tick j t low all old = record {
    limit = old.limit;
    read = old.read;
    loaded = put_all tick j t (λ i t. i < n → t.loaded ≤ e) (λ _. low) (λ i _. old.loaded i);
    scanned = λ i k a b. put_all tick j t (λ i t. i < n → In (k, a) t.found → a ≤ e + 1) (λ _. all k a) (λ i _ b. old.scanned i k a b) i b;
    tags = old.tags;
  }

  -- the caller j changes what it knows of the row that it cut
  pub read_cut : (j : ℕ) (o : Option CutRow) → ((t : ℕ) (x : CutRow) → j < n → o ≡ Some x → In t x.tags → t ≤ e) → Reading n e epochs tick cut → Reading n e epochs tick (put cut j o)
  read_cut j o all old = record {
    limit = old.limit;
    read = old.read;
    loaded = old.loaded;
    scanned = old.scanned;
    tags = λ i t x. put_all cut j o (λ i o. i < n → o ≡ Some x → In t x.tags → t ≤ e) (all t x) (λ i _. old.tags i t x) i;
  }

  -- the epoch rises
  pub read_risen : e + 1 ≤ 2 ^ 62 → Reading n e epochs tick cut → Reading n (e + 1) epochs tick cut
  read_risen low old = record {
    limit = low;
    read = λ j x b i. let r = old.read j x b i in omega arith;
    loaded = λ j b. let r = old.loaded j b in omega arith;
    scanned = λ j k a b i. let r = old.scanned j k a b i in omega arith;
    tags = λ j t x b is i. let r = old.tags j t x b is i in omega arith;
  }

-- what a load of the epoch e does to the tags of a row that was cut
pub tagged_some : (e : ℕ) (o : Option CutRow) (x : CutRow) → tagged e o ≡ Some x → ((y : CutRow) × (o ≡ Some y) × (y.row ≡ x.row) × ((t : ℕ) → In t x.tags → (t ≡ e) ⊎ In t y.tags))
tagged_some e None x h = absurd (cc)
tagged_some e (Some y) x h = let is : record y { tags = e ∷ y.tags } ≡ x = cc in (y, refl, ap (λ (z : CutRow). z.row) is, λ t i. subst (λ (z : CutRow). In t z.tags) (sym is) i)

module _ (n e : ℕ) (announced : ℕ → ℕ) (guard : ℕ → Guard) (tick : ℕ → Tick) where
  -- the caller j changes its guard, and its announcement
  pub guard_set : (announced' : ℕ → ℕ) (j : ℕ) (g : Guard) → ((i : ℕ) → i ≢ j → announced' i ≡ announced i) → GuardIs e (announced' j) g → ((k : ℕ) → k < n → OnSince (tick k).loaded g)
      → Guards n e announced guard tick → Guards n e announced' (put guard j g) tick
  guard_set announced' j g same is low old = record {
    each = put_all guard j g (λ i h. i < n → GuardIs e (announced' i) h) (λ _. is) (λ i ne b. subst (λ a. GuardIs e a (guard i)) (sym (same i ne)) (old.each i b));
    passed = λ k i a b l at lets. put_all guard j g (λ z h. z ≡ i → OnSince (tick k).loaded h) (λ _. low k b)
        (λ z _ (q : z ≡ i). subst (λ (y : ℕ). OnSince (tick k).loaded (guard y)) (sym q) (old.passed k i a b l at lets)) i refl;
  }

  -- the caller j changes what its tick knows
  pub tick_set : (j : ℕ) (t : Tick) → ((i a : ℕ) → i < n → In (i, a) t.found → LetsRise t.loaded a → OnSince t.loaded (guard i)) → Guards n e announced guard tick → Guards n e announced guard (put tick j t)
  tick_set j t new old = record {
    each = old.each;
    passed = λ k i a b. put_all tick j t (λ k t. k < n → i < n → In (i, a) t.found → LetsRise t.loaded a → OnSince t.loaded (guard i)) (λ _. new i a) (λ k _ b. old.passed k i a b) k b;
  }

  -- the epoch rises, where each guard that is on found at least this one
  pub guards_risen : ((k : ℕ) → k < n → OnSince e (guard k)) → Guards n e announced guard tick → Guards n (e + 1) announced guard tick
  guards_risen low old = record { each = λ k b. aged (announced k) (guard k) (old.each k b) (low k b); passed = old.passed }
    where
      aged : (a : ℕ) (g : Guard) → GuardIs e a g → OnSince e g → GuardIs (e + 1) a g
      aged a Off is low = is
      aged a (Entering y) is low = let p = is.1 in (is.0, omega arith)
      aged a (On y) is low = let p = is.2 in (is.0, is.1, omega arith, omega arith)

-- what a guard says where its announcement lets the epoch rise from x
pub found_at : (e x a : ℕ) (g : Guard) → GuardIs e a g → LetsRise x a → OnSince x g
found_at e x a Off is lets = tt
found_at e x a (Entering y) is lets = tt
found_at e x a (On y) is lets = let p = is.0 in let q = is.1 in omega arith

-- an announcement isn't above the epoch
pub announced_low : (e a : ℕ) (g : Guard) → GuardIs e a g → a ≤ e + 1
announced_low e a Off is = omega arith
announced_low e a (Entering y) is = let p = is.1 in let q = is.0 in omega arith
announced_low e a (On y) is = let p = is.1 in let q = is.2 in omega arith

module _ (n : ℕ) (guard : ℕ → Guard) (cut : ℕ → Option CutRow) where
  -- a caller that cut nothing changes its guard
  pub cutting_guard : (j : ℕ) (g : Guard) → ((x : CutRow) → j < n → cut j ≡ Some x → ⊥) → Cutting n guard cut → Cutting n (put guard j g) cut
  cutting_guard j g none old = record {
    on = λ k x. put_all guard j g (λ i h. i < n → cut i ≡ Some x → IsOn h) (λ b is. absurd (none x b is)) (λ i _. old.on i x) k;
    tags = λ k t f x. put_all guard j g (λ i h. i < n → cut i ≡ Some x → h ≡ On f → In t x.tags → f ≤ t) (λ b is. absurd (none x b is)) (λ i _. old.tags i t f x) k;
  }

  -- a caller changes what it knows of the row that it cut
  pub cutting_cut : (j : ℕ) (o : Option CutRow) → ((x : CutRow) → j < n → o ≡ Some x → IsOn (guard j)) → ((t f : ℕ) (x : CutRow) → j < n → o ≡ Some x → guard j ≡ On f → In t x.tags → f ≤ t) → Cutting n guard cut → Cutting n guard (put cut j o)
  cutting_cut j o on tags old = record {
    on = λ k x. put_all cut j o (λ i o. i < n → o ≡ Some x → IsOn (guard i)) (on x) (λ i _. old.on i x) k;
    tags = λ k t f x. put_all cut j o (λ i o. i < n → o ≡ Some x → guard i ≡ On f → In t x.tags → f ≤ t) (tags t f x) (λ i _. old.tags i t f x) k;
  }

-- a row whose stamp is above 0 is retired
pub retired_from : (h : Holding) (t : ℕ) → stamp_of h ≡ suc t → h ≡ retired t
retired_from (in_hand j) t e = absurd (omega arith)
retired_from (listed q) t e = absurd (omega arith)
retired_from (cut_by j) t e = absurd (omega arith)
retired_from (retired s) t e = ap retired (omega arith)

-- who holds a row, as a number
abbrev pub sort : Holding → ℕ
sort (in_hand j) = 0
sort (listed q) = 1
sort (cut_by j) = 2
sort (retired t) = 3

abbrev pub of_whom : Holding → ℕ
of_whom (in_hand j) = j
of_whom (listed q) = q
of_whom (cut_by j) = j
of_whom (retired t) = t

-- two rows that are held otherwise are two
pub apart : (holding : ℕ → Holding) (r s : ℕ) (g h : Holding) → holding r ≡ g → holding s ≡ h → sort g ≢ sort h → s ≢ r
apart holding r s g h is is' ne e = ne (ap sort (sym is ∙ (ap holding (sym e) ∙ is')))

module _ (l : Layout) (e : ℕ) (stamp : ℕ → ℕ) (ripening : ℕ → List (ℕ × ℕ)) (holding : ℕ → Holding) where
  -- the epoch rises
  pub stamps_risen : Stamps l e stamp ripening holding → Stamps l (e + 1) stamp ripening holding
  stamps_risen old = record { shown = old.shown; tag = λ r t b is. let low = old.tag r t b is in omega arith; ripe = old.ripe }

  -- the caller j looks at the stamp of a home row
  pub stamps_look : (j r : ℕ) → j < l.workers → IsHomeRow l j r → Stamps l e stamp ripening holding → Stamps l e stamp (put ripening j (seen_stamp r (stamp r) (ripening j))) holding
  stamps_look j r b home old = record {
    shown = old.shown;
    tag = old.tag;
    ripe = λ k s t. put_all ripening j (seen_stamp r (stamp r) (ripening j)) (λ i xs. i < l.workers → In (s, t) xs → IsHomeRow l i s × (holding s ≡ retired t)) (λ _. seen (stamp r) refl s t) (λ i _. old.ripe i s t) k;
  }
    where
      seen : (w : ℕ) → stamp r ≡ w → (s t : ℕ) → In (s, t) (seen_stamp r w (ripening j)) → IsHomeRow l j s × (holding s ≡ retired t)
      seen zero is s t i = old.ripe j s t b i
      seen (suc u) is s t i = ⊎_elim
          (λ (same : (s, t) ≡ (r, u)). let row : s ≡ r = ap (λ (z : ℕ × ℕ). z.0) same in let tag : t ≡ u = ap (λ (z : ℕ × ℕ). z.1) same in
          (subst (IsHomeRow l j) (sym row) home, ap holding row ∙ (retired_from (holding r) u (sym (old.shown r (home_is_row l j r b home)) ∙ is) ∙ ap retired (sym tag))))
          (old.ripe j s t b) i

  -- the row r, which is held otherwise, is retired
  pub stamps_retire : (r t : ℕ) → sort (holding r) ≢ 3 → t ≤ e → Stamps l e stamp ripening holding → Stamps l e (put stamp r (t + 1)) ripening (put holding r (retired t))
  stamps_retire r t kept low old = record {
    shown = λ s b. dite (ℕ_discrete s r)
        (λ (q : s ≡ r). subst (λ z. put stamp r (t + 1) z ≡ stamp_of (put holding r (retired t) z)) (sym q) (put_here stamp r (t + 1) ∙ ap stamp_of (sym (put_here holding r (retired t)))))
        (λ ne. put_else stamp r (t + 1) s ne ∙ (old.shown s b ∙ ap stamp_of (sym (put_else holding r (retired t) s ne))));
    tag = λ s u. put_all holding r (retired t) (λ s h. IsRow l s → h ≡ retired u → u ≤ e) (λ _ is. let q : t ≡ u = ap of_whom is in omega arith) (λ s _. old.tag s u) s;
    ripe = λ j s u b i. let h = old.ripe j s u b i in (h.0, put_else holding r (retired t) s (λ q. kept (ap (λ z. sort (holding z)) (sym q) ∙ ap sort h.1)) ∙ h.1);
  }

  -- the caller j takes its row r
  pub stamps_claim : (j r : ℕ) → j < l.workers → IsHomeRow l j r → Stamps l e stamp ripening holding → Stamps l e (put stamp r 0) (put ripening j (without r (ripening j))) (put holding r (in_hand j))
  stamps_claim j r b home old = record {
    shown = λ s c. dite (ℕ_discrete s r)
        (λ (q : s ≡ r). subst (λ z. put stamp r 0 z ≡ stamp_of (put holding r (in_hand j) z)) (sym q) (put_here stamp r 0 ∙ ap stamp_of (sym (put_here holding r (in_hand j)))))
        (λ ne. put_else stamp r 0 s ne ∙ (old.shown s c ∙ ap stamp_of (sym (put_else holding r (in_hand j) s ne))));
    tag = λ s u. put_all holding r (in_hand j) (λ s h. IsRow l s → h ≡ retired u → u ≤ e) (λ _ is. absurd (let q : 0 ≡ 3 = ap sort is in omega arith)) (λ s _. old.tag s u) s;
    ripe = λ k s t. put_all ripening j (without r (ripening j)) (λ i xs. i < l.workers → In (s, t) xs → IsHomeRow l i s × (put holding r (in_hand j) s ≡ retired t))
        (λ _ i. let w = in_without r (ripening j) (s, t) i in let h = old.ripe j s t b w.0 in (h.0, put_else holding r (in_hand j) s w.1 ∙ h.1))
        (λ i ne c at. let h = old.ripe i s t c at in (h.0, put_else holding r (in_hand j) s (λ q. ne (one_home l i j r (subst (IsHomeRow l i) q h.0) home)) ∙ h.1)) k;
  }
