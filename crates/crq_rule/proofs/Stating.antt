-- The invariant that is kept implies each part as it is stated.
use Rattle.std.proofs.Common.{◌≡◌, ◌⊎◌, ⊎_elim, inl, inr, ℕ, zero, suc, ◌+◌, ◌^◌, ◌<◌, ◌≤◌, List, [], ◌∷◌, ◌++◌, sym, refl, ap, ◌∙◌, subst, arith}
use mathlib.Core.Logic.{dite}
use native.Mathlib.Decide.{ℕ_discrete}
use Rattle.crq_base.specs.Lists.{In}
use Rattle.crq_rule.specs.declared.view.Guard.{Guard}
use Rattle.crq_rule.specs.declared.view.Guard.TheVariants.{Off, Entering, On}
use Rattle.crq_rule.specs.Places.{Place, spare, between, epoch, announced, control, current, pin, head, link, stamp, twin, time, source, sequence, load, IsPlace, IsRow, IsHead, word_of}
use Rattle.crq_rule.specs.Core.{Core, Holding, in_hand, listed, cut_by, retired}
use Rattle.crq_rule.specs.Parts.{GuardIs, OnSince, Leads, Names, IsPath, stamp_of}
use Rattle.crq_rule.specs.Invariant.{Inv}
use Rattle.crq_rule.specs.Stated.{IsSpelling, WordsHold, IsHeldBy, IsKept, HoldersHold, GuardsHold, CoverHolds, CurrentHolds, BoundsHold}
use Rattle.crq_rule.proofs.PartLaws.{sort, announced_low, retired_from}
use Rattle.crq_rule.proofs.GuardLaws.{on_low}

-- 1. Words

module _ (c : Core) (inv : Inv c) where
  stamp_low : (r : ℕ) → IsRow c.start.layout r → (h : Holding) → c.holding r ≡ h → stamp_of h ≤ 1 + 2 ^ 62
  stamp_low r b (in_hand j) is = omega arith
  stamp_low r b (listed q) is = omega arith
  stamp_low r b (cut_by j) is = omega arith
  stamp_low r b (retired t) is = let low = inv.stamps.tag r t b is in let top = inv.reading.limit in omega arith

  spells : (p : Place) → IsPlace c.start.layout p → IsSpelling c.start.layout p (word_of c.words p)
  spells spare b = refl
  spells (between k i) b = refl
  spells epoch b = inv.reading.limit
  spells (announced j) b = let top = inv.reading.limit in let low = announced_low c.words.epoch (c.words.announced j) (c.guard j) (inv.guards.each j b) in omega arith
  spells control b = (c.words.control, inv.spelled.is_control, refl)
  spells current b = (c.words.current, inv.spelled.is_current, refl)
  spells pin b = (c.words.pin, inv.spelled.is_pin, refl)
  spells (head q) b = (c.words.head q, inv.spelled.heads q b, refl)
  spells (link r) b = (c.words.link r, inv.spelled.links r b, refl)
  spells (stamp r) b = let is = inv.stamps.shown r b in let low = stamp_low r b (c.holding r) refl in omega arith
  spells (twin r) b = dite (ℕ_discrete (c.words.twin r) 0) inl (λ ne. let low = inv.spelled.twins r b in inr (omega arith, low))
  spells (time r) b = let e = inv.spelled.events r b in let t = e.time in let d = e.dst in omega arith
  spells (source r) b = (inv.spelled.events r b).src
  spells (sequence r) b = (inv.spelled.events r b).seq
  spells (load r) b = (inv.spelled.events r b).load

  pub words_hold : WordsHold c
  words_hold = record {
    spelled = spells;
    epochs = inv.reading.read;
    entering = λ j e b is. (subst (GuardIs c.words.epoch (c.words.announced j)) is (inv.guards.each j b)).1;
    guards = λ j e b is. (on_low c inv j e b is).0;
    ticks = inv.reading.loaded;
    tags = inv.reading.tags;
    currents = inv.finds.currents;
    views = inv.finds.views;
    generations = λ j x b is. (inv.finds.controls j x b is).low;
  }

  -- 8. Current

  pub current_holds : CurrentHolds c
  current_holds = record { ahead = λ e settled pending. inv.ahead.each e settled pending.kept }

  -- 11. Bounds

  pub bounds_hold : BoundsHold c
  bounds_hold = record { generation = (let top = inv.bounds.tables in omega arith); opened = inv.bounds.opened; guards = inv.reading.limit; owed = inv.bounds.owed; permits = inv.bounds.left; entries = inv.bounds.entries }

  -- 2. Holders

  held : (r : ℕ) → IsRow c.start.layout r → (h : Holding) → c.holding r ≡ h → IsHeldBy c h r × (IsKept h → c.words.stamp r ≡ 0)
  held r b (in_hand j) is = let o = inv.holders.of_hand j r b is in ((o.0, (inv.holders.held j r o.0 o.1).0, o.1), λ _. inv.stamps.shown r b ∙ ap stamp_of is)
  held r b (listed q) is = (inv.holders.of_chain q r b is, λ _. inv.stamps.shown r b ∙ ap stamp_of is)
  held r b (cut_by j) is = (inv.holders.of_cut j r b is, λ _. inv.stamps.shown r b ∙ ap stamp_of is)
  held r b (retired t) is = ((inv.stamps.shown r b ∙ ap stamp_of is, inv.stamps.tag r t b is), λ n. absurd n)

  only : (r : ℕ) → IsRow c.start.layout r → (g : Holding) → IsHeldBy c g r → g ≡ c.holding r
  only r b (in_hand j) h = sym (inv.holders.held j r h.0 h.2).1
  only r b (listed q) h = sym (inv.holders.in_chain q r h.0 h.1).1
  only r b (cut_by j) h = sym (subst (λ z. c.holding z ≡ cut_by j) h.1.2 (inv.holders.is_cut j h.1.0 h.0 h.1.1).1)
  only r b (retired t) h = sym (retired_from (c.holding r) t (sym (inv.stamps.shown r b) ∙ (h.0 ∙ (omega arith))))

  pub holders_hold : HoldersHold c
  holders_hold = record {
    holder = λ r b. let h = held r b (c.holding r) refl in (c.holding r, h.0, only r b, h.1);
    once = inv.holders.once;
    lists = inv.chains.leads;
    cutters = inv.cutting.on;
    tags = inv.cutting.tags;
  }

  -- 3. Guards

  out_of : (a : ℕ) (g : Guard) → GuardIs c.words.epoch a g → a ≡ 0 → g ≡ Off
  out_of a Off is e = refl
  out_of a (Entering x) is e = absurd (let p = is.0 in omega arith)
  out_of a (On x) is e = absurd (let p = is.0 in omega arith)

  pub guards_hold : GuardsHold c
  guards_hold = record {
    out = λ j b. (out_of (c.words.announced j) (c.guard j) (inv.guards.each j b), λ is. subst (GuardIs c.words.epoch (c.words.announced j)) is (inv.guards.each j b));
    entering = λ j e b is. let h = subst (GuardIs c.words.epoch (c.words.announced j)) is (inv.guards.each j b) in (e, h.0, h.1);
    on = λ j g b is. let h = subst (GuardIs c.words.epoch (c.words.announced j)) is (inv.guards.each j b) in before g (c.words.announced j) h.0 h.1 h.3;
    passed = λ k j a g b d i lets is. subst (OnSince (c.tick k).loaded) is (inv.guards.passed k j a b d i lets);
  }
    where
      before : (g a : ℕ) → 0 < a → a ≤ g + 1 → c.words.epoch ≤ g + 1 → (x : ℕ) × (a ≡ x + 1) × (x ≤ g) × (c.words.epoch ≤ g + 1)
      before g zero above low high = absurd (omega arith)
      before g (suc x) above low high = (x, omega arith, omega arith, high)

  -- 4. Cover

  -- links of listed rows lead to row 0 or to listed rows
  next_listed : (a r : ℕ) (rs : List ℕ) → Leads c.words.link a rs → In r rs → ((c.words.link r).row ≡ 0) ⊎ In (c.words.link r).row rs
  next_listed a r [] leads i = absurd i
  next_listed a r (x ∷ xs) leads i = ⊎_elim (λ (e : r ≡ x). ⊎_elim (λ z. inl (ap (λ y. (c.words.link y).row) e ∙ z)) (λ t. inr (inr (subst (λ y. In (c.words.link y).row xs) (sym e) t))) (first_of (c.words.link x).row xs leads.1))
      (λ t. ⊎_elim inl (λ n. inr (inr n)) (next_listed (c.words.link x).row r xs leads.1 t)) i
    where
      first_of : (b : ℕ) (ys : List ℕ) → Leads c.words.link b ys → (b ≡ 0) ⊎ In b ys
      first_of b [] l = inl l
      first_of b (y ∷ ys) l = inr (inl l.0)

  not_in_hand : (q r j : ℕ) → IsHead q → In r (c.chain q) → c.holding r ≡ in_hand j → ⊥
  not_in_hand q r j b i is = let e : ◌≡◌ {A = ℕ} 1 0 = ap sort (sym (inv.holders.in_chain q r b i).1 ∙ is) in omega arith

  heads_free : (q j : ℕ) → IsHead q → 0 < (c.words.head q).row → c.holding (c.words.head q).row ≡ in_hand j → ⊥
  heads_free q j b above is = go (c.chain q) (λ i. not_in_hand q (c.words.head q).row j b i is) (inv.chains.leads q b)
    where
      go : (rs : List ℕ) → (In (c.words.head q).row rs → ⊥) → Leads c.words.link (c.words.head q).row rs → ⊥
      go [] none l = omega arith
      go (r ∷ rs) none l = none (inl l.0)

  listed_free : (q r s j : ℕ) → IsHead q → In r (c.chain q) → Names c.words.link c.words.twin r s → c.holding s ≡ in_hand j → ⊥
  listed_free q r s j b i names is = ⊎_elim
      (λ (e : (c.words.link r).row ≡ s). ⊎_elim (λ (z : (c.words.link r).row ≡ 0). let above = names.0 in omega arith) (λ t. not_in_hand q s j b (subst (λ y. In y (c.chain q)) e t) is) (next_listed (c.words.head q).row r (c.chain q) (inv.chains.leads q b) i))
      (λ (e : c.words.twin r ≡ s). ⊎_elim (λ (z : c.words.twin r ≡ 0). let above = names.0 in omega arith) (λ t. not_in_hand t.0 s j t.1 (subst (λ y. In y (c.chain t.0)) e t.2) is) (inv.chains.twins q r b i))
      names.1

  path_on : (a r s : ℕ) (xs : List ℕ) → IsPath c.words.link c.words.twin a xs r → Names c.words.link c.words.twin r s → IsPath c.words.link c.words.twin a (xs ++ s ∷ []) s
  path_on a r s [] path names = (subst (λ z. Names c.words.link c.words.twin z s) (sym path) names, refl)
  path_on a r s (x ∷ xs) path names = (path.0, path_on x r s xs path.1 names)

  pub cover_holds : CoverHolds c
  cover_holds = record {
    free = inv.cover.free;
    heads = heads_free;
    listed = listed_free;
    covered = λ k g r s j v names. inv.cover.free k g s j (record {
      inside = v.inside;
      on = v.on;
      at = v.at;
      stands = v.stands;
      reaches = record { through = v.reaches.through ++ s ∷ []; path = path_on v.at r s v.reaches.through v.reaches.path names };
    });
    tags = inv.cover.tags;
  }
