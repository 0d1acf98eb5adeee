-- A head that is prepared, and one that is frozen, keep the invariant.
use Rattle.std.proofs.Common.{◌≡◌, ◌⊎◌, ⊎_elim, inl, inr, true, ℕ, ◌+◌, ◌^◌, ◌<◌, ◌≤◌, le_refl, List, [], ◌∷◌, Some, sym, refl, ap, ◌∙◌, subst, arith}
use Rattle.crq_base.specs.declared.event.Event.{Event}
use Rattle.crq_base.specs.declared.words.Link.{Link}
use Rattle.crq_base.specs.declared.words.Mark.TheVariants.{Val, Mov}
use Rattle.crq_base.specs.declared.words.Control.{Control}
use Rattle.crq_base.specs.Words.{flag_number, IsLink}
use Rattle.crq_base.specs.Lists.{In}
use Rattle.crq_rule.specs.declared.debts.CutDebt.{CutDebt}
use Rattle.crq_rule.specs.declared.view.Help.{Help}
use Rattle.crq_rule.specs.declared.view.Stand.{Stand}
use Rattle.crq_rule.specs.Lists.{put}
use Rattle.crq_rule.specs.Places.{IsRow, IsHead}
use Rattle.crq_rule.specs.Core.{Core, caller_of}
use Rattle.crq_rule.specs.Parts.{newest, ground_of, Leads}
use Rattle.crq_rule.specs.Ranks.{first_head_of, shape_of, next_of, IsHeadIn, at_head, list_in}
use Rattle.crq_rule.specs.ListParts.{IsShut, IsPrepared, IsOldMark, IsOldHead, IsNewHead, Heads, StandFits, IsNamed}
use Rattle.crq_rule.specs.Helping.{helped_by, Helps}
use Rattle.crq_rule.specs.MoveKinds.{prepared_link, frozen_link, head_left, MayPrepare, MayFreezeHead}
use Rattle.crq_rule.specs.Copies.{Bare}
use Rattle.crq_rule.specs.Invariant.{Inv}
use Rattle.crq_rule.proofs.EndLaws.{ends_left, helps_passing}
use Rattle.crq_rule.proofs.HeadLaws.{below_or_not, present_head, live_generation}
use Rattle.crq_rule.proofs.SteadyLaws.{found_moving}
use Rattle.crq_rule.proofs.Puts.{put_all}
use Rattle.crq_rule.proofs.CoverLaws.{guarded_by, stand_row, row_footing, old_footing, footing_covered}
use Rattle.crq_rule.proofs.HelpLaws.{head_woven, bank_wide, head_in_bank, helps_prepared, helps_frozen}
use Rattle.crq_rule.proofs.MoveFrames.{frame_heads}

val_mov : Val ≡ Mov → ⊥
val_mov e = cc

some_help : (g h : Help) → Some g ≡ Some h → g ≡ h
some_help g h e = cc

-- the two tables of a move have no head in common
pub banks_apart : (g q : ℕ) (m n : ℕ) → m < 2 ^ 4 → n < 2 ^ 4 → (first_head_of g ≤ q) × (q < first_head_of g + 2 ^ m) → (first_head_of (g + 1) ≤ q) × (q < first_head_of (g + 1) + 2 ^ n) → ⊥
banks_apart g q m n a b old new = let wide = bank_wide m a in let wide' = bank_wide n b in let o = old.0 in let o' = old.1 in let w = new.0 in let w' = new.1 in omega arith

module _ (c : Core) (inv : Inv c) where
  abbrev now : Control
  now = c.words.control

  -- no head is of both tables
  pub heads_apart : (q : ℕ) → IsOldHead now c.shape q → IsNewHead now c.shape q → ⊥
  heads_apart q old new = banks_apart now.generation q now.log now.new_log inv.sizes.now.spelled.log inv.sizes.now.spelled.new_log
      (subst (λ s. IsHeadIn now.generation s q) inv.sizes.now.size old) (subst (λ s. IsHeadIn (now.generation + 1) s q) (inv.sizes.now.next new.0) new.1)

  -- a row on which a caller stands is a row
  stood_row : (k : ℕ) (s : Stand) → k < c.start.layout.workers → In s (c.rows k) → IsRow c.start.layout s.row
  stood_row k s b i = inv.lanes.is_row s.row (guarded_by k (footing_covered (ground_of c) c.cut c.holding inv.cover k s.row b (row_footing c.rows c.old c.copying k s.row (stand_row (c.rows k) s i))))

  stood_old : (k : ℕ) (s : Stand) → k < c.start.layout.workers → c.old k ≡ Some s → IsRow c.start.layout s.row
  stood_old k s b is = inv.lanes.is_row s.row (guarded_by k (footing_covered (ground_of c) c.cut c.holding inv.cover k s.row b (old_footing c.rows c.old c.copying k s is)))

  -- The head q becomes l, with the same first row. It is of its rows' generation, and stays frozen where it has a first row
  module _ (j q : ℕ) (l : Link) (link : IsLink l) (row : l.row ≡ (c.words.head q).row) (low : l.generation ≤ newest now)
      (generation : (r : ℕ) → In r (c.chain q) → l.generation ≡ (c.words.head q).generation) (frozen : 0 < (c.words.head q).row → (c.words.head q).mark ≡ Mov → l.mark ≡ Mov)
      (risen : (c.words.head q).generation ≤ l.generation) (still : IsOldHead now c.shape q → (c.words.head q).mark ≡ Mov → l.mark ≡ Mov) where
    abbrev heads : ℕ → Link
    heads = put c.words.head q l

    -- the first row of a frozen head is so still
    front : (p r : ℕ) → 0 < r → ((c.words.head p).mark ≡ Mov) × ((c.words.head p).row ≡ r) → ((heads p).mark ≡ Mov) × ((heads p).row ≡ r)
    front p r some = put_all c.words.head q l (λ p m. ((c.words.head p).mark ≡ Mov) × ((c.words.head p).row ≡ r) → (m.mark ≡ Mov) × (m.row ≡ r)) (λ h. (frozen (subst (λ z. 0 < z) (sym h.1) some) h.0, row ∙ h.1)) (λ _ _ h. h) p

    stands : (s : Stand) → IsRow c.start.layout s.row → StandFits c.words.head c.words.link c.words.twin c.words.event s → StandFits heads c.words.link c.words.twin c.words.event s
    stands s is was = record { holds = was.holds; of = was.of; last = was.last; copy = was.copy; valid = was.valid; front = λ p of. ⊎_elim inl (λ h. inr (front p s.row is.0 h)) (was.front p of) }

    named_so : (d : CutDebt) (r : ℕ) (e : Event) (k : Link) → 0 < r → IsNamed c.words.head d r e k → IsNamed heads d r e k
    named_so d r e k some was = record { row = was.row; event = was.event; generation = was.generation; front = λ f. front d.head r some (was.front f) }

    pub head_keeps : Heads now c.shape heads → Helps c.start.layout.workers now heads c.found (put c.help j (helped_by (c.found j).control j (at_head q) l (c.help j))) → Bare now c.shape heads c.chain → Inv (head_left c j q l)
    head_keeps heads_part helps_part bare_part = frame_heads c heads (put c.help j (helped_by (c.found j).control j (at_head q) l (c.help j))) inv
        (record {
          is_control = inv.spelled.is_control;
          is_current = inv.spelled.is_current;
          is_pin = inv.spelled.is_pin;
          heads = put_all c.words.head q l (λ p m. IsHead p → IsLink m) (λ _. link) (λ p _. inv.spelled.heads p);
          links = inv.spelled.links;
          twins = inv.spelled.twins;
          events = inv.spelled.events;
        })
        (record {
          leads = put_all c.words.head q l (λ p m. IsHead p → Leads c.words.link m.row (c.chain p)) (λ b. subst (λ z. Leads c.words.link z (c.chain q)) (sym row) (inv.chains.leads q b)) (λ p _. inv.chains.leads p);
          twins = inv.chains.twins;
        })
        (record {
          now = inv.sizes.now;
          heads = put_all c.words.head q l (λ p m. IsHead p → m.generation ≤ newest now) (λ _. low) (λ p _. inv.sizes.heads p);
          rows = inv.sizes.rows;
        })
        heads_part
        (record {
          rises = inv.sorted.rises;
          belongs = λ p r. put_all c.words.head q l (λ p m. IsHead p → In r (c.chain p) → list_in c.shape m.generation (c.words.event r) ≡ p)
              (λ b i. ap (λ g. list_in c.shape g (c.words.event r)) (generation r i) ∙ inv.sorted.belongs q r b i) (λ p _. inv.sorted.belongs p r) p;
          generation = λ p r. put_all c.words.head q l (λ p m. IsHead p → In r (c.chain p) → (c.words.link r).generation ≡ m.generation) (λ b i. inv.sorted.generation q r b i ∙ sym (generation r i)) (λ p _. inv.sorted.generation p r) p;
        })
        (record { mark = inv.marks.mark; first = λ p r is at m. front p r is.0 (inv.marks.first p r is at m); bare = inv.marks.bare; aged = inv.marks.aged })
        (record { each = λ k s b i. stands s (stood_row k s b i) (inv.standing.each k s b i) })
        (record { each = λ k s b is. let o = inv.copying.each k s b is in (stands s (stood_old k s b is) o.0, o.1) })
        (record {
          named = λ r p is at dead. let n = inv.naming.named r p is at dead in (n.0, n.1, (n.2.0, n.2.1, named_so n.2.0 r (c.words.event r) (c.words.link r) is.0 n.2.2));
          place = inv.naming.place;
        })
        helps_part
        bare_part
        (ends_left c inv heads (put c.help j (helped_by (c.found j).control j (at_head q) l (c.help j)))
        (λ p _. put_all c.words.head q l (λ p m. (c.words.head p).generation ≤ m.generation) risen (λ p _. le_refl _) p)
        (λ p _. put_all c.words.head q l (λ p m. IsOldHead now c.shape p → (c.words.head p).mark ≡ Mov → m.mark ≡ Mov) still (λ p _ _ m. m) p)
        (helps_passing c inv j (at_head q) l))

-- Prepare

module _ (c : Core) (j : ℕ) (x : Control) (q : ℕ) (l : Link) (b : j < c.start.layout.workers) (may : MayPrepare x q l (caller_of c j)) (found : c.words.head q ≡ l) (inv : Inv c) where
  prepare_head : IsHead q
  prepare_head = head_in_bank (x.generation + 1) (next_of x) q (inv.finds.controls j x b may.control).spelled.new_log may.head

  -- the move goes on: its heads would be opened else
  prepare_is : x ≡ c.words.control
  prepare_is = let fits = inv.finds.controls j x b may.control in ⊎_elim
      (λ (past : x.generation < c.words.control.generation).
      let low = fits.first in let older = may.older in let same = ap (λ (z : Link). z.generation) found in
      let high = inv.ends.opened (x.generation + 1) q prepare_head (omega arith) (omega arith) (subst (λ s. IsHeadIn (x.generation + 1) s q) (sym (fits.next may.moving)) may.head) in absurd (omega arith))
      (λ (now : c.words.control.generation ≤ x.generation). let low = fits.low in found_moving c inv j x b may.control may.moving (omega arith))
      (below_or_not x.generation c.words.control.generation)

  prepare_moves : c.words.control.moving ≡ true
  prepare_moves = ap (λ (z : Control). z.moving) (sym prepare_is) ∙ may.moving

  prepare_new : IsNewHead c.words.control c.shape q
  prepare_new = (prepare_moves, subst (λ s. IsHeadIn (c.words.control.generation + 1) s q) (sym (inv.sizes.now.next prepare_moves)) (subst (λ (z : Control). IsHeadIn (z.generation + 1) (next_of z) q) prepare_is may.head))

  -- the head was shut
  prepare_shut : IsShut c.words.control.generation q (c.words.head q)
  prepare_shut = ⊎_elim (λ (p : IsPrepared (c.words.control.generation + 1) (c.words.head q)). absurd (let old = may.older in let is = p.0 in let same = ap (λ (z : Link). z.generation) found in let g = ap (λ (z : Control). z.generation) prepare_is in omega arith))
      (λ s. s) (inv.heads.new q prepare_head prepare_new)

  prepare_generation : (prepared_link x).generation ≡ c.words.control.generation + 1
  prepare_generation = ap (λ (z : Control). z.generation + 1) prepare_is

  prepare_newest : newest c.words.control ≡ c.words.control.generation + 1
  prepare_newest = ap (λ m. c.words.control.generation + flag_number m) prepare_moves

  -- and its list is empty
  prepare_empty : (r : ℕ) → In r (c.chain q) → ⊥
  prepare_empty r i = go (c.chain q) (λ s at. (inv.holders.in_chain q s prepare_head at).0.0) (subst (λ z. Leads c.words.link z (c.chain q)) prepare_shut.empty (inv.chains.leads q prepare_head)) i
    where
      go : (rs : List ℕ) → ((s : ℕ) → In s rs → 0 < s) → Leads c.words.link 0 rs → In r rs → ⊥
      go [] some leads at = at
      go (s ∷ rs) some leads at = let above = some s (inl refl) in let is = leads.0 in omega arith

  prepare_heads : Heads c.words.control c.shape (put c.words.head q (prepared_link x))
  prepare_heads = record {
    old = λ p. put_all c.words.head q (prepared_link x) (λ p m. IsHead p → IsOldHead c.words.control c.shape p → (m.generation ≡ c.words.control.generation) × IsOldMark c.words.control.moving m.mark)
        (λ _ o. absurd (heads_apart c inv q o prepare_new)) (λ p _. inv.heads.old p) p;
    new = λ p. put_all c.words.head q (prepared_link x) (λ p m. IsHead p → IsNewHead c.words.control c.shape p → IsPrepared (c.words.control.generation + 1) m ⊎ IsShut c.words.control.generation p m)
        (λ _ _. inl (prepare_generation, refl)) (λ p _. inv.heads.new p) p;
    other = λ p. put_all c.words.head q (prepared_link x) (λ p m. IsHead p → (IsOldHead c.words.control c.shape p → ⊥) → (IsNewHead c.words.control c.shape p → ⊥) → IsShut c.words.control.generation p m)
        (λ _ _ n. absurd (n prepare_new)) (λ p _. inv.heads.other p) p;
    order = λ p r i k o frozen n. put_all c.words.head q (prepared_link x) (λ r m. IsHead r → IsNewHead c.words.control c.shape r → IsPrepared (c.words.control.generation + 1) m)
        (λ _ _. (prepare_generation, refl)) (λ r _ k n. inv.heads.order p r i k o (was p i o frozen) n) r k n;
  }
    where
      was : (p : ℕ) → IsHead p → IsOldHead c.words.control c.shape p → (put c.words.head q (prepared_link x) p).mark ≡ Mov → (c.words.head p).mark ≡ Mov
      was p i o = put_all c.words.head q (prepared_link x) (λ p m. IsOldHead c.words.control c.shape p → m.mark ≡ Mov → (c.words.head p).mark ≡ Mov) (λ o _. absurd (heads_apart c inv q o prepare_new)) (λ _ _ _ m. m) p o

  prepare_bare : Bare c.words.control c.shape (put c.words.head q (prepared_link x)) c.chain
  prepare_bare = record {
    bare = λ moving p r i k o val n. inv.bare.bare moving p r i k o (put_all c.words.head q (prepared_link x) (λ p m. IsOldHead c.words.control c.shape p → m.mark ≡ Val → (c.words.head p).mark ≡ Val) (λ o _. absurd (heads_apart c inv q o prepare_new)) (λ _ _ _ m. m) p o val) n;
  }

  pub prepare_keeps : Inv (head_left c j q (prepared_link x))
  prepare_keeps = head_keeps c inv j q (prepared_link x)
      (record { generation = (let top = inv.bounds.tables in let is = prepare_newest in let g = prepare_generation in omega arith); row = omega arith })
      (sym prepare_shut.empty)
      (let is = prepare_newest in let g = prepare_generation in omega arith)
      (λ r i. absurd (prepare_empty r i))
      (λ some _. absurd (let none = prepare_shut.empty in omega arith))
      (let older = prepare_shut.older in let g = prepare_generation in omega arith)
      (λ o _. absurd (heads_apart c inv q o prepare_new))
      prepare_heads
      (helps_prepared c.start c.words.control c.shape c.words.current c.found c.sight inv.sizes.now inv.finds c.help c.words.head j q (prepared_link x) prepare_shut prepare_new (prepare_generation, refl) (λ o. heads_apart c inv q o prepare_new) inv.helps)
      prepare_bare

-- FreezeHead

module _ (c : Core) (j : ℕ) (x : Control) (q : ℕ) (l : Link) (b : j < c.start.layout.workers) (may : MayFreezeHead x q l (caller_of c j)) (found : c.words.head q ≡ l) (inv : Inv c) where
  freeze_head : IsHead q
  freeze_head = head_in_bank x.generation (shape_of x) q (inv.finds.controls j x b may.control).spelled.log may.head

  freeze_val : (c.words.head q).mark ≡ Val
  freeze_val = ap (λ (z : Link). z.mark) found ∙ may.present

  -- the move goes on, since the head is present
  freeze_is : x ≡ c.words.control
  freeze_is = let heads = inv.heads in let live = live_generation c.words.control c.shape c.words.head heads q freeze_head (present_head c.words.control c.shape c.words.head heads q freeze_head freeze_val) in
      let same = ap (λ (z : Link). z.generation) found in let of = may.now in let low = (inv.finds.controls j x b may.control).low in found_moving c inv j x b may.control may.moving (omega arith)

  freeze_moves : c.words.control.moving ≡ true
  freeze_moves = ap (λ (z : Control). z.moving) (sym freeze_is) ∙ may.moving

  freeze_old : IsOldHead c.words.control c.shape q
  freeze_old = subst (λ s. IsHeadIn c.words.control.generation s q) (sym inv.sizes.now.size) (subst (λ (z : Control). IsHeadIn z.generation (shape_of z) q) freeze_is may.head)

  freeze_generation : l.generation ≡ c.words.control.generation
  freeze_generation = may.now ∙ ap (λ (z : Control). z.generation) freeze_is

  -- all heads of the new table are prepared
  freeze_prepared : (p : ℕ) → IsNewHead c.words.control c.shape p → IsPrepared (c.words.control.generation + 1) (c.words.head p)
  freeze_prepared p n = let h = may.helps.0 in let f = inv.helps.finds j h b may.helps.1 in
      let same : f.0 ≡ x = some_word f.0 x (sym f.1 ∙ may.control) in
      let g : h.generation ≡ c.words.control.generation = f.2.same ∙ ap (λ (z : Control). z.generation) (same ∙ freeze_is) in
      let at : IsHeadIn (c.words.control.generation + 1) (next_of c.words.control) p = subst (λ s. IsHeadIn (c.words.control.generation + 1) s p) (inv.sizes.now.next n.0) n.1 in
      let w = head_woven j c.words.control.new_log (first_head_of (c.words.control.generation + 1)) p at.0 at.1 in
      let all : h.prepared ≡ 2 ^ c.words.control.new_log = may.helps.2 ∙ ap (λ (z : Control). 2 ^ z.new_log) freeze_is in let below = w.1 in
      subst (λ z. IsPrepared (c.words.control.generation + 1) (c.words.head z)) w.2 ((inv.helps.passed j h b may.helps.1 g).prepared w.0 (omega arith))
    where
      some_word : (y z : Control) → Some y ≡ Some z → y ≡ z
      some_word y z e = cc

  freeze_heads : Heads c.words.control c.shape (put c.words.head q (frozen_link l))
  freeze_heads = record {
    old = λ p. put_all c.words.head q (frozen_link l) (λ p m. IsHead p → IsOldHead c.words.control c.shape p → (m.generation ≡ c.words.control.generation) × IsOldMark c.words.control.moving m.mark)
        (λ _ _. (freeze_generation, subst (λ m. IsOldMark m Mov) (sym freeze_moves) (inr refl))) (λ p _. inv.heads.old p) p;
    new = λ p. put_all c.words.head q (frozen_link l) (λ p m. IsHead p → IsNewHead c.words.control c.shape p → IsPrepared (c.words.control.generation + 1) m ⊎ IsShut c.words.control.generation p m)
        (λ _ n. absurd (heads_apart c inv q freeze_old n)) (λ p _. inv.heads.new p) p;
    other = λ p. put_all c.words.head q (frozen_link l) (λ p m. IsHead p → (IsOldHead c.words.control c.shape p → ⊥) → (IsNewHead c.words.control c.shape p → ⊥) → IsShut c.words.control.generation p m)
        (λ _ o _. absurd (o freeze_old)) (λ p _. inv.heads.other p) p;
    order = λ p r _ _ _ _. put_all c.words.head q (frozen_link l) (λ r m. IsNewHead c.words.control c.shape r → IsPrepared (c.words.control.generation + 1) m)
        (λ n. absurd (heads_apart c inv q freeze_old n)) (λ r _. freeze_prepared r) r;
  }

  freeze_bare : Bare c.words.control c.shape (put c.words.head q (frozen_link l)) c.chain
  freeze_bare = record {
    bare = λ moving p r i k o val n. inv.bare.bare moving p r i k o (put_all c.words.head q (frozen_link l) (λ p m. m.mark ≡ Val → (c.words.head p).mark ≡ Val) (λ is. absurd (val_mov (sym is))) (λ _ _ m. m) p val) n;
  }

  pub freeze_head_keeps : Inv (head_left c j q (frozen_link l))
  freeze_head_keeps = let was : IsLink l = subst IsLink found (inv.spelled.heads q freeze_head) in head_keeps c inv j q (frozen_link l)
      (record { generation = was.generation; row = was.row })
      (ap (λ (z : Link). z.row) (sym found))
      (subst (λ (z : Link). z.generation ≤ newest c.words.control) found (inv.sizes.heads q freeze_head))
      (λ _ _. ap (λ (z : Link). z.generation) (sym found))
      (λ _ _. refl)
      (let same = ap (λ (z : Link). z.generation) found in omega arith)
      (λ _ _. refl)
      freeze_heads
      (helps_frozen c.start c.words.control c.shape c.words.current c.found c.sight inv.sizes.now inv.finds c.help c.words.head j q (frozen_link l) freeze_val (λ n. heads_apart c inv q freeze_old n) refl inv.helps)
      freeze_bare
