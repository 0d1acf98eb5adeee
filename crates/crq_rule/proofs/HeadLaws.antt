-- How the parts on heads and marks stay, and what marks say.
use Rattle.std.proofs.Common.{◌≡◌, ⊎_elim, inl, inr, Bool, ℕ, ◌+◌, ◌^◌, ◌<◌, ◌≤◌, nat_lt, true, false, refl, sym, ap, ◌∙◌, subst, ◌⊎◌, arith}
use Rattle.std.proofs.lemmas.Bool.{false≢true, ltb-true, ltb-false}
use Rattle.crq_base.specs.declared.words.Link.{Link}
use Rattle.crq_base.specs.declared.words.Mark.{Mark}
use Rattle.crq_base.specs.declared.words.Mark.TheVariants.{Val, Inv as Invalid, Mov, Del}
use Rattle.crq_base.specs.declared.words.Control.{Control}
use Rattle.crq_rule.specs.Core.{Holding, in_hand, listed, cut_by, retired}
use Rattle.crq_rule.specs.Places.{IsHead}
use Rattle.crq_rule.specs.Ranks.{Shape, first_head_of, IsHeadIn}
use Rattle.crq_rule.specs.ListParts.{Heads, IsShut, IsPrepared, IsOldMark, IsOldHead, IsNewHead, IsFinal, MarkFits}
use Rattle.crq_rule.specs.HistoryParts.{IsCarrying}
use Rattle.crq_rule.specs.ListKinds.{is_cell, is_passed}

-- Marks

pub cell_final : (m : Mark) → is_cell m ≡ true → IsFinal m → ⊥
cell_final Val cell final = final
cell_final Invalid cell final = final
cell_final Mov cell final = false≢true cell
cell_final Del cell final = false≢true cell

pub cell_frozen : (m : Mark) → is_cell m ≡ true → m ≡ Mov → ⊥
cell_frozen m cell is = false≢true (sym (ap is_cell is) ∙ cell)

pub cell_dead : (m : Mark) → is_cell m ≡ true → m ≡ Del → ⊥
cell_dead m cell is = false≢true (sym (ap is_cell is) ∙ cell)

-- a row that may be followed by another one, and that nobody has in hand, is listed
pub cell_listed : (h : Holding) (m : Mark) → is_cell m ≡ true → ((j : ℕ) → h ≡ in_hand j → ⊥) → MarkFits h m → (q : ℕ) × (h ≡ listed q)
cell_listed (in_hand j) m cell out fits = absurd (out j refl)
cell_listed (listed q) m cell out fits = (q, refl)
cell_listed (cut_by j) m cell out fits = absurd (cell_final m cell fits)
cell_listed (retired t) m cell out fits = absurd (cell_final m cell fits)

-- Carriers

val_del : Val ≡ Del → ⊥
val_del e = cc

mov_del : Mov ≡ Del → ⊥
mov_del e = cc

pub val_carries : (m : Mark) (t : ℕ) (k : Mark) → m ≡ Val → IsCarrying m t k
val_carries m t k val = subst (λ m. IsCarrying m t k) (sym val) tt

-- a frozen row that has no copy
pub bare_carries : (m : Mark) (t : ℕ) (k : Mark) → m ≡ Mov → t ≡ 0 → IsCarrying m t k
bare_carries m t k frozen bare = subst (λ m. IsCarrying m t k) (sym frozen) (inl bare)

pub dead_carries : (m : Mark) (t : ℕ) (k : Mark) → m ≡ Del → IsCarrying m t k → ⊥
dead_carries m t k dead is = subst (λ m. IsCarrying m t k) dead is

-- what carries an event is present or frozen
pub carries_kept : (m : Mark) (t : ℕ) (k : Mark) → IsCarrying m t k → (m ≡ Val) ⊎ (m ≡ Mov)
carries_kept Val t k is = inl refl
carries_kept Invalid t k is = absurd is
carries_kept Mov t k is = inr refl
carries_kept Del t k is = absurd is

pub dead_kept : (m : Mark) → m ≡ Del → (m ≡ Val) ⊎ (m ≡ Mov) → ⊥
dead_kept m dead kept = ⊎_elim (λ v. val_del (sym v ∙ dead)) (λ v. mov_del (sym v ∙ dead)) kept

-- what a take goes past isn't
pub passed_kept : (m : Mark) → is_passed m ≡ true → (m ≡ Val) ⊎ (m ≡ Mov) → ⊥
passed_kept m passed kept = ⊎_elim (λ v. false≢true (sym (ap is_passed v) ∙ passed)) (λ v. false≢true (sym (ap is_passed v) ∙ passed)) kept

-- the twin's mark matters only where it isn't valid
pub carries_on : (m : Mark) (t : ℕ) (k k' : Mark) → (k ≡ Invalid → k' ≡ Invalid) → IsCarrying m t k → IsCarrying m t k'
carries_on Val t k k' on is = tt
carries_on Invalid t k k' on is = is
carries_on Mov t k k' on is = ⊎_elim inl (λ e. inr (on e)) is
carries_on Del t k k' on is = is

-- Heads

-- heads change their rows alone, and none where they are frozen
pub heads_rows : (control : Control) (shape : ℕ → Shape) (head head' : ℕ → Link) → ((q : ℕ) → (head' q).generation ≡ (head q).generation) → ((q : ℕ) → (head' q).mark ≡ (head q).mark) → ((q : ℕ) → (head q).mark ≡ Mov → head' q ≡ head q)
    → Heads control shape head → Heads control shape head'
heads_rows control shape head head' generation mark frozen was = record {
  old = λ q b o. let h = was.old q b o in (generation q ∙ h.0, subst (IsOldMark control.moving) (sym (mark q)) h.1);
  new = λ q b n. ⊎_elim (λ p. inl (prepared q p)) (λ s. inr (shut q s)) (was.new q b n);
  other = λ q b o n. shut q (was.other q b o n);
  order = λ p q b d o m n. prepared q (was.order p q b d o (sym (mark p) ∙ m) n);
}
  where
    prepared : (q : ℕ) → IsPrepared (control.generation + 1) (head q) → IsPrepared (control.generation + 1) (head' q)
    prepared q p = (generation q ∙ p.0, mark q ∙ p.1)

    shut : (q : ℕ) → IsShut control.generation q (head q) → IsShut control.generation q (head' q)
    shut q s = subst (IsShut control.generation q) (sym (frozen q s.mark)) s

-- Which table a head is of

pub below_or_not : (a b : ℕ) → (a < b) ⊎ (b ≤ a)
below_or_not a b = by_test (nat_lt a b) refl
  where
    by_test : (t : Bool) → nat_lt a b ≡ t → (a < b) ⊎ (b ≤ a)
    by_test true is = inl (ltb-true a b is)
    by_test false is = let no = ltb-false a b is in inr (omega arith)

pub in_or_out : (g : ℕ) (s : Shape) (q : ℕ) → IsHeadIn g s q ⊎ (IsHeadIn g s q → ⊥)
in_or_out g s q = ⊎_elim (λ low. inr (λ h. let at = h.0 in absurd (omega arith)))
    (λ at. ⊎_elim (λ high. inl (at, high)) (λ past. inr (λ h. let high = h.1 in absurd (omega arith))) (below_or_not q (first_head_of g + 2 ^ s.log)))
    (below_or_not q (first_head_of g))

mov_val : Mov ≡ Val → ⊥
mov_val e = cc

-- the head is of the open table, or a prepared one of that into which it moves
abbrev pub IsLiveHead : Control → (ℕ → Shape) → ℕ → Link → Type 0
IsLiveHead control shape q l = (IsOldHead control shape q × (l.generation ≡ control.generation)) ⊎ (IsNewHead control shape q × IsPrepared (control.generation + 1) l)

module _ (control : Control) (shape : ℕ → Shape) (head : ℕ → Link) (heads : Heads control shape head) (q : ℕ) (b : IsHead q) where
  -- each other head is shut
  pub head_sorts : IsLiveHead control shape q (head q) ⊎ IsShut control.generation q (head q)
  head_sorts = ⊎_elim (λ o. inl (inl (o, (heads.old q b o).0))) (λ out. moving control.moving refl out) (in_or_out control.generation (shape control.generation) q)
    where
      moving : (m : Bool) → control.moving ≡ m → (IsOldHead control shape q → ⊥) → IsLiveHead control shape q (head q) ⊎ IsShut control.generation q (head q)
      moving false is out = inr (heads.other q b out (λ n. false≢true (sym is ∙ n.0)))
      moving true is out = ⊎_elim (λ n. ⊎_elim (λ p. inl (inr ((is, n), p))) inr (heads.new q b (is, n))) (λ none. inr (heads.other q b out (λ n. none n.1))) (in_or_out (control.generation + 1) (shape (control.generation + 1)) q)

  -- a present head is live, and so is one whose list has rows
  pub present_head : (head q).mark ≡ Val → IsLiveHead control shape q (head q)
  present_head val = ⊎_elim (λ l. l) (λ (s : IsShut control.generation q (head q)). absurd (mov_val (sym s.mark ∙ val))) head_sorts

  pub used_head : 0 < (head q).row → IsLiveHead control shape q (head q)
  used_head some = ⊎_elim (λ l. l) (λ (s : IsShut control.generation q (head q)). let none = s.empty in absurd (omega arith)) head_sorts

  -- so it is of no earlier table than the open one
  pub live_generation : IsLiveHead control shape q (head q) → control.generation ≤ (head q).generation
  live_generation live = ⊎_elim (λ o. let is = o.1 in omega arith) (λ n. let is = n.1.0 in omega arith) live

  -- a present head that is of no later table is one of the open table
  pub present_old : (head q).mark ≡ Val → (head q).generation ≤ control.generation → IsOldHead control shape q × ((head q).generation ≡ control.generation)
  present_old val low = ⊎_elim (λ o. o) (λ n. let is = n.1.0 in absurd (omega arith)) (present_head val)

  -- a head is present or frozen
  pub head_mark : ((head q).mark ≡ Val) ⊎ ((head q).mark ≡ Mov)
  head_mark = ⊎_elim (λ live. ⊎_elim (λ o. old_mark control.moving (head q).mark (heads.old q b o.0).1) (λ n. inl n.1.1) live) (λ (s : IsShut control.generation q (head q)). inr s.mark) head_sorts
    where
      old_mark : (b : Bool) (m : Mark) → IsOldMark b m → (m ≡ Val) ⊎ (m ≡ Mov)
      old_mark false m is = inl is
      old_mark true m is = is
