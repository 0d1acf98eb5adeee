-- Each kind of step on retired rows keeps the invariant. A row that may be claimed is covered by no guard.
use Rattle.std.proofs.Common.{refl, ◌≡◌, ◌≢◌, inl, inr, ℕ, ◌+◌, ◌<◌, ◌≤◌, None, le_refl, sym, ap, ◌∙◌, subst, arith}
use mathlib.Core.Logic.{dite}
use native.Mathlib.Decide.{ℕ_discrete}
use Rattle.crq_base.specs.Lists.{In}
use Rattle.crq_rule.specs.Places.{IsHomeRow}
use Rattle.crq_rule.specs.Lists.{put}
use Rattle.crq_rule.specs.Core.{Core, IsOutside, in_hand, cut_by, retired}
use Rattle.crq_rule.specs.ListParts.{MarkFits}
use Rattle.crq_rule.specs.Parts.{ground_of, Covers}
use Rattle.crq_rule.specs.ScarceParts.{IsLate}
use Rattle.crq_rule.specs.Invariant.{Inv}
use Rattle.crq_rule.specs.Kinds.{retired_at, looked, claimed, base_looked, refused_after, MayRetire, IsRipe}
use Rattle.crq_rule.proofs.Puts.{put_here, put_else}
use Rattle.crq_rule.proofs.SizeLaws.{sizes_rows}
use Rattle.crq_rule.proofs.SteadyLaws.{steady_rows}
use Rattle.crq_rule.proofs.PartLaws.{read_cut, cutting_cut, stamps_look, stamps_retire, stamps_claim, sort, one_home}
use Rattle.crq_rule.proofs.HolderLaws.{none_some, holders_retire, holders_claim}
use Rattle.crq_rule.proofs.CoverLaws.{cover_retire, cover_claim, uncovered}
use Rattle.crq_rule.proofs.StandLaws.{marks_held, writing_more, naming_held, carriers_held}
use Rattle.crq_rule.proofs.ScarceLaws.{since_low, scarce_put, scarce_lasts, lasts_held, refusals_put, base_after, refused_counted}
use Rattle.crq_rule.proofs.CopyLaws.{copies_retire, copies_claim}
use Rattle.crq_rule.proofs.Frames.{frame_rows}
use Rattle.crq_rule.proofs.GuardLaws.{on_low}
use Rattle.crq_rule.proofs.Lawfuls.{found_by}

pub retire_keeps : (c : Core) (j r t : ℕ) → j < c.start.layout.workers → MayRetire (c.cut j) r t → Inv c → Inv (retired_at c j r t)
retire_keeps c j r t b may inv = let x = may.0 in let at = inv.holders.is_cut j x b may.1 in let held : c.holding r ≡ cut_by j = subst (λ z. c.holding z ≡ cut_by j) may.2 at.1 in
    frame_rows c _ _ _ _ _ _ _ inv
    (read_cut _ _ _ _ _ j None (λ s y _ is _. absurd (none_some y is)) inv.reading)
    (holders_retire _ _ _ _ _ j r t x b may.1 may.2 inv.holders)
    (cutting_cut _ _ _ j None (λ y _ is. absurd (none_some y is)) (λ _ _ y _ is. absurd (none_some y is)) inv.cutting)
    (stamps_retire _ _ _ _ _ r t (λ e. let z : 2 ≡ 3 = sym (ap sort held) ∙ e in absurd (omega arith)) (inv.reading.tags j t x b may.1 may.3) inv.stamps)
    (cover_retire _ _ _ j r t (inr (j, x, b, may.1, may.2, may.3)) inv.cover)
    (sizes_rows _ _ _ _ _ _ _ _ _ (λ _ _. refl) (λ s _ out. inl (kept held s out, refl)) inv.sizes)
    (steady_rows _ _ _ _ _ _ _ (λ s _ out. inl (kept held s out, refl)) inv.steady)
    (marks_held _ _ _ _ r (retired t) _ _ (λ z. omega arith) (λ row. subst (λ h. MarkFits h (c.words.link r).mark) held (inv.marks.mark r row)) (kept held) inv.marks)
    inv.writing
    (naming_held _ _ c.words.twin _ r (retired t) _ _ _ (λ z. omega arith) inv.naming)
    (carriers_held _ _ _ _ r (retired t) _ _ (other held) (λ z. omega arith) inv.carriers)
    (scarce_lasts _ _ _ _ _ _ _ _ _ (le_refl _) (λ k inside. lasts_held _ _ _ _ r (retired t) k (λ g home late. before held g late) (λ g home low is. inr (after g low))) inv.scarce)
    inv.refusals
    (copies_retire _ _ j r t held inv.copies)
  where
    -- the tag isn't above the epoch, nor that more than one above what the guard found; and the tag isn't below that
    before : c.holding r ≡ cut_by j → (g : ℕ) → g + 2 ≤ t → IsLate c.guard g (c.holding r)
    before held g late = subst (IsLate c.guard g) (sym held) (since_low c.words.epoch (c.words.announced j) g (c.guard j) (inv.guards.each j b) (let low = inv.reading.tags j t may.0 b may.1 may.3 in omega arith))

    after : (g : ℕ) → g + 3 ≤ c.words.epoch → g + 2 ≤ t
    after g low = let on = found_by (c.guard j) (inv.cutting.on j may.0 b may.1) in let h = (on_low c inv j on.0 b on.1).1 in let tag = inv.cutting.tags j t on.0 may.0 b may.1 on.1 may.3 in omega arith

    -- a row that is in no hand was in none
    kept : c.holding r ≡ cut_by j → (s : ℕ) → IsOutside (put c.holding r (retired t)) s → IsOutside c.holding s
    kept held s out i at = out i (put_else c.holding r (retired t) s (λ e. let z : ◌≡◌ {A = ℕ} 2 0 = sym (ap sort held) ∙ (ap (λ z. sort (c.holding z)) (sym e) ∙ ap sort at) in absurd (omega arith)) ∙ at)

    other : c.holding r ≡ cut_by j → sort (c.holding r) ≢ 1
    other held z = let e : ◌≡◌ {A = ℕ} 2 1 = sym (ap sort held) ∙ z in absurd (omega arith)

pub look_keeps : (c : Core) (j r : ℕ) → j < c.start.layout.workers → IsHomeRow c.start.layout j r → Inv c → Inv (looked c j r)
look_keeps c j r b home inv = frame_rows c _ _ _ _ _ _ _ inv inv.reading inv.holders inv.cutting (stamps_look _ _ _ _ _ j r b home inv.stamps) inv.cover inv.sizes inv.steady inv.marks inv.writing inv.naming inv.carriers
    (scarce_put _ _ _ _ _ _ _ _ _ _ j (base_looked c j r) (λ x _ is. base_after c j b inv r x home is) (λ _ _ _ _ old. old) inv.scarce)
    (refusals_put _ _ _ _ j (refused_after c.start.layout.home (c.hand j) (base_looked c j r) (c.refused j)) (λ _. refused_counted c j b inv r home) (λ _ _ old. old) inv.refusals)
    inv.copies

-- A row that a caller may claim is covered by no guard
pub claimable_uncovered : (c : Core) (j r e : ℕ) → j < c.start.layout.workers → In e (c.epochs j) → IsRipe (c.ripening j) r e → Inv c
    → (k g : ℕ) → Covers (ground_of c) k g r → ⊥
claimable_uncovered c j r e b read ripe inv k g v = let low = inv.reading.read j e b read in let late = ripe.2 in let held = (inv.stamps.ripe j r ripe.0 b ripe.1).1 in
    uncovered _ _ _ c.words.epoch k g r ripe.0 (λ k g b is. (on_low c inv k g b is).1) (inl held) (omega arith) inv.cover v

pub claim_keeps : (c : Core) (j r e : ℕ) → j < c.start.layout.workers → In e (c.epochs j) → IsRipe (c.ripening j) r e → Inv c → Inv (claimed c j r)
claim_keeps c j r e b read ripe inv = let at = inv.stamps.ripe j r ripe.0 b ripe.1 in
    frame_rows c _ _ _ _ _ _ _ inv inv.reading
    (holders_claim _ _ _ _ _ j r ripe.0 b at.0 at.1 inv.holders)
    inv.cutting
    (stamps_claim _ _ _ _ _ j r b at.0 inv.stamps)
    (cover_claim _ _ _ j r (claimable_uncovered c j r e b read ripe inv) inv.cover)
    (sizes_rows _ _ _ _ _ _ _ _ _ (λ _ _. refl) (λ s _ out. inl (kept s out, refl)) inv.sizes)
    (steady_rows _ _ _ _ _ _ _ (λ s _ out. inl (kept s out, refl)) inv.steady)
    (marks_held _ _ _ _ r (in_hand j) _ _ (λ z. omega arith) (λ _. tt) kept inv.marks)
    (writing_more _ _ _ _ _ _ j r inv.writing)
    (naming_held _ _ c.words.twin _ r (in_hand j) _ _ _ (λ z. omega arith) inv.naming)
    (carriers_held _ _ _ _ r (in_hand j) _ _ (other at.1) (λ z. omega arith) inv.carriers)
    (scarce_lasts _ _ _ _ _ _ _ _ _ (le_refl _) (λ k inside. lasts_held _ _ _ _ r (in_hand j) k (λ _ _ n. absurd n) (λ _ home _ _. inl (ap in_hand (one_home c.start.layout j k r at.0 home)))) inv.scarce)
    inv.refusals
    (copies_claim _ _ j r ripe.0 at.1 inv.copies)
  where
    kept : (s : ℕ) → IsOutside (put c.holding r (in_hand j)) s → IsOutside c.holding s
    kept s out i at = dite (ℕ_discrete s r) (λ e. absurd (out j (ap (put c.holding r (in_hand j)) e ∙ put_here c.holding r (in_hand j)))) (λ ne. out i (put_else c.holding r (in_hand j) s ne ∙ at))

    other : {t : ℕ} → c.holding r ≡ retired t → sort (c.holding r) ≢ 1
    other held z = let e : ◌≡◌ {A = ℕ} 3 1 = sym (ap sort held) ∙ z in absurd (omega arith)
