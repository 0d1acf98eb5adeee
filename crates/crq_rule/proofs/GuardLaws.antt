-- Each kind of step on guards and epochs keeps the invariant.
use Rattle.std.proofs.Common.{◌≡◌, ⊎_elim, ℕ, ◌+◌, ◌^◌, ◌<◌, ◌≤◌, [], ◌∷◌, length, Some, None, sym, refl, ap, ◌∙◌, subst, arith, le_refl}
use mathlib.Core.Logic.{dite}
use native.Mathlib.Decide.{ℕ_discrete}
use Rattle.crq_base.specs.Lists.{In}
use Rattle.crq_rule.specs.declared.view.Guard.{Guard}
use Rattle.crq_rule.specs.declared.view.Guard.TheVariants.{Off, Entering, On}
use Rattle.crq_rule.specs.declared.view.Tick.{Tick}
use Rattle.crq_rule.specs.declared.view.CutRow.{CutRow}
use Rattle.crq_rule.specs.Lists.{put}
use Rattle.crq_rule.specs.Core.{Core}
use Rattle.crq_rule.specs.ScarceParts.{pending, IsBase}
use Rattle.crq_rule.specs.Parts.{Cutting, Reading, Stamps, Guards, GuardIs, OnSince, IsOn, LetsRise, footings, ground_of}
use Rattle.crq_rule.specs.Invariant.{present_of, takes_of, Inv}
use Rattle.crq_rule.specs.Kinds.{epoch_loaded, recovery_begun, new_base, entered, confirmed, left, scanned, ticked, tick_failed, tagged, new_tick, HasScanned}
use Rattle.crq_rule.proofs.EndLaws.{ends_walk, walks_end}
use Rattle.crq_rule.proofs.Puts.{put_here, put_else}
use Rattle.crq_rule.proofs.PartLaws.{read_epoch, read_tick, read_cut, read_risen, tagged_some, guard_set, tick_set, guards_risen, found_at, announced_low, cutting_guard, cutting_cut, stamps_risen}
use Rattle.crq_rule.proofs.HolderLaws.{holders_tagged, none_some}
use Rattle.crq_rule.proofs.CoverLaws.{nowhere_now, less_nowhere, cover_guard, cover_less, cover_tagged}
use Rattle.crq_rule.proofs.StandLaws.{lanes_guard, lanes_less, standing_nowhere, copying_nowhere}
use Rattle.crq_rule.proofs.WalkerLaws.{walkers_stop}
use Rattle.crq_rule.proofs.ScarceLaws.{some_base, scarce_put, scarce_lasts, lasts_guard, base_begun}
use Rattle.crq_rule.proofs.CopyLaws.{copies_guard, copies_less, unlinked_less}
use Rattle.crq_rule.proofs.Frames.{frame_guards}

-- what the epoch says of a guard that is on
pub on_low : (c : Core) → Inv c → (k g : ℕ) → k < c.start.layout.workers → c.guard k ≡ On g → (g ≤ c.words.epoch) × (c.words.epoch ≤ g + 1)
on_low c inv k g b is = let h = subst (GuardIs c.words.epoch (c.words.announced k)) is (inv.guards.each k b) in (h.2, h.3)

-- a caller whose guard isn't on stands nowhere, and has no cut row
not_on : (c : Core) → Inv c → (j : ℕ) → (IsOn (c.guard j) → ⊥) → j < c.start.layout.workers → (ground_of c).footing j ≡ []
not_on c inv j off b = inv.cover.resting j b off

no_scan : (t : ℕ) (guard : ℕ → Guard) (i a : ℕ) → In {A = ℕ × ℕ} (i, a) [] → LetsRise t a → OnSince t (guard i)
no_scan t guard i a n l = absurd n

-- an epoch that is loaded isn't below what the guard found
cutting_tagged : (c : Core) (j : ℕ) → Inv c → Cutting c.start.layout.workers c.guard (put c.cut j (tagged c.words.epoch (c.cut j)))
cutting_tagged c j inv = cutting_cut _ _ _ j (tagged c.words.epoch (c.cut j))
    (λ x b is. let y = tagged_some c.words.epoch (c.cut j) x is in inv.cutting.on j y.0 b y.1)
    (λ t f x b is on i. let y = tagged_some c.words.epoch (c.cut j) x is in ⊎_elim (λ (q : t ≡ c.words.epoch). let low = (on_low c inv j f b on).0 in omega arith) (inv.cutting.tags j t f y.0 b y.1 on) (y.3 t i)) inv.cutting

pub load_keeps : (c : Core) (j : ℕ) → j < c.start.layout.workers → Inv c → Inv (epoch_loaded c j)
load_keeps c j b inv = let e = c.words.epoch in let t = new_tick e in let o = tagged e (c.cut j) in frame_guards c _ _ _ _ _ _ _ _ _ _ inv
    (read_epoch _ _ _ _ _ j e (le_refl e) (read_tick _ _ _ _ _ j t (le_refl e) (λ k a n. absurd n) (read_cut _ _ _ _ _ j o low inv.reading)))
    (tick_set _ _ _ _ _ j t (λ i a _ n l. no_scan e c.guard i a n l) inv.guards)
    (holders_tagged _ _ _ _ _ j e inv.holders)
    (cutting_tagged c j inv)
    inv.stamps
    (cover_tagged _ _ _ j e (λ k g b' is. (on_low c inv k g b' is).0) inv.cover)
    inv.standing inv.copying inv.lanes inv.walkers inv.scarce inv.copies inv.unlinked inv.ends
  where
    low : (t : ℕ) (x : CutRow) → j < c.start.layout.workers → tagged c.words.epoch (c.cut j) ≡ Some x → In t x.tags → t ≤ c.words.epoch
    low t x b' is i = let y = tagged_some c.words.epoch (c.cut j) x is in ⊎_elim (λ (q : t ≡ c.words.epoch). omega arith) (inv.reading.tags j t y.0 b' y.1) (y.3 t i)

-- the first load of a recovery
pub recovery_keeps : (c : Core) (j : ℕ) → j < c.start.layout.workers → Inv c → Inv (recovery_begun c j)
recovery_keeps c j b inv = let loaded = load_keeps c j b inv in frame_guards c _ _ _ _ _ _ _ _ _ _ inv loaded.reading loaded.guards loaded.holders loaded.cutting loaded.stamps loaded.cover loaded.standing loaded.copying loaded.lanes loaded.walkers
    (scarce_put _ _ _ _ _ _ _ _ _ _ j (Some (new_base (length c.history) (pending c.history) c.words.epoch)) (λ x _ is. subst (IsBase c.start.layout c.words.epoch c.history c.guard c.holding j) (some_base _ x is) (base_begun c j b inv)) (λ k x _ _ old. old) inv.scarce) inv.copies inv.unlinked inv.ends

off_not_on : (g : Guard) → g ≡ Off → IsOn g → ⊥
off_not_on g is on = subst IsOn is on

entering_not_on : (g : Guard) (x : ℕ) → g ≡ Entering x → IsOn g → ⊥
entering_not_on g x is on = subst IsOn is on

pub enter_keeps : (c : Core) (j e : ℕ) → j < c.start.layout.workers → c.guard j ≡ Off → In e (c.epochs j) → Inv c → Inv (entered c j e)
enter_keeps c j e b off read inv = frame_guards c _ _ _ _ _ _ _ _ _ _ inv inv.reading
    (guard_set _ _ _ _ _ (put c.words.announced j (e + 1)) j (Entering e) (put_else _ _ _) (put_here _ _ _, inv.reading.read j e b read) (λ _ _. tt) inv.guards)
    inv.holders
    (cutting_guard _ _ _ j (Entering e) (λ x b' is. off_not_on (c.guard j) off (inv.cutting.on j x b' is)) inv.cutting)
    inv.stamps
    (cover_guard _ _ _ j (Entering e) (not_on c inv j (off_not_on (c.guard j) off)) inv.cover)
    inv.standing
    inv.copying
    (lanes_guard _ _ _ _ j (Entering e) (not_on c inv j (off_not_on (c.guard j) off)) inv.lanes)
    inv.walkers
    (scarce_lasts _ _ _ _ _ _ _ _ _ (le_refl _) (λ k inside. lasts_guard _ _ _ _ j (Entering e) k inside (λ r g _ _ _. subst (OnSince (g + 1)) (sym off) tt) (λ _ _ _. tt)) inv.scarce)
    (copies_guard _ _ j (Entering e) (not_on c inv j (off_not_on (c.guard j) off)) inv.copies)
    inv.unlinked
    inv.ends

pub confirm_keeps : (c : Core) (j x : ℕ) → j < c.start.layout.workers → c.guard j ≡ Entering x → Inv c → Inv (confirmed c j)
confirm_keeps c j x b is inv = let old : GuardIs c.words.epoch (c.words.announced j) (Entering x) = subst (GuardIs c.words.epoch (c.words.announced j)) is (inv.guards.each j b) in
    let a = old.0 in let low = old.1 in let e = c.words.epoch in frame_guards c _ _ _ _ _ _ _ _ _ _ inv
    (read_epoch _ _ _ _ _ j e (le_refl e) inv.reading)
    (guard_set _ _ _ _ _ c.words.announced j (On e) (λ _ _. refl) (omega arith, omega arith, le_refl e, omega arith) inv.reading.loaded inv.guards)
    inv.holders
    (cutting_guard _ _ _ j (On e) (λ z b' at. entering_not_on (c.guard j) x is (inv.cutting.on j z b' at)) inv.cutting)
    inv.stamps
    (cover_guard _ _ _ j (On e) (not_on c inv j (entering_not_on (c.guard j) x is)) inv.cover)
    inv.standing
    inv.copying
    (lanes_guard _ _ _ _ j (On e) (not_on c inv j (entering_not_on (c.guard j) x is)) inv.lanes)
    inv.walkers
    (scarce_lasts _ _ _ _ _ _ _ _ _ (le_refl _) (λ k inside. lasts_guard _ _ _ _ j (On e) k inside (λ r g _ _ _. subst (OnSince (g + 1)) (sym is) tt) (λ g low _. omega arith)) inv.scarce)
    (copies_guard _ _ j (On e) (not_on c inv j (entering_not_on (c.guard j) x is)) inv.copies)
    inv.unlinked
    inv.ends

pub leave_keeps : (c : Core) (j : ℕ) → j < c.start.layout.workers → c.cut j ≡ None → c.copying j ≡ None → Inv c → Inv (left c j)
leave_keeps c j b uncut none inv = frame_guards c _ _ _ _ _ _ _ _ _ _ inv inv.reading
    (guard_set _ _ _ _ _ (put c.words.announced j 0) j Off (put_else _ _ _) (put_here _ _ _) (λ _ _. tt) inv.guards)
    inv.holders
    (cutting_guard _ _ _ j Off (λ x _ is. absurd (none_some x (sym uncut ∙ is))) inv.cutting)
    inv.stamps
    (cover_guard _ _ _ j Off (λ _. nowhere_now c.rows c.old c.copying j none) (cover_less _ _ _ _ less inv.cover))
    (standing_nowhere _ _ _ _ _ _ j inv.standing)
    (copying_nowhere _ _ _ _ _ _ j inv.copying)
    (lanes_guard _ _ _ _ j Off (λ _. nowhere_now c.rows c.old c.copying j none) (lanes_less _ _ _ _ _ less inv.lanes))
    (walkers_stop (present_of c) (takes_of c) _ _ j [] inv.walkers)
    (scarce_lasts _ _ _ _ _ _ _ _ _ (le_refl _) (λ k inside. lasts_guard _ _ _ _ j Off k inside
    (λ r g row held _. absurd (let o = inv.holders.of_cut j r row held in none_some o.1.0 (sym uncut ∙ o.1.1))) (λ _ _ _. tt)) inv.scarce)
    (copies_guard _ _ j Off (λ _. nowhere_now c.rows c.old c.copying j none) (copies_less _ _ _ less inv.copies))
    (unlinked_less _ _ _ j inv.unlinked)
    (ends_walk c inv (put c.walk j None) (walks_end c inv j))
  where
    less : (k a : ℕ) → In a (footings (put c.rows j []) (put c.old j None) c.copying k) → In a (footings c.rows c.old c.copying k)
    less = less_nowhere c.rows c.old c.copying j none

pub scan_keeps : (c : Core) (j k : ℕ) → j < c.start.layout.workers → k < c.start.layout.workers → Inv c → Inv (scanned c j k)
scan_keeps c j k b d inv = let t = c.tick j in let t' : Tick = record { loaded = t.loaded; found = (k, c.words.announced k) ∷ t.found } in frame_guards c _ _ _ _ _ _ _ _ _ _ inv
    (read_tick _ _ _ _ _ j t' (inv.reading.loaded j b) low inv.reading)
    (tick_set _ _ _ _ _ j t' new inv.guards)
    inv.holders inv.cutting inv.stamps inv.cover inv.standing inv.copying inv.lanes inv.walkers inv.scarce inv.copies inv.unlinked inv.ends
  where
    low : (i a : ℕ) → In {A = ℕ × ℕ} (i, a) ((k, c.words.announced k) ∷ (c.tick j).found) → a ≤ c.words.epoch + 1
    low i a h = ⊎_elim (λ (is : (i, a) ≡ (k, c.words.announced k)). subst (λ (z : ℕ). z ≤ c.words.epoch + 1) (sym (ap (λ (z : ℕ × ℕ). z.1) is)) (announced_low c.words.epoch (c.words.announced k) (c.guard k) (inv.guards.each k d)))
        (inv.reading.scanned j i a b) h

    new : (i a : ℕ) → i < c.start.layout.workers → In {A = ℕ × ℕ} (i, a) ((k, c.words.announced k) ∷ (c.tick j).found) → LetsRise (c.tick j).loaded a → OnSince (c.tick j).loaded (c.guard i)
    new i a l h lets = ⊎_elim
        (λ (is : (i, a) ≡ (k, c.words.announced k)). subst (λ (z : ℕ). OnSince (c.tick j).loaded (c.guard z)) (sym (ap (λ (z : ℕ × ℕ). z.0) is))
        (found_at c.words.epoch (c.tick j).loaded (c.words.announced k) (c.guard k) (inv.guards.each k d) (subst (λ (z : ℕ). LetsRise (c.tick j).loaded z) (ap (λ (z : ℕ × ℕ). z.1) is) lets)))
        (λ t. inv.guards.passed j i a b l t lets) h

pub tick_keeps : (c : Core) (j x : ℕ) → j < c.start.layout.workers → c.words.epoch ≡ x → x < 2 ^ 62 → (c.tick j).loaded ≡ x → c.guard j ≡ Off → HasScanned c.start.layout.workers j (c.tick j) → Inv c → Inv (ticked c j x)
tick_keeps c j x b now limit is off all inv = let n = c.start.layout.workers in let t = new_tick 0 in
    let reading = subst (λ z. Reading n z c.epochs c.tick c.cut) now inv.reading in frame_guards c _ _ _ _ _ _ _ _ _ _ inv
    (read_epoch _ _ _ _ _ j (x + 1) (le_refl (x + 1)) (read_tick _ _ _ _ _ j t (omega arith) (λ k a h. absurd h) (read_risen _ _ _ _ _ (omega arith) reading)))
    (tick_set _ _ _ _ _ j t (λ i a _ h l. no_scan 0 c.guard i a h l) (guards_risen _ _ _ _ _ low (subst (λ z. Guards n z c.words.announced c.guard c.tick) now inv.guards)))
    inv.holders inv.cutting
    (stamps_risen _ _ _ _ _ (subst (λ z. Stamps c.start.layout z c.words.stamp c.ripening c.holding) now inv.stamps))
    inv.cover inv.standing inv.copying inv.lanes inv.walkers
    (scarce_lasts _ _ _ _ _ _ _ _ _ (omega arith) (λ k _. record { shrinks = λ _ _ _ is. is; stays = λ _ _ _ _ is. is }) inv.scarce)
    inv.copies inv.unlinked inv.ends
  where
    low : (k : ℕ) → k < c.start.layout.workers → OnSince x (c.guard k)
    low k l = dite (ℕ_discrete k j) (λ e. subst (OnSince x) (sym (ap c.guard e ∙ off)) tt)
        (λ ne. let s = all k l ne in subst (λ z. OnSince z (c.guard k)) is (inv.guards.passed j k s.0 b l s.1 s.2))

-- the exchange found another epoch, and the caller knows it
pub tick_fails_keeps : (c : Core) (j : ℕ) → j < c.start.layout.workers → Inv c → Inv (tick_failed c j)
tick_fails_keeps c j b inv = let t = new_tick 0 in let e = c.words.epoch in frame_guards c _ _ _ _ _ _ _ _ _ _ inv
    (read_epoch _ _ _ _ _ j e (le_refl e) (read_tick _ _ _ _ _ j t (omega arith) (λ k a h. absurd h) inv.reading))
    (tick_set _ _ _ _ _ j t (λ i a _ h l. no_scan 0 c.guard i a h l) inv.guards)
    inv.holders inv.cutting inv.stamps inv.cover inv.standing inv.copying inv.lanes inv.walkers inv.scarce inv.copies inv.unlinked inv.ends
