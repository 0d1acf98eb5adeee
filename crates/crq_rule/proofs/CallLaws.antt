-- A take that begins, and one that finds nothing, keep the invariant.
use Rattle.std.proofs.Common.{◌≡◌, ◌≢◌, ⊎_elim, false, ℕ, ◌<◌, ◌≤◌, List, [], ◌∷◌, ◌++◌, length, Option, Some, None, sym, refl, ap, ◌∙◌, subst, arith}
use Rattle.std.specs.List.{Contains}
use Rattle.crq_base.specs.declared.event.Event.{Event}
use Rattle.crq_base.specs.declared.entry.Entry.{Entry}
use Rattle.crq_base.specs.declared.entry.Entry.TheVariants.{Begin, Miss}
use Rattle.crq_base.specs.declared.words.Link.{Link}
use Rattle.crq_base.specs.declared.words.Control.{Control}
use Rattle.crq_base.specs.declared.words.Current.{Current}
use Rattle.crq_base.specs.Histories.{puts, outs, MayFollow}
use Rattle.crq_base.proofs.Verdicts.{contains_or}
use Rattle.crq_base.specs.Lists.{In}
use Rattle.crq_rule.specs.declared.layout.Layout.{Layout}
use Rattle.crq_rule.specs.declared.layout.Start.{Start}
use Rattle.crq_rule.specs.declared.view.Found.{Found}
use Rattle.crq_rule.specs.declared.view.Sight.{Sight}
use Rattle.crq_rule.specs.declared.view.Stand.{Stand}
use Rattle.crq_rule.specs.declared.view.Walk.{Walk}
use Rattle.crq_rule.specs.Lists.{put}
use Rattle.crq_rule.specs.Core.{Core, Holding, caller_of}
use Rattle.crq_rule.specs.Parts.{Finds, Fits, NotAfter}
use Rattle.crq_rule.specs.HistoryParts.{Carriers}
use Rattle.crq_rule.specs.Ranks.{Shape}
use Rattle.crq_rule.specs.Invariant.{present_of, takes_of, Inv}
use Rattle.crq_rule.specs.ListKinds.{EndedWalk, MayMiss, begun_by, control_loaded, missed}
use Rattle.crq_rule.proofs.EndLaws.{ends_callers, same_walks, walks_end, walks_anew, helps_told}
use Rattle.crq_rule.proofs.Puts.{put_here, put_all}
use Rattle.crq_rule.proofs.CoverLaws.{cover_less, less_old}
use Rattle.crq_rule.proofs.StandLaws.{lanes_less, copying_nowhere}
use Rattle.crq_rule.proofs.CopyLaws.{copies_less, unlinked_less, unlinked_more, unlinked_grown}
use Rattle.crq_rule.proofs.Frames.{frame_guards, frame_found, frame_entry}
use Rattle.crq_rule.proofs.HelpLaws.{helps_loaded}
use Rattle.crq_rule.proofs.HistoryLaws.{told_other, told_begin, settling_more, pending_same}
use Rattle.crq_rule.proofs.BoundLaws.{numbers_grown, bounds_grown}
use Rattle.crq_rule.proofs.WalkerLaws.{silent, walkers_grown, walkers_rest, walkers_begin}
use Rattle.crq_rule.proofs.AheadLaws.{ahead_grown}
use Rattle.crq_rule.proofs.Pendings.{counted_grown, none_counted}
use Rattle.crq_rule.proofs.ScarceLaws.{base_grown, scarce_drop, scarce_grown, refusals_grown, refusals_put}
use Rattle.crq_rule.proofs.SweepLaws.{swept_grown, swept_begun}
use Rattle.crq_rule.proofs.SearchLaws.{settled_left, ended_left}

none_sight : (s : Sight) → None ≡ Some s → ⊥
none_sight s e = cc

none_stand : (s : Stand) → None ≡ Some s → ⊥
none_stand s e = cc

miss_begin : (j limit k : ℕ) → Miss j limit ≡ Begin k → ⊥
miss_begin j limit k e = cc

-- a Begin of another caller, and a Miss, are no Begin of this one
other_begin : (j k : ℕ) → k ≢ j → In (Begin k) (Begin j ∷ []) → ⊥
other_begin j k ne i = ⊎_elim (λ (e : Begin k ≡ Begin j). ne (let same : k ≡ j = cc in same)) (λ n. n) i

no_begin : (j limit k : ℕ) → In (Begin k) (Miss j limit ∷ []) → ⊥
no_begin j limit k i = ⊎_elim (λ (e : Begin k ≡ Miss j limit). miss_begin j limit k (sym e)) (λ n. n) i

some_control : (x y : Control) → Some x ≡ Some y → x ≡ y
some_control x y e = cc

-- the caller j found the control word
pub finds_control : (start : Start) (control : Control) (shape : ℕ → Shape) (current : Current) (found : ℕ → Found) (sight : ℕ → Option Sight) (j : ℕ) → Fits start control shape control
    → Finds start control shape current found sight → Finds start control shape current (put found j (record (found j) { control = Some control })) sight
finds_control start control shape current found sight j now old = record {
  controls = λ k x. put_all found j (record (found j) { control = Some control }) (λ k f. k < start.layout.workers → f.control ≡ Some x → Fits start control shape x)
      (λ _ e. subst (Fits start control shape) (some_control control x e) now) (λ k _. old.controls k x) k;
  currents = λ k x. put_all found j (record (found j) { control = Some control }) (λ k f. k < start.layout.workers → f.current ≡ Some x → NotAfter x current) (old.currents j x) (λ k _. old.currents k x) k;
  sights = old.sights;
  views = old.views;
}

-- an entry that is neither a put nor a take
pub carriers_same : (l : Layout) (history : List Entry) (x : Entry) (link : ℕ → Link) (twin : ℕ → ℕ) (event : ℕ → Event) (holding : ℕ → Holding) → puts (x ∷ []) ≡ [] → outs (x ∷ []) ≡ []
    → Carriers l history link twin event holding → Carriers l (history ++ x ∷ []) link twin event holding
carriers_same l history x link twin event holding none kept old = record {
  carried = λ e p. old.carried e ((pending_same history x e none kept).0 p);
  pending = λ r v. (pending_same history x (event r) none kept).1 (old.pending r v);
  one = old.one;
}

-- the control word was loaded
pub control_keeps : (c : Core) (j : ℕ) → j < c.start.layout.workers → Inv c → Inv (control_loaded c j)
control_keeps c j b inv = frame_found c (control_loaded c j) inv (finds_control _ _ _ _ _ _ j inv.sizes.now inv.finds) inv.numbers inv.walkers inv.bounds (helps_loaded _ _ _ _ _ _ inv.finds _ _ j inv.helps) (ends_callers c inv _ _ _ (same_walks c inv) (helps_told c inv j))

-- a caller that begins anew has read no table
finds_begun : (start : Start) (control : Control) (shape : ℕ → Shape) (current : Current) (found : ℕ → Found) (sight : ℕ → Option Sight) (j : ℕ)
    → Finds start control shape current found sight → Finds start control shape current found (put sight j None)
finds_begun start control shape current found sight j old = record {
  controls = old.controls;
  currents = old.currents;
  sights = λ k s. put_all sight j None (λ k o. k < start.layout.workers → o ≡ Some s → Fits start control shape s.table × (s.table.moving ≡ false)) (λ _ e. absurd (none_sight s e)) (λ k _. old.sights k s) k;
  views = λ k s. put_all sight j None (λ k o. k < start.layout.workers → o ≡ Some s → NotAfter s.current current) (λ _ e. absurd (none_sight s e)) (λ k _. old.views k s) k;
}

nothing : {e : Event} → Contains [] e → ⊥
nothing h = let k = h.1 in absurd (omega arith)

-- the caller leaves the row whose copy it was to link
unlinks : (c : Core) (j : ℕ) → Inv c → Inv (record c { old = put c.old j None })
unlinks c j inv = frame_guards c c.words.epoch c.words.announced c.epochs c.guard c.tick c.cut c.base c.rows (put c.old j None) c.walk inv inv.reading inv.guards inv.holders inv.cutting inv.stamps
    (cover_less _ _ _ _ (less_old c.rows c.old c.copying j) inv.cover)
    inv.standing
    (copying_nowhere _ _ _ _ _ _ j inv.copying)
    (lanes_less _ _ _ _ _ (less_old c.rows c.old c.copying j) inv.lanes)
    inv.walkers inv.scarce
    (copies_less _ _ _ (less_old c.rows c.old c.copying j) inv.copies)
    (unlinked_less _ _ _ j inv.unlinked)
    inv.ends

pub begin_keeps : (c : Core) (j : ℕ) → j < c.start.layout.workers → Inv c → Inv (begun_by c j)
begin_keeps c j b inv = frame_entry (record c { old = put c.old j None }) (begun_by c j) (unlinks c j inv)
    (finds_begun _ _ _ _ _ _ j (finds_control _ _ _ _ _ _ j inv.sizes.now inv.finds))
    inv.dues
    inv.steady
    (carriers_same _ _ (Begin j) _ _ _ _ refl refl inv.carriers)
    (told_begin _ _ _ _ _ j b inv.told)
    (numbers_grown _ _ _ (Begin j ∷ []) inv.numbers)
    (settling_more _ _ _ (Begin j ∷ []) (λ _ n. absurd (nothing n)) (λ _ _ _ _ n. nothing n) inv.settling)
    (walkers_begin (present_of (begun_by c j)) (takes_of c) _ _ j (length c.history) (walkers_grown (present_of c) (takes_of c) _ _ (Begin j ∷ []) (silent c.history (Begin j ∷ []) refl refl) inv.walkers))
    (ahead_grown c.history (Begin j ∷ []) c.words.current refl inv.ahead)
    (scarce_drop _ _ _ _ _ _ _ _ j (λ k x _ ne. base_grown _ _ _ _ _ _ k x (other_begin j k ne)) inv.scarce)
    (refusals_put _ _ _ _ j [] (λ _. none_counted (c.history ++ Begin j ∷ []) j) (λ k ne. counted_grown _ _ k (c.refused k) (other_begin j k ne)) inv.refusals)
    (swept_begun _ _ _ _ _ _ j (λ k ne. other_begin j k ne) inv.swept)
    (bounds_grown _ _ _ _ _ _ _ (Begin j ∷ []) refl inv.bounds)
    (helps_loaded _ _ _ _ _ _ inv.finds _ _ j inv.helps)
    (unlinked_more _ _ _ (Begin j ∷ []) (λ k s _ is. other_begin j k (λ same. none_stand s (sym (ap (put c.old j None) same ∙ put_here c.old j None) ∙ is))) (unlinked_less _ _ _ j inv.unlinked))
    (ends_callers c inv _ _ _ (walks_anew c inv j None) (helps_told c inv j))

-- what was settled before the Begin and is below the limit is taken
miss_legal : (c : Core) (j limit : ℕ) → j < c.start.layout.workers → MayMiss limit (caller_of c j) → Inv c → MayFollow c.history (Miss j limit)
miss_legal c j limit b may inv = let from = inv.told.began j b may.began in let front = from.0 in (
  front,
  from.2,
  λ f settled less. ⊎_elim (λ o. o) (λ kept. let left = settled_left c inv j may.sight front (Begin j ∷ from.2.back) f b may.sees from.2.parts from.1 settled kept in ⊎_elim
      (λ (high : limit ≤ may.sight.current.tick). let late = left.late in absurd (omega arith))
      (λ (h : (w : Walk) × (c.walk j ≡ Some w) × EndedWalk w.bucket may.sight.table (c.rows j) w limit). absurd (ended_left c inv j may.sight h.0 f b may.sees h.1 left limit h.2 less))
      may.nothing) (contains_or (outs c.history) f),
)

pub miss_keeps : (c : Core) (j limit : ℕ) → j < c.start.layout.workers → MayMiss limit (caller_of c j) → Inv c → Inv (missed c j limit)
miss_keeps c j limit b may inv = frame_entry c (missed c j limit) inv
    (finds_control _ _ _ _ _ _ j inv.sizes.now inv.finds)
    inv.dues
    inv.steady
    (carriers_same _ _ (Miss j limit) _ _ _ _ refl refl inv.carriers)
    (told_other _ _ _ _ _ j (Miss j limit) b (miss_legal c j limit b may inv) refl refl (miss_begin j limit) inv.told)
    (numbers_grown _ _ _ (Miss j limit ∷ []) inv.numbers)
    (settling_more _ _ _ (Miss j limit ∷ []) (λ _ n. absurd (nothing n)) (λ _ _ _ _ n. nothing n) inv.settling)
    (walkers_rest (present_of (missed c j limit)) (takes_of c) _ _ j (walkers_grown (present_of c) (takes_of c) _ _ (Miss j limit ∷ []) (silent c.history (Miss j limit ∷ []) refl refl) inv.walkers))
    (ahead_grown c.history (Miss j limit ∷ []) c.words.current refl inv.ahead)
    (scarce_grown _ _ _ _ _ _ _ (λ k. no_begin j limit k) inv.scarce)
    (refusals_grown _ _ _ _ (λ k. no_begin j limit k) inv.refusals)
    (swept_grown _ _ _ _ _ _ _ (λ k. no_begin j limit k) inv.swept)
    (bounds_grown _ _ _ _ _ _ _ (Miss j limit ∷ []) refl inv.bounds)
    (helps_loaded _ _ _ _ _ _ inv.finds _ _ j inv.helps)
    (unlinked_grown _ _ _ (Miss j limit ∷ []) (λ k. no_begin j limit k) inv.unlinked)
    (ends_callers c inv _ _ _ (walks_end c inv j) (helps_told c inv j))
