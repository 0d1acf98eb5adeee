-- Steps on current keep the invariant.
use Rattle.std.proofs.Common.{cond, ◌≡◌, inr, Bool, true, false, ℕ, ◌<◌, length, Option, Some, None, sym, refl, ap, ◌∙◌, subst, le_refl}
use Rattle.std.proofs.lemmas.Option.{same_Some, none-some}
use Rattle.crq_base.specs.declared.words.Control.{Control}
use Rattle.crq_base.specs.declared.words.Current.{Current}
use Rattle.crq_base.specs.Histories.{put_of, settled_of}
use Rattle.crq_rule.specs.declared.view.Found.{Found}
use Rattle.crq_rule.specs.declared.view.Sight.{Sight}
use Rattle.crq_rule.specs.declared.view.Walk.{Walk}
use Rattle.crq_rule.specs.Lists.{put}
use Rattle.crq_rule.specs.Core.{Core}
use Rattle.crq_rule.specs.Parts.{Finds, Fits, NotAfter}
use Rattle.crq_rule.specs.HistoryParts.{EndsInBegin, Sees}
use Rattle.crq_rule.specs.CurrentKinds.{table_seen, sight_on, current_loaded, MayView}
use Rattle.crq_rule.specs.Invariant.{present_of, takes_of, Inv}
use Rattle.crq_rule.proofs.HelpLaws.{helps_current}
use Rattle.crq_rule.proofs.Puts.{put_here, put_else, put_all}
use Rattle.crq_rule.proofs.Prefixes.{of_take, drop_none}
use Rattle.crq_rule.proofs.BoundLaws.{numbers_loaded, bounds_loaded}
use Rattle.crq_rule.proofs.EndLaws.{ends_callers, walks_anew, same_helps}
use Rattle.crq_rule.proofs.Frames.{frame_found}
use Rattle.crq_rule.proofs.WalkerLaws.{walkers_at}
use Rattle.crq_rule.proofs.WalkLaws.{read_now, put_before}

none_walk : (w : Walk) → None ≡ Some w → ⊥
none_walk w e = cc

now_same : (x : Current) → NotAfter x x
now_same x = inr (refl, le_refl _)

module _ (c : Core) (j : ℕ) (b : j < c.start.layout.workers) (inv : Inv c) where
  abbrev IsSeen : Sight → Type 0
  IsSeen s = (Fits c.start c.words.control c.shape s.table × (s.table.moving ≡ false)) × NotAfter s.current c.words.current × Sees (present_of c) (c.begun j) (length c.history) s

  -- what a take sees as it loads current: all that was settled and isn't out isn't before it, and all puts are before the load
  sees_now : (x : Control) → (found : (c.found j).control ≡ Some x) → x.moving ≡ false → EndsInBegin (c.own j) → IsSeen (record { table = x; current = c.words.current })
  sees_now x found still ends = (
    (inv.finds.controls j x b found, still),
    now_same c.words.current,
    record {
      after = read_now c j b ends inv;
      above = λ e settled kept. inv.ahead.each e (of_take settled_of (c.begun j) c.history e settled) kept;
      ahead = λ _ _ e put _. absurd (drop_none put_of c.history e put);
      owed = λ i d k owes _. put_before c inv i d k owes;
    },
  )

  sees_current : (walks : Bool) → MayView (c.own j) (c.found j).control walks → (s : Sight) → sight_on walks (c.found j).control c.words.current ≡ Some s → IsSeen s
  sees_current false may s is = absurd (none-some s is)
  sees_current true may s is = let x = may.1.0 in let same = same_Some (record { table = x; current = c.words.current }) s (sym (ap (λ o. table_seen o c.words.current) may.1.1) ∙ is) in
      subst IsSeen same (sees_now x may.1.1 may.1.2 may.0)

  finds_loaded : (walks : Bool) → MayView (c.own j) (c.found j).control walks
      → Finds c.start c.words.control c.shape c.words.current (put c.found j (record (c.found j) { current = Some c.words.current })) (put c.sight j (sight_on walks (c.found j).control c.words.current))
  finds_loaded walks may = record {
    controls = λ k x. put_all c.found j (record (c.found j) { current = Some c.words.current }) (λ k (f : Found). k < c.start.layout.workers → f.control ≡ Some x → Fits c.start c.words.control c.shape x) (inv.finds.controls j x) (λ k _. inv.finds.controls k x) k;
    currents = λ k x. put_all c.found j (record (c.found j) { current = Some c.words.current }) (λ k (f : Found). k < c.start.layout.workers → f.current ≡ Some x → NotAfter x c.words.current)
        (λ _ e. subst (λ z. NotAfter z c.words.current) (same_Some c.words.current x e) (now_same c.words.current)) (λ k _. inv.finds.currents k x) k;
    sights = λ k s. put_all c.sight j (sight_on walks (c.found j).control c.words.current) (λ k o. k < c.start.layout.workers → o ≡ Some s → Fits c.start c.words.control c.shape s.table × (s.table.moving ≡ false))
        (λ _ is. (sees_current walks may s is).0) (λ k _. inv.finds.sights k s) k;
    views = λ k s. put_all c.sight j (sight_on walks (c.found j).control c.words.current) (λ k o. k < c.start.layout.workers → o ≡ Some s → NotAfter s.current c.words.current)
        (λ _ is. (sees_current walks may s is).1) (λ k _. inv.finds.views k s) k;
  }

  -- a take reads the table with that
  sees_since : (walks : Bool) → MayView (c.own j) (c.found j).control walks → (s : Sight) → sight_on walks (c.found j).control c.words.current ≡ Some s
      → Sees (present_of c) (c.begun j) (cond walks (length c.history) (c.read j)) s
  sees_since false may s is = absurd (none-some s is)
  sees_since true may s is = (sees_current true may s is).2

  pub current_keeps : (walks : Bool) → MayView (c.own j) (c.found j).control walks → Inv (current_loaded c j walks)
  current_keeps walks may = let sight : Option Sight = sight_on walks (c.found j).control c.words.current in let read : ℕ = cond walks (length c.history) (c.read j) in
      frame_found c (current_loaded c j walks) inv (finds_loaded walks may) (numbers_loaded _ _ _ _ _ _ _ j c.told inv.bounds inv.numbers) (walkers_at _ _ _ _ j (takes_of (current_loaded c j walks))
      (λ k ne i. (c.begun k, put_else c.read j read k ne i, put_else c.sight j sight k ne i, put_else c.walk j None k ne i, c.rows k))
      (λ s _ is. subst (λ r. Sees (present_of c) (c.begun j) r s) (sym (put_here c.read j read)) (sees_since walks may s (sym (put_here c.sight j sight) ∙ is)))
      (λ w _ is. absurd (none_walk w (sym (put_here c.walk j None) ∙ is))) inv.walkers)
      (bounds_loaded _ _ _ _ _ _ _ j inv.bounds)
      (helps_current _ _ _ _ _ _ inv.finds _ _ j (Some c.words.current) inv.helps)
      (ends_callers c inv _ _ c.help (walks_anew c inv j sight) (same_helps c inv))
