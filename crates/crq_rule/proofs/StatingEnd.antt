-- The part on the end of a move, as it is stated.
use Rattle.std.proofs.Common.{◌≡◌, ⊎_elim, ℕ, ◌+◌, ◌<◌, ◌≤◌, Some, sym, ap, ◌∙◌, subst, arith}
use Rattle.std.proofs.lemmas.Option.{same_Some}
use Rattle.crq_base.specs.declared.event.Event.{Event}
use Rattle.crq_base.specs.declared.words.Control.{Control}
use Rattle.crq_base.specs.declared.words.Current.{Current}
use Rattle.crq_base.specs.declared.words.Pin.{Pin}
use Rattle.crq_rule.specs.declared.view.Sight.{Sight}
use Rattle.crq_rule.specs.Core.{Core}
use Rattle.crq_rule.specs.Ranks.{IsHeadIn}
use Rattle.crq_rule.specs.Steps.{raise, mark, May}
use Rattle.crq_rule.specs.Stated.{EndingHolds}
use Rattle.crq_rule.specs.Invariant.{Inv}
use Rattle.crq_rule.proofs.MarkLaws.{mark_now}

module _ (c : Core) (inv : Inv c) where
  pub ending_holds : EndingHolds c
  ending_holds = record {
    opened = inv.ends.opened;
    low = inv.ends.low;
    high = inv.ends.high;
    frozen = λ named q b o. (inv.ends.pinned named).frozen q b (subst (λ s. IsHeadIn c.words.control.generation s q) (sym inv.sizes.now.size) o);
    behind = λ named. let s = inv.ends.pinned named in (s.low, λ k t w is. s.walks k w t is.inside is.walks is.sees);
    past = inv.ends.past;
    older = λ k s w is low. inv.ends.older k w s is.inside is.walks is.sees low;
    loaded = λ k h n b is now loads. let s = inv.ends.sealed k h n b is loads now in (s.low, λ i t w walking. s.walks i w t walking.inside walking.walks walking.sees);
    found = λ k h n b is now has. let known = inv.ends.pins k h n b is has in (sym (known.now now), known.next ∙ ap (λ a. a + 1) now);
    passed = λ k h n y b is now has found past. let known = inv.ends.pins k h n b is has in let same = ap (λ (z : Pin). z.epoch) (known.now now) in
        ⊎_elim (λ l. omega arith) (λ (s : (y.epoch ≡ c.words.current.epoch) × (y.tick ≤ c.words.current.tick)). let e = s.0 in omega arith) (inv.finds.currents k y b found);
  }

  -- a take that read an older table than the open one raises current no more
  pub stale_raise : (j : ℕ) (s : Sight) (x : Control) (y : Current) → j < c.start.layout.workers → c.sight j ≡ Some s → s.table.generation < c.words.control.generation → May (raise x y) c j → ⊥
  stale_raise j s x y b sees low may = let same = same_Some s (record { table = x; current = y }) (sym sees ∙ may.0.sight) in let w = may.0.walks.0 in
      let old = inv.ends.older j w s b may.0.walks.1 sees low in let e = ap (λ (z : Sight). z.current.epoch) same in let e' = ap (λ (z : Current). z.epoch) may.1 in omega arith

  -- and marks no row
  pub stale_mark : (j r : ℕ) (e : Event) (s : Sight) → j < c.start.layout.workers → c.sight j ≡ Some s → s.table.generation < c.words.control.generation → May (mark r e) c j → ⊥
  stale_mark j r e s b sees low may = let x = may.0.0 in let same = same_Some s (record { table = x; current = may.0.1.sight.0 }) (sym sees ∙ may.0.1.sight.1) in
      let now = mark_now c inv j r e b may.0 may.1 in let g = ap (λ (z : Sight). z.table.generation) same in omega arith
