-- The part on scarcity implies what is stated, and the count of a refusal.
use Rattle.std.proofs.Common.{◌≡◌, ⊎_elim, inl, inr, ℕ, ◌-◌, ◌/◌, ◌<◌, length, Some, cond, sym, ap, ◌∙◌, arith, eq-eqb}
use Rattle.crq_base.specs.Refusals.{AreCounted}
use Rattle.crq_rule.specs.declared.view.Base.{Base}
use Rattle.crq_rule.specs.Core.{Core, caller_of}
use Rattle.crq_rule.specs.Invariant.{Inv}
use Rattle.crq_rule.specs.Kinds.{looked, base_looked, refused_after, FoundNoRow}
use Rattle.crq_rule.specs.Stated.{ScarcityHolds}
use Rattle.crq_rule.proofs.Puts.{put_here}
use Rattle.crq_rule.proofs.PartLaws.{home_is_row}
use Rattle.crq_rule.proofs.Counting.{within_list}
use Rattle.crq_rule.proofs.ScarceLaws.{rows_counted}

pub scarcity_holds : (c : Core) → Inv c → ScarcityHolds c
scarcity_holds c inv = record {
  began = λ k b inside is. let old = inv.scarce.each k b inside is in (old.placed, old.events, old.early);
  late = λ k b rows inside is once all. let old = inv.scarce.each k b inside is in let few = old.late.few in
      let within = within_list rows old.late.rows once (λ r i. let h = all r i in old.late.all r h.0 h.1) in omega arith;
  looked = λ k r b inside is home low. let old = inv.scarce.each k b inside is in let lo = home.0 in
      (old.third (omega arith), ⊎_elim (λ held. inl (inv.holders.of_hand k r (home_is_row c.start.layout k r inside home) held).1) (λ late. inr (home, late)) (old.looked r home low));
  counted = λ k b inside is. (inv.scarce.each k b inside is).counted;
  refused = inv.refusals.each;
  swept = λ k q r front back inside clean head home i parts out. inv.swept.clean_is k q r inside clean head home i (front, back, parts, out);
}

-- more events than half of the rows less two
pub enough : (c : Core) (k : ℕ) (b : Base) → Inv c → k < c.start.layout.workers → FoundNoRow (caller_of c k) b → ((c.start.layout.rows - 2) / 2 < length b.events) × AreCounted c.history k b.events
enough c k b inv inside vain = let count = rows_counted c k b inside vain inv in let some = c.start.layout.some_rows in (omega arith, (inv.scarce.each k b inside vain.0).counted)

-- the look at the last home row refuses
pub refuses : (c : Core) (j r : ℕ) (b : Base) → FoundNoRow (caller_of (looked c j r) j) b → (looked c j r).refused j ≡ b.events
refuses c j r b vain = let is : base_looked c j r ≡ Some b = sym (put_here c.base j (base_looked c j r)) ∙ vain.0 in
    put_here c.refused j (refused_after c.start.layout.home (c.hand j) (base_looked c j r) (c.refused j))
    ∙ ((λ i. refused_after c.start.layout.home (vain.1 i) (is i) (c.refused j)) ∙ ap (λ t. cond t b.events (c.refused j)) (eq-eqb b.looked c.start.layout.home vain.2))
