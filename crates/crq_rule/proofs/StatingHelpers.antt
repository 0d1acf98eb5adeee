-- The invariant that is kept implies what is stated of helpers of a move.
use Rattle.std.proofs.Common.{◌≡◌, ◌+◌, sym, subst, arith}
use Rattle.crq_base.specs.declared.words.Control.{Control}
use Rattle.crq_base.specs.declared.words.Mark.TheVariants.{Mov}
use Rattle.crq_rule.specs.Core.{Core}
use Rattle.crq_rule.specs.Ranks.{first_head_of}
use Rattle.crq_rule.specs.ListParts.{IsPrepared}
use Rattle.crq_rule.specs.Invariant.{Inv}
use Rattle.crq_rule.specs.Stated.{HelpersHold}
use Rattle.crq_rule.proofs.HelpLaws.{head_woven}

module _ (c : Core) (inv : Inv c) where
  abbrev now : Control
  now = c.words.control

  pub helpers_hold : HelpersHold c
  helpers_hold = record {
    finds = λ k h b is. let f = inv.helps.finds k h b is in (f.0, f.1, f.2.moving, sym f.2.same);
    prepared = λ k q h b is same all at. let w = head_woven k now.new_log (first_head_of (now.generation + 1)) q at.1.0 at.1.1 in let below = w.1 in
        let p : IsPrepared (now.generation + 1) (c.words.head q) = subst (λ z. IsPrepared (now.generation + 1) (c.words.head z)) w.2 ((inv.helps.passed k h b is same).prepared w.0 (omega arith)) in (p.1, p.0);
    frozen = λ k q h b is same all at. let w = head_woven k now.log (first_head_of now.generation) q at.0 at.1 in let below = w.1 in
        subst (λ z. (c.words.head z).mark ≡ Mov) w.2 ((inv.helps.passed k h b is same).frozen w.0 (omega arith));
    emptied = λ k q h b is same all at. let w = head_woven k now.log (first_head_of now.generation) q at.0 at.1 in let below = w.1 in
        subst (λ z. ((c.words.head z).mark ≡ Mov) × ((c.words.head z).row ≡ 0)) w.2 ((inv.helps.passed k h b is same).emptied w.0 (omega arith));
  }
