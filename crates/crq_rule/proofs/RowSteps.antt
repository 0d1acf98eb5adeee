-- What a step function asks of each kind on retired rows.
use Rattle.std.proofs.Common.{◌≡◌, ℕ, ◌+◌, ◌*◌, ◌<◌, List, [], ◌∷◌, ◌++◌, length, set, None, sym, refl, ap, ◌∙◌, subst, arith}
use Rattle.std.proofs.lemmas.List.{length-append}
use Rattle.crq_base.specs.declared.kinds.StepKind.TheVariants.{Retire, Look, Claim}
use Rattle.crq_base.specs.Lists.{In}
use Rattle.crq_rule.specs.declared.layout.Start.{Start}
use Rattle.crq_rule.specs.declared.view.Caller.{Caller}
use Rattle.crq_rule.specs.Lists.{put, without}
use Rattle.crq_rule.specs.Places.{index, stamp, IsRow, IsHomeRow, Shows}
use Rattle.crq_rule.specs.Core.{Core, caller_of}
use Rattle.crq_rule.specs.Invariant.{Inv}
use Rattle.crq_rule.specs.Kinds.{retires, looks, claims, claimed, seen_stamp, base_looked, refused_after, MayRetire, IsRipe}
use Rattle.crq_rule.specs.Moves.{Moves, quiet, TellsRoom, TellsLow, word_after}
use Rattle.crq_rule.proofs.Puts.{put_here}
use Rattle.crq_rule.proofs.Placing.{stamp_set}
use Rattle.crq_rule.specs.Steps.{After, May, retire, look, claim}
use Rattle.crq_rule.proofs.Keeps.{keeps}
use Rattle.crq_rule.proofs.Counting.{fits}
use Rattle.crq_rule.proofs.GuardSteps.{same_words}

module _ (key : Start) (p : Caller) where
  abbrev j : ℕ
  j = p.number

  pub retire_moves : (r t : ℕ) → IsRow key.layout r → MayRetire p.cut r t → Moves Retire key p (index key.layout (stamp r)) (λ _. word_after t) (λ _. retires) (λ _. TellsLow t 0)
  retire_moves r t row may c ws inv words b is = let may' : MayRetire (c.cut j) r t = subst (λ (q : Caller). MayRetire q.cut r t) is may in
      let low = inv.reading.tags j t may'.0 b may'.1 may'.3 in let top = inv.reading.limit in let word : t + 1 ≡ word_after t = omega arith in (
        retire r t,
        refl,
        may',
        record { start = words.start; shows = subst (λ a. Shows key.layout (After (retire r t) c j).words (set ws (index key.layout (stamp r)) a)) word (stamp_set key.layout c.words ws r (t + 1) row words.shows) },
        ap retires is ∙ (λ i. record (caller_of c j) { cut = sym (put_here c.cut j None) i }),
        omega arith,
      )

  pub look_moves : (r : ℕ) → IsRow key.layout r → IsHomeRow key.layout j r → Moves Look key p (index key.layout (stamp r)) (λ n. n) (looks r) quiet
  look_moves r row home c ws inv words b is = let at = words.shows.each (stamp r) row in let more : List (ℕ × ℕ) = seen_stamp r (c.words.stamp r) (c.ripening j) in (
    look r,
    refl,
    subst (λ (z : Start). IsHomeRow z.layout j r) (sym words.start) home,
    same_words key c (After (look r) c j) ws (index key.layout (stamp r)) refl refl words,
    (λ i. looks r (at i) (is i)) ∙ (λ i. record (caller_of c j) {
      ripening = sym (put_here c.ripening j more) i;
      base = sym (put_here c.base j (base_looked c j r)) i;
      refused = sym (put_here c.refused j (refused_after c.start.layout.home (c.hand j) (base_looked c j r) (c.refused j))) i;
    }),
    tt,
  )

  pub claim_moves : (r e : ℕ) → IsRow key.layout r → In e p.epochs → IsRipe p.ripening r e → Moves Claim key p (index key.layout (stamp r)) (λ _. 0) (λ _. claims r) TellsRoom
  claim_moves r e row read ripe c ws inv words b is = let more : List ℕ = c.hand j ++ r ∷ [] in let less : List (ℕ × ℕ) = without r (c.ripening j) in
      let may : May (claim r e) c j = (subst (λ (q : Caller). In e q.epochs) is read, subst (λ (q : Caller). IsRipe q.ripening r e) is ripe) in (
        claim r e,
        refl,
        may,
        record { start = words.start; shows = stamp_set key.layout c.words ws r 0 row words.shows },
        ap (claims r) is ∙ (λ i. record (caller_of c j) { hand = sym (put_here c.hand j more) i; ripening = sym (put_here c.ripening j less) i }),
        subst (λ (q : Caller). TellsRoom r q) (sym is) (room c (keeps (claim r e) c j b may inv) b),
      )
    where
      room : (c : Core) → Inv (claimed c j r) → j < c.start.layout.workers → length (c.hand j) < c.start.layout.home
      room c kept b = let l = c.start.layout in let more : List ℕ = c.hand j ++ r ∷ [] in
          let count = fits (j * l.home) l.home (put c.hand j more j) (kept.holders.once j b) (λ x i. (kept.holders.held j x b i).0) in
          let size : length (put c.hand j more j) ≡ length (c.hand j) + 1 = ap length (put_here c.hand j more) ∙ length-append (c.hand j) (r ∷ []) in omega arith
