use Rattle.std.proofs.Common.{ℕ, ◌+◌, ◌*◌, ◌++◌, ◌∷◌, [], ap, ◌∙◌, arith}
use Rattle.crq_rule.proofs.Openings.{rows_next}
use Rattle.crq_rule.proofs.opening.fresh_rest.Goals as goal

pub loop-row-preserved : goal.loop-row-preserved
loop-row-preserved c = let a : ℕ = c.args.number * c.args.layout.now.home in let k : ℕ = c.loop-row.row in
    (c.in_ok-push_back.ensures.items ∙ (ap (λ xs. xs ++ (a + k + 1) ∷ []) c.loop-row.invariant.0 ∙ rows_next a k), let low = c.loop-row.invariant.1 in let more = c.in_ok-push_back.ensures.capacity in omega arith)
