use Rattle.crq_rule.proofs.StatingEnd.{stale_raise, stale_mark}
use Rattle.crq_rule.proofs.laws.stale_law.Goals as goal

pub returns : goal.returns
returns c = record {
  raises = λ c j s x y inv. stale_raise c inv j s x y;
  marks = λ c j r e s inv. stale_mark c inv j r e s;
}
