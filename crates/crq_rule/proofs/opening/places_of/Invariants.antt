use Rattle.crq_rule.specs.Opening.{AreFresh}
use Rattle.crq_rule.proofs.opening.places_of.Given as goal

abbrev pub invariant-loop-number : goal.invariant-loop-number
invariant-loop-number l = AreFresh l.layout l.number l.places.items
