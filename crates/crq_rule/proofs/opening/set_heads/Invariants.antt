use Rattle.crq_rule.specs.Opening.{headed}
use Rattle.crq_rule.specs.Places.{Shows}
use Rattle.crq_rule.proofs.opening.set_heads.Given as goal

abbrev pub invariant-loop-head : goal.invariant-loop-head
invariant-loop-head l = Shows l.start.layout (headed l.start l.head) l.words.items
