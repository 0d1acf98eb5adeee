use Rattle.std.proofs.Common.{sym, subst}
use Rattle.crq_rule.specs.Opening.{AreFresh}
use Rattle.crq_rule.proofs.Openings.{at_snoc}
use Rattle.crq_rule.proofs.opening.places_of.Goals as goal

pub loop-number-preserved : goal.loop-number-preserved
loop-number-preserved c = subst (AreFresh c.args.layout.now _) (sym c.in_ok-push.ensures.items) (at_snoc _ _ _ _ c.loop-number.invariant c.in_ok-fresh_rest.ensures)
