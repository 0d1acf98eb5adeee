use Rattle.crq_hold.proofs.Lifting.{lifted_next, lifted_more}
use Rattle.crq_hold.proofs.team.lift_all.Goals as goal

pub lift-pass-requires : goal.lift-pass-requires
lift-pass-requires c = lifted_next _ _ _ _ _ c.loop-number.invariant _ c.requires c.loop-number-test.true

pub loop-number-preserved : goal.loop-number-preserved
loop-number-preserved c = lifted_more _ _ _ _ _ c.loop-number.invariant _ _ c.lift-pass.result c.lift-pass.ensures.was c.lift-pass.ensures.now c.in_ok-push.ensures.items
