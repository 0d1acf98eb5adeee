use Rattle.std.proofs.Common.{refl}
use Rattle.crq_host.proofs.RunLaws.{can_at, sharing_first, sharing_next, sharing_last}
use Rattle.crq_host.proofs.running.run_share.Goals as goal

pub loop-at-init : goal.loop-at-init
loop-at-init g c = sharing_first _ _ _ _

pub run_group-requires-clause-can : goal.run_group-requires-clause-can
run_group-requires-clause-can g c κs within = can_at _ c.loop-at.at (record { object = 0; from = 0; upto = 0 }) c.requires.can c.loop-at-test.true

pub loop-at-preserved : goal.loop-at-preserved
loop-at-preserved g c =
    sharing_next _ _ _ c.loop-at.at _ (record { object = 0; from = 0; upto = 0 }) _ _ _ c.requires.count c.loop-at-test.true refl c.loop-at.invariant c.in_ok-run_group.ensures.others (c.in_ok-run_group.ensures.ran c.args.groups.now)

pub returns-clause-ran : goal.returns-clause-ran
returns-clause-ran g c = sharing_last _ _ _ c.loop-at.at _ _ c.loop-at-test.false c.loop-at.invariant
