use Rattle.crq_host.proofs.MergeLaws.{giving_all_next}
use Rattle.crq_host.proofs.merging.share_out.Goals as goal

pub loop-from-preserved : goal.loop-from-preserved
loop-from-preserved g c =
    giving_all_next c.args.span c.loop-from.from c.args.workers.now c.loop-from.workers c.give_sends.new.workers c.loop-from-test.true c.loop-from.invariant c.in_ok-give_sends.ensures.kept c.in_ok-give_sends.ensures.due
