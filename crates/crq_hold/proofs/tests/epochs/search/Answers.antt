use Rattle.crq_queue.proofs.RecoverRuns.{own_at}
use Rattle.crq_hold.proofs.tests.epochs.search.Goals as goal

pub loop-i-preserved : goal.loop-i-preserved
loop-i-preserved c = (c.step.ensures.is, own_at c.args.table.now c.loop-i.op _ c.loop-i.pass _ c.in-More.ensures)
