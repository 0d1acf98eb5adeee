use Rattle.crq_queue.proofs.Waits.{put_settled}
use Rattle.crq_queue.proofs.calendar.Calendar.put.Goals as goal

pub returns-clause-added : goal.returns-clause-added
returns-clause-added g c = put_settled c.args.pass.now c.await_put-end.new.pass c.await_settling.new.pass c.await_settling.ensures.added c.await_settling.ensures.idle c.args.event.now c.await_put-end.result c.await_put-end.ensures.left
