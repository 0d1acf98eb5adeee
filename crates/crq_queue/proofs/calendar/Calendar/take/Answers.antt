use Rattle.crq_queue.proofs.Waits.{take_settled}
use Rattle.crq_queue.proofs.calendar.Calendar.take.Goals as goal

pub returns-clause-added : goal.returns-clause-added
returns-clause-added g c = take_settled c.args.pass.now c.await_take-end.new.pass c.await_settling.new.pass c.await_settling.ensures.added c.await_settling.ensures.idle c.args.limit c.await_take-end.result c.await_take-end.ensures.settled c.await_take-end.ensures.added
