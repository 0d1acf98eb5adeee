use Rattle.crq_queue.proofs.Settlings.{event_finished}
use Rattle.crq_queue.proofs.calendar.Calendar.finish_event.Goals as goal

pub returns : goal.returns
returns c = λ n may. event_finished c.requires.rests c.in-Some.is c.settle_event.result (c.settle_event.ensures n may)
