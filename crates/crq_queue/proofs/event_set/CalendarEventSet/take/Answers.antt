use Rattle.crq_queue.proofs.Sets.{take_takes, take_gives_up}
use Rattle.crq_queue.proofs.event_set.CalendarEventSet.take.Goals as goal

pub returns-clause-takes : goal.returns-clause-takes
returns-clause-takes g c = take_takes c.args.self.now.table c.args.pass.now c.take.new.pass c.requires.of c.args.limit c.take.result c.take.ensures.added

pub returns-clause-gave_up : goal.returns-clause-gave_up
returns-clause-gave_up g c = take_gives_up c.args.self.now.table c.args.pass.now c.take.new.pass c.requires.of c.args.limit c.take.result c.take.ensures.added
