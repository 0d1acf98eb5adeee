use Rattle.crq_queue.proofs.Sets.{may_put, put_puts, put_gives_up}
use Rattle.crq_queue.proofs.event_set.CalendarEventSet.put.Goals as goal

pub put-requires-clause-fresh : goal.put-requires-clause-fresh
put-requires-clause-fresh g c = may_put c.args.self.now.table c.args.pass.now c.args.event.now c.requires.of.rests.is c.requires.may

pub returns-clause-puts : goal.returns-clause-puts
returns-clause-puts g c = put_puts c.args.self.now.table c.args.pass.now c.put.new.pass c.requires.of c.args.event.now c.put.result c.put.ensures.added

pub returns-clause-gave_up : goal.returns-clause-gave_up
returns-clause-gave_up g c = put_gives_up c.args.self.now.table c.args.pass.now c.put.new.pass c.requires.of c.args.event.now c.put.result c.put.ensures.added
