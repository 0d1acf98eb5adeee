use Rattle.crq_queue.proofs.Sets.{deals, rest_placed}
use Rattle.crq_queue.proofs.event_set.CalendarEventSet.deal.Goals as goal

pub returns-clause-of : goal.returns-clause-of
returns-clause-of c = rest_placed c.args.self.now.table c.deal.result.places.items c.deal.ensures.resting

pub returns-clause-deals : goal.returns-clause-deals
returns-clause-deals c = deals c.args.self.now.table c.args.whole c.args.span c.deal.result.places.items c.deal.ensures.resting c.deal.ensures.dealt
