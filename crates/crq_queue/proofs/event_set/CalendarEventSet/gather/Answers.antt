use Rattle.crq_queue.proofs.Sets.{all_rest, gathers}
use Rattle.crq_queue.proofs.event_set.CalendarEventSet.gather.Goals as goal

pub gather-requires : goal.gather-requires
gather-requires c = all_rest c.args.self.now.table c.args.passes.places.items c.requires.of c.requires.there

pub returns-clause-gathers : goal.returns-clause-gathers
returns-clause-gathers c =
    let table = c.args.self.now.table in let places = c.args.passes.places.items in
    gathers table places c.gather.result (all_rest table places c.requires.of c.requires.there) c.gather.ensures.history
