use Rattle.crq_rule.specs.declared.pass.Seating.TheVariants.{Here}
use Rattle.crq_queue.proofs.Sets.{is_free, views_set, lower_placed}
use Rattle.crq_queue.proofs.event_set.CalendarEventSet.lower.Goals as goal

pub lower-requires : goal.lower-requires
lower-requires c = is_free c.args.self.now.table c.args.passes.now.places.items c.requires.of c.args.pass.number c.requires.empty

pub returns-clause-of : goal.returns-clause-of
returns-clause-of c = lower_placed c.args.self.now.table c.args.passes.now.places.items c.lower.new.self.places.items c.requires.of c.args.pass c.requires.pass c.lower.ensures

pub returns-clause-lowered : goal.returns-clause-lowered
returns-clause-lowered c = views_set c.args.passes.now.places.items c.lower.new.self.places.items c.args.pass.number (Here c.args.pass) c.lower.ensures
