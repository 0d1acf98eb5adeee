use Rattle.crq_rule.specs.declared.pass.Seating.TheVariants.{Here, Lifted}
use Rattle.crq_queue.proofs.Sets.{pass_there, view_at, views_set, lift_placed}
use Rattle.crq_queue.proofs.event_set.CalendarEventSet.lift.Goals as goal

pub lift-requires : goal.lift-requires
lift-requires c = let at = pass_there c.args.passes.now.places.items c.args.number c.requires.there.0 c.requires.there.1 in (at.0, at.1)

pub returns-clause-of : goal.returns-clause-of
returns-clause-of c = (c.requires.of.each c.args.number (Here c.lift.result) c.lift.ensures.was).1

pub returns-clause-rest : goal.returns-clause-rest
returns-clause-rest c = lift_placed c.args.self.now.table c.args.passes.now.places.items c.lift.new.self.places.items c.requires.of c.args.number c.lift.ensures.now

pub returns-clause-was : goal.returns-clause-was
returns-clause-was c = view_at c.args.passes.now.places.items c.args.number (Here c.lift.result) c.lift.ensures.was

pub returns-clause-lifted : goal.returns-clause-lifted
returns-clause-lifted c = views_set c.args.passes.now.places.items c.lift.new.self.places.items c.args.number Lifted c.lift.ensures.now
