use Rattle.std.proofs.Common.{refl}
use Rattle.crq_list.specs.declared.take.TakeState.TheVariants.{Walking, Reading}
use Rattle.crq_list.proofs.Stretching.{take_part, take_on}
use Rattle.crq_list.proofs.take.TakeOp.from_walking.Goals as goal

pub read_event-requires-clause-of : goal.read_event-requires-clause-of
read_event-requires-clause-of c = let o = c.requires.op in let b = c.in-Reading-More in (take_part o.0 c.args.table.now o.1 c.args.self.now (Walking c.args.row c.args.first) (Reading b.row b.link b.place b.event b.first) c.args.pass.now c.walk_rows-told.new.pass c.walk_rows-told.result b.is-0 b.is-1 (c.walk_rows-told.ensures o.0 o.1 o.2)).0

pub read_event-requires-clause-op : goal.read_event-requires-clause-op
read_event-requires-clause-op c = let o = c.requires.op in let b = c.in-Reading-More in (o.0, o.1, (take_part o.0 c.args.table.now o.1 c.args.self.now (Walking c.args.row c.args.first) (Reading b.row b.link b.place b.event b.first) c.args.pass.now c.walk_rows-told.new.pass c.walk_rows-told.result b.is-0 b.is-1 (c.walk_rows-told.ensures o.0 o.1 o.2)).1)

pub returns : goal.returns
returns c n x at = let b = c.in-Reading-More in let part = take_part n c.args.table.now x c.args.self.now (Walking c.args.row c.args.first) (Reading b.row b.link b.place b.event b.first) c.args.pass.now c.walk_rows-told.new.pass c.walk_rows-told.result b.is-0 b.is-1 (c.walk_rows-told.ensures n x at) in
    take_on n c.args.table.now x c.args.self.now (Walking c.args.row c.args.first) (Reading b.row b.link b.place b.event b.first) _ c.args.pass.now c.walk_rows-told.new.pass _ _ part.2 refl (c.read_event.ensures n x part.1)
