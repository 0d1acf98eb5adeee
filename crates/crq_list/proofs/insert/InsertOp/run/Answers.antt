use Rattle.crq_list.specs.Stretches.{ends}
use Rattle.crq_list.proofs.Stretching.{insert_holds}
use Rattle.crq_list.proofs.insert.InsertOp.run.Goals as goal

pub then_seek-told-requires-clause-of : goal.then_seek-told-requires-clause-of
then_seek-told-requires-clause-of c = let o = c.requires.op in (insert_holds o.0 c.args.table.now o.1 c.args.self.now _ _ _ _ _ (c.next-told.ensures o.0 o.1 o.2)).0

pub then_seek-told-requires-clause-op : goal.then_seek-told-requires-clause-op
then_seek-told-requires-clause-op c more = let o = c.requires.op in (o.0, o.1, (insert_holds o.0 c.args.table.now o.1 c.args.self.now _ _ _ _ _ (c.next-told.ensures o.0 o.1 o.2)).1 more)

pub then_place-state-requires-clause-of : goal.then_place-state-requires-clause-of
then_place-state-requires-clause-of c = let o = c.requires.op in let run = c.then_seek-told.ensures o.0 o.1 c.args.self.now c.args.pass.now (c.next-told.ensures o.0 o.1 o.2) in
    (insert_holds o.0 c.args.table.now o.1 c.args.self.now _ _ _ _ _ run).0

pub then_place-state-requires-clause-op : goal.then_place-state-requires-clause-op
then_place-state-requires-clause-op c more = let o = c.requires.op in let run = c.then_seek-told.ensures o.0 o.1 c.args.self.now c.args.pass.now (c.next-told.ensures o.0 o.1 o.2) in
    (o.0, o.1, (insert_holds o.0 c.args.table.now o.1 c.args.self.now _ _ _ _ _ run).1 more)

pub returns : goal.returns
returns c n x i = c.then_place-state.ensures n x c.args.self.now c.args.pass.now (c.then_seek-told.ensures n x c.args.self.now c.args.pass.now (c.next-told.ensures n x i))

pub returns-then-exchanges : goal.returns-then-exchanges
returns-then-exchanges c n x i = ends _ _ _ _ _ (c.step.ensures n x i)
