use Rattle.std.proofs.Common.{refl}
use Rattle.crq_list.specs.declared.take.TakeState.TheVariants.{Load, Walking}
use Rattle.crq_list.specs.Stretches.{ends}
use Rattle.crq_list.proofs.Stretching.{take_part, take_on}
use Rattle.crq_list.proofs.take.TakeOp.from_load.Goals as goal

pub from_walking-requires-clause-of : goal.from_walking-requires-clause-of
from_walking-requires-clause-of c = let o = c.requires.op in let b = c.in-Walking-More in (take_part o.0 c.args.table.now o.1 c.args.self.now (Load) (Walking b.row b.first) c.args.pass.now c.load_in-told.new.pass c.load_in-told.result b.is-0 b.is-1 (ends _ _ _ _ _ (c.load_in-told.ensures o.0 o.1 o.2))).0

pub from_walking-requires-clause-op : goal.from_walking-requires-clause-op
from_walking-requires-clause-op c = let o = c.requires.op in let b = c.in-Walking-More in (o.0, o.1, (take_part o.0 c.args.table.now o.1 c.args.self.now (Load) (Walking b.row b.first) c.args.pass.now c.load_in-told.new.pass c.load_in-told.result b.is-0 b.is-1 (ends _ _ _ _ _ (c.load_in-told.ensures o.0 o.1 o.2))).1)

pub returns : goal.returns
returns c n x at = let b = c.in-Walking-More in let part = take_part n c.args.table.now x c.args.self.now (Load) (Walking b.row b.first) c.args.pass.now c.load_in-told.new.pass c.load_in-told.result b.is-0 b.is-1 (ends _ _ _ _ _ (c.load_in-told.ensures n x at)) in
    take_on n c.args.table.now x c.args.self.now (Load) (Walking b.row b.first) _ c.args.pass.now c.load_in-told.new.pass _ _ part.2 refl (c.from_walking.ensures n x part.1)

pub returns-in_default : goal.returns-in_default
returns-in_default c n x at = ends _ _ _ _ _ (c.load_in-told.ensures n x at)

pub returns-in_default-2 : goal.returns-in_default-2
returns-in_default-2 c n x at = ends _ _ _ _ _ (c.load_in-told.ensures n x at)
