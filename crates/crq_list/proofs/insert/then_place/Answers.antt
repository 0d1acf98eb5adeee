use Rattle.std.proofs.Common.{refl}
use Rattle.crq_list.specs.declared.insert.InsertState.TheVariants.{Placing}
use Rattle.crq_list.specs.Stretches.{ends}
use Rattle.crq_list.proofs.Stretching.{insert_part, insert_on}
use Rattle.crq_list.proofs.insert.then_place.Goals as goal

pub returns : goal.returns
returns c n x first old run = let b = c.in-Placing-More in let part = insert_part n c.args.table.now x c.args.op.now first (Placing b.before) old c.args.pass.now c.args.told b.is-0 b.is-1 run in
    insert_on n c.args.table.now x c.args.op.now first (record c.args.op.now { state = Placing b.before }) _ old c.args.pass.now _ _ part.2 refl (ends _ _ _ _ _ (c.place_row.ensures n x part.1))
