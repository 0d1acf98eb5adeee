use Rattle.std.proofs.Common.{sym, ◌∙◌}
use Rattle.crq_list.specs.declared.insert.InsertState.TheVariants.{Seeking}
use Rattle.crq_list.proofs.Stretching.{insert_part, insert_on}
use Rattle.crq_list.proofs.insert.then_seek.Goals as goal

pub returns : goal.returns
returns c n x first old run = let b = c.in-Seeking-More in let part = insert_part n c.args.table.now x c.args.op.now first (Seeking b.seek) old c.args.pass.now c.args.told b.is-0 b.is-1 run in
    insert_on n c.args.table.now x c.args.op.now first (record c.args.op.now { state = Seeking b.seek }) _ old c.args.pass.now _ _ part.2 (sym c.exchanges.ensures ∙ c.if-exchanges.false) (c.run_to_place.ensures n x part.1)
