use Rattle.std.proofs.Common.{refl}
use Rattle.crq_list.specs.declared.seek.SeekState.TheVariants.{Passing}
use Rattle.crq_list.proofs.Stretching.{seek_part, seek_on}
use Rattle.crq_list.proofs.stretch.then_pass.Goals as goal

pub returns : goal.returns
returns c n x first old run = let b = c.in-Passing-More in let part = seek_part n c.args.table.now x c.args.sought.now first (Passing b.before) old c.args.pass.now c.args.told b.is-0 b.is-1 run in
    seek_on n c.args.table.now x c.args.sought.now first (Passing b.before) _ old c.args.pass.now _ _ part.2 refl (c.pass_rows.ensures n x part.1)
