use Rattle.std.proofs.Common.{refl}
use Rattle.crq_list.specs.declared.seek.SeekState.TheVariants.{Reading}
use Rattle.crq_list.proofs.Stretching.{seek_part, seek_on}
use Rattle.crq_list.proofs.stretch.then_compare.Goals as goal

pub returns : goal.returns
returns c n x first old run = let b = c.in-Reading-More in let part = seek_part n c.args.table.now x c.args.sought.now first (Reading b.before b.place) old c.args.pass.now c.args.told b.is-0 b.is-1 run in
    seek_on n c.args.table.now x c.args.sought.now first (Reading b.before b.place) _ old c.args.pass.now _ _ part.2 refl (c.compare.ensures n x part.1)
