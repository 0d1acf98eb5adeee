use Rattle.std.proofs.Common.{refl}
use Rattle.crq_list.specs.declared.seek.SeekState.TheVariants.{Retiring}
use Rattle.crq_list.specs.Stretches.{ends}
use Rattle.crq_list.proofs.Stretching.{seek_part, seek_on}
use Rattle.crq_list.proofs.stretch.then_retire.Goals as goal

pub returns : goal.returns
returns c n x first old run = let b = c.in-Retiring-More in let part = seek_part n c.args.table.now x c.args.sought.now first (Retiring b.spot b.row b.epoch) old c.args.pass.now c.args.told b.is-0 b.is-1 run in
    seek_on n c.args.table.now x c.args.sought.now first (Retiring b.spot b.row b.epoch) _ old c.args.pass.now _ _ part.2 refl (ends _ _ _ _ _ (c.retire.ensures n x part.1))
