use Rattle.std.proofs.Common.{refl}
use Rattle.crq_list.specs.declared.seek.SeekState.TheVariants.{Load}
use Rattle.crq_list.specs.Stretches.{ends}
use Rattle.crq_list.proofs.Stretching.{seek_part, seek_on}
use Rattle.crq_list.proofs.stretch.then_load.Goals as goal

pub returns : goal.returns
returns c n x first old run = let b = c.in-Load-More in let part = seek_part n c.args.table.now x c.args.sought.now first (Load b.spot) old c.args.pass.now c.args.told b.is-0 b.is-1 run in
    seek_on n c.args.table.now x c.args.sought.now first (Load b.spot) _ old c.args.pass.now _ _ part.2 refl (ends _ _ _ _ _ (c.load.ensures n x part.1))
