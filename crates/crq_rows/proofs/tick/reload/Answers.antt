use Rattle.std.proofs.Common.{refl}
use Rattle.crq_rule.specs.Places.{index, epoch}
use Rattle.crq_rule.specs.Kinds.{loads_epoch}
use Rattle.crq_base.specs.declared.kinds.StepKind.TheVariants.{EpochLoad}
use Rattle.crq_rows.specs.declared.tick.TickOp.TheVariants.{Load, Passed}
use Rattle.crq_rows.specs.declared.tick.Tick.TheVariants.{Moved}
use Rattle.crq_rows.specs.Passes.{caller, load_made}
use Rattle.crq_rows.proofs.Ticks.{tick_stepped, moved_past}
use Rattle.crq_rows.proofs.tick.reload.Goals as goal

pub returns : goal.returns
returns c = let t = c.args.table.now in let l = t.start.layout in let p = caller t c.args.pass.now in let e = c.args._epoch in let r = c.epoch_step-found.result in let s = c.epoch_step-found.ensures in
    tick_stepped t c.args._moved (Passed e) Load c.args.pass.now _ (Moved r) (load_made EpochLoad (index l epoch) r) (loads_epoch r) s.stepped refl (moved_past l c.args._moved p p.base r e refl c.requires.op s.told)
