use Rattle.std.proofs.Common.{◌+◌, refl, subst}
use Rattle.crq_rule.specs.Places.{index, epoch}
use Rattle.crq_rule.specs.Kinds.{ticks, HasScanned}
use Rattle.crq_base.specs.declared.kinds.StepKind.TheVariants.{Tick}
use Rattle.crq_rows.specs.declared.tick.TickOp.TheVariants.{Load, Scanning}
use Rattle.crq_rows.specs.declared.tick.Tick.TheVariants.{Moved}
use Rattle.crq_rows.specs.Passes.{caller, step_made}
use Rattle.crq_rows.proofs.Ticks.{tick_exchanged, has_scanned, at_last, made_facts, found_facts}
use Rattle.crq_rows.proofs.tick.raise.Goals as goal

pub tick_step-requires-clause-scanned : goal.tick_step-requires-clause-scanned
tick_step-requires-clause-scanned c = let t = c.args.table.now in let p = caller t c.args.pass.now in
    subst (λ j. HasScanned t.start.layout.workers j p.tick) c.requires.of.sits.numbered (has_scanned t.start.layout p c.args.epoch c.args._next c.requires.last c.requires.op)

pub returns-in-Ok : goal.returns-in-Ok
returns-in-Ok c = let t = c.args.table.now in let l = t.start.layout in let p = caller t c.args.pass.now in let e = c.args.epoch in let n = c.args._next in
    tick_exchanged t c.args._moved (Scanning e n) Load c.args.pass.now _ (Moved (e + 1)) (step_made Tick (index l epoch) e (e + 1) e) (ticks e e) c.in-Ok.ensures.exchanged (at_last l c.args._moved p e n e c.requires.last) (made_facts l c.args._moved p e n e c.requires.last c.requires.op refl)

pub returns-in-Err : goal.returns-in-Err
returns-in-Err c = let t = c.args.table.now in let l = t.start.layout in let p = caller t c.args.pass.now in let e = c.args.epoch in let n = c.args._next in let r = c.in-Err.found in
    tick_exchanged t c.args._moved (Scanning e n) Load c.args.pass.now _ (Moved r) (step_made Tick (index l epoch) e (e + 1) r) (ticks e r) c.in-Err.ensures.exchanged (at_last l c.args._moved p e n r c.requires.last) (found_facts l c.args._moved p e n r c.requires.last c.requires.op c.in-Err.ensures.told c.in-Err.ensures.failed)
