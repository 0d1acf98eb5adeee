use Rattle.std.proofs.Common.{◌≡◌, ◌≢◌, ◌⊎◌, ◌<◌, ◌+◌, sym, ap, ◌∙◌, refl, subst}
use Rattle.crq_base.specs.declared.holder.Holder.TheVariants.{Last}
use Rattle.crq_base.specs.declared.kinds.StepKind.TheVariants.{EpochLoad}
use Rattle.crq_rule.specs.declared.pass.Pass.{Pass}
use Rattle.crq_rule.specs.Places.{index, epoch}
use Rattle.crq_rule.specs.Kinds.{loads_based}
use Rattle.crq_rows.specs.declared.tick.TickOp.TheVariants.{Load, Scanning}
use Rattle.crq_rows.specs.declared.tick.Tick.TheVariants.{More, Held}
use Rattle.crq_rows.specs.Passes.{caller, load_made}
use Rattle.crq_rows.proofs.Ticks.{tick_stepped, last_loaded, first_loaded, first_scan, load_based}
use Rattle.crq_rows.proofs.tick.load.Goals as goal

pub returns-then-epoch-eq-LAST : goal.returns-then-epoch-eq-LAST
returns-then-epoch-eq-LAST c = let t = c.args.table.now in let l = t.start.layout in let r = c.load_epoch-epoch.result in
    let s = c.load_epoch-epoch.ensures in
    tick_stepped t c.args.moved Load Load c.args.pass.now _ (Held Last) (load_made EpochLoad (index l epoch) r) (loads_based s.base r) s.stepped refl (last_loaded l c.args.moved (caller t c.args.pass.now) s.base r c.if-epoch-eq-LAST.true)

pub returns : goal.returns
returns c = let t = c.args.table.now in let l = t.start.layout in let p = caller t c.args.pass.now in let r = c.load_epoch-epoch.result in let s = c.load_epoch-epoch.ensures in let next = c.other.result in
    let num = c.requires.of.sits.numbered in let num' = num ∙ sym (ap (λ (p : Pass). p.number) s.stepped.same) in
    let m = c.args.moved in
    tick_stepped t m Load (Scanning r next) c.args.pass.now _ More (load_made EpochLoad (index l epoch) r) (loads_based s.base r) s.stepped refl (first_loaded l m p s.base r next
    (first_scan l m p s.base r next c.requires.off s.told.limit c.if-epoch-eq-LAST.false (subst (λ z. z < l.workers) (sym num) c.requires.of.sits.inside) (subst (λ z. next ≢ z) (sym num') c.other.ensures.other)
    (subst (λ z. (next ≡ 0) ⊎ ((0 ≡ z) × (next ≡ 0 + 1))) (sym num') c.other.ensures.skips))
    (load_based l m p s.base r s.begins s.goes_on s.told))
