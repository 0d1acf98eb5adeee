use Rattle.std.proofs.Common.{◌≡◌, ◌≢◌, ◌⊎◌, ◌<◌, ℕ, ◌+◌, inl, inr, sym, ap, ◌∙◌, subst, arith}
use Rattle.crq_rule.specs.declared.pass.Pass.{Pass}
use Rattle.crq_rule.specs.Places.{index, announced}
use Rattle.crq_rule.specs.Kinds.{scans}
use Rattle.crq_rule.specs.Parts.{LetsRise}
use Rattle.crq_base.specs.declared.holder.Holder.TheVariants.{Seat}
use Rattle.crq_base.specs.declared.kinds.StepKind.TheVariants.{Scan}
use Rattle.crq_rows.specs.declared.tick.TickOp.TheVariants.{Load, Scanning, Passed}
use Rattle.crq_rows.specs.declared.tick.Tick.TheVariants.{More, Held}
use Rattle.crq_rows.specs.Passes.{caller, load_made, announcement_word}
use Rattle.crq_rows.proofs.Ticks.{tick_stepped, no_last, held_facts, passed_facts, next_scan, out_word}
use Rattle.crq_rows.proofs.tick.scan.Goals.{in-Some+else-announced-epoch+else-announced-epoch-2, in_default}
use Rattle.crq_rows.proofs.tick.scan.Goals as goal

pub returns-then-announced-epoch : goal.returns-then-announced-epoch
returns-then-announced-epoch c = let t = c.args.table.now in let l = t.start.layout in let p = caller t c.args.pass.now in let e = c.args.epoch in let n = c.args.next in
    let w : ℕ = announcement_word c.scan_step-found.result in let a = c.in-Some.announced in
    tick_stepped t c.args._moved (Scanning e n) Load c.args.pass.now _ (Held (Seat n a)) (load_made Scan (index l (announced n)) w) (scans n w) c.scan_step-found.ensures (no_last l c.args._moved p e n w c.requires.inside)
    (held_facts l c.args._moved p e n w a c.requires.inside c.requires.op (ap announcement_word c.in-Some.is) c.if-announced-epoch.true)

pub returns-then-announced-epoch-2 : goal.returns-then-announced-epoch-2
returns-then-announced-epoch-2 c = let t = c.args.table.now in let l = t.start.layout in let p = caller t c.args.pass.now in let e = c.args.epoch in let n = c.args.next in
    let w : ℕ = announcement_word c.scan_step-found.result in let a = c.in-Some.announced in
    tick_stepped t c.args._moved (Scanning e n) (Passed e) c.args.pass.now _ More (load_made Scan (index l (announced n)) w) (scans n w) c.scan_step-found.ensures (no_last l c.args._moved p e n w c.requires.inside)
    (passed_facts l c.args._moved p e n w a c.requires.inside c.requires.op (ap announcement_word c.in-Some.is) c.if-announced-epoch-2.true)

pub returns : goal.returns
returns c = let t = c.args.table.now in let l = t.start.layout in let p = caller t c.args.pass.now in let e = c.args.epoch in let n = c.args.next in let after = c.other.result in
    let w : ℕ = announcement_word c.scan_step-found.result in let of = c.requires.of.sits in let num = of.numbered in let num' = num ∙ sym (ap (λ (p : Pass). p.number) c.scan_step-found.ensures.same) in
    let lets : LetsRise e w = elim c.match-found.branch [
      | in-Some+else-announced-epoch+else-announced-epoch-2 b ↦ (let is : w ≡ b.in-Some.announced + 1 = ap announcement_word b.in-Some.is in let x = b.if-announced-epoch.false in let y = b.if-announced-epoch-2.false in inr (omega arith))
      | in_default b ↦ inl (out_word c.scan_step-found.result b.in_default.not-Some)
    ] in
    tick_stepped t c.args._moved (Scanning e n) (Scanning e after) c.args.pass.now _ More (load_made Scan (index l (announced n)) w) (scans n w) c.scan_step-found.ensures (no_last l c.args._moved p e n w c.requires.inside)
    (next_scan l c.args._moved p e n w after c.requires.inside (subst (λ z. z < l.workers) (sym num) of.inside) c.requires.op lets (subst (λ z. after ≢ z) (sym num') c.other.ensures.other) (subst (λ z. (after ≡ n + 1) ⊎ ((n + 1 ≡ z) × (after ≡ n + 1 + 1))) (sym num') c.other.ensures.skips))
