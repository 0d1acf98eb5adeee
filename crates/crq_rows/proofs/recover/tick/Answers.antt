use Rattle.std.proofs.Common.{◌+◌, ◌*◌, sym, ap, ◌∙◌, subst, arith}
use Rattle.crq_rule.specs.declared.pass.Pass.{Pass}
use Rattle.crq_rows.specs.declared.recover.RecoverOp.TheVariants.{Ticking}
use Rattle.crq_rows.specs.declared.recover.Recover.TheVariants.{Held}
use Rattle.crq_rows.specs.Recovering.{RecoverStepped}
use Rattle.crq_rows.proofs.Recovers.{ticks_on, tick_held, tick_again, tick_last}
use Rattle.crq_rows.proofs.recover.tick.Goals as goal

pub returns-in-More : goal.returns-in-More
returns-in-More c = ticks_on c.args.table.now c.args.pass.now _ c.args.moved c.args.tick c.requires.op _ c.in-More.ensures

pub returns-in-Held : goal.returns-in-Held
returns-in-Held c = subst (λ op. RecoverStepped c.args.table.now (Ticking c.args.moved c.args.tick) op c.args.pass.now c.step.new.pass (Held c.in-Held.holder)) (sym c.new.ensures)
    (tick_held c.args.table.now c.args.pass.now _ c.args.moved c.args.tick c.requires.op _ _ c.in-Held.ensures)

pub returns-then-moved-lt-TICKS : goal.returns-then-moved-lt-TICKS
returns-then-moved-lt-TICKS c = tick_again c.args.table.now c.args.pass.now _ c.args.moved c.args.tick c.requires.op _ _ c.in-Moved.ensures c.if-moved-lt-TICKS.true

pub returns-else-moved-lt-TICKS : goal.returns-else-moved-lt-TICKS
returns-else-moved-lt-TICKS c = let low = c.requires.op.0 in let high = c.if-moved-lt-TICKS.false in let h = c.args.table.now.start.layout.home in
    tick_last c.args.table.now c.args.pass.now _ c.args.moved c.args.tick c.requires.op _ _ _ c.in-Moved.ensures (omega arith)
    (c.first_home-first.ensures ∙ ap (λ j. j * h + 1) (ap (λ (p : Pass). p.number) c.step.ensures.same ∙ sym c.requires.of.sits.numbered))
