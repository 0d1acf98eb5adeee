use Rattle.std.proofs.Common.{arith}
use Rattle.crq_rule.proofs.Glue.{splits}
use Rattle.crq_rows.proofs.Wakings.{waking_first, waking_rest, waking_apart, waking_more, waking_end, waking_last}
use Rattle.crq_rows.proofs.dealing.wake_all.Goals as goal

pub loop-number-init : goal.loop-number-init
loop-number-init c = waking_first _ _ _ c.requires

pub split_seat-rest-requires : goal.split_seat-rest-requires
split_seat-rest-requires c = let d = c.loop-number.invariant in let t = c.loop-number-test.true in let w = c.args.table.now.wide in
    (d.seated, omega arith, splits _ _ _ (waking_apart _ _ _ _ _ _ d (omega arith)))

pub wake-requires : goal.wake-requires
wake-requires c = let t = c.loop-number-test.true in waking_rest _ _ _ _ _ _ c.loop-number.invariant (omega arith)

pub loop-number-preserved : goal.loop-number-preserved
loop-number-preserved c = let t = c.loop-number-test.true in let e = c.split_seat-rest.ensures in let w = c.wake.ensures in
    waking_more _ _ _ _ _ _ c.loop-number.invariant (omega arith) _ _ _ w.0 w.1 w.2 e.0 e.2 e.3 e.4

pub wake-requires-2 : goal.wake-requires-2
wake-requires-2 c = let few = c.args.table.now.start.layout.few in let l = c.loop-number in waking_rest _ _ _ _ l.left _ (waking_end _ _ _ _ _ _ l.invariant c.loop-number-test.false l.auto.number-end) (omega arith)

pub returns : goal.returns
returns c = let few = c.args.table.now.start.layout.few in let l = c.loop-number in let w = c.wake-2.ensures in
    waking_last _ _ _ _ l.left _ (waking_end _ _ _ _ _ _ l.invariant c.loop-number-test.false l.auto.number-end) (omega arith) _ w.0 (omega arith) w.1 w.2
