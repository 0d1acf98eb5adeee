use Rattle.std.proofs.Common.{ℕ, arith, length-drop}
use Rattle.std.proofs.lemmas.List.{take_rest}
use Rattle.crq_io.proofs.Appending.{take-plus, appends_twice}
use Rattle.crq_io.proofs.sink.write_whole.Goals as goal

pub loop-sent-preserved : goal.loop-sent-preserved
loop-sent-preserved g c =
    let h = c.loop-sent.invariant in
    let w = c.in-Ok.ensures.ok in
    let l = c.in-Ok.ensures.later in
    let a = rw (take_rest c.args.bytes.now c.loop-sent.sent) at w.1 in (
      omega (arith, h.0, w.0.within, length-drop {A = ℕ}),
      rw (take-plus c.loop-sent.sent c.in-Ok.count c.args.bytes.now) (appends_twice _ _ _ _ _ h.1 a),
      omega (arith, h.2, l),
    )
