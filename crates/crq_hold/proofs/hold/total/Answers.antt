use Rattle.std.proofs.Common.{ap, arith}
use Rattle.crq_hold.specs.declared.worker.Worker.{Worker}
use Rattle.crq_hold.proofs.Teaming.{total_next, total_end}
use Rattle.crq_hold.proofs.hold.total.Goals as goal

pub overflow_add-holds : goal.overflow_add-holds
overflow_add-holds c = let l = c.loop-worker in let next = total_next c.args.workers.now l.worker-index c.worker-item.result c.loop-worker-test.true in let is = ap (λ (w : Worker). w.holds) c.worker-item.is in let kept = l.invariant in let low = c.requires in omega arith

pub loop-worker-preserved : goal.loop-worker-preserved
loop-worker-preserved c = let l = c.loop-worker in let next = total_next c.args.workers.now l.worker-index c.worker-item.result c.loop-worker-test.true in let is = ap (λ (w : Worker). w.holds) c.worker-item.is in let kept = l.invariant in omega arith

pub returns : goal.returns
returns c = let l = c.loop-worker in let end = total_end c.args.workers.now l.worker-index c.loop-worker-test.false in let kept = l.invariant in omega arith
