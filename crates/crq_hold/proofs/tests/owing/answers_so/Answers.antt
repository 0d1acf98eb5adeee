use Rattle.std.proofs.Common.{arith}
use Rattle.std.proofs.Math.Nat.{mod-lt}
use Rattle.crq_hold.proofs.Teaming.{worker_at, some_worker, one_on}
use Rattle.crq_hold.proofs.tests.owing.answers_so.Goals as goal

pub answer-answered-requires-clause-worker : goal.answer-answered-requires-clause-worker
answer-answered-requires-clause-worker g c = let all = c.loop-caller.invariant in worker_at _ _ all _ _ (mod-lt _ (some_worker _ _ all))

pub loop-caller-preserved : goal.loop-caller-preserved
loop-caller-preserved g c = let all = c.loop-caller.invariant in let b = mod-lt _ (some_worker _ _ all) in let mid = one_on _ _ all _ _ _ b c.answer-answered.ensures in
    one_on _ _ mid _ _ _ (let m = all.count in let n = mid.count in omega arith) c.current_of-found.ensures
