use Rattle.std.proofs.Math.Nat.{mod-lt}
use Rattle.crq_hold.proofs.Teaming.{worker_at, some_worker, settled_at, settled_set}
use Rattle.crq_hold.proofs.Totals.{all_none, all_both, one_went}
use Rattle.crq_hold.proofs.hold.fill.Goals as goal

pub loop-i-init : goal.loop-i-init
loop-i-init g c = (all_none _ _ c.requires.workers, c.requires.settled)

pub put_surely-requires-clause-worker : goal.put_surely-requires-clause-worker
put_surely-requires-clause-worker g c = let all = c.loop-i.invariant.0.workers in worker_at _ _ all _ _ (mod-lt c.loop-i.i (some_worker _ _ all))

pub put_surely-requires-clause-settled : goal.put_surely-requires-clause-settled
put_surely-requires-clause-settled g c = let l = c.loop-i.invariant in settled_at _ l.1 _ _ (mod-lt c.loop-i.i (some_worker _ _ l.0.workers))

pub loop-i-preserved : goal.loop-i-preserved
loop-i-preserved g c = let l = c.loop-i.invariant in let all = l.0.workers in let b = mod-lt c.loop-i.i (some_worker _ _ all) in let e = c.put_surely.ensures in
    (all_both l.0 (one_went _ _ all _ _ _ b e.put), settled_set _ l.1 _ _ b e.settled)
