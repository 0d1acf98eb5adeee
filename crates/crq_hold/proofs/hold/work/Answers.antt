use Rattle.std.proofs.Common.{◌*◌, ◌/◌, sym, ap, ◌∙◌, arith}
use Rattle.crq_hold.proofs.Teaming.{worker_at, some_worker, settled_at, settled_set, total_held, total_shares}
use Rattle.crq_hold.proofs.Totals.{all_both, all_as, one_went, each_went}
use Rattle.crq_hold.proofs.hold.work.Goals as goal

pub total-holds-requires : goal.total-holds-requires
total-holds-requires g c = let h = c.hold_all.ensures in let r = c.requires in
    let is = total_shares _ _ _ c.args.job.now.holds _ c.args.job.now.threads h.held (h.workers.count ∙ (sym r.workers.count ∙ sym r.threads.1)) c.from.ensures r.threads.0 in omega arith

pub drain-sum-requires-clause-worker : goal.drain-sum-requires-clause-worker
drain-sum-requires-clause-worker g c = let all = c.hold_all.ensures.workers in worker_at _ _ all 0 _ (some_worker _ _ all)

pub drain-sum-requires-clause-settled : goal.drain-sum-requires-clause-settled
drain-sum-requires-clause-settled g c = let h = c.hold_all.ensures in settled_at _ h.settled 0 _ (some_worker _ _ h.workers)

pub returns-clause-settled : goal.returns-clause-settled
returns-clause-settled g c = let h = c.hold_all.ensures in settled_set _ h.settled 0 _ (some_worker _ _ h.workers) c.drain-sum.ensures.settled

pub returns-clause-went : goal.returns-clause-went
returns-clause-went g c = let h = c.hold_all.ensures in
    let share = c.total-holds.ensures ∙ (total_held _ _ _ _ h.held ∙ ap (λ n. n * (c.args.job.now.holds / c.from.result)) h.held.count) in
    all_as (all_both (all_both c.fill.ensures.went (each_went _ _ _ _ h.workers h.held)) (one_went _ _ h.workers 0 _ _ (some_worker _ _ h.workers) c.drain-sum.ensures.taken)) (omega arith) (omega arith)

pub returns-clause-due : goal.returns-clause-due
returns-clause-due g c = let h = c.hold_all.ensures in let r = c.requires in
    c.total-holds.ensures ∙ total_shares _ _ _ c.args.job.now.holds _ c.args.job.now.threads h.held (h.workers.count ∙ (sym r.workers.count ∙ sym r.threads.1)) c.from.ensures r.threads.0
