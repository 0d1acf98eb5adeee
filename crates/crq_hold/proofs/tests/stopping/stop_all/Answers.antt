use Rattle.std.proofs.Common.{Some, sym, ap, ◌∙◌}
use Rattle.std.proofs.lemmas.Iterator.Adapters.{YieldsList-from_vec}
use Rattle.std.proofs.lemmas.Iterator.Consumers.{YieldsList-turn}
use Rattle.std.proofs.lemmas.Option.{slice_get-get_or}
use Rattle.crq_hold.proofs.tests.stopping.stop_all.Goals as goal

pub stop-requires-clause-worker : goal.stop-requires-clause-worker
stop-requires-clause-worker c = let l = c.loop-worker in let others = c.args.workers.items in
    let turn = YieldsList-turn (YieldsList-from_vec {s = c.into_iter-worker-iterator.result} others (cc) (cc)) l.yielded l.worker-iterator l.yielded_by _ c.next.new.self c.in-Some.worker c.in-Some.is c.next.ensures.steps in
    c.requires.workers _ _ (slice_get-get_or others _ c.in-Some.worker turn.0 ∙ ap Some (sym turn.1))
