use Rattle.std.proofs.Common.{◌≡◌, ◌<◌, length, get_or, subst}
use Rattle.std.proofs.lemmas.Iterator.Adapters.{YieldsList-from_vec}
use Rattle.std.proofs.lemmas.Iterator.Consumers.{YieldsList-turn, YieldsList-end}
use Rattle.std.proofs.lemmas.List.{length_push}
use Rattle.crq_hold.specs.Teams.{AreLowered}
use Rattle.crq_hold.proofs.Lifting.{lowered_next, lowered_more}
use Rattle.crq_hold.proofs.team.lower_all.Goals as goal
use Rattle.crq_hold.proofs.team.lower_all.Goals.{In-Some}

-- the worker of this turn is the next one
turn : (c : In-Some) → (length c.loop-worker.yielded < length c.args.workers.items) × (c.in-Some.worker ≡ get_or c.args.workers.items (length c.loop-worker.yielded) c.in-Some.worker)
turn c = YieldsList-turn (YieldsList-from_vec {s = c.into_iter-worker-iterator.result} c.args.workers.items (cc) (cc)) c.loop-worker.yielded c.loop-worker.worker-iterator c.loop-worker.yielded_by _ c.next.new.self c.in-Some.worker c.in-Some.is c.next.ensures.steps

pub lower-requires : goal.lower-requires
lower-requires c = let t = turn (goal.at.lower-requires c).In-Some in lowered_next _ _ _ _ c.loop-worker.invariant c.requires.order _ t.0 t.1 c.requires.free

pub loop-worker-preserved : goal.loop-worker-preserved
loop-worker-preserved c = let t = turn (goal.at.loop-worker-preserved c).In-Some in
    lowered_more _ _ _ _ c.loop-worker.invariant c.requires.order _ t.0 t.1 c.requires.free _ _ (length_push c.loop-worker.yielded c.in-Some.worker) c.lower.ensures

pub returns : goal.returns
returns c = let t = YieldsList-end (YieldsList-from_vec {s = c.into_iter-worker-iterator.result} c.args.workers.items (cc) (cc)) c.loop-worker.yielded c.loop-worker.worker-iterator c.loop-worker.yielded_by _ c.next.new.self c.in-None.is c.next.ensures.steps in
    subst (AreLowered _ _ _) t.1 c.loop-worker.invariant
