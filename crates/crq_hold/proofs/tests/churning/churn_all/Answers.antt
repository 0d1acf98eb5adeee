use Rattle.std.proofs.Common.{sym, subst}
use Rattle.crq_hold.specs.Workers.{IsWorker}
use Rattle.crq_hold.proofs.Teaming.{worker_at}
use Rattle.crq_hold.proofs.tests.churning.churn_all.Goals as goal

pub map_vec-requires-after_bounds : goal.map_vec-requires-after_bounds
map_vec-requires-after_bounds g c κs within = λ i w b is. subst (IsWorker _) (sym is) (worker_at _ _ c.in_ok-queue.ensures.workers i w b)
