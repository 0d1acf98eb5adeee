use Rattle.std.proofs.Common.{sym, subst}
use Rattle.crq_hold.specs.Workers.{IsWorker}
use Rattle.crq_hold.proofs.Teaming.{worker_at, each_on, settled_each}
use Rattle.crq_hold.proofs.tests.phases.put_all.Goals as goal

pub for_each_mut-requires-clause-accepts : goal.for_each_mut-requires-clause-accepts
for_each_mut-requires-clause-accepts g c κs within = λ i p b is. (subst (IsWorker _) (sym is) (worker_at _ _ c.requires.workers i p.now b), c.requires.start)

pub returns-clause-workers : goal.returns-clause-workers
returns-clause-workers g c = each_on _ _ c.requires.workers _ c.for_each_mut.auto.s (λ k d b. let e = (c.for_each_mut.ensures k d b).1 in (e.argument.now, e.after_call.now, e.argument_is, e.left, e.call.0))

pub returns-clause-settled : goal.returns-clause-settled
returns-clause-settled g c = settled_each c.args.workers.now _ c.for_each_mut.auto.s (λ k d b. let e = (c.for_each_mut.ensures k d b).1 in (e.after_call.now, e.left, e.call.1))
