use Rattle.std.proofs.Common.{◌≡◌, Ok, ap, subst, rules}
use Rattle.crq_base.specs.declared.answers.TakeEnd.{TakeEnd}
use Rattle.crq_hold.specs.Workers.{PutAndTook}
use Rattle.crq_hold.specs.Waiting.{waited_takes}
use Rattle.crq_hold.proofs.Working.{went_none, went_both}
use Rattle.crq_hold.proofs.hold.take_surely.Goals as goal

pub loop-init : goal.loop-init
loop-init g c = went_none _ _ c.requires

pub take_waiting-requires : goal.take_waiting-requires
take_waiting-requires g c = c.loop.invariant.on.worker.rests

pub loop-preserved : goal.loop-preserved
loop-preserved g c = let none : waited_takes c.take_waiting.result ≡ 0 = search rules in
    went_both c.loop.invariant (subst (PutAndTook c.args.queue.now.table c.loop.worker c.take_waiting.new.self 0) none (c.take_waiting.ensures.counts c.loop.invariant.on.worker))

pub returns-in-Ok-Taken-clause-taken : goal.returns-in-Ok-Taken-clause-taken
returns-in-Ok-Taken-clause-taken g c = went_both c.loop.invariant (subst (PutAndTook c.args.queue.now.table c.loop.worker c.take_waiting.new.self 0) (ap (λ (t : TakeEnd). waited_takes (Ok t)) c.in-Ok-Taken.field-0-is) (c.in-Ok-Taken.ensures.counts c.loop.invariant.on.worker))

pub returns-in-Ok-Taken-clause-settled : goal.returns-in-Ok-Taken-clause-settled
returns-in-Ok-Taken-clause-settled g c = c.take_waiting.ensures.nothing.0
