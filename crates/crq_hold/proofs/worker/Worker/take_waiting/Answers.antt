use Rattle.crq_hold.proofs.Waiting.{take_waited, take_waited_rests}
use Rattle.crq_hold.proofs.worker.Worker.take_waiting.Goals as goal

pub returns-clause-rests : goal.returns-clause-rests
returns-clause-rests g c = take_waited_rests _ _ _ _ _ c.take.ensures.added

pub returns-clause-counts : goal.returns-clause-counts
returns-clause-counts g c = λ w. take_waited _ c.args.self.now w _ _ _ c.take.ensures.added
