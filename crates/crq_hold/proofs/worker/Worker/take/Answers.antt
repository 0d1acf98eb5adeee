use Rattle.crq_hold.proofs.Working.{take_ended, take_rests}
use Rattle.crq_hold.proofs.worker.Worker.take.Goals as goal

pub returns-clause-rests : goal.returns-clause-rests
returns-clause-rests c = take_rests _ _ _ _ _ _ c.try_take.ensures

pub returns-clause-counts : goal.returns-clause-counts
returns-clause-counts c = λ w. take_ended _ c.args.self.now w _ _ _ _ c.try_take.ensures
