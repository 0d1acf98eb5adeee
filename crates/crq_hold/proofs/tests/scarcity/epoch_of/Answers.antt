use Rattle.crq_hold.proofs.Working.{epoch_on}
use Rattle.crq_hold.proofs.tests.scarcity.epoch_of.Goals as goal

pub returns : goal.returns
returns c = epoch_on _ c.args.worker.now c.requires _ _ _ c.epoch_step.ensures.stepped
