use Rattle.crq_hold.proofs.Working.{current_on}
use Rattle.crq_hold.proofs.tests.owing.current_of.Goals as goal

pub returns : goal.returns
returns c = current_on _ c.args.worker.now c.requires _ _ c.current_step.ensures
