use Rattle.crq_hold.proofs.Working.{settle_ended}
use Rattle.crq_hold.proofs.tests.owing.answer.Goals as goal

pub returns-in-Settle : goal.returns-in-Settle
returns-in-Settle c = (settle_ended _ c.args.worker.now c.requires.worker _ _ _ c.try_settle.ensures.answers).on
