use Rattle.crq_hold.proofs.Teaming.{resting_home, first_workers, first_new, first_settled}
use Rattle.crq_hold.proofs.team.team.Goals as goal

pub lift_all-requires : goal.lift_all-requires
lift_all-requires c = resting_home _ _ _ c.deal-passes.ensures.resting c.in_ok-queue.ensures.size.0

pub returns-clause-workers : goal.returns-clause-workers
returns-clause-workers c = first_workers _ _ _ _ _ _ c.deal-passes.ensures.resting c.deal-passes.ensures.dealt c.in_ok-queue.ensures.empty c.in_ok-workers.ensures c.in_ok-queue.ensures.size.0

pub returns-clause-new : goal.returns-clause-new
returns-clause-new c = first_new _ _ _ _ _ _ c.deal-passes.ensures.resting c.deal-passes.ensures.dealt c.in_ok-queue.ensures.empty c.in_ok-workers.ensures

pub returns-clause-settled : goal.returns-clause-settled
returns-clause-settled c = first_settled _ _ _ _ _ _ c.deal-passes.ensures.resting c.deal-passes.ensures.dealt c.in_ok-queue.ensures.empty c.in_ok-workers.ensures
