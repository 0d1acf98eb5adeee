use Rattle.std.proofs.Common.{◌++◌, Option, ap, ◌∙◌}
use Rattle.std.specs.Prelude.{option_to_list}
use Rattle.crq_hold.specs.declared.worker.Worker.{Worker}
use Rattle.crq_hold.proofs.Teaming.{popped_worker, others_work}
use Rattle.crq_hold.proofs.tests.scarcity.pair.Goals as goal

pub returns-clause-last : goal.returns-clause-last
returns-clause-last c = popped_worker _ _ _ _ c.in_ok-queue.ensures.workers.each c.in-Some.ensures.items

pub returns-clause-other : goal.returns-clause-other
returns-clause-other c = λ w e. popped_worker _ _ _ w (others_work _ _ _ _ c.in_ok-queue.ensures.workers.each c.in-Some.ensures.items) (c.pop-other.ensures.items ∙ ap (λ (o : Option Worker). c.pop-other.new.self.items ++ option_to_list o) e)
